-- The library, which is file 0 of each project: its names and its tokens. The text stands in docs/LANGUAGE.md.
use Rattle.std.specs.Prelude.{ℕ, ◌+◌, ◌-◌, true, List, [], ◌∷◌, ◌++◌, Some, codes}
use Rattle.ato_base.specs.declared.places.Span.{Span}
use Rattle.ato_base.specs.declared.keywords.Keyword.{Keyword}
use Rattle.ato_base.specs.declared.keywords.Keyword.TheVariants as keywords
use Rattle.ato_base.specs.declared.keywords.Mark.{Mark}
use Rattle.ato_base.specs.declared.keywords.Mark.TheVariants as marks
use Rattle.ato_base.specs.declared.tokens.Token.{Token}
use Rattle.ato_base.specs.declared.tokens.TokenKind.{TokenKind}
use Rattle.ato_base.specs.declared.tokens.TokenKind.TheVariants as kinds

-- ---- tokens of file 0 by where they start and stop

abbrev pub place : ℕ → ℕ → Span
place start stop = record { file = record { 0 = 0 }; start = start; end = stop }

abbrev pub word : Keyword → ℕ → ℕ → Token
word w start stop = record { kind = kinds.Keyword w; at = place start stop }

abbrev pub marked : Mark → ℕ → ℕ → Token
marked m start stop = record { kind = kinds.Mark m; at = place start stop }

abbrev pub named : ℕ → ℕ → ℕ → Token
named number start stop = record { kind = kinds.Name (record { 0 = number }); at = place start stop }

abbrev pub whole : ℕ → ℕ → ℕ → Token
whole value start stop = record { kind = kinds.Number true (Some value) (place start stop); at = place start stop }

-- a string of one quote at each end
abbrev pub quoted : ℕ → ℕ → Token
quoted start stop = record { kind = kinds.Str (place (start + 1) (stop - 1)); at = place start stop }

-- a token that has no bytes
abbrev pub layout : TokenKind → ℕ → Token
layout kind at = record { kind = kind; at = place at at }

-- ---- the library

-- the table of names behind the library: those that each table begins with, and those of the library in the order of their first
-- mention
unfoldable pub library_names : List (List ℕ)
library_names =
    codes "abs" ∷ codes "max" ∷ codes "min" ∷ codes "Electrical" ∷ codes "line" ∷ codes "ElectricPower" ∷
    codes "hv" ∷ codes "lv" ∷ codes "vcc" ∷ codes "gnd" ∷ codes "voltage" ∷ codes "V" ∷ codes "max_current" ∷
    codes "A" ∷ codes "ElectricLogic" ∷ codes "reference" ∷ codes "I2C" ∷ codes "scl" ∷ codes "sda" ∷
    codes "frequency" ∷ codes "Hz" ∷ codes "SPI" ∷ codes "sclk" ∷ codes "mosi" ∷ codes "miso" ∷ codes "Resistor" ∷
    codes "kind" ∷ codes "designator_prefix" ∷ codes "p1" ∷ codes "p2" ∷ codes "resistance" ∷ codes "ohm" ∷
    codes "max_power" ∷ codes "W" ∷ codes "max_voltage" ∷ codes "Capacitor" ∷ codes "capacitance" ∷ codes "F" ∷
    codes "Inductor" ∷ codes "inductance" ∷ codes "H" ∷ codes "Diode" ∷ codes "anode" ∷ codes "cathode" ∷
    codes "forward_voltage" ∷ codes "LED" ∷ []

-- the tokens of the library, a line of it each
unfoldable pub library_tokens : List Token
library_tokens =
    word keywords.Interface 0 9 ∷ named 3 10 20 ∷ marked marks.Colon 20 21 ∷ layout kinds.Newline 21 ∷
    layout kinds.Indent 26 ∷ word keywords.Signal 26 32 ∷ named 4 33 37 ∷ layout kinds.Newline 37 ∷
    layout kinds.Dedent 38 ∷ word keywords.Interface 38 47 ∷ named 5 48 61 ∷ marked marks.Colon 61 62 ∷ layout kinds.Newline 62 ∷
    layout kinds.Indent 67 ∷ word keywords.Signal 67 73 ∷ named 6 74 76 ∷ layout kinds.Newline 76 ∷
    word keywords.Signal 81 87 ∷ named 7 88 90 ∷ layout kinds.Newline 90 ∷
    word keywords.Signal 95 101 ∷ named 8 102 105 ∷ marked marks.Tilde 106 107 ∷ named 6 108 110 ∷ layout kinds.Newline 110 ∷
    word keywords.Signal 115 121 ∷ named 9 122 125 ∷ marked marks.Tilde 126 127 ∷ named 7 128 130 ∷ layout kinds.Newline 130 ∷
    named 10 135 142 ∷ marked marks.Colon 142 143 ∷ named 11 144 145 ∷ layout kinds.Newline 145 ∷
    named 12 150 161 ∷ marked marks.Colon 161 162 ∷ named 13 163 164 ∷ layout kinds.Newline 164 ∷
    layout kinds.Dedent 165 ∷ word keywords.Interface 165 174 ∷ named 14 175 188 ∷ marked marks.Colon 188 189 ∷ layout kinds.Newline 189 ∷
    layout kinds.Indent 194 ∷ word keywords.Signal 194 200 ∷ named 4 201 205 ∷ layout kinds.Newline 205 ∷
    named 15 210 219 ∷ marked marks.Equal 220 221 ∷ word keywords.New 222 225 ∷ named 5 226 239 ∷ layout kinds.Newline 239 ∷
    layout kinds.Dedent 240 ∷ word keywords.Interface 240 249 ∷ named 16 250 253 ∷ marked marks.Colon 253 254 ∷ layout kinds.Newline 254 ∷
    layout kinds.Indent 259 ∷ named 17 259 262 ∷ marked marks.Equal 263 264 ∷ word keywords.New 265 268 ∷ named 14 269 282 ∷ layout kinds.Newline 282 ∷
    named 18 287 290 ∷ marked marks.Equal 291 292 ∷ word keywords.New 293 296 ∷ named 14 297 310 ∷ layout kinds.Newline 310 ∷
    named 19 315 324 ∷ marked marks.Colon 324 325 ∷ named 20 326 328 ∷ layout kinds.Newline 328 ∷
    layout kinds.Dedent 329 ∷ word keywords.Interface 329 338 ∷ named 21 339 342 ∷ marked marks.Colon 342 343 ∷ layout kinds.Newline 343 ∷
    layout kinds.Indent 348 ∷ named 22 348 352 ∷ marked marks.Equal 353 354 ∷ word keywords.New 355 358 ∷ named 14 359 372 ∷ layout kinds.Newline 372 ∷
    named 23 377 381 ∷ marked marks.Equal 382 383 ∷ word keywords.New 384 387 ∷ named 14 388 401 ∷ layout kinds.Newline 401 ∷
    named 24 406 410 ∷ marked marks.Equal 411 412 ∷ word keywords.New 413 416 ∷ named 14 417 430 ∷ layout kinds.Newline 430 ∷
    named 19 435 444 ∷ marked marks.Colon 444 445 ∷ named 20 446 448 ∷ layout kinds.Newline 448 ∷
    layout kinds.Dedent 449 ∷ word keywords.Component 449 458 ∷ named 25 459 467 ∷ marked marks.Colon 467 468 ∷ layout kinds.Newline 468 ∷
    layout kinds.Indent 473 ∷ named 26 473 477 ∷ marked marks.Equal 478 479 ∷ quoted 480 490 ∷ layout kinds.Newline 490 ∷
    named 27 495 512 ∷ marked marks.Equal 513 514 ∷ quoted 515 518 ∷ layout kinds.Newline 518 ∷
    word keywords.Signal 523 529 ∷ named 28 530 532 ∷ marked marks.Tilde 533 534 ∷ word keywords.Pin 535 538 ∷ whole 1 539 540 ∷ layout kinds.Newline 540 ∷
    word keywords.Signal 545 551 ∷ named 29 552 554 ∷ marked marks.Tilde 555 556 ∷ word keywords.Pin 557 560 ∷ whole 2 561 562 ∷ layout kinds.Newline 562 ∷
    named 30 567 577 ∷ marked marks.Colon 577 578 ∷ named 31 579 582 ∷ layout kinds.Newline 582 ∷
    named 32 587 596 ∷ marked marks.Colon 596 597 ∷ named 33 598 599 ∷ layout kinds.Newline 599 ∷
    named 34 604 615 ∷ marked marks.Colon 615 616 ∷ named 11 617 618 ∷ layout kinds.Newline 618 ∷
    layout kinds.Dedent 619 ∷ word keywords.Component 619 628 ∷ named 35 629 638 ∷ marked marks.Colon 638 639 ∷ layout kinds.Newline 639 ∷
    layout kinds.Indent 644 ∷ named 26 644 648 ∷ marked marks.Equal 649 650 ∷ quoted 651 662 ∷ layout kinds.Newline 662 ∷
    named 27 667 684 ∷ marked marks.Equal 685 686 ∷ quoted 687 690 ∷ layout kinds.Newline 690 ∷
    word keywords.Signal 695 701 ∷ named 28 702 704 ∷ marked marks.Tilde 705 706 ∷ word keywords.Pin 707 710 ∷ whole 1 711 712 ∷ layout kinds.Newline 712 ∷
    word keywords.Signal 717 723 ∷ named 29 724 726 ∷ marked marks.Tilde 727 728 ∷ word keywords.Pin 729 732 ∷ whole 2 733 734 ∷ layout kinds.Newline 734 ∷
    named 36 739 750 ∷ marked marks.Colon 750 751 ∷ named 37 752 753 ∷ layout kinds.Newline 753 ∷
    named 34 758 769 ∷ marked marks.Colon 769 770 ∷ named 11 771 772 ∷ layout kinds.Newline 772 ∷
    layout kinds.Dedent 773 ∷ word keywords.Component 773 782 ∷ named 38 783 791 ∷ marked marks.Colon 791 792 ∷ layout kinds.Newline 792 ∷
    layout kinds.Indent 797 ∷ named 26 797 801 ∷ marked marks.Equal 802 803 ∷ quoted 804 814 ∷ layout kinds.Newline 814 ∷
    named 27 819 836 ∷ marked marks.Equal 837 838 ∷ quoted 839 842 ∷ layout kinds.Newline 842 ∷
    word keywords.Signal 847 853 ∷ named 28 854 856 ∷ marked marks.Tilde 857 858 ∷ word keywords.Pin 859 862 ∷ whole 1 863 864 ∷ layout kinds.Newline 864 ∷
    word keywords.Signal 869 875 ∷ named 29 876 878 ∷ marked marks.Tilde 879 880 ∷ word keywords.Pin 881 884 ∷ whole 2 885 886 ∷ layout kinds.Newline 886 ∷
    named 39 891 901 ∷ marked marks.Colon 901 902 ∷ named 40 903 904 ∷ layout kinds.Newline 904 ∷
    named 12 909 920 ∷ marked marks.Colon 920 921 ∷ named 13 922 923 ∷ layout kinds.Newline 923 ∷
    layout kinds.Dedent 924 ∷ word keywords.Component 924 933 ∷ named 41 934 939 ∷ marked marks.Colon 939 940 ∷ layout kinds.Newline 940 ∷
    layout kinds.Indent 945 ∷ named 26 945 949 ∷ marked marks.Equal 950 951 ∷ quoted 952 959 ∷ layout kinds.Newline 959 ∷
    named 27 964 981 ∷ marked marks.Equal 982 983 ∷ quoted 984 987 ∷ layout kinds.Newline 987 ∷
    word keywords.Signal 992 998 ∷ named 42 999 1004 ∷ marked marks.Tilde 1005 1006 ∷ word keywords.Pin 1007 1010 ∷ whole 1 1011 1012 ∷ layout kinds.Newline 1012 ∷
    word keywords.Signal 1017 1023 ∷ named 43 1024 1031 ∷ marked marks.Tilde 1032 1033 ∷ word keywords.Pin 1034 1037 ∷ whole 2 1038 1039 ∷ layout kinds.Newline 1039 ∷
    named 44 1044 1059 ∷ marked marks.Colon 1059 1060 ∷ named 11 1061 1062 ∷ layout kinds.Newline 1062 ∷
    named 12 1067 1078 ∷ marked marks.Colon 1078 1079 ∷ named 13 1080 1081 ∷ layout kinds.Newline 1081 ∷
    layout kinds.Dedent 1082 ∷ word keywords.Component 1082 1091 ∷ named 45 1092 1095 ∷ word keywords.From 1096 1100 ∷ named 41 1101 1106 ∷ marked marks.Colon 1106 1107 ∷ layout kinds.Newline 1107 ∷
    layout kinds.Indent 1112 ∷ named 26 1112 1116 ∷ marked marks.Equal 1117 1118 ∷ quoted 1119 1124 ∷ layout kinds.Newline 1124 ∷
    layout kinds.Dedent 1125 ∷ layout kinds.End 1125 ∷ []

-- the text of the library
unfoldable pub library_text : List ℕ
library_text =
    codes "interface Electrical:\n" ++
    codes "    signal line\n" ++
    codes "interface ElectricPower:\n" ++
    codes "    signal hv\n" ++
    codes "    signal lv\n" ++
    codes "    signal vcc ~ hv\n" ++
    codes "    signal gnd ~ lv\n" ++
    codes "    voltage: V\n" ++
    codes "    max_current: A\n" ++
    codes "interface ElectricLogic:\n" ++
    codes "    signal line\n" ++
    codes "    reference = new ElectricPower\n" ++
    codes "interface I2C:\n" ++
    codes "    scl = new ElectricLogic\n" ++
    codes "    sda = new ElectricLogic\n" ++
    codes "    frequency: Hz\n" ++
    codes "interface SPI:\n" ++
    codes "    sclk = new ElectricLogic\n" ++
    codes "    mosi = new ElectricLogic\n" ++
    codes "    miso = new ElectricLogic\n" ++
    codes "    frequency: Hz\n" ++
    codes "component Resistor:\n" ++
    codes "    kind = \"resistor\"\n" ++
    codes "    designator_prefix = \"R\"\n" ++
    codes "    signal p1 ~ pin 1\n" ++
    codes "    signal p2 ~ pin 2\n" ++
    codes "    resistance: ohm\n" ++
    codes "    max_power: W\n" ++
    codes "    max_voltage: V\n" ++
    codes "component Capacitor:\n" ++
    codes "    kind = \"capacitor\"\n" ++
    codes "    designator_prefix = \"C\"\n" ++
    codes "    signal p1 ~ pin 1\n" ++
    codes "    signal p2 ~ pin 2\n" ++
    codes "    capacitance: F\n" ++
    codes "    max_voltage: V\n" ++
    codes "component Inductor:\n" ++
    codes "    kind = \"inductor\"\n" ++
    codes "    designator_prefix = \"L\"\n" ++
    codes "    signal p1 ~ pin 1\n" ++
    codes "    signal p2 ~ pin 2\n" ++
    codes "    inductance: H\n" ++
    codes "    max_current: A\n" ++
    codes "component Diode:\n" ++
    codes "    kind = \"diode\"\n" ++
    codes "    designator_prefix = \"D\"\n" ++
    codes "    signal anode ~ pin 1\n" ++
    codes "    signal cathode ~ pin 2\n" ++
    codes "    forward_voltage: V\n" ++
    codes "    max_current: A\n" ++
    codes "component LED from Diode:\n" ++
    codes "    kind = \"led\"\n"
