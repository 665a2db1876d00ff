-- Worked rows of loading, on files written by hand.
use Rattle.std.proofs.Common.{◌≡◌, ℕ, true, false, List, [], ◌∷◌, Some, None, codes, refl, ap, replicate}
use Rattle.std.specs.Prelude.{is_some, length, map, nat_lt, slice_get, if◌then◌else◌}
use Rattle.std.specs.Str.{bytes_eq}
use Rattle.ato_base.specs.declared.places.Place.TheVariants as places
use Rattle.ato_base.specs.declared.tokens.Token.{Token}
use Rattle.ato_base.specs.declared.faults.Fault.{Fault}
use Rattle.ato_base.specs.declared.faults.FaultKind.{FaultKind}
use Rattle.ato_base.specs.declared.faults.FaultKind.TheVariants as kinds
use Rattle.ato_ast.specs.declared.names.Quoted.{Quoted}
use Rattle.ato_ast.specs.declared.blocks.Head.TheVariants as head
use Rattle.ato_ast.specs.declared.blocks.BlockKind.TheVariants.{Module}
use Rattle.ato_files.specs.declared.program.Source.{Source}
use Rattle.ato_files.specs.declared.program.SourceFile.{SourceFile}
use Rattle.ato_files.proofs.Written.{span, nm, quoted, heads, block, source, library}
use Rattle.ato_files.specs.Files.{known, mentions, next_name, at_entry, by_import, AreFiles}
use Rattle.ato_files.specs.Loading.{Held, IsNextFile, too_many, Loaded, next_id, most_files, most_bytes, overflow, first_mention, FileFault, missing, too_long, readable}
use Rattle.ato_files.specs.Programs.{Has, Loading, of_a_file, of_a_name}
use Rattle.ato_files.specs.Faults.{fault}
use Rattle.ato_files.specs.Lists.{here}

abbrev entry : List ℕ
entry = codes "main.ato"

-- the files that are loaded so far, behind a library that is empty here
abbrev after : List SourceFile → Loaded
after files = record { names = []; library = library; files = files }

-- a file of imports on one line, each with the string that names a file
abbrev importing : List ℕ → List ℕ → List Quoted → SourceFile
importing name bytes texts = source name bytes (heads (map (λ q. head.From q (nm 3 0 ∷ []) (span 1 0 0)) texts) ∷ [])

-- a shelf of one file
abbrev only : SourceFile → Held
only file asked = if bytes_eq asked file.name then Some file.bytes else None

-- a fault of a whole file at the place of the entry
abbrev of_entry : FaultKind → Fault
of_entry kind = record { kind = kind; at = places.Word 1; other = None; path = [] }

abbrev text_of : SourceFile → Source
text_of file = record { name = file.name; bytes = file.bytes }

-- ---- no file of a name

-- the entry is not there
pub no_entry : (held : Held) → held entry ≡ None → FileFault held entry (after []) (of_entry kinds.FileMissing)
no_entry held none = missing {name = entry} refl (ap is_some none)

-- `from "nope.ato" import X`: the fault is at the string, and the files that were read are told
abbrev alone : SourceFile
alone = importing entry (codes "from \"nope.ato\" import X\n") (quoted 1 5 8 ∷ [])

pub alone_known : known entry (alone ∷ []) ≡ entry ∷ codes "nope.ato" ∷ []
alone_known = refl

pub alone_fault : FileFault (only alone) entry (after (alone ∷ [])) (fault kinds.FileMissing (span 1 5 15))
alone_fault = missing {name = codes "nope.ato"} refl refl

pub alone_has : Has (only alone) entry (Loading (after (alone ∷ []))) (record { fault = fault kinds.FileMissing (span 1 5 15); sources = text_of library ∷ text_of alone ∷ [] })
alone_has = (of_a_file alone_fault, refl)

-- a name that is not plain is no file, whatever is held
abbrev upwards : SourceFile
upwards = importing entry (codes "from \"../x.ato\" import X\n") (quoted 1 5 8 ∷ [])

pub upwards_fault : (held : Held) → FileFault held entry (after (upwards ∷ [])) (fault kinds.FileMissing (span 1 5 15))
upwards_fault held = missing {name = codes "../x.ato"} refl refl

pub upwards_has : (held : Held) → Has held entry (Loading (after (upwards ∷ []))) (record { fault = fault kinds.FileMissing (span 1 5 15); sources = text_of library ∷ text_of upwards ∷ [] })
upwards_has held = (of_a_file (upwards_fault held), refl)

-- the fault is at the first of two mentions, and that of the earlier file
pub first_of_two : first_mention (codes "b") (importing entry (codes "\"a\"\"b\"\"b\"") (quoted 1 0 1 ∷ quoted 1 3 1 ∷ quoted 1 6 1 ∷ []) ∷ []) ≡ places.Source (span 1 3 6)
first_of_two = refl

pub first_of_two_files : first_mention (codes "c") (importing entry (codes "\"a\"\"c\"") (quoted 1 0 1 ∷ quoted 1 3 1 ∷ []) ∷ importing (codes "a") (codes "\"c\"") (quoted 2 0 1 ∷ []) ∷ [])
    ≡ places.Source (span 1 3 6)
first_of_two_files = refl

pub mentioned_later : first_mention (codes "c") (importing entry (codes "\"a\"") (quoted 1 0 1 ∷ []) ∷ importing (codes "a") (codes "\"c\"") (quoted 2 0 1 ∷ []) ∷ []) ≡ places.Source (span 2 0 3)
mentioned_later = refl

-- a file that is loaded without a mention is the entry
pub no_mention : first_mention entry (importing entry (codes "\"a\"") (quoted 1 0 1 ∷ []) ∷ []) ≡ places.Word 1
no_mention = refl

-- ---- too long

pub longest : nat_lt most_bytes 262144 ≡ false
longest = refl

pub one_too_long : nat_lt most_bytes 262145 ≡ true
one_too_long = refl

pub too_long_fault : (held : Held) (bytes : List ℕ) → held (codes "nope.ato") ≡ Some bytes → nat_lt most_bytes (length bytes) ≡ true
    → FileFault held entry (after (alone ∷ [])) (fault kinds.FileTooLong (span 1 5 15))
too_long_fault held bytes holds long = too_long {name = codes "nope.ato"} refl refl holds long

-- what is read at the next name: a file that is there, and no longer than a file may be
pub reads_nothing : readable (only alone) entry None ≡ []
reads_nothing = refl

pub reads_held : readable (only alone) entry (Some entry) ≡ text_of alone ∷ []
reads_held = refl

pub reads_no_missing : readable (only alone) entry (Some (codes "nope.ato")) ≡ []
reads_no_missing = refl

pub reads_no_path : (held : Held) → readable held entry (Some (codes "../x.ato")) ≡ []
reads_no_path held = refl

pub reads_no_long : (bytes : List ℕ) → nat_lt most_bytes (length bytes) ≡ true → readable (λ name. Some bytes) entry (Some entry) ≡ []
reads_no_long bytes long = ap (λ b. if b then [] else record { name = entry; bytes = bytes } ∷ []) long

-- ---- what names a file

-- each string behind `from`, in the order of the text; an import of the library names none
pub mentions_in_order : mentions (source entry [] (heads (head.ImportFrom (nm 3 0) (quoted 1 1 1) (span 1 0 4) ∷ head.Import (nm 4 5 ∷ []) (span 1 5 6) ∷ head.From (quoted 1 7 1) (nm 5 8 ∷ []) (span 1 7 9) ∷ [])
    ∷ block Module (nm 6 10) None [] ∷ heads (head.ImportFrom (nm 7 11) (quoted 1 12 1) (span 1 11 15) ∷ []) ∷ []))
    ≡ quoted 1 1 1 ∷ quoted 1 7 1 ∷ quoted 1 12 1 ∷ []
mentions_in_order = refl

-- ---- two files that import each other are each a file once

abbrev main_file : SourceFile
main_file = importing entry (codes "from \"b.ato\" import B\n") (quoted 1 5 5 ∷ [])

abbrev other_file : SourceFile
other_file = importing (codes "b.ato") (codes "from \"main.ato\" import A\n") (quoted 2 5 8 ∷ [])

pub mutual_known : known entry (main_file ∷ other_file ∷ []) ≡ entry ∷ codes "b.ato" ∷ []
mutual_known = refl

pub mutual_next : next_name entry (main_file ∷ other_file ∷ []) ≡ None
mutual_next = refl

pub mutual_files : AreFiles entry (main_file ∷ other_file ∷ [])
mutual_files = record { in_order = refl; reached = (at_entry, (by_import main_file here at_entry here, tt)) }

-- a file that imports itself
pub itself_known : known entry (importing entry (codes "\"main.ato\"") (quoted 1 0 8 ∷ []) ∷ []) ≡ entry ∷ []
itself_known = refl

-- ---- the order of loading: `main.ato` imports from `a.ato`, then from `b.ato`; `a.ato` from `c.ato`

abbrev first_file : SourceFile
first_file = importing entry (codes "from \"a.ato\" import A; from \"b.ato\" import B\n") (quoted 1 5 5 ∷ quoted 1 28 5 ∷ [])

abbrev second_file : SourceFile
second_file = importing (codes "a.ato") (codes "from \"c.ato\" import C\n") (quoted 2 5 5 ∷ [])

pub entry_is_first : next_name entry [] ≡ Some entry
entry_is_first = refl

pub second_is_a : next_name entry (first_file ∷ []) ≡ Some (codes "a.ato")
second_is_a = refl

pub third_is_b : next_name entry (first_file ∷ second_file ∷ []) ≡ Some (codes "b.ato")
third_is_b = refl

pub fourth_is_c : slice_get (known entry (first_file ∷ second_file ∷ [])) 3 ≡ Some (codes "c.ato")
fourth_is_c = refl

-- the library is file 0, the entry file 1
pub entry_number : next_id (after []) ≡ record { 0 = 1 }
entry_number = refl

pub third_number : next_id (after (first_file ∷ second_file ∷ [])) ≡ record { 0 = 3 }
third_number = refl

-- ---- too many files: the mention that would add one more

pub overflows : overflow 2 first_file.bytes (entry ∷ []) (mentions first_file) ≡ Some (quoted 1 28 5)
overflows = refl

pub no_overflow : overflow 3 first_file.bytes (entry ∷ []) (mentions first_file) ≡ None
no_overflow = refl

-- a mention of a known name adds none
pub known_again : overflow 2 (codes "\"a\"\"a\"\"b\"") (entry ∷ []) (quoted 1 0 1 ∷ quoted 1 3 1 ∷ quoted 1 6 1 ∷ []) ≡ Some (quoted 1 6 1)
known_again = refl

-- 256 files are not too many, the library not counted
pub fills : overflow most_files first_file.bytes (replicate 254 (codes "x")) (mentions first_file) ≡ None
fills = refl

pub one_too_many : overflow most_files first_file.bytes (replicate 255 (codes "x")) (mentions first_file) ≡ Some (quoted 1 28 5)
one_too_many = refl

pub too_many_fault : (held : Held) (l : Loaded) (names : List (List ℕ)) (tokens : List Token) (file : SourceFile) → IsNextFile held entry l names tokens file
    → overflow most_files file.bytes (known entry l.files) (mentions file) ≡ Some (quoted 1 28 5) → FileFault held entry l (fault kinds.TooManyFiles (span 1 28 35))
too_many_fault held l names tokens file next over = too_many next over

-- ---- names wait for files

abbrev unsound : SourceFile
unsound = source entry (codes "\"nope.ato\"") (heads (head.From (quoted 1 0 8) (nm 3 10 ∷ []) (span 1 0 11) ∷ []) ∷ block Module (nm 4 12) (Some (nm 5 13)) [] ∷ [])

pub file_before_names : Has (only unsound) entry (Loading (after (unsound ∷ []))) (record { fault = fault kinds.FileMissing (span 1 0 10); sources = text_of library ∷ text_of unsound ∷ [] })
file_before_names = (of_a_file (missing {name = codes "nope.ato"} refl refl), refl)

-- where all files are loaded, the fault of names is told
abbrev unknown_parent : SourceFile
unknown_parent = source entry [] (block Module (nm 4 12) (Some (nm 5 13)) [] ∷ [])

pub fault_of_a_name : Has (only unknown_parent) entry (Loading (after (unknown_parent ∷ []))) (record { fault = fault kinds.NameUnknown (span 1 13 14); sources = text_of library ∷ text_of unknown_parent ∷ [] })
fault_of_a_name = (of_a_name refl refl, refl)
