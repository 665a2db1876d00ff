-- A file of the form is ASCII.
use Rattle.std.proofs.Common.{◌≡◌, ℕ, ◌<◌, ◌≤◌, Bool, true, List, [], ◌∷◌, ◌++◌, refl, arith, codes}
use Rattle.std.specs.Prelude.{nat_le}
use Rattle.std.specs.List.{list_all}
use Rattle.std.specs.Str.{IsAscii}
use Rattle.std.proofs.lemmas.Bool.{leb-true}
use Rattle.std.proofs.lemmas.Str.{IsAscii-append}
use Rattle.std.proofs.lemmas.Str.Ascii.{IsAscii-nil}
use Rattle.ato_first.specs.FirstForm.{is_ascii_name, lined, point_text, end_text, line_text, lines_text, head_text, block_text, is_point, is_end, is_line, IsFront}
use Rattle.ato_first.specs.declared.first_form.Point.{Point}
use Rattle.ato_first.specs.declared.first_form.Point.TheVariants.{Signal, Pin}
use Rattle.ato_first.specs.declared.first_form.End.{End}
use Rattle.ato_first.specs.declared.first_form.End.TheVariants.{Name, Declared}
use Rattle.ato_first.specs.declared.first_form.Line.{Line}
use Rattle.ato_first.specs.declared.first_form.Line.TheVariants.{Pass, Declaration, Join, Kind, Attribute, Assertion}
use Rattle.ato_first.specs.declared.first_form.Block.{Block}
use Rattle.ato_first.proofs.Bools.{and_true}
use Rattle.ato_first.proofs.FirstFormLemmas.{all_ascii, name_ascii, label_ascii, kind_ascii, number_ascii}
use Rattle.ato_first.proofs.PartLineLemmas.{assertion_parts}

low : ℕ → Bool
low b = nat_le b 127

low_ascii : (b : ℕ) → low b ≡ true → b < 128
unfolding low
low_ascii b h = let le : b ≤ 127 = leb-true b 127 h in omega arith

words_ascii : (text : List ℕ) → list_all low text ≡ true → IsAscii text
words_ascii text h = all_ascii low low_ascii text h

point_ascii : (point : Point) → is_point point ≡ true → IsAscii (point_text point)
unfolding low
point_ascii (Signal name) h = IsAscii-append (codes "signal ") name (words_ascii (codes "signal ") refl) (name_ascii name h)
point_ascii (Pin label) h = IsAscii-append (codes "pin ") label (words_ascii (codes "pin ") refl) (label_ascii label h)

end_ascii : (end : End) → is_end end ≡ true → IsAscii (end_text end)
end_ascii (Name name) h = name_ascii name h
end_ascii (Declared point) h = point_ascii point h

indent_ascii : (text : List ℕ) → IsAscii text → IsAscii (codes "    " ++ text)
unfolding low
indent_ascii text h = IsAscii-append (codes "    ") text (words_ascii (codes "    ") refl) h

line_ascii : (line : Line) → is_line line ≡ true → IsAscii (line_text line)
unfolding low
line_ascii Pass h = words_ascii (codes "    pass") refl
line_ascii (Declaration point) h = indent_ascii (point_text point) (point_ascii point h)
line_ascii (Join left right) h =
    let ends = and_true (is_end left) (is_end right) h in
    indent_ascii (end_text left ++ (codes " ~ " ++ end_text right))
    (IsAscii-append (end_text left) (codes " ~ " ++ end_text right) (end_ascii left ends.0)
    (IsAscii-append (codes " ~ ") (end_text right) (words_ascii (codes " ~ ") refl) (end_ascii right ends.1)))
line_ascii (Kind text) h =
    IsAscii-append (codes "    kind = \"") (text ++ codes "\"") (words_ascii (codes "    kind = \"") refl)
    (IsAscii-append text (codes "\"") (kind_ascii text h) (words_ascii (codes "\"") refl))
line_ascii (Attribute name) h =
    indent_ascii (name ++ codes ": dimensionless")
    (IsAscii-append name (codes ": dimensionless") (name_ascii name (and_true _ _ h).0) (words_ascii (codes ": dimensionless") refl))
line_ascii (Assertion a) h =
    let parts = assertion_parts a h in
    IsAscii-append (codes "    assert ") (a.name ++ (codes " within " ++ (a.low ++ (codes " to " ++ a.high)))) (words_ascii (codes "    assert ") refl)
    (IsAscii-append a.name (codes " within " ++ (a.low ++ (codes " to " ++ a.high))) (name_ascii a.name parts.0)
    (IsAscii-append (codes " within ") (a.low ++ (codes " to " ++ a.high)) (words_ascii (codes " within ") refl)
    (IsAscii-append a.low (codes " to " ++ a.high) (number_ascii a.low parts.1)
    (IsAscii-append (codes " to ") a.high (words_ascii (codes " to ") refl) (number_ascii a.high parts.2)))))

lined_ascii : (text : List ℕ) → IsAscii text → IsAscii (lined text)
unfolding low
lined_ascii text h = IsAscii-append text (10 ∷ []) h (words_ascii (10 ∷ []) refl)

lines_ascii : (lines : List Line) → list_all is_line lines ≡ true → IsAscii (lines_text lines)
lines_ascii [] h = IsAscii-nil
lines_ascii (line ∷ lines) h =
    let both = and_true (is_line line) (list_all is_line lines) h in
    IsAscii-append (lined (line_text line)) (lines_text lines) (lined_ascii (line_text line) (line_ascii line both.0)) (lines_ascii lines both.1)

head_ascii : (name : List ℕ) → is_ascii_name name ≡ true → IsAscii (head_text name)
unfolding low
head_ascii name h = IsAscii-append (codes "component ") (name ++ codes ":") (words_ascii (codes "component ") refl)
    (IsAscii-append name (codes ":") (name_ascii name h) (words_ascii (codes ":") refl))

pub block_ascii : (block : Block) → IsFront block → IsAscii (block_text block)
block_ascii block h = IsAscii-append (lined (head_text block.name)) (lines_text block.lines) (lined_ascii (head_text block.name) (head_ascii block.name h.name)) (lines_ascii block.lines h.lines)
