-- The first line of a block that passes a test.
use Rattle.std.proofs.Common.{◌≡◌, ℕ, ◌+◌, Bool, true, false, List, ◌∷◌, ◌++◌, length, ap, sym, ◌∙◌, subst, arith, length-append, []}
use Rattle.std.specs.Prelude.{codes, Option}
use Rattle.std.specs.List.{list_any}
use Rattle.ato_first.specs.FirstForm.{lined, head_text, lines_text}
use Rattle.ato_first.specs.PartLines.{attribute_of}
use Rattle.ato_first.specs.declared.first_form.Line.{Line}
use Rattle.ato_first.specs.declared.first_form.Block.{Block}
use Rattle.ato_first.specs.FirstPoints.{is_unknown, is_unknown_in, signals_of, AreKnown, IsFirstLineAt, IsUnknownAt}

-- the place of a line in a file whose block begins with a name
line_place : (name front : List ℕ) → 12 + length name + length front ≡ length (lined (head_text name) ++ front)
line_place name front = omega (arith, length-append (lined (head_text name)) front, length-append name (codes ":"), length-append (name ++ codes ":") (10 ∷ []))

-- where the lines begin, a line that passes lies behind its front
pub line_found : (test : Line → Bool) (block : Block) (lines : List Line) (start at : ℕ) → lines ≡ block.lines → start ≡ 12 + length block.name
    → (front : List Line) × (line : Line) × (back : List Line) × (lines ≡ front ++ line ∷ back) × (list_any test front ≡ false) × (test line ≡ true) × (at ≡ start + length (lines_text front))
    → IsFirstLineAt test block at
line_found test block lines start at lines_are begins (front, line, back, is, fine, bad, place) =
    (front, line, back, sym lines_are ∙ is, fine, bad, place ∙ ap (λ n. n + length (lines_text front)) begins ∙ line_place block.name (lines_text front))

-- the names that are known in a block
pub unknown_found : (block : Block) (lines : List Line) (signals : List (List ℕ)) (attribute : Option (List ℕ)) (start at : ℕ) → lines ≡ block.lines → signals ≡ signals_of block → attribute ≡ attribute_of block.lines → start ≡ 12 + length block.name
    → (front : List Line) × (line : Line) × (back : List Line) × (lines ≡ front ++ line ∷ back) × (list_any (is_unknown signals attribute) front ≡ false) × (is_unknown signals attribute line ≡ true) × (at ≡ start + length (lines_text front))
    → IsUnknownAt block at
unknown_found block lines signals attribute start at lines_are signals_are attribute_is begins found =
    line_found (is_unknown_in block) block lines start at lines_are begins
    (subst (λ a. (front : List Line) × (line : Line) × (back : List Line) × (lines ≡ front ++ line ∷ back) × (list_any (is_unknown (signals_of block) a) front ≡ false) × (is_unknown (signals_of block) a line ≡ true) × (at ≡ start + length (lines_text front))) attribute_is
    (subst (λ s. (front : List Line) × (line : Line) × (back : List Line) × (lines ≡ front ++ line ∷ back) × (list_any (is_unknown s attribute) front ≡ false) × (is_unknown s attribute line ≡ true) × (at ≡ start + length (lines_text front))) signals_are found))

pub all_known : (block : Block) (lines : List Line) (signals : List (List ℕ)) (attribute : Option (List ℕ)) → lines ≡ block.lines → signals ≡ signals_of block → attribute ≡ attribute_of block.lines
    → list_any (is_unknown signals attribute) lines ≡ false → AreKnown block
all_known block lines signals attribute lines_are signals_are attribute_is h =
    ap (list_any (is_unknown_in block)) (sym lines_are) ∙ ap (λ a. list_any (is_unknown (signals_of block) a) lines) (sym attribute_is) ∙ ap (λ s. list_any (is_unknown s attribute) lines) (sym signals_are) ∙ h
