-- A line of a parts list is what the default writer of comma-separated text writes.
use Rattle.std.proofs.Common.{◌≡◌, ◌==◌, ◌∙◌, ◌++◌, ◌+◌, ◌<◌, ◌∷◌, [], ℕ, zero, suc, List, Bool, true, false, Some, arith, get_or, length, take, refl, sym, ap, append_assoc, append-nil, inl, inr}
use Rattle.std.specs.Prelude.{◌||◌}
use Rattle.std.specs.List.{flat_map, list_any}
use Rattle.std.proofs.lemmas.Bool.{cases_Bool, eqb-true}
use Rattle.csv.specs.Writing.{default_writer, escaped, field_text, fields_text, is_blank, needs_byte, row_text}
use Rattle.ato_writers.specs.PartsLists.{calls_for_quotes, cell_text, doubled, line_text, more_text, part_text}
use Rattle.ato_base.specs.declared.nets.PartRow.{PartRow}

pub some_same : {A : Type 0} (a b : A) → Some a ≡ Some b → a ≡ b
some_same a b e = cc e

calls_same : (b : ℕ) → calls_for_quotes b ≡ needs_byte default_writer b
calls_same b = by (b == 44) (b == 34) (b == 10) (b == 13)
  where
    by : (w x y z : Bool) → (w || x || y || z) ≡ (w || x || (z || y) || false || false)
    by true x y z = refl
    by false true y z = refl
    by false false true true = refl
    by false false true false = refl
    by false false false true = refl
    by false false false false = refl

any_same : (cell : List ℕ) → list_any calls_for_quotes cell ≡ list_any (needs_byte default_writer) cell
any_same [] = refl
any_same (b ∷ rest) = ap (λ x. x || list_any calls_for_quotes rest) (calls_same b) ∙ ap (λ x. needs_byte default_writer b || x) (any_same rest)

doubled_same : (cell : List ℕ) → flat_map doubled cell ≡ escaped default_writer cell
unfolding escaped
doubled_same [] = refl
doubled_same (b ∷ rest) = elim (cases_Bool (b == 34)) [
  | inl is ↦ rw (is, doubled_same rest, eqb-true b 34 is) refl
  | inr other ↦ rw (other, doubled_same rest) refl
]

cell_same : (cell : List ℕ) → cell_text cell ≡ field_text default_writer cell
unfolding cell_text
cell_same cell = rw (any_same cell, doubled_same cell) refl

more_same : (cells : List (List ℕ)) → more_text cells ≡ fields_text default_writer cells
unfolding more_text fields_text
more_same [] = refl
more_same (cell ∷ rest) = rw (cell_same cell, more_same rest) refl

pub lines_are_csv : (first next : List ℕ) (more : List (List ℕ)) → line_text first (next ∷ more) ≡ row_text default_writer (first ∷ next ∷ more)
unfolding line_text is_blank
lines_are_csv first next more = rw (cell_same first, more_same (next ∷ more)) (sym (append_assoc (field_text default_writer first) (fields_text default_writer (next ∷ more)) (10 ∷ [])))

-- One more part.
more_next : (rows : List PartRow) (i : ℕ) (row : PartRow) → i < length rows → row ≡ get_or rows i row → flat_map part_text (take (suc i) rows) ≡ flat_map part_text (take i rows) ++ part_text row
more_next [] i row lt is = absurd (omega (arith, lt))
more_next (first ∷ rest) zero row lt is = rw is (append-nil (part_text first))
more_next (first ∷ rest) (suc i) row lt is = rw (more_next rest i row (omega (arith, lt)) is) (sym (append_assoc (part_text first) (flat_map part_text (take i rest)) (part_text row)))

pub more_parts : (rows : List PartRow) (i : ℕ) (row : PartRow) → i < length rows → row ≡ get_or rows i row → flat_map part_text (take (i + 1) rows) ≡ flat_map part_text (take i rows) ++ part_text row
more_parts rows i row lt is =
    let next : i + 1 ≡ suc i = omega arith in
    ap (λ n. flat_map part_text (take n rows)) next ∙ more_next rows i row lt is
