-- What the lines of a part are.
use Rattle.std.proofs.Common.{◌≡◌, ℕ, ◌≤◌, true, false, List, [], ◌∷◌, ap, sym, ◌∙◌, refl, subst, arith}
use Rattle.std.specs.Prelude.{Option, Some, None, MatchOption, option_and_then, option_map, nat_lt}
use Rattle.std.specs.List.{list_all, list_any}
use Rattle.std.proofs.lemmas.Bool.{ltb-false}
use Rattle.ato_first.specs.FirstForm.{is_line}
use Rattle.ato_first.specs.PartLines.{kind_of, attribute_of, assertion_of}
use Rattle.ato_first_catalog.specs.Ranges.{digits_value}
use Rattle.ato_first.specs.ShownParts.{shown_part, IsInOrder}
use Rattle.ato_first.specs.FirstParts.{part_with, part_of, is_empty_range}
use Rattle.ato_first.specs.FirstParts as parts
use Rattle.ato_first.specs.declared.first_parts.Part.{Part}
use Rattle.ato_first.proofs.FirstNumberLemmas.{or_false}
use Rattle.ato_first.specs.declared.first_form.Assertion.{Assertion}
use Rattle.ato_first.specs.declared.first_form.Line.{Line}
use Rattle.ato_first.specs.declared.first_form.Line.TheVariants as lines
use Rattle.std.proofs.lemmas.Bool.{and_parts}

-- each of some lines is of the form
both : (line : Line) (rest : List Line) → list_all is_line (line ∷ rest) ≡ true → (is_line line ≡ true) × (list_all is_line rest ≡ true)
both line rest h = and_parts (is_line line) (list_all is_line rest) h

-- What the lines assert is of the form, where they are.
pub assertion_is_line : (all : List Line) (a : Assertion) → Some a ≡ assertion_of all → list_all is_line all ≡ true → is_line (lines.Assertion a) ≡ true
assertion_is_line [] a h k = let bad : ⊥ = cc in absurd bad
assertion_is_line (lines.Pass ∷ rest) a h k = assertion_is_line rest a h (both lines.Pass rest k).1
assertion_is_line (lines.Declaration point ∷ rest) a h k = assertion_is_line rest a h (both (lines.Declaration point) rest k).1
assertion_is_line (lines.Join left right ∷ rest) a h k = assertion_is_line rest a h (both (lines.Join left right) rest k).1
assertion_is_line (lines.Kind text ∷ rest) a h k = assertion_is_line rest a h (both (lines.Kind text) rest k).1
assertion_is_line (lines.Attribute name ∷ rest) a h k = assertion_is_line rest a h (both (lines.Attribute name) rest k).1
assertion_is_line (lines.Assertion b ∷ rest) a h k = let same : a ≡ b = cc in ap (λ x. is_line (lines.Assertion x)) same ∙ (both (lines.Assertion b) rest k).0

-- What the lines assert has a value, where no line asserts a range without one.
assertion_in_order : (all : List Line) (a : Assertion) → assertion_of all ≡ Some a → list_any is_empty_range all ≡ false → is_empty_range (lines.Assertion a) ≡ false
assertion_in_order [] a h k = let bad : ⊥ = cc in absurd bad
assertion_in_order (lines.Pass ∷ rest) a h k = assertion_in_order rest a h k
assertion_in_order (lines.Declaration point ∷ rest) a h k = assertion_in_order rest a h k
assertion_in_order (lines.Join left right ∷ rest) a h k = assertion_in_order rest a h k
assertion_in_order (lines.Kind text ∷ rest) a h k = assertion_in_order rest a h k
assertion_in_order (lines.Attribute name ∷ rest) a h k = assertion_in_order rest a h k
assertion_in_order (lines.Assertion b ∷ rest) a h k =
    let same : a ≡ b = cc in ap (λ x. is_empty_range (lines.Assertion x)) same ∙ (or_false (is_empty_range (lines.Assertion b)) (list_any is_empty_range rest) k).0

-- the assertion of a part
asserted_by : (kind attribute : Option (List ℕ)) (asserted : Option Assertion) (part : parts.Part)
    → option_and_then (λ k. option_and_then (λ a. option_map (part_with k a) asserted) attribute) kind ≡ Some part
    → (a : Assertion) × (asserted ≡ Some a) × (part.low ≡ digits_value a.low) × (part.high ≡ digits_value a.high)
asserted_by None attribute asserted part h = let bad : ⊥ = cc in absurd bad
asserted_by (Some k) None asserted part h = let bad : ⊥ = cc in absurd bad
asserted_by (Some k) (Some a) None part h = let bad : ⊥ = cc in absurd bad
asserted_by (Some k) (Some a) (Some b) part h =
    let same : part_with k a b ≡ part = cc in (b, refl, ap (λ p. p.low) (sym same), ap (λ p. p.high) (sym same))

-- The part of lines whose ranges have values is in order.
pub part_in_order : (all : List Line) (part : parts.Part) → part_of all ≡ Some part → list_any is_empty_range all ≡ false → part.low ≤ part.high
part_in_order all part h fine =
    let found = asserted_by (kind_of all) (attribute_of all) (assertion_of all) part h in
    let test : nat_lt (digits_value found.0.high) (digits_value found.0.low) ≡ false = assertion_in_order all found.0 found.1 fine in
    omega (arith, ltb-false (digits_value found.0.high) (digits_value found.0.low) test, found.2, found.3)

-- ---- the part that is lent

-- what a part is that is read from lines
abbrev IsReadOf : List Line → Option Part → Type 0
IsReadOf all part = MatchOption part (part_of all ≡ None) (λ p. part_of all ≡ Some (record { kind = p.kind.now; attribute = p.attribute.now; low = p.low; high = p.high }))

shown_as : (all : List Line) (part : Option Part) → IsReadOf all part → shown_part part ≡ part_of all
shown_as all None h = sym h
shown_as all (Some part) h = sym h

ordered_as : (all : List Line) (part : Option Part) → IsReadOf all part → list_any is_empty_range all ≡ false → IsInOrder part
ordered_as all None h fine = tt
ordered_as all (Some part) h fine = part_in_order all (record { kind = part.kind.now; attribute = part.attribute.now; low = part.low; high = part.high }) h fine

-- It is the one that the lines describe.
pub shown : (read all : List Line) (part : Option Part) → read ≡ all → MatchOption part (part_of read ≡ None) (λ p. part_of read ≡ Some (record { kind = p.kind.now; attribute = p.attribute.now; low = p.low; high = p.high })) → shown_part part ≡ part_of all
shown read all part same h = shown_as all part (subst (λ l. IsReadOf l part) same h)

-- What is asserted of it has a value.
pub shown_in_order : (read all : List Line) (part : Option Part) → read ≡ all → MatchOption part (part_of read ≡ None) (λ p. part_of read ≡ Some (record { kind = p.kind.now; attribute = p.attribute.now; low = p.low; high = p.high }))
    → list_any is_empty_range all ≡ false → IsInOrder part
shown_in_order read all part same h fine = ordered_as all part (subst (λ l. IsReadOf l part) same h) fine
