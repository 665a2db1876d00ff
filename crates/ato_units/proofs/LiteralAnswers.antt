-- What a text gives, from what it is read as.
use Rattle.std.proofs.Common.{◌≡◌, ◌↔◌, ℕ, Bool, true, false, List, Option, Some, None, Result, Ok, Err, refl, sym, ap, ◌∙◌, subst, MatchOption, if◌then◌else◌}
use Rattle.ato_units.specs.declared.quantities.Form.{Form}
use Rattle.ato_units.specs.declared.quantities.Quantity.{Quantity}
use Rattle.ato_units.specs.declared.quantities.QuantityFault.{QuantityFault}
use Rattle.ato_units.specs.declared.quantities.QuantityFault.TheVariants as faults
use Rattle.ato_units.specs.Literals.{Spelled, Literal, IsLiteral}
use Rattle.ato_units.specs.LiteralReading.{read_literal}
use Rattle.ato_units.specs.Spellings.{LiteralGives, without_part, HasNumber, IsWritten, signed}
use Rattle.ato_units.specs.Quantities.{Written, PartFault, units_of, is_relative, own_unit, Gives, unit_fault, first_wide, second_wide, ends_wide, empty, ends}
use Rattle.ato_units.specs.Units.{Meaning}
use Rattle.std.specs.Str.{encode_utf8_all}
use Rattle.ato_frac.specs.declared.fraction.Frac.{Frac}
use Rattle.ato_frac.specs.Decimals.{Reads}
use Rattle.ato_frac.specs.Fractions.{value_of}
use Rattle.ato_frac.specs.Numbers.{Parts, number_value}
use Rattle.ato_frac.specs.OneNumber.{fraction_same}
use Rattle.ato_frac.proofs.Grammar.{number_unique}
use Rattle.ato_rational.specs.Rational.{◌≈ℚ◌}
use Rattle.ato_rational.proofs.Order.{≈ℚ_sym, ≈ℚ_trans}
use Rattle.ato_units.proofs.OneQuantity.{one_quantity}
use Rattle.ato_units.proofs.LiteralLaws.{read_complete, read_sound}

alike_not_bad : (m n : Meaning) (b : Bool) (e : PartFault) → (if b then (let both : Result (Meaning × Meaning) PartFault = Ok (m, n) in both) else Err (faults.DimClash, true)) ≡ Err e → e.0 ≡ faults.BadText → ⊥
alike_not_bad m n true e h k = absurd (cc)
alike_not_bad m n false e h k = let x : (faults.DimClash, true) ≡ e = cc in let y = ap (λ (p : PartFault). p.0) x in cc

units_not_bad : (relative : Bool) (a b : Option (Option Meaning)) (e : PartFault) → units_of relative a b ≡ Err e → e.0 ≡ faults.BadText → ⊥
units_not_bad relative None b e h k = let x : (faults.UnknownUnit, false) ≡ e = cc in let y = ap (λ (p : PartFault). p.0) x in cc
units_not_bad relative (Some a) None e h k = let x : (faults.UnknownUnit, true) ≡ e = cc in let y = ap (λ (p : PartFault). p.0) x in cc
units_not_bad true (Some a) (Some b) e h k = absurd (cc)
units_not_bad false (Some a) (Some b) e h k = alike_not_bad _ _ _ e h k

-- parts never give the fault of a text
not_bad : (form : Form) (p q : Written) (given : Result Quantity PartFault) → Gives form p q given → without_part given ≡ Err faults.BadText → ⊥
not_bad form p q given (unit_fault {e} u a) h =
    let k : Err e.0 ≡ Err faults.BadText = subst (λ (r : Result Quantity PartFault). without_part r ≡ Err faults.BadText) a h in
    units_not_bad (is_relative form q.unit) (own_unit p.unit) (own_unit q.unit) e u (cc)
not_bad form p q given (first_wide u v a) h = let k = subst (λ (r : Result Quantity PartFault). without_part r ≡ Err faults.BadText) a h in cc
not_bad form p q given (second_wide n u v w a) h = let k = subst (λ (r : Result Quantity PartFault). without_part r ≡ Err faults.BadText) a h in cc
not_bad form p q given (ends_wide n t u v w e a) h = let k = subst (λ (r : Result Quantity PartFault). without_part r ≡ Err faults.BadText) a h in cc
not_bad form p q given (empty n t low high u v w e l a) h = let k = subst (λ (r : Result Quantity PartFault). without_part r ≡ Err faults.BadText) a h in cc
not_bad form p q given (ends n t quantity u v w e l d a) h = let k = subst (λ (r : Result Quantity PartFault). without_part r ≡ Err faults.BadText) a h in cc

-- a literal's text gives what its parts give
pub gives_if : (text : List ℕ) (answer : Result Quantity QuantityFault)
    → MatchOption (read_literal text) (answer ≡ Err faults.BadText) (λ literal. LiteralGives literal answer) → (literal : Literal) → IsLiteral text literal → LiteralGives literal answer
gives_if text answer h literal k =
    subst (λ (o : Option Literal). MatchOption o (answer ≡ Err faults.BadText) (λ l. LiteralGives l answer)) (read_complete text literal k) h

-- the fault of a text stands exactly where it is no literal
pub bad_text_if : (text : List ℕ) (answer : Result Quantity QuantityFault)
    → MatchOption (read_literal text) (answer ≡ Err faults.BadText) (λ literal. LiteralGives literal answer)
    → (answer ≡ Err faults.BadText) ↔ ((literal : Literal) → ¬ IsLiteral text literal)
bad_text_if text answer h = (forth, back (read_literal text) refl h)
  where
    forth : answer ≡ Err faults.BadText → (literal : Literal) → ¬ IsLiteral text literal
    forth e literal k = let g = gives_if text answer h literal k in not_bad literal.form g.first g.second g.given g.gives (sym g.answer_is ∙ e)

    back : (o : Option Literal) → read_literal text ≡ o → MatchOption o (answer ≡ Err faults.BadText) (λ literal. LiteralGives literal answer)
        → ((literal : Literal) → ¬ IsLiteral text literal) → answer ≡ Err faults.BadText
    back None e f n = f
    back (Some literal) e f n = absurd (n literal (read_sound text literal e))

-- the parts of a literal give one answer

reads_same : (text : List ℕ) (f g : Frac) → Reads text f → Reads text g → f ≡ g
reads_same text f g h k =
    fraction_same f g (≈ℚ_trans h.value (≈ℚ_sym (subst (λ (p : Parts). value_of g ≈ℚ number_value p) (number_unique text k.parts h.parts k.number h.number) k.value)))

number_same : (negative : Bool) (digits : List ℕ) (a b : Option Frac) → HasNumber negative digits a → HasNumber negative digits b → a ≡ b
number_same negative digits None None h k = refl
number_same negative digits None (Some g) h k = absurd (h k.0 k.1)
number_same negative digits (Some f) None h k = absurd (k h.0 h.1)
number_same negative digits (Some f) (Some g) h k =
    let same = reads_same digits k.0 h.0 k.1 h.1 in
    ap Some (fraction_same f g (≈ℚ_trans h.2 (≈ℚ_sym (subst (λ (s : Frac). value_of g ≈ℚ signed negative (value_of s)) same k.2))))

written_same : (part : Spelled) (a b : Written) → IsWritten part a → IsWritten part b → a ≡ b
written_same part a b h k =
    let n = number_same part.negative (encode_utf8_all part.digits) a.number b.number h.number k.number in
    let u = h.unit ∙ sym k.unit in
    λ i. record { number = n i; unit = u i }

pub one_answer : (literal : Literal) (a b : Result Quantity QuantityFault) → LiteralGives literal a → LiteralGives literal b → a ≡ b
one_answer literal a b h k =
    let p = written_same literal.first k.first h.first k.first_is h.first_is in
    let q = written_same literal.second k.second h.second k.second_is h.second_is in
    let g = subst (λ (w : Written). Gives literal.form w h.second k.given) p (subst (λ (w : Written). Gives literal.form k.first w k.given) q k.gives) in
    h.answer_is ∙ ap without_part (one_quantity literal.form h.first h.second h.given k.given h.gives g) ∙ sym k.answer_is
