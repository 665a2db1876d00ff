-- A cell is a quantity exactly where it is read as one.
use Rattle.std.proofs.Common.{◌≡◌, ℕ, List, Option, Some, None, Result, Ok, Err, refl, sym, ◌∙◌}
use Rattle.std.specs.Prelude.{◌↔◌}
use Rattle.std.specs.Str.{chars}
use Rattle.ato_units.specs.declared.quantities.Quantity.{Quantity}
use Rattle.ato_units.specs.declared.quantities.QuantityFault.{QuantityFault}
use Rattle.ato_units.specs.declared.quantities.QuantityFault.TheVariants as faults
use Rattle.ato_units.specs.Literals.{Literal, IsLiteral}
use Rattle.ato_units.specs.LiteralReading.{read_literal}
use Rattle.ato_units.specs.Spellings.{LiteralGives}
use Rattle.ato_units.proofs.LiteralAnswers.{one_answer}
use Rattle.ato_units.proofs.LiteralLaws.{read_complete, read_sound}
use Rattle.ato_catalog.specs.Values.{IsNoQuantity, IsQuantity}

-- what reading a text gives is that of its literal, if it is one
abbrev pub GivesFor : List ℕ → Result Quantity QuantityFault → Type 0
GivesFor text answer = (literal : Literal) → IsLiteral (chars text) literal → LiteralGives literal answer

abbrev pub BadFor : List ℕ → Result Quantity QuantityFault → Type 0
BadFor text answer = (answer ≡ Err faults.BadText) ↔ ((literal : Literal) → ¬ IsLiteral (chars text) literal)

pub is_quantity : (text : List ℕ) (quantity : Quantity) → GivesFor text (Ok quantity) → BadFor text (Ok quantity) → IsQuantity text quantity
is_quantity text quantity gives bad = by (read_literal (chars text)) refl
  where
    by : (o : Option Literal) → read_literal (chars text) ≡ o → IsQuantity text quantity
    by (Some literal) e = let is = read_sound (chars text) literal e in record { literal = literal; is_literal = is; gives = gives literal is }
    by None e = absurd (wrong (bad.1 (λ literal is. apart literal (sym (read_complete (chars text) literal is) ∙ e))))
      where
        apart : (literal : Literal) → ◌≡◌ {A = Option Literal} (Some literal) None → ⊥
        apart literal h = cc h

        wrong : ◌≡◌ {A = Result Quantity QuantityFault} (Ok quantity) (Err faults.BadText) → ⊥
        wrong h = cc h

pub is_no_quantity : (text : List ℕ) (fault : QuantityFault) → GivesFor text (Err fault) → IsNoQuantity text
is_no_quantity text fault gives quantity h = apart (one_answer h.literal (Ok quantity) (Err fault) h.gives (gives h.literal h.is_literal))
  where
    apart : ◌≡◌ {A = Result Quantity QuantityFault} (Ok quantity) (Err fault) → ⊥
    apart e = cc e
