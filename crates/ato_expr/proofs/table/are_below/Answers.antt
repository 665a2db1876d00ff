use Rattle.std.proofs.Common.{◌≡◌, ℕ, false, true, List, ◌<◌, get_or, refl, arith, subst}
use Rattle.std.specs.Prelude.{Contains}
use Rattle.ato_expr.proofs.MarkLaws.{above_more, contains_at, whole}
use Rattle.ato_expr.proofs.table.are_below.Goals as goal

pub loop-number-preserved : goal.loop-number-preserved
loop-number-preserved c =
    above_more c.args.numbers.now c.loop-number.number-index c.args.count c.args.count c.loop-number-test.true c.loop-number.invariant (omega arith) (omega arith)

pub returns-then-count-number : goal.returns-then-count-number
returns-then-count-number c = (
  λ t. absurd (let e : false ≡ true = t in cc),
  λ all.
      let below : get_or c.args.numbers.now c.loop-number.number-index 0 < c.args.count = all _ (contains_at c.args.numbers.now c.loop-number.number-index c.loop-number-test.true) in
      absurd (omega arith),
)

pub returns : goal.returns
returns c =
    let front = whole c.args.numbers.now c.loop-number.number-index (omega arith) (omega arith) in (
      λ t. subst (λ (xs : List ℕ). (n : ℕ) → Contains xs n → n < c.args.count) front c.loop-number.invariant,
      λ all. refl,
    )
