-- An expression is read as its level, over what is inside of it.
use Rattle.std.proofs.Common.{◌≡◌, ℕ, zero, suc, refl}
use Rattle.ato_parser.specs.Input.{Input}
use Rattle.ato_parser.specs.Reading.{sum, sum_over}
use Rattle.ato_parser.specs.Depths.{opening, inside}

pub sum_is : (depth : ℕ) (i : Input) → sum depth i ≡ sum_over (opening depth) (inside depth) i
unfolding sum
sum_is zero i = refl
sum_is (suc depth) i = refl
