use denote.RattleType.{RattleType}
use Rattle.std.specs.Prelude.{ℕ, List, ◌++◌, length, take, drop}
use Rattle.std.specs.Borrow.{Lends, MutBor, Fml, Array}
use Rattle.ato_base.specs.contracts.list.List.{the_row}

-- The items are lent whole: once the loan is over, the list holds what was written over its items.
abbrev pub LendsItems : (T : RattleType) → MutBor (List T.Denot) → MutBor (List T.Denot) → Fml
LendsItems T s r = Lends (the_row T) (Array T 0) s r (λ w. take (length s.now) (w ++ drop (length w) s.now))
