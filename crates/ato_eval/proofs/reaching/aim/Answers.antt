use Rattle.std.proofs.Common.{[], ◌∷◌}
use Rattle.ato_base.proofs.ClassLaws.{first, later}
use Rattle.ato_eval.proofs.reaching.aim.Goals as goal

pub aim_within-requires : goal.aim_within-requires
aim_within-requires c = (rw c.in-Within.is at c.requires) _ (first _ [])

pub aim_apart-requires-clause-left : goal.aim_apart-requires-clause-left
aim_apart-requires-clause-left c = (rw c.in-Less.is at c.requires) _ (first _ (c.in-Less.right ∷ []))

pub aim_apart-requires-clause-right : goal.aim_apart-requires-clause-right
aim_apart-requires-clause-right c = (rw c.in-Less.is at c.requires) _ (later c.in-Less.left _ (c.in-Less.right ∷ []) (first _ []))

pub aim_apart-requires-in-LessEq-clause-left : goal.aim_apart-requires-in-LessEq-clause-left
aim_apart-requires-in-LessEq-clause-left c = (rw c.in-LessEq.is at c.requires) _ (first _ (c.in-LessEq.right ∷ []))

pub aim_apart-requires-in-LessEq-clause-right : goal.aim_apart-requires-in-LessEq-clause-right
aim_apart-requires-in-LessEq-clause-right c = (rw c.in-LessEq.is at c.requires) _ (later c.in-LessEq.left _ (c.in-LessEq.right ∷ []) (first _ []))

pub aim_unequal-requires-clause-left : goal.aim_unequal-requires-clause-left
aim_unequal-requires-clause-left c = (rw c.in-Equal.is at c.requires) _ (first _ (c.in-Equal.right ∷ []))

pub aim_unequal-requires-clause-right : goal.aim_unequal-requires-clause-right
aim_unequal-requires-clause-right c = (rw c.in-Equal.is at c.requires) _ (later c.in-Equal.left _ (c.in-Equal.right ∷ []) (first _ []))
