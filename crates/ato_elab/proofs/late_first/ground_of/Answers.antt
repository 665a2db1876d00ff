use Rattle.ato_elab.proofs.GroundLaws.{ground_is}
use Rattle.ato_elab.proofs.late_first.ground_of.Goals as goal

-- src/late_first.rt
pub returns-clause-right : goal.returns-clause-right
returns-clause-right c = λ entry ready pins stmts assigned. ground_is _ entry _ _ c.as_slice.ensures ready pins stmts assigned c.find.ensures c.find-2.ensures
