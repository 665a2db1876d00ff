use Rattle.std.proofs.Common.{refl}
use Rattle.std.proofs.lemmas.Result.{IfOk-weaker}
use Rattle.ato_netlists.proofs.nets.path.Goals as goal

pub returns : goal.returns
returns c = IfOk-weaker c.path_text.result _ _ (λ text told tree entry path b at. told c.args.board.now.program.now tree entry path b.sound refl b.nodes at) c.path_text.ensures
