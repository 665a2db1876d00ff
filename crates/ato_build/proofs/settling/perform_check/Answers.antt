use Rattle.std.proofs.Common.{refl, sym}
use Rattle.ato_build.proofs.settling.perform_check.Goals as goal

pub returns-clause-means : goal.returns-clause-means
returns-clause-means g c = λ words tray job. c.check_project.ensures.means words c.args.check tray job refl (sym c.as_str.ensures)
