use Rattle.std.proofs.Common.{refl}
use Rattle.ato_build.proofs.settling.perform_build.Goals as goal

pub returns-clause-means : goal.returns-clause-means
returns-clause-means g c = λ words job. c.build_project.ensures.means words c.args.build job refl refl
