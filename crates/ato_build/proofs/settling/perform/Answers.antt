use Rattle.std.proofs.Common.{subst}
use Rattle.std.specs.Prelude.{IfSome}
use Rattle.ato_words.specs.Words.{texts, IsJob}
use Rattle.ato_build.proofs.settling.perform.Goals as goal

pub returns-in-Check-clause-means : goal.returns-in-Check-clause-means
returns-in-Check-clause-means g c =
    c.perform_check.ensures.means (texts c.args.words.now.items) (g.T.Tray.files c.args.tray.now)
    (subst (λ task. IsJob (texts c.args.words.now.items) task) c.in-Check.is
    (subst (λ found. IfSome found (λ task. IsJob (texts c.args.words.now.items) task)) c.in-Some.is c.in_ok-job.ensures.some))
