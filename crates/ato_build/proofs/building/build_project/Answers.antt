use Rattle.std.proofs.Common.{subst, sym, Ok}
use Rattle.std.specs.Prelude.{string_bytes}
use Rattle.ato_words.specs.declared.words.Task.TheVariants as tasks
use Rattle.ato_build.specs.Readings.{IsReading, EndsWith}
use Rattle.ato_build.specs.declared.status.Status.TheVariants as answers
use Rattle.ato_build.proofs.BuildLemmas.{decided}
use Rattle.ato_build.proofs.building.build_project.Goals as goal

pub returns-in-Ended-clause-means : goal.returns-in-Ended-clause-means
returns-in-Ended-clause-means g c = λ words build job same also.
    subst (IsReading (g.S.Shelf.files c.args.shelf.now) c.args.project.now) c.in-Ended.is c.in_ok-answer.ensures.reading words (tasks.Build build) (g.T.Tray.files c.args.tray.now) job same

pub returns-in-Ended-clause-missing : goal.returns-in-Ended-clause-missing
returns-in-Ended-clause-missing g c = λ f status kind.
    c.in_ok-answer.ensures.missing f (subst (λ r. EndsWith (answers.Fault f) (Ok r)) (sym c.in-Ended.is) status) kind

pub returns-in_ok-decision-in-Ready-clause-means : goal.returns-in_ok-decision-in-Ready-clause-means
returns-in_ok-decision-in-Ready-clause-means g c = λ words build job same also.
    c.put_decision.ensures.means words (g.S.Shelf.files c.args.shelf.now)
    (decided words (g.S.Shelf.files c.args.shelf.now) build c.args.project.now c.args.options.now c.in-Ready.sources c.in_ok-decision-in-Ready.decision.status c.in_ok-decision-in-Ready.decision.outputs.items
    (string_bytes c.in_ok-decision-in-Ready.decision.summary) job same also (subst (IsReading (g.S.Shelf.files c.args.shelf.now) c.args.project.now) c.in-Ready.is c.in_ok-answer.ensures.reading) c.in_ok-decision-in-Ready.ensures.decision)
