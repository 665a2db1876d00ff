use Rattle.std.proofs.Common.{subst, sym, Ok}
use Rattle.ato_words.specs.declared.words.Task.TheVariants as tasks
use Rattle.ato_build.specs.Answers.{IsTrueAnswer}
use Rattle.ato_build.specs.Readings.{AreSources, IsReading, EndsWith}
use Rattle.ato_build.specs.declared.status.Status.TheVariants as answers
use Rattle.ato_build.proofs.ReadingLemmas.{missed_since, counts_after}
use Rattle.ato_build.proofs.checking.check_project.Goals as goal

pub returns-in-Ended-clause-means : goal.returns-in-Ended-clause-means
returns-in-Ended-clause-means g c = λ words check tray job same named.
    subst (IsReading (g.S.Shelf.files c.args.shelf.now) c.args.project.now) c.in-Ended.is c.in_ok-answer.ensures.reading words (tasks.Check check) tray job same

pub returns-in-Ended-clause-missing : goal.returns-in-Ended-clause-missing
returns-in-Ended-clause-missing g c = λ f status kind.
    c.in_ok-answer.ensures.missing f (subst (λ r. EndsWith (answers.Fault f) (Ok r)) (sym c.in-Ended.is) status) kind

pub returns-in-Ready-clause-means : goal.returns-in-Ready-clause-means
returns-in-Ready-clause-means g c = λ words check tray job same named.
    subst (λ h. IsTrueAnswer words h tray tray c.check_sources.result) c.in_ok-answer.ensures.same
    (c.check_sources.ensures.means words check tray job same named
    (subst (λ h. AreSources h c.args.project.now c.in-Ready.sources) (sym c.in_ok-answer.ensures.same)
    (subst (IsReading (g.S.Shelf.files c.args.shelf.now) c.args.project.now) c.in-Ready.is c.in_ok-answer.ensures.reading)))

pub returns-in-Ready-clause-missing : goal.returns-in-Ready-clause-missing
returns-in-Ready-clause-missing g c = missed_since _ _ _ c.check_sources.result c.in_ok-answer.ensures.misses c.check_sources.ensures.missing

pub returns-in-Ready-clause-reads : goal.returns-in-Ready-clause-reads
returns-in-Ready-clause-reads g c =
    counts_after _ _ _ _ _ _ _ c.in_ok-answer.ensures.reads
    (λ with. subst (λ r. EndsWith answers.ReadFault (Ok r)) c.in-Ready.is with) (λ e. let bad : ⊥ = cc in bad) c.check_sources.ensures.reads
