use Rattle.ato_words.specs.Words.{texts}
use Rattle.ato_build.specs.Texts.{said_text}
use Rattle.std.proofs.Common.{inl, inr, refl}
use Rattle.ato_build.proofs.BuildLemmas.{printed, caused}
use Rattle.ato_build.proofs.BuiltCertificateLaws.{built_accepted}
use Rattle.ato_build.proofs.HeadlineLaws.{usage_where, fault_where, built_where, refuted_where, accepted_where, rejected_where, complete, never_rose}
use Rattle.ato_build.proofs.running.run.Goals as goal

pub returns-then-say-clause-headline : goal.returns-then-say-clause-headline
returns-then-say-clause-headline g c =
    printed (texts c.args.words.now.items) (g.S.Shelf.files c.args.shelf.now) (g.T.Tray.files c.args.tray.now) (g.T.Tray.files c.settle-status.new.tray)
    (g.O.Sink.written c.args.out.now) (g.O.Sink.written c.say.new.out) c.settle-status.result.status (said_text c.settle-status.result.said)
    c.settle-status.ensures.means c.if-say.ensures.told

pub returns-then-say-clause-usage_where : goal.returns-then-say-clause-usage_where
returns-then-say-clause-usage_where g c =
    usage_where (texts c.args.words.now.items) (g.S.Shelf.files c.args.shelf.now) (g.T.Tray.files c.args.tray.now) (g.T.Tray.files c.settle-status.new.tray)
    (g.O.Sink.written c.args.out.now) (g.O.Sink.written c.say.new.out) c.settle-status.result.status (returns-then-say-clause-headline g c)

pub returns-then-say-clause-fault_where : goal.returns-then-say-clause-fault_where
returns-then-say-clause-fault_where g c =
    fault_where (texts c.args.words.now.items) (g.S.Shelf.files c.args.shelf.now) (g.T.Tray.files c.args.tray.now) (g.T.Tray.files c.settle-status.new.tray)
    (g.O.Sink.written c.args.out.now) (g.O.Sink.written c.say.new.out) c.settle-status.result.status (returns-then-say-clause-headline g c)

pub returns-then-say-clause-built_where : goal.returns-then-say-clause-built_where
returns-then-say-clause-built_where g c =
    built_where (texts c.args.words.now.items) (g.S.Shelf.files c.args.shelf.now) (g.T.Tray.files c.args.tray.now) (g.T.Tray.files c.settle-status.new.tray)
    (g.O.Sink.written c.args.out.now) (g.O.Sink.written c.say.new.out) c.settle-status.result.status (returns-then-say-clause-headline g c)

pub returns-then-say-clause-refuted_where : goal.returns-then-say-clause-refuted_where
returns-then-say-clause-refuted_where g c =
    refuted_where (texts c.args.words.now.items) (g.S.Shelf.files c.args.shelf.now) (g.T.Tray.files c.args.tray.now) (g.T.Tray.files c.settle-status.new.tray)
    (g.O.Sink.written c.args.out.now) (g.O.Sink.written c.say.new.out) c.settle-status.result.status (returns-then-say-clause-headline g c)

pub returns-then-say-clause-accepted_where : goal.returns-then-say-clause-accepted_where
returns-then-say-clause-accepted_where g c =
    accepted_where (texts c.args.words.now.items) (g.S.Shelf.files c.args.shelf.now) (g.T.Tray.files c.args.tray.now) (g.T.Tray.files c.settle-status.new.tray)
    (g.O.Sink.written c.args.out.now) (g.O.Sink.written c.say.new.out) c.settle-status.result.status (returns-then-say-clause-headline g c)

pub returns-then-say-clause-rejected_where : goal.returns-then-say-clause-rejected_where
returns-then-say-clause-rejected_where g c =
    rejected_where (texts c.args.words.now.items) (g.S.Shelf.files c.args.shelf.now) (g.T.Tray.files c.args.tray.now) (g.T.Tray.files c.settle-status.new.tray)
    (g.O.Sink.written c.args.out.now) (g.O.Sink.written c.say.new.out) c.settle-status.result.status (returns-then-say-clause-headline g c)

pub returns-then-say-clause-built_accepted : goal.returns-then-say-clause-built_accepted
returns-then-say-clause-built_accepted g c =
    built_accepted (texts c.args.words.now.items) (g.S.Shelf.files c.args.shelf.now) (g.T.Tray.files c.args.tray.now) (g.T.Tray.files c.settle-status.new.tray)
    (g.O.Sink.written c.args.out.now) (g.O.Sink.written c.say.new.out) c.settle-status.result.status (returns-then-say-clause-headline g c)

pub returns-else-say-clause-write_told : goal.returns-else-say-clause-write_told
returns-else-say-clause-write_told g c = λ is.
    inr (
      c.if-say.ensures.failed refl,
      (
        c.settle-status.result.status,
        said_text c.settle-status.result.said,
        caused _ _ c.settle-status.result.status c.settle-status.ensures.read (λ p. c.settle-status.ensures.writes.rose p),
        c.settle-status.ensures.means,
        c.if-say.ensures.told,
      ),
    )

pub returns-then-say-clause-complete : goal.returns-then-say-clause-complete
returns-then-say-clause-complete g c =
    complete _ _ _ (texts c.args.words.now.items) (g.S.Shelf.files c.args.shelf.now) (g.T.Tray.files c.args.tray.now) (g.T.Tray.files c.settle-status.new.tray)
    (g.O.Sink.written c.args.out.now) (g.O.Sink.written c.say.new.out) c.settle-status.result.status (returns-then-say-clause-headline g c)
    c.settle-status.ensures.read (λ is. inl (c.settle-status.ensures.writes.rose is))

pub returns-then-say-clause-sure_shelf : goal.returns-then-say-clause-sure_shelf
returns-then-say-clause-sure_shelf g c = λ sure is. never_rose _ _ (sure _) (sure _) (c.settle-status.ensures.read is)

pub returns-then-say-clause-sure_outputs : goal.returns-then-say-clause-sure_outputs
returns-then-say-clause-sure_outputs g c = λ sure also is. never_rose _ _ (sure _) (sure _) (c.settle-status.ensures.writes.rose is)

pub returns-else-say-clause-sure_outputs : goal.returns-else-say-clause-sure_outputs
returns-else-say-clause-sure_outputs g c = λ sure also is. never_rose _ _ (also _) (also _) (c.if-say.ensures.failed refl)
