use Rattle.std.proofs.Common.{◌∙◌, sym}
use Rattle.ato_elab.proofs.EntryList.{more_some, more_none}
use Rattle.ato_elab.proofs.effective.effective.Goals as goal

pub loop-key-preserved-in-Continue-branch-3 : goal.loop-key-preserved-in-Continue-branch-3
loop-key-preserved-in-Continue-branch-3 c = c.in_ok-push.ensures.ok
    ∙ more_some c.args.names.now c.loop-key.yielded (c.in-Some.key, c.in-Some.pair) c.in-Some-2.entry c.loop-key.entries c.loop-key.invariant (sym c.in-Some-2.is ∙ c.in_ok-entry.ensures)

pub loop-key-preserved : goal.loop-key-preserved
loop-key-preserved c = more_none c.args.names.now c.loop-key.yielded (c.in-Some.key, c.in-Some.pair) c.loop-key.entries c.loop-key.invariant (sym c.in_default.is ∙ c.in_ok-entry.ensures)
