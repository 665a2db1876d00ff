use Rattle.std.proofs.Common.{reverse}
use Rattle.ato_elab.proofs.HereLaws.{size_here}
use Rattle.ato_elab.proofs.frames.Growth.count.Goals as goal

pub returns-in-None-clause-refused : goal.returns-in-None-clause-refused
returns-in-None-clause-refused c = λ entry at led fresh holds.
    size_here c.args.given.now entry (reverse c.args.around.now) c.args.frame.now c.args.name c.args.self.now at c.args.lead.now led c.args.content.now c.fault.result fresh holds c.in-None.ensures c.fault.ensures
