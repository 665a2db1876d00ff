use Rattle.std.proofs.Common.{◌∷◌, ◌∙◌, length, reverse, sym}
use Rattle.ato_files.specs.Blocks.{blocks_of}
use Rattle.ato_elab.specs.Building.{types_of}
use Rattle.ato_elab.proofs.HereLaws.{nest_here}
use Rattle.ato_elab.proofs.frames.Growth.check_new.Goals as goal

pub returns-then-marked-clause-refused : goal.returns-then-marked-clause-refused
returns-then-marked-clause-refused c = λ entry at led.
    let fs = reverse c.args.around.now in
    let told = c.in-Some.ensures (length (blocks_of c.args.given.now.program.now.files)) (types_of (c.args.frame.now ∷ fs)) at.building.is.marked in
    nest_here c.args.given.now entry fs c.args.frame.now c.args.name c.args.self.now at c.args.lead.now led c.fault.result (sym told.0 ∙ c.if-marked.true) c.fault.ensures

pub returns-else-marked-clause-free : goal.returns-else-marked-clause-free
returns-else-marked-clause-free c = λ entry at.
    let told = c.in-Some.ensures (length (blocks_of c.args.given.now.program.now.files)) (types_of (c.args.frame.now ∷ reverse c.args.around.now)) at.building.is.marked in
    record { below = told.1; free = sym told.0 ∙ c.if-marked.false }
