use Rattle.ato_base.proofs.NameTableLaws.{number_after, held_after}
use Rattle.std.proofs.Common.{arith}
use Rattle.ato_first.proofs.writing.push_name.Goals as goal

pub returns-clause-pushed : goal.returns-clause-pushed
returns-clause-pushed c =
    let number = number_after c.args.names.now c.intern.new.self c.args.name.now c.in_ok-number.number.0 c.in_ok-number.ensures.table c.in_ok-number.ensures.number in
    grind (arith, number)

pub returns-clause-held : goal.returns-clause-held
returns-clause-held c =
    let held = held_after c.args.names.now c.intern.new.self c.args.name.now c.in_ok-number.ensures.table in
    grind (arith, held)
