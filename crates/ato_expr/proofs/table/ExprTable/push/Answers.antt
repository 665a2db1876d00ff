use Rattle.std.proofs.Common.{rules}
use Rattle.ato_expr.proofs.StorageLaws.{stored_pushed, table_is}
use Rattle.ato_expr.proofs.table.ExprTable.push.Goals as goal

pub invariant_of-self-in_default : goal.invariant_of-self-in_default
invariant_of-self-in_default c =
    stored_pushed c.self.inside.children.items c.extend_from_slice.new.self.items c.args.children.now c.self.inside.nodes.items c.push.new.self.items c.args.self.now _
    c.self.invariant c.self.view_is c.in_ok-extend_from_slice.ensures.items c.in_default.ensures.items (search rules) (search rules)
    c.requires.nodes c.requires.fits c.requires.room

pub returns-clause-table : goal.returns-clause-table
returns-clause-table c =
    table_is c.self.inside.children.items c.extend_from_slice.new.self.items c.args.children.now c.self.inside.nodes.items c.push.new.self.items c.args.self.now _
    c.self.invariant c.self.view_is c.in_ok-extend_from_slice.ensures.items c.in_default.ensures.items (search rules) (search rules)
