use Rattle.std.proofs.Common.{List, length, sym, ◌∙◌, ap, subst, ◌≤◌, ℕ}
use Rattle.std.specs.Prelude.{slice_range, Some}
use Rattle.ato_expr.specs.Tables.{Entry}
use Rattle.ato_expr.proofs.StorageLaws.{within_at, entry_found, node_read}
use Rattle.ato_expr.proofs.table.ExprTable.entry.Goals as goal

pub range-requires-clause-order : goal.range-requires-clause-order
range-requires-clause-order c =
    let held = node_read c.self.inside.children.items c.self.inside.nodes.items c.args.self.now c.args.node c.index-found.result.now c.self.view_is c.requires c.index-found.ensures in
    (within_at (length c.self.inside.children.items) c.self.inside.nodes.items c.args.node c.index-found.result.now c.self.invariant.within held).0

pub range-requires-clause-end : goal.range-requires-clause-end
range-requires-clause-end c =
    let held = node_read c.self.inside.children.items c.self.inside.nodes.items c.args.self.now c.args.node c.index-found.result.now c.self.view_is c.requires c.index-found.ensures in
    subst (λ (cs : List ℕ). c.index-found.result.now.end ≤ length cs) (sym c.deref.ensures.value)
    (within_at (length c.self.inside.children.items) c.self.inside.nodes.items c.args.node c.index-found.result.now c.self.invariant.within held).1

pub returns-clause-entry : goal.returns-clause-entry
returns-clause-entry c =
    let held = node_read c.self.inside.children.items c.self.inside.nodes.items c.args.self.now c.args.node c.index-found.result.now c.self.view_is c.requires c.index-found.ensures in
    let part = c.range.ensures ∙ ap (λ (cs : List ℕ). slice_range cs c.index-found.result.now.first c.index-found.result.now.end) c.deref.ensures.value in
    entry_found c.self.inside.children.items c.self.inside.nodes.items c.args.self.now c.args.node c.index-found.result.now c.self.view_is held
    ∙ ap (λ (cs : List ℕ). let e : Entry = record { op = c.index-found.result.now.op; children = cs } in Some e) (sym part)
