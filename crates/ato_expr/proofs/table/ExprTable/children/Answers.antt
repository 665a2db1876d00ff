use Rattle.std.proofs.Common.{List, length, sym, ◌∙◌, ap, subst, ◌≤◌, ℕ}
use Rattle.std.specs.Prelude.{slice_get, slice_range, option_map, Some}
use Rattle.ato_expr.specs.declared.table.Node.{Node}
use Rattle.ato_expr.specs.Tables.{Entry}
use Rattle.ato_expr.proofs.StorageLaws.{within_at, entry_found, no_entry}
use Rattle.ato_expr.proofs.table.ExprTable.children.Goals as goal

pub range-requires-clause-order : goal.range-requires-clause-order
range-requires-clause-order c =
    let held = ap (λ (ns : List Node). slice_get ns c.args.node) (sym c.deref.ensures.value) ∙ sym c.in-Some.ensures in
    (within_at (length c.self.inside.children.items) c.self.inside.nodes.items c.args.node c.in-Some.found c.self.invariant.within held).0

pub range-requires-clause-end : goal.range-requires-clause-end
range-requires-clause-end c =
    let held = ap (λ (ns : List Node). slice_get ns c.args.node) (sym c.deref.ensures.value) ∙ sym c.in-Some.ensures in
    subst (λ (cs : List ℕ). c.in-Some.found.end ≤ length cs) (sym c.deref-in-Some.ensures.value)
    (within_at (length c.self.inside.children.items) c.self.inside.nodes.items c.args.node c.in-Some.found c.self.invariant.within held).1

pub returns-in-Some-clause-children : goal.returns-in-Some-clause-children
returns-in-Some-clause-children c =
    let held = ap (λ (ns : List Node). slice_get ns c.args.node) (sym c.deref.ensures.value) ∙ sym c.in-Some.ensures in
    let part = c.range.ensures ∙ ap (λ (cs : List ℕ). slice_range cs c.in-Some.found.first c.in-Some.found.end) c.deref-in-Some.ensures.value in
    ap Some part
    ∙ sym (ap (option_map (λ (e : Entry). e.children)) (entry_found c.self.inside.children.items c.self.inside.nodes.items c.args.self.now c.args.node c.in-Some.found c.self.view_is held))

pub returns-in-None-clause-children : goal.returns-in-None-clause-children
returns-in-None-clause-children c =
    let none = ap (λ (ns : List Node). slice_get ns c.args.node) (sym c.deref.ensures.value) ∙ sym c.in-None.ensures in
    sym (ap (option_map (λ (e : Entry). e.children)) (no_entry c.self.inside.children.items c.self.inside.nodes.items c.args.self.now c.args.node c.self.view_is none))
