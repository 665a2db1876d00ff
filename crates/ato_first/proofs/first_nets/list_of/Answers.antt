use Rattle.std.proofs.Common.{◌<◌, ◌+◌, ◌∙◌, ap, sym, subst, arith, length, map}
use Rattle.std.specs.Prelude.{All}
use Rattle.ato_base.specs.Classes.{Classes}
use Rattle.ato_nets.specs.Distinct.{distinct}
use Rattle.ato_first.specs.FirstPoints.{signal_names, pin_labels, lines_points}
use Rattle.ato_first.specs.FirstJoins.{lines_joins}
use Rattle.ato_nets.specs.Groups.{SameClass, numbers_below}
use Rattle.ato_first.specs.FirstGroups.{group_net}
use Rattle.ato_nets.proofs.ClassNumberLaws.{classes_within}
use Rattle.ato_first.proofs.FirstListLemmas.{joins_fit, groups_fit, list_made, comp_told}
use Rattle.ato_first.proofs.FirstNetLaws.{shares_exactly}
use Rattle.ato_first.proofs.first_nets.list_of.Goals as goal

pub class_numbers-requires : goal.class_numbers-requires
class_numbers-requires c =
    joins_fit c.args.block.now c.requires.known c.in_ok-points.points
    (c.in_ok-points.ensures.signals ∙ ap (λ l. distinct (signal_names (lines_points l))) c.as_slice-lines.ensures)
    (c.in_ok-points.ensures.pins ∙ ap (λ l. distinct (pin_labels (lines_points l))) c.as_slice-lines.ensures)
    c.deref.result.now (c.len-signals.result + c.len-pins.result)
    (c.deref.ensures.value ∙ c.in_ok-joins.ensures ∙ ap (lines_joins c.in_ok-points.points) c.as_slice-lines.ensures)
    (omega (arith, c.len-signals.ensures.len, c.len-pins.ensures.len))

pub groups_of-requires-clause-numbers : goal.groups_of-requires-clause-numbers
groups_of-requires-clause-numbers c =
    subst (λ l. All (λ n. n < length l) l) (sym c.deref-2.ensures.value) (λ k d h. omega (arith, classes_within c.in_ok-of.ensures k d h, c.in_ok-of.ensures.size))

pub nets_of-requires-clause-pins : goal.nets_of-requires-clause-pins
nets_of-requires-clause-pins c =
    subst (All (λ group. All (λ pin. pin < length c.in_ok-points.points.pins) group)) (sym c.as_slice.ensures)
    (groups_fit c.args.block.now c.requires.known c.in_ok-points.points
    (c.in_ok-points.ensures.signals ∙ ap (λ l. distinct (signal_names (lines_points l))) c.as_slice-lines.ensures)
    (c.in_ok-points.ensures.pins ∙ ap (λ l. distinct (pin_labels (lines_points l))) c.as_slice-lines.ensures)
    c.deref-2.result.now c.len-signals.result c.len-pins.result c.in_ok-groups.groups c.len-pins.ensures.len c.in_ok-groups.ensures)

pub returns-clause-list : goal.returns-clause-list
returns-clause-list c =
    list_made c.args.block.now c.requires.known c.in_ok-points.points
    (c.in_ok-points.ensures.signals ∙ ap (λ l. distinct (signal_names (lines_points l))) c.as_slice-lines.ensures)
    (c.in_ok-points.ensures.pins ∙ ap (λ l. distinct (pin_labels (lines_points l))) c.as_slice-lines.ensures)
    c.deref.result.now (c.len-signals.result + c.len-pins.result) c.in_ok-of.of.items c.len-signals.result c.len-pins.result c.in_ok-groups.groups
    c.args.value.now _
    (record { comps = c.in_ok-comps_of.field-0; nets = c.in_ok-nets_of.field-0 })
    (c.deref.ensures.value ∙ c.in_ok-joins.ensures ∙ ap (lines_joins c.in_ok-points.points) c.as_slice-lines.ensures)
    (omega (arith, c.len-signals.ensures.len, c.len-pins.ensures.len))
    c.in_ok-of.ensures c.len-signals.ensures.len c.len-pins.ensures.len
    (subst (λ of. Classes (SameClass of c.len-signals.result) (numbers_below c.len-pins.result) c.in_ok-groups.groups) c.deref-2.ensures.value c.in_ok-groups.ensures)
    (c.is_comp.ensures ∙ comp_told c.args.block.now c.args.slots c.len-pins.result c.in_ok-points.points c.requires.slots c.len-pins.ensures.len
    (c.in_ok-points.ensures.pins ∙ ap (λ l. distinct (pin_labels (lines_points l))) c.as_slice-lines.ensures))
    c.in_ok-comps_of.ensures
    (c.in_ok-nets_of.ensures ∙ ap (λ of. map (group_net c.in_ok-points.points of) c.as_slice.result.now) c.deref-3.ensures.value ∙ ap (map (group_net c.in_ok-points.points c.in_ok-of.of.items)) c.as_slice.ensures)

pub returns-clause-shares : goal.returns-clause-shares
returns-clause-shares c = shares_exactly c.args.block.now c.args.value.now (record { comps = c.in_ok-comps_of.field-0; nets = c.in_ok-nets_of.field-0 }) (returns-clause-list c)
