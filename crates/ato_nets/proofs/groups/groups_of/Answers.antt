use Rattle.std.proofs.Common.{◌≡◌, sym, subst, length, add-one, [], arith, refl, ◌+◌, replicate, rules}
use Rattle.ato_nets.proofs.GroupLemmas.{Grouped, none_grouped, one_grouped}
use Rattle.ato_nets.proofs.groups.groups_of.Goals as goal

pub loop-point-init : goal.loop-point-init
loop-point-init c =
    let zeros : c.in_ok-places.places.items ≡ replicate (length c.args.of.now) 0 = search rules in
    subst (λ groups. Grouped c.args.of.now c.args.first 0 groups c.in_ok-places.places.items) (sym c.new-groups.ensures)
    (subst (λ places. Grouped c.args.of.now c.args.first 0 [] places) (sym zeros) (none_grouped c.args.of.now c.args.first (length c.args.of.now) refl))

pub loop-point-preserved : goal.loop-point-preserved
loop-point-preserved c = subst (λ n. Grouped c.args.of.now c.args.first n c.place_point.new.groups c.place_point.new.places.items) (sym (add-one c.loop-point.point))
    (one_grouped c.args.of.now c.args.first c.loop-point.point c.loop-point.groups c.loop-point.places.items c.place_point.new.groups c.place_point.new.places.items
    c.loop-point.invariant (c.requires.numbers (c.args.first + c.loop-point.point) 0 (omega arith)) c.in_ok-place_point.ensures.new c.in_ok-place_point.ensures.old)
