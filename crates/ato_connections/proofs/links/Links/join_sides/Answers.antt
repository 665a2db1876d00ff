use Rattle.ato_connections.proofs.LinkingLaws.{two_points, two_quantities, two_instances, two_apart, apart_point, apart_quantity, apart_inside, apart_nothing, where_ok, where_both}
use Rattle.std.proofs.Common.{refl}
use Rattle.ato_connections.proofs.links.Links.join_sides.Goals as goal
use Rattle.ato_connections.proofs.links.Links.join_sides.Goals.{in_default-via-in-Point+in_default, in_default-via-in-Quantity+in_default, in_default-via-in-Inside+in_default, in_default-via-in_default}

pub returns-in-Point-Point : goal.returns-in-Point-Point
returns-in-Point-Point c = where_both c.join.result
    (two_points c.args.self.now c.join.new.self c.args.below.now c.args.one c.args.other _ _ c.in-Point-Point.is-0 c.in-Point-Point.is-1)
    c.join.ensures.joins c.join.ensures.clash

pub returns-in-Quantity-Quantity : goal.returns-in-Quantity-Quantity
returns-in-Quantity-Quantity c = where_both c.join-in-Quantity-Quantity.result
    (two_quantities c.args.self.now c.join-in-Quantity-Quantity.new.self c.args.below.now c.args.one c.args.other _ _
    c.in-Quantity-Quantity.is-0 c.in-Quantity-Quantity.is-1)
    c.join-in-Quantity-Quantity.ensures.joins c.join-in-Quantity-Quantity.ensures.clash

pub returns-in-Inside-Inside : goal.returns-in-Inside-Inside
returns-in-Inside-Inside c = where_ok c.push.result
    (two_instances c.args.self.now c.args.below.now c.push.new.self c.args.one c.args.other _ _ c.in-Inside-Inside.is-0 c.in-Inside-Inside.is-1)
    c.push.ensures.ok

pub returns-in_default : goal.returns-in_default
returns-in_default c = two_apart c.args.self.now _ c.args.below.now c.args.one c.args.other (elim c.in_default.branch [
  | in_default-via-in-Point+in_default w ↦ apart_point c.args.one c.args.other _ w.in_default.is-0 w.in_default.not-Point-1
  | in_default-via-in-Quantity+in_default w ↦ apart_quantity c.args.one c.args.other _ w.in_default.is-0 w.in_default.not-Quantity-1
  | in_default-via-in-Inside+in_default w ↦ apart_inside c.args.one c.args.other _ w.in_default.is-0 w.in_default.not-Inside-1
  | in_default-via-in_default w ↦ apart_nothing c.args.one c.args.other w.in_default.is-0
])
    refl refl
