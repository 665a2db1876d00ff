use Rattle.std.proofs.Common.{[], ◌∷◌, refl, ap, ◌∙◌, map}
use Rattle.std.proofs.lemmas.List.{map-append}
use Rattle.ato_instance_tree.specs.declared.type_members.Member.TheVariants as member
use Rattle.ato_instance_tree.specs.Kept.{member_of}
use Rattle.ato_instance_tree.proofs.ListingLaws.{pin_new, pin_old, not_held, is_held}
use Rattle.ato_instance_tree.proofs.listing.Listing.push_pin.Goals as goal

pub returns-in_ok-push : goal.returns-in_ok-push
returns-in_ok-push c = λ ms is. pin_new ms c.args.self.now _ is c.args.text.now c.in_ok-is_new.ensures.holds refl
    (not_held _ _ c.in_ok-is_new.ensures.new c.if-is_new.true)
    (ap (map member_of) c.in_ok-push.ensures.ok ∙ map-append member_of c.args.self.now.found (member.Pin c.args.text ∷ []))

pub returns-else-is_new : goal.returns-else-is_new
returns-else-is_new c = λ ms is. pin_old ms c.args.self.now _ is c.args.text.now c.in_ok-is_new.ensures.holds refl
    (is_held _ _ c.in_ok-is_new.ensures.new c.if-is_new.false) refl
