use Rattle.std.proofs.Common.{[], ◌∷◌, refl, ap, ◌∙◌, map}
use Rattle.std.proofs.lemmas.List.{map-append}
use Rattle.ato_instance_tree.specs.declared.type_members.Member.TheVariants as member
use Rattle.ato_instance_tree.specs.Kept.{kind_of, member_of}
use Rattle.ato_instance_tree.specs.Seen.{has}
use Rattle.ato_instance_tree.proofs.ListingLaws.{name_new, name_old, not_held, is_held}
use Rattle.ato_instance_tree.proofs.listing.Listing.push_name.Goals as goal

pub returns-in_ok-push : goal.returns-in_ok-push
returns-in_ok-push c = λ ms is. name_new ms c.args.self.now _ is c.args.name (kind_of c.args.kind) c.in_ok-is_new.ensures.holds refl
    (not_held _ _ c.in_ok-is_new.ensures.new c.if-is_new.true)
    (ap (map member_of) c.in_ok-push.ensures.ok ∙ map-append member_of c.args.self.now.found (member.Named c.args.name c.args.kind ∷ []))

pub returns-else-is_new : goal.returns-else-is_new
returns-else-is_new c = λ ms is. name_old ms c.args.self.now _ is c.args.name (kind_of c.args.kind) c.in_ok-is_new.ensures.holds refl
    (is_held _ _ c.in_ok-is_new.ensures.new c.if-is_new.false) refl
