use Rattle.std.proofs.Common.{◌∷◌, List, ap, reverse, subst, sym}
use Rattle.ato_files.specs.Members.{param, signal}
use Rattle.ato_instance_tree.specs.declared.type_members.Kind.TheVariants as kind
use Rattle.ato_elab.specs.declared.frames.Frame.{Frame}
use Rattle.ato_elab.specs.Building.{IsBuilding}
use Rattle.ato_elab.proofs.TurnLemmas.{here_instance, here_leaf}
use Rattle.ato_elab.proofs.frames.Growth.put_member.Goals as goal

pub returns-in-Err-clause-refused : goal.returns-in-Err-clause-refused
returns-in-Err-clause-refused c = λ entry here was.
    let f = c.args.frame in
    let g = c.args.self.now in
    let given = c.args.given.now in
    let at = subst (λ (fs : List Frame). IsBuilding given entry (f ∷ reverse fs) g) (sym c.as_slice.ensures.value) was in
    c.in-Err.ensures.refused entry (here_instance given entry (reverse c.as_slice.result.now) f g c.args.member c.in-Named.name c.in-Instance.field-0 c.in-Named.kind c.in-Named.is c.in-Instance.is here at)

pub returns-in_ok-push_next-in-Signal-clause-put : goal.returns-in_ok-push_next-in-Signal-clause-put
returns-in_ok-push_next-in-Signal-clause-put c = λ entry here was.
    subst (λ (fs : List Frame). IsBuilding c.args.given.now entry fs c.put_named.new.self) (sym c.in_ok-push_next-in-Signal.ensures)
    (c.in_ok-put_named-in-Signal.ensures entry (reverse c.args.around.now.items) signal tt
    (here_leaf c.args.frame c.args.member c.in-Named.name c.in-Named.kind kind.Signal c.in-Named.is c.in-Signal.is here) was)

pub returns-in_ok-push_next-in-Param-clause-put : goal.returns-in_ok-push_next-in-Param-clause-put
returns-in_ok-push_next-in-Param-clause-put c = λ entry here was.
    subst (λ (fs : List Frame). IsBuilding c.args.given.now entry fs c.put_named-in-Param.new.self) (sym c.in_ok-push_next-in-Param.ensures)
    (c.in_ok-put_named-in-Param.ensures entry (reverse c.args.around.now.items) param tt
    (here_leaf c.args.frame c.args.member c.in-Named.name c.in-Named.kind kind.Param c.in-Named.is c.in-Param.is here) was)
