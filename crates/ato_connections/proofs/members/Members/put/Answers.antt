use Rattle.std.proofs.Common.{refl, ap, ◌∙◌}
use Rattle.indexmap.specs.IndexMap.{get_by}
use Rattle.ato_instance_tree.specs.Trees.{is_pin}
use Rattle.ato_elab.proofs.PinLemmas.{on_ok}
use Rattle.ato_connections.specs.Members.{is_key, held_name, held_pin}
use Rattle.ato_connections.proofs.MemberLemmas.{name_more, no_pin, on_all, pin_more}
use Rattle.ato_connections.proofs.members.Members.put.Goals as goal

pub returns-in-Pin : goal.returns-in-Pin
unfolding held_name held_pin
returns-in-Pin c = on_ok c.put_first.result c.put_first.ensures (λ put parent.
    pin_more c.args.self.now (record { named = c.args.self.now.named; pins = c.put_first.new.nodes; names = c.args.self.now.names }) c.args.number
    c.args.instance c.args.node.now
    c.as_bytes-text.result.now parent (c.as_bytes-text.ensures.value ∙ c.as_str.ensures) (ap is_pin c.in-Pin.is) (λ i t. refl) put refl (λ i. refl))

pub returns-in_ok-put_first-in_default : goal.returns-in_ok-put_first-in_default
unfolding held_name held_pin
returns-in_ok-put_first-in_default c = on_all c.put_name.result c.put_name.ensures.named c.put_name.ensures.pins c.put_name.ensures.count
    c.put_name.ensures.names
    (λ named pins count names parent.
    name_more c.args.self.now c.put_name.new.self c.args.number c.args.instance c.args.node.now
    c.as_bytes-text.result.now parent (c.as_bytes-text.ensures.value ∙ c.as_str.ensures) (no_pin c.args.node.now.kind c.in_default.not-Pin)
    (λ i t. ap (get_by (is_key i t)) named ∙ c.in_ok-put_first-in_default.ensures i t) (λ i t. ap (get_by (is_key i t)) pins) count names)
