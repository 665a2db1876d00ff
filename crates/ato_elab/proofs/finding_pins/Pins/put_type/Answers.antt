use Rattle.std.proofs.Common.{nat_eq, List, map, ap, ◌&&◌, ◌||◌, ◌∙◌}
use Rattle.ato_instance_tree.specs.Kept.{member_of}
use Rattle.ato_instance_tree.specs.Members.{Member}
use Rattle.ato_instance_tree.specs.Paths.{has_pin}
use Rattle.ato_elab.specs.Pins.{holds}
use Rattle.ato_elab.proofs.PinLemmas.{members_of, on_ok}
use Rattle.ato_elab.proofs.finding_pins.Pins.put_type.Goals as goal

pub returns : goal.returns
returns c = on_ok c.put_members.result c.put_members.ensures (λ put blocks type text. put type text
    ∙ ap (λ (ms : List Member). (nat_eq type c.args.block && has_pin ms text) || holds c.args.self.now type text) (ap (map member_of) c.as_slice-3.ensures
    ∙ members_of c.args.program.now.files c.as_slice.result.now c.args.block c.in_ok-all.all c.as_slice-2.result.now c.in_ok-found.found c.as_slice.ensures c.as_slice-2.ensures
    (c.in_ok-all.ensures blocks) c.in_ok-found.ensures))
