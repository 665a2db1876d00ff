use Rattle.std.proofs.Common.{◌++◌, ap, ◌∙◌}
use Rattle.std.specs.Prelude.{codes}
use Rattle.std.specs.List.{flat_map}
use Rattle.ato_writers.specs.Netlists.{list_text, comp_text, nets_text}
use Rattle.ato_writers.proofs.NetlistLemmas.{pieces_5}
use Rattle.ato_writers.proofs.netlists.net_text.Goals as goal

pub returns : goal.returns
unfolding list_text
returns c = c.from_vec.ensures ∙ pieces_5 c.new-out.result.items (codes "(export (version \"ato-1\")\n  (components\n") (flat_map comp_text c.args.list.now.comps)
    (codes "  )\n  (nets\n") (nets_text c.args.list.now.comps 1 c.args.list.now.nets) (codes "  )\n)\n") _ _ _ _ _
    c.in_ok-push.ensures
    (c.in_ok-push_comps.ensures ∙ ap (λ t. c.push.new.out.items ++ flat_map comp_text t) c.as_slice.ensures)
    c.in_ok-push-2.ensures
    (c.in_ok-push_nets.ensures ∙ ap (λ t. c.push-2.new.out.items ++ nets_text t 1 c.as_slice-3.result.now) c.as_slice-2.ensures ∙ ap (λ t. c.push-2.new.out.items ++ nets_text c.args.list.now.comps 1 t) c.as_slice-3.ensures)
    c.in_ok-push-3.ensures ∙ ap (λ o. o ++ list_text c.args.list.now) c.new-out.ensures.items
