use Rattle.std.proofs.Common.{◌++◌, ap, ◌∙◌}
use Rattle.std.specs.Prelude.{codes}
use Rattle.std.specs.List.{flat_map}
use Rattle.std.specs.Fmt.{decimal}
use Rattle.ato_writers.specs.Netlists.{net_text, field, node_text}
use Rattle.ato_writers.proofs.NetlistLemmas.{pieces_5}
use Rattle.ato_writers.proofs.netlists.push_net.Goals as goal

pub returns : goal.returns
unfolding net_text
returns c = pieces_5 c.args.out.now.items (field (codes "    (net (code ") (decimal c.args.code)) (field (codes ") (name ") c.args.net.now.name)
    (codes ")\n") (flat_map (node_text c.args.comps.now) c.args.net.now.pins) (codes "    )\n") _ _ _ _ _
    (c.in_ok-push_field.ensures ∙ ap (λ t. c.args.out.now.items ++ field (codes "    (net (code ") t) (c.as_str.ensures.value ∙ c.in_ok-number.ensures.ok))
    (c.in_ok-push_field-2.ensures ∙ ap (λ t. c.push_field.new.out.items ++ field (codes ") (name ") t) c.as_str-2.ensures)
    c.in_ok-push.ensures
    (c.in_ok-push_nodes.ensures ∙ ap (λ t. c.push.new.out.items ++ flat_map (node_text c.args.comps.now) t) c.as_slice.ensures)
    c.in_ok-push-2.ensures
