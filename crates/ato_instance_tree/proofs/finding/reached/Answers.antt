use Rattle.std.proofs.Common.{sym, ◌∙◌}
use Rattle.ato_instance_tree.proofs.LedLaws.{if_within, led_from_within, pinned_within}
use Rattle.ato_instance_tree.proofs.finding.reached.Goals as goal

pub returns-clause-within : goal.returns-clause-within
returns-clause-within c = λ most few h. if_within most c.pinned.result
    (λ end e. pinned_within c.args.nodes.now most few c.as_slice-2.result.now c.args.path.now.pin c.in_ok-at.at end
    (led_from_within c.args.program.now.names c.args.nodes.now most few c.as_slice.result.now c.args.from c.in_ok-at.at h (sym c.in_ok-at.ensures))
    (sym c.pinned.ensures ∙ e))
