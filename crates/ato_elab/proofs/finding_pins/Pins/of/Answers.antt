use Rattle.std.proofs.Common.{Bool, Some, ◌&&◌, ◌∙◌, ◌<◌, ap, arith}
use Rattle.std.proofs.lemmas.Option.{slice_get_within}
use Rattle.ato_instance_tree.specs.Members.{members}
use Rattle.ato_instance_tree.specs.Paths.{has_pin}
use Rattle.ato_elab.specs.Pins.{is_met}
use Rattle.ato_elab.proofs.PinLemmas.{node_more}
use Rattle.ato_elab.proofs.finding_pins.Pins.of.Goals as goal

pub loop-node-preserved : goal.loop-node-preserved
loop-node-preserved c = record {
  held = λ blocks. c.in_ok-meet_node.ensures.held blocks (c.loop-node.invariant.held blocks);
  met = λ number type n less at is. node_more c.args.nodes.now c.loop-node.node-index c.node-item.result number type n (is_met c.loop-node.gathering type) (is_met c.meet_node.new.self type)
      c.loop-node-test.true c.node-item.is (c.in_ok-meet_node.ensures.met type) (λ before. c.loop-node.invariant.met number type n before at is) less at is;
}

pub returns : goal.returns
returns c = λ blocks. record {
  each = λ number type n text at is.
      let within = slice_get_within c.args.nodes.now number n at in
      let past = c.loop-node-test.false in
      let less : number < c.loop-node.node-index = omega arith in
      c.loop-node.invariant.held blocks type text
      ∙ ap (λ (met : Bool). met && has_pin (members c.args.program.now.files (Some type)) text) (c.loop-node.invariant.met number type n less at is);
}
