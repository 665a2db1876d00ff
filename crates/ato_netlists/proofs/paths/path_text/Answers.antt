use Rattle.std.proofs.Common.{refl}
use Rattle.ato_netlists.proofs.NamingLaws.{text_more, text_whole}
use Rattle.ato_netlists.proofs.paths.path_text.Goals as goal

pub loop-at-preserved : goal.loop-at-preserved
loop-at-preserved c = text_more c.args.names.now c.as_slice-name-items.result.now c.loop-at.at (record { 0 = 0 }) _ c.loop-at.text c.push_name.new.into c.loop-at-test.true refl c.loop-at.invariant c.in_ok-push_name.ensures

pub returns : goal.returns
returns c = text_whole c.args.names.now c.args.nodes.now c.args.number c.in_ok-path.path c.as_slice-name-items.result.now c.loop-at.at c.loop-at.text c.as_slice-name-items.ensures c.in_ok-path.ensures
    c.loop-at-test.false c.loop-at.invariant
