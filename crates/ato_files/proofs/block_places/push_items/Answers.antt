use Rattle.std.proofs.Common.{ℕ}
use Rattle.std.specs.Prelude.{map}
use Rattle.ato_ast.specs.declared.blocks.Item.{Item}
use Rattle.ato_files.specs.Blocks.{item_block}
use Rattle.ato_files.specs.BlockPlaces.{place_of}
use Rattle.ato_files.proofs.NumberedLemmas.{flat_numbered_read}
use Rattle.ato_files.proofs.block_places.push_items.Goals as goal

pub loop-number-preserved : goal.loop-number-preserved
loop-number-preserved c =
    flat_numbered_read (λ (i : ℕ × Item). map place_of (item_block c.args.file i.0 i.1)) c.args.items.now c.loop-number.number c.index-items-number.result
    c.args.places.now c.loop-number.places c.push_item.new.places c.loop-number-test.true c.index-items-number.is c.loop-number.invariant c.in_ok-push_item.ensures
