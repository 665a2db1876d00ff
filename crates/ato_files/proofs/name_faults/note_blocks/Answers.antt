use Rattle.std.proofs.Common.{ℕ, ◌<◌, ap, length, arith, ◌∙◌}
use Rattle.ato_files.specs.Blocks.{BlockAt, blocks_of}
use Rattle.ato_files.specs.NameFaults.{block_faults}
use Rattle.ato_files.proofs.BlockFaultLaws.{block_step}
use Rattle.ato_files.proofs.PlaceLemmas.{length_places}
use Rattle.ato_files.proofs.name_faults.note_blocks.Goals as goal

pub loop-number-preserved : goal.loop-number-preserved
loop-number-preserved c =
    let files = c.args.tables.now.files.now in
    let long = ap length c.requires.places ∙ length_places files in
    let within : c.loop-number.number < length (blocks_of files) = omega arith in
    block_step (λ (b : ℕ × BlockAt). block_faults files b.0 b.1) c.args.least.now c.loop-number.least c.note_number.new.least (blocks_of files) c.loop-number.number within
    c.loop-number.invariant c.in_ok-note_number.ensures
