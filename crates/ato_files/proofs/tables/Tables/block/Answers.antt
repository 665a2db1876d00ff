use Rattle.std.proofs.Common.{ap, sym, ◌∙◌}
use Rattle.std.specs.Option.{option_map}
use Rattle.ato_files.specs.Blocks.{BlockAt}
use Rattle.ato_files.proofs.PlaceLemmas.{here}
use Rattle.ato_files.proofs.tables.Tables.block.Goals as goal

pub returns : goal.returns
returns c =
    let read = c.in_ok-place.ensures.lookup in
    let there = here c.args.self.now.files.now c.args.self.now.places.now c.args.number c.in_ok-place.place.now c.requires.places read.3.0 read.1 in
    c.block_at.ensures ∙ there.there ∙ sym (ap (option_map (λ (b : BlockAt). b.block)) there.at)
