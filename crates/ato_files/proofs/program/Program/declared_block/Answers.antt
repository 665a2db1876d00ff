use Rattle.std.proofs.Common.{◌≡◌, List, Some, sym, ap, ◌∙◌}
use Rattle.std.specs.Prelude.{slice_get}
use Rattle.ato_files.specs.declared.program.SourceFile.{SourceFile}
use Rattle.ato_files.specs.declared.program.BlockInfo.{BlockInfo}
use Rattle.ato_files.specs.BlockPlaces.{block_at}
use Rattle.ato_files.specs.Programs.{AreBlocks}
use Rattle.ato_files.proofs.FindingLemmas.{kept_block}
use Rattle.ato_files.proofs.program.Program.declared_block.Goals as goal

pub returns : goal.returns
returns c = λ are.
    let info = c.in_ok-info.info.now in
    let kept : slice_get c.args.self.now.blocks c.args.number ≡ Some info = sym (c.in_ok-info.ensures ∙ ap (λ (bs : List BlockInfo). slice_get bs c.args.number) c.as_slice.ensures) in
    c.block_at.ensures ∙ ap (λ (fs : List SourceFile). block_at fs (record { file = info.file.0; item = info.item })) c.as_slice-2.ensures
    ∙ kept_block c.args.self.now.files c.args.self.now.blocks c.args.number info are kept
