use Rattle.std.proofs.Common.{◌≡◌, List, Some, sym, ap, ◌∙◌}
use Rattle.std.specs.Prelude.{slice_get}
use Rattle.ato_files.specs.declared.program.BlockInfo.{BlockInfo}
use Rattle.ato_files.proofs.LineageLaws.{ends_exactly}
use Rattle.ato_instance_tree.proofs.LineageWords.{not_there}
use Rattle.ato_instance_tree.proofs.type_stmts.lineage_of.Goals as goal

pub returns-in-None : goal.returns-in-None
returns-in-None c = λ are. not_there c.args.program.now.files c.args.program.now.blocks c.args.block are
    (sym (c.in-None.ensures ∙ ap (λ (bs : List BlockInfo). slice_get bs c.args.block) c.as_slice.ensures))

pub returns-in-Some : goal.returns-in-Some
returns-in-Some c = λ are.
    let info = c.in-Some.info.now in
    let kept : slice_get c.args.program.now.blocks c.args.block ≡ Some info = sym (c.in-Some.ensures ∙ ap (λ (bs : List BlockInfo). slice_get bs c.args.block) c.as_slice.ensures) in
    c.kept_lineage.ensures ∙ sym (((ends_exactly c.args.program.now.files c.args.block).has_one (are.each c.args.block info kept).lineage).1)
