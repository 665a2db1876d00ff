use Rattle.std.proofs.Common.{ap, sym, ◌∙◌}
use Rattle.std.specs.Prelude.{slice_get, List}
use Rattle.ato_files.specs.declared.program.BlockInfo.{BlockInfo}
use Rattle.ato_elab.proofs.WayLemmas.{meant_at, meant_past}
use Rattle.ato_elab.proofs.ways.meant.Goals as goal

pub returns-in-Some : goal.returns-in-Some
returns-in-Some c = λ are means.
    let p = c.args.program.now in
    let at = ap (λ (bs : List BlockInfo). slice_get bs c.args.block) (sym c.as_slice.ensures) ∙ c.in-Some.ensures in
    c.meaning_in.ensures p.files means ∙ meant_at p.files p.blocks c.args.block c.args.name.0 c.in-Some.info.now are at

pub returns-in-None : goal.returns-in-None
returns-in-None c = λ are means.
    let p = c.args.program.now in
    let at = ap (λ (bs : List BlockInfo). slice_get bs c.args.block) (sym c.as_slice.ensures) ∙ c.in-None.ensures in
    meant_past p.files p.blocks c.args.block c.args.name.0 are at
