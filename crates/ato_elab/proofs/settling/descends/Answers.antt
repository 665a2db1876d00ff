use Rattle.std.proofs.Common.{ap, sym, ◌∙◌, subst}
use Rattle.std.specs.Prelude.{◌==◌, ◌≡◌, None, Some, slice_get, List}
use Rattle.std.specs.List.{list_any}
use Rattle.ato_files.specs.declared.program.BlockInfo.{BlockInfo}
use Rattle.ato_elab.proofs.SettleLemmas.{kept_lineage, lone_descends}
use Rattle.ato_elab.proofs.settling.descends.Goals as goal

pub returns-in-Some : goal.returns-in-Some
returns-in-Some c = λ are.
    let p = c.args.program.now in
    let at = ap (λ (bs : List BlockInfo). slice_get bs c.args.block) (sym c.as_slice.ensures) ∙ c.in-Some.ensures in
    c.among.ensures ∙ ap (list_any (λ b. b == c.args.other)) (c.as_slice-in-Some.ensures ∙ sym (kept_lineage p.files p.blocks c.args.block c.in-Some.info.now are at))

pub returns-in-None : goal.returns-in-None
returns-in-None c = λ are.
    let p = c.args.program.now in
    let at = ap (λ (bs : List BlockInfo). slice_get bs c.args.block) (sym c.as_slice.ensures) ∙ c.in-None.ensures in
    lone_descends p.files p.blocks c.args.block c.args.other are at
