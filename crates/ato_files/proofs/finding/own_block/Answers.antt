use Rattle.std.proofs.Common.{◌≡◌, ◌-◌, ℕ, List, Some, refl, sym, ap, ◌∙◌, length, arith}
use Rattle.std.specs.Prelude.{slice_get}
use Rattle.std.proofs.lemmas.Option.{slice_get_read}
use Rattle.ato_files.specs.Finding.{is_named}
use Rattle.ato_files.proofs.PositionLemmas.{none_more}
use Rattle.ato_files.proofs.FindingLemmas.{last_number, own_first, own_none}
use Rattle.ato_files.proofs.finding.own_block.Goals.{After-is_named}
use Rattle.ato_files.proofs.finding.own_block.Goals as goal

read : (c : After-is_named) → slice_get c.args.blocks.now c.loop-info.info-index ≡ Some c.info-item.result
read c = slice_get_read c.args.blocks.now (length c.args.blocks.now) c.loop-info.info-index c.info-item.result refl c.loop-info-test.true c.info-item.is

pub returns-then-is_named : goal.returns-then-is_named
returns-then-is_named c = λ are.
    let at = read (goal.at.returns-then-is_named c).After-is_named in
    c.copied.ensures ∙ c.last.ensures.value ∙ ap (λ (xs : List ℕ). slice_get xs (length xs - 1)) c.as_slice.ensures
    ∙ last_number c.args.files.now c.loop-info.info-index c.info-item.result.lineage (are.each c.loop-info.info-index c.info-item.result at).lineage
    ∙ sym (own_first c.args.files.now c.args.blocks.now are c.args.file c.args.name.0 c.loop-info.info-index c.info-item.result at (sym c.if-is_named.ensures) c.loop-info.invariant)

pub loop-info-preserved : goal.loop-info-preserved
loop-info-preserved c =
    none_more (is_named c.args.files.now c.args.file c.args.name.0) c.args.blocks.now c.loop-info.info-index c.info-item.result (read (goal.at.loop-info-preserved c).After-is_named)
    (sym c.if-is_named.ensures) c.loop-info.invariant

pub returns : goal.returns
returns c = λ are. sym (own_none c.args.files.now c.args.blocks.now are c.args.file c.args.name.0 (λ k i h e. c.loop-info.invariant k i (omega arith) e))
