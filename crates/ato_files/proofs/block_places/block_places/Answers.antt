use Rattle.std.proofs.Common.{ℕ, [], ap, ◌∙◌, ◌++◌, ◌≡◌, length, arith}
use Rattle.std.proofs.lemmas.List.{take_all}
use Rattle.ato_files.specs.declared.program.SourceFile.{SourceFile}
use Rattle.ato_files.specs.Lists.{numbered}
use Rattle.ato_files.specs.BlockPlaces.{file_places, item_places, places_of}
use Rattle.ato_files.proofs.NumberedLemmas.{flat_numbered_read}
use Rattle.ato_files.proofs.PlaceLemmas.{all_places, length_places}
use Rattle.ato_files.proofs.block_places.block_places.Goals.{After-loop-number}
use Rattle.ato_files.proofs.block_places.block_places.Goals as goal

pub loop-number-preserved : goal.loop-number-preserved
loop-number-preserved c =
    flat_numbered_read (λ (f : ℕ × SourceFile). item_places f.0 (numbered 0 f.1.tree.items)) c.args.files.now c.loop-number.number c.index-files-number.result
    [] c.loop-number.places c.push_items.new.places c.loop-number-test.true c.index-files-number.is c.loop-number.invariant
    (c.in_ok-push_items.ensures ∙ ap (λ items. c.loop-number.places ++ item_places c.loop-number.number (numbered 0 items)) c.as_slice.ensures)

pub returns-clause-places : goal.returns-clause-places
returns-clause-places c =
    c.loop-number.invariant ∙ ap (λ files. file_places (numbered 0 files)) (take_all c.loop-number.number c.args.files.now (omega arith)) ∙ all_places c.args.files.now

pub returns-clause-small : goal.returns-clause-small
returns-clause-small c =
    let same : c.loop-number.places ≡ places_of c.args.files.now = c.loop-number.invariant ∙ ap (λ files. file_places (numbered 0 files)) (take_all c.loop-number.number c.args.files.now (omega arith)) ∙ all_places c.args.files.now in
    let long = ap length same ∙ length_places c.args.files.now in
    omega (arith, long, c.len.ensures)
