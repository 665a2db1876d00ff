use Rattle.std.proofs.Common.{◌++◌, ◌∷◌, [], ap, ◌∙◌}
use Rattle.std.proofs.lemmas.Slice.Zip.{Zip-more, either_empty_from_Zip}
use Rattle.std.specs.Slice.Iter.{iter_rest}
use Rattle.std.specs.Iterator.Adapters.{zip_first, zip_second}
use Rattle.ato_netlists.specs.Comps.{comps_by}
use Rattle.ato_netlists.proofs.CompLaws.{comps_more, comps_end}
use Rattle.ato_netlists.proofs.comps.comps.Goals as goal

pub loop-part-preserved : goal.loop-part-preserved
loop-part-preserved c =
    let s = c.loop-part.part-iterator in
    let t = c.next.new.self in
    let z = Zip-more s t c.next.result (c.in-Some.part, c.in-Some.row) c.in-Some.is c.next.ensures.steps in
    comps_more c.loop-part.found c.push.new.self (iter_rest (zip_first s)) (iter_rest (zip_first t)) (iter_rest (zip_second s)) (iter_rest (zip_second t))
    c.in-Some.part.now c.in-Some.row.now (comps_by c.args.parts.now c.args.rows.now) z.0 z.1
    (c.in_ok-push.ensures.ok ∙ ap (λ x. c.loop-part.found ++ x ∷ []) c.in_ok-comp.ensures) c.loop-part.invariant

pub returns : goal.returns
returns c =
    let s = c.loop-part.part-iterator in
    comps_end c.loop-part.found (iter_rest (zip_first s)) (iter_rest (zip_second s)) (comps_by c.args.parts.now c.args.rows.now)
    (either_empty_from_Zip s c.next.new.self c.next.result c.in-None.is c.next.ensures.steps) c.loop-part.invariant
