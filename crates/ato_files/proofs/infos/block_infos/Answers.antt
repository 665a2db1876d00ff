use Rattle.std.proofs.Common.{◌≡◌, ◌<◌, ◌+◌, None, sym, ap, ◌∙◌, subst, length, get_or, arith}
use Rattle.std.proofs.lemmas.List.{nil_from_length}
use Rattle.ato_files.specs.Infos.{info_of}
use Rattle.ato_files.proofs.InfoLemmas.{AreInfos, no_place, infos_more, taken_last, some_left, are_blocks}
use Rattle.ato_files.proofs.infos.block_infos.Goals.{in-Some+in_ok-push, in_default}
use Rattle.ato_files.proofs.infos.block_infos.Goals as goal

pub loop-place-preserved : goal.loop-place-preserved
loop-place-preserved c =
    let long : c.loop-place.place-index < length c.args.lineages = (let h = c.loop-place-test.true in let e = c.requires in omega arith) in
    elim c.match-pop.branch [
      | in-Some+in_ok-push w ↦ (
          let last = taken_last c.args.lineages c.loop-place.rest.items c.pop.new.self.items c.loop-place.place-index w.in-Some.lineage None long c.loop-place.invariant.rest w.in-Some.ensures.items in
          record {
            rest = last.0;
            blocks = subst (AreInfos c.args.places.now c.args.lineages (c.loop-place.place-index + 1)) (sym (w.blocks-is ∙ w.in_ok-push.ensures.ok))
                (infos_more c.args.places.now c.args.lineages c.loop-place.place-index c.loop-place.blocks w.block_info.result c.loop-place.invariant.blocks
                (w.block_info.ensures ∙ ap (info_of (get_or c.args.places.now c.loop-place.place-index no_place)) last.1));
          })
      | in_default w ↦ absurd (some_left c.args.lineages c.loop-place.rest.items c.loop-place.place-index None long c.loop-place.invariant.rest
          (nil_from_length c.loop-place.rest.items (let n = w.in_default.ensures.cases.0 in let k = c.loop-place.rest.ok.0 in omega arith)))
    ]

pub returns : goal.returns
returns c = λ files ending.
    let whole : c.loop-place.place-index ≡ length c.args.places.now = omega arith in
    are_blocks files c.args.places.now c.args.lineages ending c.loop-place.blocks (subst (λ n. AreInfos c.args.places.now c.args.lineages n c.loop-place.blocks) whole c.loop-place.invariant.blocks)
