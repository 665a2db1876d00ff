use Rattle.std.proofs.Common.{◌≤◌, sym, ap, ◌∙◌, subst, length, arith}
use Rattle.std.proofs.lemmas.Option.{none-some}
use Rattle.ato_files.specs.NameMaps.{AreFirst}
use Rattle.ato_files.proofs.PlaceLemmas.{here_read, length_places}
use Rattle.ato_files.proofs.OwnLemmas.{first_pairs, all_pairs, pairs_more}
use Rattle.ato_files.proofs.own_names.own_blocks.Goals.{in-Some+in_ok-put, in_default}
use Rattle.ato_files.proofs.own_names.own_blocks.Goals as goal

pub loop-number-preserved : goal.loop-number-preserved
loop-number-preserved c =
    let there = here_read c.args.files.now c.args.places.now c.loop-number.number (record { file = 0; item = 0 }) c.requires.places c.loop-number-test.true in
    elim c.match-block_at.branch [
      | in-Some+in_ok-put w ↦
          subst (λ pairs. AreFirst pairs c.match-block_at.own) (sym (pairs_more c.args.files.now c.loop-number.number _ w.in-Some.block.now there (sym w.in-Some.ensures)))
          (subst (AreFirst _) (sym w.own-is) (w.in_ok-put.ensures (first_pairs c.args.files.now c.loop-number.number) c.loop-number.invariant))
      | in_default w ↦ absurd (none-some there.b.block (w.in_default.ensures ∙ there.there))
    ]

pub returns : goal.returns
returns c =
    let past : length c.args.places.now ≤ c.loop-number.number = omega arith in
    let long = ap length c.requires.places ∙ length_places c.args.files.now in
    subst (λ pairs. AreFirst pairs c.loop-number.own) (all_pairs c.args.files.now c.loop-number.number (omega arith)) c.loop-number.invariant
