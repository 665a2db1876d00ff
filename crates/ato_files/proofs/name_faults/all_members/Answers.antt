use Rattle.std.proofs.Common.{[], ◌∷◌, ◌++◌, ap, ◌∙◌}
use Rattle.std.proofs.lemmas.Option.{none-some, same_Some}
use Rattle.ato_files.specs.MemberLists.{members_in}
use Rattle.ato_files.proofs.BlockFaultLaws.{members_more}
use Rattle.ato_files.proofs.PlaceLemmas.{here_read}
use Rattle.ato_files.proofs.name_faults.all_members.Goals.{in-Some+in_ok-members_of+in_ok-push, in_default}
use Rattle.ato_files.proofs.name_faults.all_members.Goals as goal

pub loop-place-preserved : goal.loop-place-preserved
loop-place-preserved c =
    let there = here_read c.args.files.now c.args.places.now c.loop-place.place-index (record { file = 0; item = 0 }) c.requires c.loop-place-test.true in
    elim c.match-block_at.branch [
      | in-Some+in_ok-members_of+in_ok-push w ↦
          (let same = same_Some w.in-Some.block.now there.b.block (w.in-Some.ensures ∙ there.there) in
          members_more c.args.files.now c.loop-place.place-index there.b c.loop-place.members c.match-block_at.members there.within (there.read there.b) c.loop-place.invariant
          (w.members-is ∙ w.in_ok-push.ensures.ok ∙ ap (λ m. c.loop-place.members ++ m ∷ []) (w.in_ok-members_of.ensures ∙ ap members_in same)))
      | in_default w ↦ absurd (none-some there.b.block (w.in_default.ensures ∙ there.there))
    ]
