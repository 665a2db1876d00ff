use Rattle.std.proofs.Common.{◌≡◌, ◌+◌, List, Bool, sym, subst, arith, length, drop}
use Rattle.std.proofs.lemmas.List.{take_at}
use Rattle.ato_files.specs.ParentLists.{AreMarks, AreEnds}
use Rattle.ato_files.proofs.EndingLemmas.{ends_more}
use Rattle.ato_files.proofs.endings.endings.Goals as goal

pub loop-start-preserved : goal.loop-start-preserved
loop-start-preserved c = (
  (let long : length c.next_ends.new.walks ≡ c.loop-start.walks.len =
      (let n = c.next_ends.ensures.marks.count in let m = c.loop-start.invariant.0.count in let k = c.loop-start.walks.ok.0 in omega arith) in
      subst (AreMarks c.args.parents.now (c.loop-start.start + 1)) (sym (take_at c.next_ends.new.walks (drop (length c.next_ends.new.walks) c.loop-start.walks.items) c.loop-start.walks.len long))
      c.next_ends.ensures.marks),
  subst (λ (ends : List Bool). AreEnds c.args.parents.now (c.loop-start.start + 1) ends) (sym c.in_ok-push.ensures.ok)
      (ends_more c.args.parents.now c.loop-start.start c.loop-start.ends c.next_ends.result c.loop-start.invariant.1 c.next_ends.ensures.ends),
)
