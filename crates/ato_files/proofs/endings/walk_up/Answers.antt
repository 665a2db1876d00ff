use Rattle.std.proofs.Common.{◌≡◌, ◌<◌, ◌+◌, false, not, Some, None, refl, sym, ap, ◌∙◌, length, set, get_or, arith}
use Rattle.std.specs.Prelude.{slice_get}
use Rattle.std.proofs.lemmas.Option.{slice_get-get_or}
use Rattle.ato_files.specs.ParentLists.{AreMarks}
use Rattle.ato_files.proofs.EndingLemmas.{IsWalk, parent_read, walk_on, walk_marks, last_marks, top_ends, round_found, met_found, long_found, ends_read}
use Rattle.ato_files.proofs.endings.walk_up.Goals.{In-Some}
use Rattle.ato_files.proofs.endings.walk_up.Goals as goal

pub returns-in-None-clause-ends : goal.returns-in-None-clause-ends
returns-in-None-clause-ends c =
    let p = parent_read c.args.parents.now c.loop.block None None c.loop.invariant.within c.in-None.is in
    ap not (sym (top_ends c.args.parents.now c.requires.made c.args.start c.loop.counter c.loop.block c.loop.walks c.loop.invariant p))

pub returns-in-None-clause-marks : goal.returns-in-None-clause-marks
returns-in-None-clause-marks c = last_marks c.args.parents.now c.requires.made c.args.start c.loop.counter c.loop.block c.loop.walks c.loop.invariant

on : (c : In-Some) → IsWalk c.args.parents.now c.args.start (c.loop.counter + 1) c.in-Some.above (set c.loop.walks c.loop.block c.args.start)
on c = walk_on c.args.parents.now c.requires.made c.args.start c.loop.counter c.loop.block c.loop.walks c.loop.invariant c.in-Some.above
    (parent_read c.args.parents.now c.loop.block None (Some c.in-Some.above) c.loop.invariant.within c.in-Some.is)

inside : (c : In-Some) → c.in-Some.above < length (set c.loop.walks c.loop.block c.args.start)
inside c = let w = on c in let n = w.count in let h = w.within in omega arith

mark_at : (c : In-Some) → slice_get (set c.loop.walks c.loop.block c.args.start) c.in-Some.above ≡ Some (get_or (set c.loop.walks c.loop.block c.args.start) c.in-Some.above 0)
mark_at c = slice_get-get_or (set c.loop.walks c.loop.block c.args.start) c.in-Some.above 0 (inside c)

pub bounds-walks-block-in-loop : goal.bounds-walks-block-in-loop
bounds-walks-block-in-loop c = inside (goal.at.bounds-walks-block-in-loop c).In-Some

marks_then : (c : In-Some) → AreMarks c.args.parents.now (c.args.start + 1) (set c.loop.walks c.loop.block c.args.start)
marks_then c = walk_marks c.args.parents.now c.requires.made c.args.start (c.loop.counter + 1) c.in-Some.above _ (on c)

pub returns-then-walk-start-clause-ends : goal.returns-then-walk-start-clause-ends
returns-then-walk-start-clause-ends c =
    let s = (goal.at.returns-then-walk-start-clause-ends c).In-Some in
    ap not (sym (round_found c.args.parents.now c.requires.made c.args.start (c.loop.counter + 1) c.in-Some.above _ (on s) _ c.requires.start (mark_at s) c.if-walk-start.true))

pub returns-then-walk-start-clause-marks : goal.returns-then-walk-start-clause-marks
returns-then-walk-start-clause-marks c = marks_then (goal.at.returns-then-walk-start-clause-marks c).In-Some

pub returns-then-walk-start-2-clause-ends : goal.returns-then-walk-start-2-clause-ends
returns-then-walk-start-2-clause-ends c =
    let s = (goal.at.returns-then-walk-start-2-clause-ends c).In-Some in
    ends_read c.args.parents.now c.args.start (get_or (set c.loop.walks c.loop.block c.args.start) c.in-Some.above 0) c.args.ends.now false _ c.requires.ends c.if-walk-start-2.true refl
    ∙ ap not (sym (met_found c.args.parents.now c.requires.made c.args.start (c.loop.counter + 1) c.in-Some.above _ (on s) _ c.requires.start (mark_at s) c.if-walk-start-2.true))

pub returns-then-walk-start-2-clause-marks : goal.returns-then-walk-start-2-clause-marks
returns-then-walk-start-2-clause-marks c = marks_then (goal.at.returns-then-walk-start-2-clause-marks c).In-Some

pub loop-preserved : goal.loop-preserved
loop-preserved c = on (goal.at.loop-preserved c).In-Some

pub returns-clause-ends : goal.returns-clause-ends
returns-clause-ends c =
    ap not (sym (long_found c.args.parents.now c.requires.made c.args.start c.loop.counter c.loop.block c.loop.walks c.loop.invariant (omega arith)))

pub returns-clause-marks : goal.returns-clause-marks
returns-clause-marks c = walk_marks c.args.parents.now c.requires.made c.args.start c.loop.counter c.loop.block c.loop.walks c.loop.invariant
