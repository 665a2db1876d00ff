use Rattle.std.proofs.Common.{refl}
use Rattle.std.proofs.lemmas.Bool.{false≢true}
use Rattle.ato_check.specs.FirstBad as first
use Rattle.ato_check.proofs.PickLemmas.{one_box, no_box}
use Rattle.ato_check.proofs.picks.bad_line_of_pick.Goals as goal

pub returns-in-None : goal.returns-in-None
returns-in-None c = first.no_candidate c.in-None.ensures

pub returns-then-boxes-eq0 : goal.returns-then-boxes-eq0
returns-then-boxes-eq0 c = first.unchecked c.in-Some.row c.in-Some.ensures (no_box c.args.boxes.now c.if-boxes-eq0.true)

pub returns-then-not-has_in_target : goal.returns-then-not-has_in_target
returns-then-not-has_in_target c =
    first.outside c.in-Some.row c.in-Some.ensures (one_box c.args.boxes.now c.requires c.if-boxes-eq0.false) (λ h. false≢true (c.if-not-has_in_target.ensures.1 h))

pub returns-else-not-has_in_target : goal.returns-else-not-has_in_target
returns-else-not-has_in_target c = record {
  row = c.in-Some.row;
  candidate = c.in-Some.ensures.candidate;
  pick_is = c.in-Some.ensures.pick_is;
  all_checks = one_box c.args.boxes.now c.requires c.if-boxes-eq0.false;
  holds = c.if-not-has_in_target.ensures.0 refl;
}
