use Rattle.std.proofs.Common.{◌≡◌, ◌<◌, suc, None, length, get_or, replicate, set, sym, ap, ◌∙◌, subst, add-one, rules, arith}
use Rattle.std.proofs.lemmas.List.{get_or-replicate, length-replicate, get_or_default}
use Rattle.ato_netlists.specs.Signals.{shallower_of}
use Rattle.ato_netlists.proofs.NodeLaws.{depths_long}
use Rattle.ato_netlists.proofs.SignalLaws.{AreKept, none_kept, within_kept, no_signal, one_signal, all_kept}
use Rattle.ato_netlists.proofs.naming.signals.Goals as goal
use Rattle.ato_netlists.proofs.naming.signals.Goals.{then-is_signal, else-is_signal}

pub loop-number-init : goal.loop-number-init
loop-number-init c =
    let ns = c.args.nodes.now in
    let none : c.in_ok-found.found.items ≡ replicate (length c.args.nodes.now) None = search rules in
    none_kept ns c.in_ok-depths.depths.items c.args.of.now c.in_ok-found.found.items (ap length none ∙ length-replicate (length ns) None)
    (λ class h. ap (λ l. get_or l class None) none ∙ get_or-replicate (length ns) class None None h)

pub loop-number-preserved : goal.loop-number-preserved
loop-number-preserved c =
    let ns = c.args.nodes.now in
    let depths = c.in_ok-depths.depths.items in
    let of = c.args.of.now in
    let n = c.loop-number.number in
    let x = c.index-nodes-number.result in
    let found = c.loop-number.found.items in
    let now = c.if-is_signal.found.items in
    let class = get_or of n 0 in
    let inside : class < length ns = omega (arith, c.requires.classes n 0 (omega arith)) in
    subst (AreKept ns depths of now) (sym (add-one n)) (elim c.if-is_signal.branch [
      | then-is_signal w ↦
          let put : now ≡ set found class (shallower_of depths (get_or found class None) n) =
          ap (λ v. v.items) w.found-is ∙ ap (set found class) (w.shallower.ensures ∙ ap (λ ds. shallower_of ds w.index.result.now n) w.deref.ensures.value
          ∙ ap (λ o. shallower_of depths o n) (w.index.ensures ∙ get_or_default found class w.index.result.now None (omega (arith, inside, c.loop-number.invariant.size)))) in
          one_signal ns depths of found n x x c.loop-number.invariant c.loop-number-test.true c.index-nodes-number.is now (sym c.is_signal.ensures ∙ w.if-is_signal.true) inside put
      | else-is_signal w ↦
          subst (λ v. AreKept ns depths of v (suc n)) (ap (λ v. v.items) (sym w.found-is))
          (no_signal ns depths of found n x x c.loop-number.invariant c.loop-number-test.true c.index-nodes-number.is (sym c.is_signal.ensures ∙ w.if-is_signal.false))
    ])

pub shallower-requires-clause-one : goal.shallower-requires-clause-one
shallower-requires-clause-one c =
    let ns = c.args.nodes.now in
    let deep : length c.deref.result.now ≡ length ns = ap length c.deref.ensures.value ∙ ap length c.in_ok-depths.ensures ∙ depths_long ns in
    within_kept ns c.in_ok-depths.depths.items c.args.of.now c.loop-number.found.items c.loop-number.number (length c.deref.result.now) (get_or c.args.of.now c.loop-number.number 0) c.index.result.now
    c.loop-number.invariant (omega (arith, c.requires.classes c.loop-number.number 0 (omega arith))) c.index.ensures (omega arith)

pub shallower-requires-clause-other : goal.shallower-requires-clause-other
shallower-requires-clause-other c =
    let ns = c.args.nodes.now in
    let deep : length c.deref.result.now ≡ length ns = ap length c.deref.ensures.value ∙ ap length c.in_ok-depths.ensures ∙ depths_long ns in
    omega arith

pub returns : goal.returns
returns c =
    all_kept c.args.nodes.now c.in_ok-depths.depths.items c.args.of.now c.loop-number.found.items c.loop-number.number (omega arith) c.in_ok-depths.ensures c.loop-number.invariant
