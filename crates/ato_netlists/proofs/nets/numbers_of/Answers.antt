use Rattle.std.proofs.Common.{◌≡◌, ◌<◌, ◌≢◌, suc, false, length, get_or, replicate, set, sym, ap, ◌∙◌, subst, add-one, rules, arith}
use Rattle.std.proofs.lemmas.List.{get_or-replicate, length-replicate, get_or_default}
use Rattle.ato_netlists.specs.declared.parts.Part.{Part}
use Rattle.ato_netlists.proofs.NumberLaws.{AreNumbered, none_numbered, left, put, all_numbered}
use Rattle.ato_netlists.proofs.nets.numbers_of.Goals as goal
use Rattle.ato_netlists.proofs.nets.numbers_of.Goals.{then-node-count+then-index-none, else-node-count, else-node-count-via-then-node-count+else-index-none, else-node-count-via-else-node-count}

pub loop-place-init : goal.loop-place-init
loop-place-init c =
    let count = c.args.count in
    let all : c.in_ok-numbers.numbers.items ≡ replicate c.args.count c.in_ok-none.none = search rules in
    none_numbered count c.args.parts.now c.in_ok-numbers.numbers.items (ap length all ∙ length-replicate count c.in_ok-none.none)
    (λ node h. ap (λ l. get_or l node 0) all ∙ get_or-replicate count node c.in_ok-none.none 0 h ∙ c.in_ok-none.ensures)

pub loop-place-preserved : goal.loop-place-preserved
loop-place-preserved c =
    let count = c.args.count in
    let ps = c.args.parts.now in
    let n = c.loop-place.place in
    let numbers = c.loop-place.numbers.items in
    let now = c.if-node-count.numbers.items in
    let none : Part = record { node = 0; slot = false } in
    let p = get_or ps n none in
    let old = c.loop-place.invariant in
    let is = λ (d : Part). get_or_default ps n none d c.loop-place-test.true in
    let many : c.in_ok-none.none ≡ length ps = c.in_ok-none.ensures in
    subst (AreNumbered count ps now) (sym (add-one n)) (elim c.if-node-count.branch [
      | then-node-count+then-index-none w ↦
          let has : p.node < length numbers = omega (arith, w.if-node-count.true, old.size) in
          put count ps numbers n p old c.loop-place-test.true is now w.if-node-count.true
          (get_or_default numbers p.node 0 w.index.result.now has ∙ sym w.index.ensures ∙ w.if-index-none.true ∙ many)
          (ap (λ v. v.items) w.numbers-is ∙ ap (set numbers p.node) c.in_ok-number.ensures)
      | else-node-count w ↦
          let has = elim w.else-node-count.branch as (λ b. p.node < count → get_or numbers p.node 0 ≢ length ps) [
            | else-node-count-via-then-node-count+else-index-none v ↦ λ l e.
                v.if-index-none.false (v.index.ensures ∙ get_or_default numbers p.node v.index.result.now 0 (omega (arith, l, old.size)) ∙ e ∙ sym many)
            | else-node-count-via-else-node-count v ↦ λ l e. omega (arith, l, v.if-node-count.false)
          ] in
          subst (λ v. AreNumbered count ps v (suc n)) (ap (λ v. v.items) (sym w.numbers-is)) (left count ps numbers n p old c.loop-place-test.true is has)
    ])

pub returns : goal.returns
returns c = all_numbered c.args.count c.args.parts.now c.loop-place.numbers.items c.loop-place.place (omega arith) c.loop-place.invariant
