use Rattle.std.proofs.Common.{◌≡◌, ◌<◌, ◌++◌, ◌∷◌, [], suc, length, get_or, replicate, set, sym, ap, ◌∙◌, subst, add-one, rules, arith}
use Rattle.std.proofs.Math.ListN.{length-set}
use Rattle.std.proofs.lemmas.List.{get_or-replicate, length-replicate, get_or_default}
use Rattle.ato_netlists.proofs.ClassPlaces.{ArePlaced, class_of, none_placed, old_class, new_class, all_placed}
use Rattle.ato_netlists.proofs.pins.firsts.Goals as goal
use Rattle.ato_netlists.proofs.pins.firsts.Goals.{then-index-pins, else-index-pins}

pub loop-place-init : goal.loop-place-init
loop-place-init c =
    let of = c.args.of.now in
    let pins = c.args.pins.now in
    let none : c.in_ok-place_of.place_of.items ≡ replicate (length c.args.of.now) (length c.args.pins.now) = search rules in
    none_placed of pins c.in_ok-place_of.place_of.items c.new-firsts.result.items c.new-firsts.ensures.items (ap length none ∙ length-replicate (length of) (length pins))
    (λ class h. ap (λ l. get_or l class 0) none ∙ get_or-replicate (length of) class (length pins) 0 h)

pub loop-place-preserved : goal.loop-place-preserved
loop-place-preserved c =
    let of = c.args.of.now in
    let pins = c.args.pins.now in
    let n = c.loop-place.place in
    let places = c.loop-place.place_of.items in
    let firsts = c.loop-place.firsts.items in
    let now = c.if-index-pins.place_of.items in
    let more = c.push.new.self.items in
    let pin : get_or pins n 0 < length of = c.requires.pins n 0 (omega arith) in
    let inside : class_of of pins n < length of = c.requires.classes (get_or pins n 0) 0 pin in
    let old = c.loop-place.invariant in
    let pushed : length now ≡ length of → more ≡ firsts ++ get_or now (class_of of pins n) 0 ∷ [] = λ room.
    c.in_ok-push.ensures.items ∙ ap (λ v. firsts ++ v ∷ [])
    (c.index-in-loop-place.ensures ∙ get_or_default now (class_of of pins n) c.index-in-loop-place.result.now 0 (omega (arith, room, inside))) in
    let has : class_of of pins n < length places = omega (arith, inside, old.room) in
    subst (ArePlaced of pins now more) (sym (add-one n)) (elim c.if-index-pins.branch [
      | then-index-pins w ↦
          let put : now ≡ set places (class_of of pins n) n = ap (λ v. v.items) w.place_of-is in
          let free : get_or places (class_of of pins n) 0 ≡ length pins = get_or_default places (class_of of pins n) 0 c.index.result.now has ∙ sym c.index.ensures ∙ w.if-index-pins.true in
          new_class of pins places firsts more n old c.loop-place-test.true inside now free put (pushed (ap length put ∙ length-set places (class_of of pins n) n ∙ old.room))
      | else-index-pins w ↦
          let same : now ≡ places = ap (λ v. v.items) w.place_of-is in
          subst (λ v. ArePlaced of pins v more (suc n)) (sym same)
          (old_class of pins places firsts more n old c.loop-place-test.true inside (λ e. w.if-index-pins.false (c.index.ensures ∙ get_or_default places (class_of of pins n) c.index.result.now 0 has ∙ e))
          (pushed (ap length same ∙ old.room) ∙ ap (λ v. firsts ++ get_or v (class_of of pins n) 0 ∷ []) same))
    ])

pub returns : goal.returns
returns c =
    all_placed c.args.of.now c.args.pins.now c.loop-place.place_of.items c.loop-place.firsts.items c.loop-place.place (omega arith)
    (λ k h. c.requires.classes (get_or c.args.pins.now k 0) 0 (c.requires.pins k 0 h)) c.loop-place.invariant
