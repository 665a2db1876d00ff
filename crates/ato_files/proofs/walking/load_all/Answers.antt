use Rattle.std.proofs.Common.{refl, sym, subst, ◌∙◌, arith, IfErr}
use Rattle.std.proofs.lemmas.Result.{err_from_is_err_and}
use Rattle.ato_outside.specs.Replies.{Asks}
use Rattle.ato_files.specs.LoadSteps.{StopsWith}
use Rattle.ato_files.specs.Loading.{most_bytes}
use Rattle.ato_files.specs.Replies.{ForReplies}
use Rattle.ato_files.proofs.AnswerLaws.{begun_walks}
use Rattle.ato_files.proofs.LoopLaws.{walk_some, walk_few, turned, stopped, stopped_out, unplain, none_left, same_count, same_misses, missing_counts}
use Rattle.ato_files.proofs.ReplyLaws.{joined, none_asked, grown_replies}
use Rattle.ato_files.proofs.walking.load_all.Goals as goal

pub next-requires : goal.next-requires
next-requires g c = walk_some (g.S.Shelf.files c.args.shelf.now) c.requires.0 c.loop-name.walk (c.loop-name.invariant.walk c.requires.0 c.requires.1)

pub load_next-requires-clause-some : goal.load_next-requires-clause-some
load_next-requires-clause-some g c = walk_some (g.S.Shelf.files c.args.shelf.now) c.requires.0 c.loop-name.walk (c.loop-name.invariant.walk c.requires.0 c.requires.1)

pub load_next-requires-clause-few : goal.load_next-requires-clause-few
load_next-requires-clause-few g c =
    let few = walk_few (g.S.Shelf.files c.args.shelf.now) c.requires.0 c.loop-name.walk c.in-Some.name (c.loop-name.invariant.walk c.requires.0 c.requires.1) (sym c.in_ok-name.ensures ∙ c.in-Some.is) in
    omega arith

pub loop-name-init : goal.loop-name-init
loop-name-init g c = record {
  same = refl;
  walk = λ entry h. begun_walks (g.S.Shelf.files c.args.shelf.now) entry c.args.walk.now h;
  asks = none_asked g.S.Shelf.gets c.args.shelf.now c.args.walk.now.files c.requires.1.library c.requires.1.files_are;
  faults = refl;
  misses = refl;
}

pub loop-name-smaller : goal.loop-name-smaller
loop-name-smaller g c =
    let few = walk_few (g.S.Shelf.files c.args.shelf.now) c.requires.0 c.loop-name.walk c.in-Some.name (c.loop-name.invariant.walk c.requires.0 c.requires.1) (sym c.in_ok-name.ensures ∙ c.in-Some.is) in
    let longer = c.in-Ok.ensures.longer in
    omega arith

pub loop-name-preserved : goal.loop-name-preserved
loop-name-preserved g c = record {
  same = c.in-Ok.ensures.same ∙ c.loop-name.invariant.same;
  walk = λ entry h.
      turned (g.S.Shelf.files c.args.shelf.now) (g.S.Shelf.files c.loop-name.shelf) c.loop-name.invariant.same entry c.loop-name.walk c.in_ok-name.field-0 c.in_ok-name.ensures
      c.load_next.new.walk c.in-Some.name c.in-Some.is (c.in-Ok.ensures.loaded entry) (c.loop-name.invariant.walk entry h);
  asks =
      let one = c.in-Ok.ensures.asked in
      let some = walk_some (g.S.Shelf.files c.args.shelf.now) c.requires.0 c.loop-name.walk (c.loop-name.invariant.walk c.requires.0 c.requires.1) in
      subst (λ replies. Asks g.S.Shelf.gets most_bytes c.args.shelf.now replies c.load_next.new.shelf) (grown_replies c.loop-name.walk.files c.load_next.new.walk.files one.file some one.files_are)
      (joined g.S.Shelf.gets c.loop-name.invariant.asks one.asks);
  faults = same_count _ _ c.in-Ok.ensures.faults ∙ c.loop-name.invariant.faults;
  misses = same_misses _ _ _ c.in-Ok.ensures.misses ∙ c.loop-name.invariant.misses;
}

pub returns-in-Err-clause-stopped : goal.returns-in-Err-clause-stopped
returns-in-Err-clause-stopped g c = λ entry h.
    stopped (g.S.Shelf.files c.args.shelf.now) (g.S.Shelf.files c.loop-name.shelf) c.loop-name.invariant.same entry c.loop-name.walk c.in_ok-name.field-0 c.in_ok-name.ensures
    g.S.Shelf.gets c.args.shelf.now c.loop-name.shelf c.load_next.new.shelf c.loop-name.invariant.asks
    c.load_next.new.walk.files c.in-Some.name c.in-Err.stop c.in-Some.is c.in-Err.ensures.kept (c.in-Err.ensures.stopped entry) (c.loop-name.invariant.walk entry h)

pub returns-in-Err-clause-missed : goal.returns-in-Err-clause-missed
returns-in-Err-clause-missed g c = λ entry h.
    missing_counts c.in-Some.name _ _ _ _ _ _ c.loop-name.invariant.misses c.in-Err.ensures.misses
    (λ plain missing. unplain (g.S.Shelf.files c.args.shelf.now) (g.S.Shelf.files c.loop-name.shelf) c.loop-name.invariant.same entry c.loop-name.walk c.in_ok-name.field-0 c.in_ok-name.ensures
    g.S.Shelf.gets c.args.shelf.now c.loop-name.shelf c.load_next.new.shelf c.loop-name.invariant.asks
    c.in-Some.name c.in-Err.stop c.in-Some.is plain missing (c.in-Err.ensures.stopped entry) (c.loop-name.invariant.walk entry h))

pub returns-clause-asked : goal.returns-clause-asked
returns-clause-asked g c = c.loop-name.invariant.asks

pub returns-clause-loaded : goal.returns-clause-loaded
returns-clause-loaded g c = λ entry h.
    none_left (g.S.Shelf.files c.args.shelf.now) entry c.loop-name.walk c.in_ok-name.field-0 c.in_ok-name.ensures c.in_default.not-Some (c.loop-name.invariant.walk entry h)

pub returns-in_err-name-clause-stopped : goal.returns-in_err-name-clause-stopped
returns-in_err-name-clause-stopped g c = λ entry h.
    let p = err_from_is_err_and c.from_residual.result c.from_residual.ensures.1 in
    let told = g.S.Shelf.files c.args.shelf.now in
    subst (λ r. IfErr r (λ stop. ForReplies g.S.Shelf.gets c.args.shelf.now c.loop-name.shelf (StopsWith told entry c.loop-name.walk.files stop))) (sym p.1)
    (subst (λ stop. ForReplies g.S.Shelf.gets c.args.shelf.now c.loop-name.shelf (StopsWith told entry c.loop-name.walk.files stop)) (sym p.2)
    (stopped_out g.S.Shelf.gets c.args.shelf.now c.loop-name.shelf told entry c.loop-name.walk c.loop-name.invariant.asks (c.loop-name.invariant.walk entry h)))
