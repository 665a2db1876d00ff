use Rattle.std.proofs.Common.{◌++◌, ap, sym, ◌∙◌, refl}
use Rattle.std.proofs.lemmas.List.{take_rest}
use Rattle.std.proofs.KnownBytes.{Appends-kept}
use Rattle.ato_outside.proofs.FolderLemmas.{wrote_more, wrote_first}
use Rattle.ato_outside.proofs.dir_tray.write_all.Goals as goal
use Rattle.ato_outside.proofs.dir_tray.write_all.Goals.{in-Ok, in-Err+else-ne}

pub returns-then-is_empty-clause-first : goal.returns-then-is_empty-clause-first
returns-then-is_empty-clause-first g c = wrote_first _ _ _ _ _ c.loop.invariant.1 c.loop.invariant.2

pub returns-in-Ok-eq0-clause-first : goal.returns-in-Ok-eq0-clause-first
returns-in-Ok-eq0-clause-first g c =
    let more = wrote_more _ _ _ _ _ c.loop.rest.now _ c.in-Ok-eq0.field-0 c.loop.invariant.1 c.loop.invariant.2 c.in-Ok-eq0.ensures.bytes refl in
    wrote_first _ _ _ _ _ more.1 more.2

pub returns-then-ne-clause-first : goal.returns-then-ne-clause-first
returns-then-ne-clause-first g c = wrote_first _ _ _ _ _ c.loop.invariant.1 (Appends-kept _ _ _ _ c.loop.invariant.2 c.in-Err.ensures.bytes)

pub returns-clause-first : goal.returns-clause-first
returns-clause-first g c = wrote_first _ _ _ _ _ c.loop.invariant.1 c.loop.invariant.2

pub loop-preserved : goal.loop-preserved
loop-preserved g c =
    elim c.match-write.branch [
      | in-Ok w ↦
          let rest = c.loop.rest.now in
          let n = w.in-Ok.count in
          wrote_more _ _ _ _ _ rest _ n c.loop.invariant.1 c.loop.invariant.2 w.in-Ok.ensures.bytes (ap (λ r. r.now) w.rest-is ∙ take_rest rest n)
      | in-Err+else-ne w ↦ (c.loop.invariant.0, c.loop.invariant.1 ∙ ap (λ r. c.loop.invariant.0 ++ r.now) (sym w.rest-is), Appends-kept _ _ _ _ c.loop.invariant.2 w.in-Err.ensures.bytes)
    ]
