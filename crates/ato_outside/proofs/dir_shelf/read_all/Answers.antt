use Rattle.std.proofs.Common.{◌≡◌, ◌++◌, take, rules, ap, subst, sym}
use Rattle.std.specs.Io.KnownBytes.{Consumes}
use Rattle.std.proofs.KnownBytes.{Consumes-kept}
use Rattle.ato_outside.proofs.FolderLemmas.{long_by_more, read_more}
use Rattle.ato_outside.proofs.dir_shelf.read_all.Goals as goal
use Rattle.ato_outside.proofs.dir_shelf.read_all.Goals.{in-Ok+else-count-limit+else-is_err, in-Err+else-ne}

pub returns-then-count-limit-clause-told : goal.returns-then-count-limit-clause-told
returns-then-count-limit-clause-told g c =
    let read = c.in-Ok.ensures in
    long_by_more _ _ _ c.loop.into.items c.read.new.buf c.in-Ok.count c.args.limit c.loop.invariant.1 read.bytes.0 read.bound.0 (search rules)

pub loop-preserved : goal.loop-preserved
loop-preserved g c =
    elim c.match-read.branch [
      | in-Ok+else-count-limit+else-is_err w ↦
          let read = w.in-Ok.ensures in
          let is : c.match-read.into.items ≡ c.loop.into.items ++ take w.in-Ok.count c.read.new.buf = search rules in
          read_more _ _ _ _ _ _ _ _ c.loop.invariant.1 read.bytes.0 is read.bound.0 c.loop.invariant.0 (search rules)
      | in-Err+else-ne w ↦
          let read = w.in-Err.ensures in
          let is : c.match-read.into.items ≡ c.loop.into.items = ap (λ v. v.items) w.into-is in
          (search rules, subst (Consumes _ _) (sym is) (Consumes-kept _ _ _ _ c.loop.invariant.1 read.bytes))
    ]
