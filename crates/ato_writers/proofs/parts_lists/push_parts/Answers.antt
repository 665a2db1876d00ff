use Rattle.std.proofs.Common.{◌≡◌, ◌++◌, ◌+◌, ◌∙◌, ap, sym, subst, append_assoc, arith, take}
use Rattle.std.proofs.lemmas.List.{take_all}
use Rattle.std.specs.List.{flat_map}
use Rattle.ato_writers.specs.CsvWriters.{Holds}
use Rattle.ato_writers.specs.PartsLists.{part_text}
use Rattle.ato_writers.proofs.PartsLemmas.{more_parts}
use Rattle.ato_writers.proofs.parts_lists.push_parts.Goals as goal

pub loop-row-preserved : goal.loop-row-preserved
loop-row-preserved c text held =
    let done = flat_map part_text (take c.loop-row.row-index c.args.parts.now) in
    let more : flat_map part_text (take (c.loop-row.row-index + 1) c.args.parts.now) ≡ done ++ part_text c.row-item.result = more_parts c.args.parts.now c.loop-row.row-index c.row-item.result c.loop-row-test.true c.row-item.is in
    subst (λ t. Holds c.push_part.new.writer t) (append_assoc text done (part_text c.row-item.result) ∙ ap (λ t. text ++ t) (sym more))
    (c.in_ok-push_part.ensures (text ++ done) (c.loop-row.invariant text held))

pub returns : goal.returns
returns c text held =
    let all : flat_map part_text (take c.loop-row.row-index c.args.parts.now) ≡ flat_map part_text c.args.parts.now = ap (flat_map part_text) (take_all c.loop-row.row-index c.args.parts.now (omega (arith, c.loop-row-test.false))) in
    subst (λ t. Holds c.loop-row.writer (text ++ t)) all (c.loop-row.invariant text held)
