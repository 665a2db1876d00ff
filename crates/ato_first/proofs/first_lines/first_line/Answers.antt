use Rattle.std.proofs.Common.{◌∙◌, sym, take, drop, ◌+◌, arith}
use Rattle.ato_first.proofs.FirstPointLemmas.{size_more, size_within, cut_line}
use Rattle.ato_first.proofs.first_lines.first_line.Goals as goal

pub returns-then-passes : goal.returns-then-passes
returns-then-passes g c = (
  take c.loop-line.line-index c.args.lines.now,
  c.line-item.result,
  drop (c.loop-line.line-index + 1) c.args.lines.now,
  cut_line c.args.lines.now c.loop-line.line-index c.line-item.result c.loop-line-test.true c.line-item.is,
  c.loop-line.invariant.none,
  sym c.passes.ensures ∙ c.if-passes.true,
  c.loop-line.invariant.place,
)

pub line_size-at-requires : goal.line_size-at-requires
line_size-at-requires g c = omega (arith, size_more c.args.lines.now c.loop-line.line-index c.line-item.result c.loop-line-test.true c.line-item.is, size_within c.args.lines.now (c.loop-line.line-index + 1))

pub overflow_add-at : goal.overflow_add-at
overflow_add-at g c = omega (arith, c.loop-line.invariant.place, c.line_size-at.ensures, size_more c.args.lines.now c.loop-line.line-index c.line-item.result c.loop-line-test.true c.line-item.is, size_within c.args.lines.now (c.loop-line.line-index + 1))
