use Rattle.std.proofs.Common.{◌<◌, arith}
use Rattle.ato_eval.proofs.leaning.lean.Goals as goal

pub lean_children-requires : goal.lean_children-requires
lean_children-requires c = record {
  nodes = λ k h.
      let before : k < c.args.node = c.entry-op.ensures.table.before c.args.node _ c.entry-op.ensures.entry k h in
      let there = c.requires.there in
      let room = c.requires.room in
      omega arith;
}
