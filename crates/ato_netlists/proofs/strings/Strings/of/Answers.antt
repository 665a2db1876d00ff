use Rattle.std.proofs.Common.{None, length, ◌∙◌, ap, arith}
use Rattle.std.specs.Prelude.{fold}
use Rattle.std.proofs.lemmas.List.{take_all}
use Rattle.ato_netlists.specs.Entries.{held_behind}
use Rattle.ato_netlists.proofs.StringLaws.{strings_law}
use Rattle.ato_netlists.proofs.strings.Strings.of.Goals as goal

pub returns : goal.returns
returns c = λ entry s. record {
  each = λ number path word at. c.loop-entry.invariant s.loaded.is.blocks number word
      ∙ ap (fold (held_behind c.args.program.now c.args.tree.now number word) None)
      (take_all c.loop-entry.entry-index c.args.tree.now.effective (let long = ap length c.as_slice-entry-items.ensures in omega (arith, c.loop-entry-test.false)))
      ∙ strings_law s number path word at;
}
