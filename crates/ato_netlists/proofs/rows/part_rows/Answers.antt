use Rattle.std.proofs.Common.{sym, subst}
use Rattle.std.proofs.lemmas.Result.{IfOk-weaker}
use Rattle.ato_netlists.specs.Parts.{AreParts}
use Rattle.ato_netlists.proofs.RowLaws.{sound_of}
use Rattle.ato_netlists.proofs.rows.part_rows.Goals as goal

pub returns : goal.returns
returns c = IfOk-weaker c.rows.result _ _ (λ rows h most name is.
    let s = sound_of c.args.program.now c.args.tree.now c.requires.loaded c.requires.sound most name is in
    let known = c.in_ok-strings.ensures is.entry s in
    h c.args.tree.now is.entry s c.as_slice-nodes.ensures known
    (subst (AreParts c.args.program.now is.entry) (sym c.as_slice.ensures) (c.in_ok-parts.ensures c.args.program.now is.entry s known))) c.rows.ensures
