use Rattle.std.proofs.Common.{◌++◌, arith, take, subst}
use Rattle.std.specs.List.{flat_map}
use Rattle.ato_files.specs.Clashes.{AreDeclared}
use Rattle.ato_files.specs.Inherited.{decls_but}
use Rattle.ato_files.proofs.InheritedLaws.{others_more}
use Rattle.ato_files.proofs.inherited.add_others.Goals as goal

pub loop-number-preserved : goal.loop-number-preserved
loop-number-preserved c = λ seen are.
    let before = seen ++ flat_map (decls_but c.args.members.now c.args.block) (take c.loop-number.number-index c.args.numbers.now) in
    others_more c.loop-number.clashes c.add_all.new.self c.args.members.now c.args.block seen c.args.numbers.now c.loop-number.number-index 0 (omega arith)
    (subst (λ l. AreDeclared c.add_all.new.self (before ++ l)) c.decls_but.ensures (c.in_ok-add_all.ensures before (c.loop-number.invariant seen are)))
