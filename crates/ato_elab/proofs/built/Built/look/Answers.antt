use Rattle.std.proofs.Common.{refl}
use Rattle.ato_elab.proofs.GrowLemmas as grow
use Rattle.ato_elab.proofs.built.Built.look.Goals as goal

pub returns : goal.returns
returns c = λ files names entry done looked path was at stmts.
    grow.with_look files names entry done looked c.args.self.now was c.args.number path c.args.statements.now _ at stmts refl c.in_ok-push_occurrences.ensures refl
