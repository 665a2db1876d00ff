use Rattle.std.proofs.Common.{◌∙◌}
use Rattle.ato_elab.proofs.GrowLemmas as grow
use Rattle.ato_elab.proofs.built.Built.put_instance.Goals as goal

pub returns-clause-number : goal.returns-clause-number
returns-clause-number c = λ files entry done looked was.
    c.in_ok-number.ensures.number ∙ grow.nodes_long files c.args.names.now entry done looked c.args.self.now was

pub returns-clause-grown : goal.returns-clause-grown
returns-clause-grown c = λ files entry done looked path type same was at fresh.
    grow.with_instance files c.args.names.now entry done looked c.args.self.now was c.args.under c.args.name.0 c.args.block path c.args.kind c.put.new.self c.in_ok-number.ensures.put at type same fresh
