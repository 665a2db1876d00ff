use Rattle.std.proofs.Common.{ap}
use Rattle.ato_base.specs.declared.name_table.Name.{Name}
use Rattle.ato_elab.proofs.GrowLemmas as grow
use Rattle.ato_elab.proofs.built.Built.put_named.Goals as goal

pub returns : goal.returns
returns c = λ files entry done looked path n k same leaf_kind was at.
    grow.with_leaf files c.args.names.now entry done looked c.args.self.now was c.args.under c.args.name.0 path c.args.kind n k c.put.new.self c.in_ok-put.ensures.put at (ap (λ (x : Name). x.0) same) leaf_kind
