use Rattle.std.proofs.Common.{refl}
use Rattle.ato_elab.proofs.GrowLemmas as grow
use Rattle.ato_elab.proofs.built.Built.put_pin.Goals as goal

pub returns : goal.returns
returns c = λ files names entry done looked path was at.
    grow.with_pin files names entry done looked c.args.self.now was c.args.under path c.in_ok-name.name c.args.label.now _ at c.in_ok-name.ensures c.in_ok-push.ensures.ok refl refl
