use Rattle.std.proofs.Common.{refl}
use Rattle.ato_elab.proofs.GrowLemmas as grow
use Rattle.ato_elab.proofs.built.Built.put_root.Goals as goal

pub returns : goal.returns
returns c = λ files names same was.
    grow.with_root files names c.args.block c.args.kind c.new.result c.args.self.now _ was same c.new.ensures c.in_ok-push.ensures.ok refl refl
