use Rattle.std.proofs.Common.{refl}
use Rattle.ato_elab.proofs.FinishLaws.{finished}
use Rattle.ato_elab.proofs.finishing.finish.Goals as goal

-- src/finishing.rt
pub returns : goal.returns
returns c = finished c.args.given.now c.args.built c.in_ok-judged.judged _ c.in_ok-judged.ensures c.in_ok-entries.ensures.unique
    (record { nodes = refl; occurrences = refl; effective = c.in_ok-entries.ensures.entries; first = refl })
