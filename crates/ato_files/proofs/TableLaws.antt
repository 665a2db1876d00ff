-- What is known of blocks.
use Rattle.std.proofs.Common.{ap}
use Rattle.std.specs.Prelude.{◌≡◌, Bool, cond, [], ◌∷◌}
use Rattle.ato_base.specs.declared.faults.Fault.{Fault}

-- ---- faults of unknown names

pub unless_same : (known there : Bool) (f : Fault) → known ≡ there → cond known [] (f ∷ []) ≡ cond there [] (f ∷ [])
unless_same known there f e = ap (λ v. cond v [] (f ∷ [])) e
