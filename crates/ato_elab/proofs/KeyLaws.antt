-- What is held is held for names of instances.
use Rattle.std.proofs.Common.{◌∙◌, sym}
use Rattle.ato_elab.specs.Counting.{KeysStand}
use Rattle.ato_elab.proofs.AssignedLaws.{held_there}

pub keys_stand : KeysStand
keys_stand files names entry built ss a ready is held = record {
  each = λ number name p h.
      let there = held_there files names entry built ready number name ss p is (sym (held number name) ∙ h) in
      record { path = there.0; at = there.1 };
}
