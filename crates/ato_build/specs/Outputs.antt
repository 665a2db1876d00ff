-- Files that are put one after another.
use Rattle.std.specs.Prelude.{◌≡◌, ◌⊎◌, List, [], ◌∷◌, Option, Some, None, Ok, Err}
use Rattle.ato_outside.specs.Files.{Files}
use Rattle.ato_outside.specs.Tray.{PutsWhereTold}
use Rattle.ato_outside.specs.declared.tray.TrayError.{TrayError}
use Rattle.ato_build.specs.declared.outputs.Output.{Output}
use Rattle.ato_build.specs.declared.outputs.Stop.{Stop}

-- The files were put in their order: all of them whole, or those before one at which the tray stopped, and of that one what
-- the tray's answer leaves.
abbrev pub PutsInOrder : Option Files → Option Files → List Output → Option Stop → Type 0
PutsInOrder old new [] None = new ≡ old
PutsInOrder old new [] (Some stop) = ⊥
PutsInOrder old new (output ∷ outputs) stop =
    ((mid : Option Files) × PutsWhereTold old mid output.name output.bytes (Ok tt) × PutsInOrder mid new outputs stop)
    ⊎ ((error : TrayError) × PutsWhereTold old new output.name output.bytes (Err error) × (stop ≡ Some (record { name = output.name; error = error })))
