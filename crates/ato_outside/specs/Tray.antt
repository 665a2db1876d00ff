use Rattle.std.specs.Prelude.{◌≡◌, ℕ, List, take, Option, Some, None, Result, Ok, Err}
use Rattle.std.specs.FinMap.{insert}
use Rattle.ato_outside.specs.Files.{Files}
use Rattle.ato_outside.specs.declared.tray.TrayError.{TrayError}
use Rattle.ato_outside.specs.declared.tray.TrayError.TheVariants.{Failed, NoMemory}

-- What a put makes of the files: the name holds the bytes after Ok and a prefix of them after
-- Failed, and nothing changed after NoMemory.
abbrev pub Puts : Files → Files → List ℕ → List ℕ → Result (Unit {0}) TrayError → Type 0
Puts old new name bytes (Ok u) = new ≡ insert old name bytes
Puts old new name bytes (Err Failed) = (n : ℕ) × (new ≡ insert old name (take n bytes))
Puts old new name bytes (Err NoMemory) = new ≡ old

-- The same where the files are told. They stay told or untold.
abbrev pub PutsWhereTold : Option Files → Option Files → List ℕ → List ℕ → Result (Unit {0}) TrayError → Type 0
PutsWhereTold None None name bytes result = Unit {0}
PutsWhereTold (Some old) (Some new) name bytes result = Puts old new name bytes result
PutsWhereTold None (Some new) name bytes result = ⊥
PutsWhereTold (Some old) None name bytes result = ⊥
