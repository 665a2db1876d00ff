-- What is loaded from any shelf is a loaded program.
use Rattle.std.specs.Prelude.{ℕ, List, Option}
use Rattle.ato_outside.specs.Files.{Files}
use Rattle.ato_files.specs.declared.program.Program.{Program}
use Rattle.ato_files.specs.Answers.{ForHeld}
use Rattle.ato_files.specs.Programs.{IsProgram}
use Rattle.ato_instance_tree.specs.Elaborated.{IsLoaded}

pub is_loaded : (told : Option Files) (entry : List ℕ) (program : Program) → ForHeld told (λ held. IsProgram held entry program) → IsLoaded program
is_loaded told entry program h = record { held = h.held; entry_file = entry; is = h.is }
