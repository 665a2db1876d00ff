-- Only private functions have clauses in these words.
-- The least of faults that are noted one after another.
use Rattle.std.specs.Prelude.{List, [], ◌∷◌, Option, Some, None}
use Rattle.ato_base.specs.declared.faults.Fault.{Fault}
use Rattle.ato_files.specs.Faults.{sooner}

-- what is kept after one more fault
abbrev pub with_fault : Option Fault → Fault → Option Fault
with_fault None f = Some f
with_fault (Some kept) f = Some (sooner kept (Some f))

-- what is kept after these faults, in turn
abbrev pub noted : Option Fault → List Fault → Option Fault
noted kept [] = kept
noted kept (f ∷ more) = noted (with_fault kept f) more
