use Rattle.std.specs.Prelude.{ℕ}
use Rattle.ato_build.specs.declared.status.Status.{Status}
use Rattle.ato_build.specs.declared.status.Status.TheVariants.{Built, Accepted, Fault, Refuted, ReadFault, WriteFault, Usage, NoMemory, Rejected}

-- the code with which the program ends
abbrev pub code_of : Status → ℕ
code_of Built = 0
code_of Accepted = 0
code_of (Fault f) = 1
code_of Refuted = 2
code_of ReadFault = 5
code_of WriteFault = 6
code_of Usage = 7
code_of NoMemory = 8
code_of (Rejected line) = 9
