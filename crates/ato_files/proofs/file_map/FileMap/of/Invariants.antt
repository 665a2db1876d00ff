use Rattle.std.proofs.Common.{◌≡◌, ℕ, List, take}
use Rattle.ato_files.specs.FileMaps.{number_in, number_behind}
use Rattle.ato_files.proofs.file_map.FileMap.of.Given as goal

abbrev pub invariant-loop-number : goal.invariant-loop-number
invariant-loop-number l = (text : List ℕ) → number_in l.map text ≡ number_behind (take l.number l.files) text
