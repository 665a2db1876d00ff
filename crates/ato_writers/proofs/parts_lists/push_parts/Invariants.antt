use Rattle.std.proofs.Common.{◌++◌, ℕ, List, take}
use Rattle.std.specs.List.{flat_map}
use Rattle.ato_writers.specs.CsvWriters.{Holds}
use Rattle.ato_writers.specs.PartsLists.{part_text}
use Rattle.ato_writers.proofs.parts_lists.push_parts.Given as goal

abbrev pub invariant-loop-row : goal.invariant-loop-row
invariant-loop-row l = (text : List ℕ) → Holds l.fn.writer text → Holds l.writer (text ++ flat_map part_text (take l.row-index l.parts))
