use Rattle.std.proofs.Common.{◌≡◌, drop}
use Rattle.ato_outside.specs.Files.{bytes_at}
use Rattle.ato_outside.proofs.entries.first_of.Given as goal

abbrev pub invariant-loop-text : goal.invariant-loop-text
invariant-loop-text l = bytes_at (drop l.text-index l.entries) l.name ≡ bytes_at l.entries l.name
