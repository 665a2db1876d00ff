use Rattle.std.proofs.Common.{◌≡◌, drop}
use Rattle.ato_units.specs.Units.{meaning_in}
use Rattle.ato_units.specs.Tables.{listed}
use Rattle.ato_units.proofs.table.entry_of.Given as goal

abbrev pub invariant-loop-entry : goal.invariant-loop-entry
invariant-loop-entry l = meaning_in (listed l.entries) l.text ≡ meaning_in (listed (drop l.entry-index l.entries)) l.text
