use Rattle.std.proofs.Common.{◌≡◌, drop}
use Rattle.ato_units.specs.Units.{with_prefixes, meaning_in}
use Rattle.ato_units.specs.Tables.{listed, listed_prefixes}
use Rattle.ato_units.proofs.units.find_prefixed.Given as goal

abbrev pub invariant-loop-prefix : goal.invariant-loop-prefix
invariant-loop-prefix l =
    meaning_in (with_prefixes (listed_prefixes l.prefixes) (listed l.entries)) l.text
    ≡ meaning_in (with_prefixes (listed_prefixes (drop l.prefix-index l.prefixes)) (listed l.entries)) l.text
