-- The limits of a catalogue.
use Rattle.std.specs.Prelude.{ℕ}

-- how many columns a catalogue may have
abbrev pub most_columns : ℕ
most_columns = 64

-- how many rows a catalogue may have
unfoldable pub most_rows : ℕ
most_rows = 65536
