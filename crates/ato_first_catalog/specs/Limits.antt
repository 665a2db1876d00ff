-- The limits of a catalogue.
use Rattle.std.specs.Prelude.{ℕ}

-- how many attributes a catalogue may have
abbrev pub most_attributes : ℕ
most_attributes = 8

-- how many rows a catalogue may have
abbrev pub most_rows : ℕ
most_rows = 1000
