-- What the entries of a table mean.
use Rattle.std.specs.Prelude.{Bool, List, [], ◌∷◌, ◌++◌, map}
use Rattle.ato_units.specs.declared.table.Entry.{Entry}
use Rattle.ato_units.specs.declared.table.Prefix as declared
use Rattle.ato_units.specs.Units.{Meaning, Named, Prefix, all_differ, prefixes, with_prefixes}

-- what an entry means
abbrev pub meaning : Entry → Meaning
meaning e = record { dim = e.dim.0; tens = e.tens }

-- the names of entries, with what they mean
abbrev pub listed : List Entry → List Named
listed [] = []
listed (e ∷ es) = record { text = e.name.now; meaning = meaning e } ∷ listed es

-- the names, and the prefixes before those that may have one, all differ
unfoldable pub are_one_reading : List Named → List Named → Bool
are_one_reading prefixable whole_only = all_differ (map (λ u. u.text) ((prefixable ++ whole_only) ++ with_prefixes prefixes prefixable))

-- what a prefix stands for
abbrev pub listed_prefix : declared.Prefix → Prefix
listed_prefix p = record { text = p.text.now; tens = p.tens }

-- the prefixes of a table
abbrev pub listed_prefixes : List declared.Prefix → List Prefix
listed_prefixes [] = []
listed_prefixes (p ∷ ps) = listed_prefix p ∷ listed_prefixes ps
