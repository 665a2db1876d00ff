-- What is fetched of a file.
use Rattle.std.specs.Prelude.{◌≤◌, ℕ, List, length, Option}
use Rattle.ato_outside.specs.Files.{Files}
use Rattle.ato_build.specs.Found as found
use Rattle.ato_build.specs.declared.fetching.Fetched.{Fetched}
use Rattle.ato_build.specs.declared.fetching.Fetched.TheVariants.{Failed, Missing, TooLong, Whole}

-- It is what the files have at the name, where they are told. A whole file is within its limit.
abbrev pub IsFetched : Option Files → ℕ → List ℕ → Fetched → Type 0
IsFetched held limit name Failed = Unit {0}
IsFetched held limit name Missing = found.HasFile held limit name found.Missing
IsFetched held limit name TooLong = found.HasFile held limit name found.TooLong
IsFetched held limit name (Whole bytes) = found.HasFile held limit name (found.Whole bytes) × (length bytes ≤ limit)
