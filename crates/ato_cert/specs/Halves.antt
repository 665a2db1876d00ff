-- Rows that are divided in the middle.
use Rattle.std.specs.Prelude.{◌≡◌, ℕ, ◌<◌, List, ◌++◌, length}
use Rattle.ato_cert.specs.declared.problem.Row.{Row}
use Rattle.ato_cert.specs.Justified.{IsMiddle, low_side, high_side}

-- the two sides of rows that a number in the middle divides, one after the other
pub record AreHalves (rows low : List Row) (number : ℕ) (high : List Row) : Type 0 where
  pub together : rows ≡ low ++ high
  pub middle : IsMiddle rows number
  pub low_is : low_side number rows ≡ low
  pub high_is : high_side number rows ≡ high
  pub low_some : 0 < length low
  pub high_some : 0 < length high
