-- The problem that a certificate is about, of a part and a catalogue.
use Rattle.std.specs.Prelude.{◌≡◌, Option, Some, None}
use Rattle.std.specs.List.{AllZip}
use Rattle.ato_first_catalog.specs.Catalogue.{IsWhole}
use Rattle.ato_first_catalog.specs.Contents.{Contents}
use Rattle.ato_cert.specs.Valid.{IsValid}
use Rattle.ato_cert.specs.declared.cert.Cert.{Cert}
use Rattle.ato_cert.specs.declared.problem.Problem.{Problem}
use Rattle.ato_cert.specs.declared.problem.Row.{Row}
use Rattle.ato_cert.specs.declared.problem.Slot.{Slot}
use Rattle.ato_first.specs.FirstParts.{Part, Candidate, candidates}

-- The row is the candidate, with fractions for its whole numbers.
pub record IsRowOf (row : Row) (candidate : Candidate) : Type 0 where
  pub number : row.number ≡ candidate.number
  pub low : IsWhole row.low candidate.low
  pub high : IsWhole row.high candidate.high

-- The slot has the part's candidates in their order, and its target is what is asserted of the part.
pub record IsSlotOf (contents : Contents) (part : Part) (slot : Slot) : Type 0 where
  pub rows : AllZip IsRowOf slot.rows (candidates contents part)
  pub low : IsWhole slot.low part.low
  pub high : IsWhole slot.high part.high

-- There is a slot exactly where there is a part.
abbrev pub IsSlotFor : Option Part → Contents → Option Slot → Type 0
IsSlotFor None contents None = Unit {0}
IsSlotFor None contents (Some slot) = ⊥
IsSlotFor (Some part) contents None = ⊥
IsSlotFor (Some part) contents (Some slot) = IsSlotOf contents part slot

-- The problem is that of the part and the catalogue.
abbrev pub IsProblem : Option Part → Contents → Problem → Type 0
IsProblem part contents problem = IsSlotFor part contents problem.slot

-- The certificate is valid for the problem of the part and the catalogue.
pub record IsValidFor (part : Option Part) (contents : Contents) (cert : Cert) : Type 0 where
  pub problem : Problem
  pub is_problem : IsProblem part contents problem
  pub valid : IsValid problem cert
