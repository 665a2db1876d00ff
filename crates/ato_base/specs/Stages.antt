-- Stages in which an input is read: each one leads to the next, or has a first fault.
use Rattle.std.specs.Prelude.{◌≡◌}

module _ {S : Type 0} (Leads : S → S → Type 0) where
  -- The stage is reached from the first one: steps lead to it.
  pub data Reaches : S → S → Type 0 where
    arrived : {s : S} → Reaches s s
    onward : {s t u : S} → Leads s t → Reaches t u → Reaches s u

-- The fault stands from a stage on: some stage that is reached from there has it.
pub record StandsFrom {S F : Type 0} (Leads : S → S → Type 0) (Has : S → F → Type 0) (start : S) (f : F) : Type 0 where
  pub stage : S
  pub reached : Reaches Leads start stage
  pub has : Has stage f

-- Each stage leads to one at most, has one fault at most, and never does both.
pub record IsDetermined {S F : Type 0} (Leads : S → S → Type 0) (Has : S → F → Type 0) : Type 0 where
  pub one_next : (s t u : S) → Leads s t → Leads s u → t ≡ u
  pub one_fault : (s : S) (f g : F) → Has s f → Has s g → f ≡ g
  pub never_both : (s t : S) (f : F) → Leads s t → Has s f → ⊥

-- The stage leads to none, and has no fault.
pub record IsLast {S F : Type 0} (Leads : S → S → Type 0) (Has : S → F → Type 0) (stage : S) : Type 0 where
  pub ends : (s : S) → Leads stage s → ⊥
  pub sound : (f : F) → Has stage f → ⊥
