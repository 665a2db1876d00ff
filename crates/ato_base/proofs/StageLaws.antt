-- Where stages are determined, at most one fault stands, and none where a last stage is reached.
use Rattle.std.proofs.Common.{◌≡◌, subst, refl}
use Rattle.ato_base.specs.Stages.{Reaches, arrived, onward, StandsFrom, IsDetermined, IsLast}

-- a stage that is reached leads on
pub reaches_on : {S : Type 0} (Leads : S → S → Type 0) {s t u : S} → Reaches Leads s t → Leads t u → Reaches Leads s u
reaches_on Leads arrived step = onward step arrived
reaches_on Leads (onward first rest) step = onward first (reaches_on Leads rest step)

module _ {S F : Type 0} (Leads : S → S → Type 0) (Has : S → F → Type 0) (determined : IsDetermined Leads Has) where
  -- what is reached from the next stage, whichever step led to it
  from_next : (s a b u : S) → Leads s a → Leads s b → Reaches Leads b u → Reaches Leads a u
  from_next s a b u step other reached = subst (λ x. Reaches Leads x u) (determined.one_next s b a other step) reached

  same_fault : (s t u : S) (f g : F) → Reaches Leads s t → Has t f → Reaches Leads s u → Has u g → f ≡ g
  same_fault s t u f g arrived h arrived k = determined.one_fault s f g h k
  same_fault s t u f g arrived h (onward {t = b} step rest) k = absurd (determined.never_both s b f step h)
  same_fault s t u f g (onward {t = a} step rest) h arrived k = absurd (determined.never_both s a g step k)
  same_fault s t u f g (onward {t = a} step rest) h (onward {t = b} other more) k = same_fault a t u f g rest h (from_next s a b u step other more) k

  -- At most one fault stands.
  pub one_fault_stands : (s : S) (f g : F) → StandsFrom Leads Has s f → StandsFrom Leads Has s g → f ≡ g
  one_fault_stands s f g h k = same_fault s h.stage k.stage f g h.reached h.has k.reached k.has

  no_fault_past : (s t u : S) (f : F) → IsLast Leads Has t → Reaches Leads s t → Reaches Leads s u → Has u f → ⊥
  no_fault_past s t u f last arrived arrived h = last.sound f h
  no_fault_past s t u f last arrived (onward {t = b} step rest) h = last.ends b step
  no_fault_past s t u f last (onward {t = a} step rest) arrived h = determined.never_both s a f step h
  no_fault_past s t u f last (onward {t = a} step rest) (onward {t = b} other more) h = no_fault_past a t u f last rest (from_next s a b u step other more) h

  -- No fault stands where a last stage is reached.
  pub no_fault_stands : (s t : S) (f : F) → IsLast Leads Has t → Reaches Leads s t → StandsFrom Leads Has s f → ⊥
  no_fault_stands s t f last reached h = no_fault_past s t h.stage f last reached h.reached h.has

  -- One last stage is reached at most.
  pub one_last_stage : (s t u : S) → IsLast Leads Has t → IsLast Leads Has u → Reaches Leads s t → Reaches Leads s u → t ≡ u
  one_last_stage s t u last other arrived arrived = refl
  one_last_stage s t u last other arrived (onward {t = b} step rest) = absurd (last.ends b step)
  one_last_stage s t u last other (onward {t = a} step rest) arrived = absurd (other.ends a step)
  one_last_stage s t u last other (onward {t = a} step rest) (onward {t = b} again more) = one_last_stage a t u last other rest (from_next s a b u step again more)
