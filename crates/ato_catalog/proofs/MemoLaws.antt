-- What is kept of texts stays right where places are put or read.
use Rattle.std.proofs.Common.{◌≡◌, ◌<◌, ◌∷◌, ◌++◌, [], ℕ, zero, suc, List, Option, Some, None, length, get_or, subst, sym, arith, ◌∙◌}
use Rattle.std.specs.Prelude.{MatchOption, slice_set}
use Rattle.ato_units.specs.declared.quantities.Quantity.{Quantity}
use Rattle.ato_catalog.specs.Memos.{AreKept, IsKept}
use Rattle.ato_catalog.specs.Values.{IsNoQuantity, IsQuantity}
use Rattle.ato_catalog.specs.declared.memo.Kept.{Kept}

kept-at : (places : List (Option Kept)) (i : ℕ) (d : Option Kept) → AreKept places → i < length places → IsKept (get_or places i d)
kept-at [] i d h inside = absurd (omega arith)
kept-at (kept ∷ places) zero d h inside = h.0
kept-at (kept ∷ places) (suc i) d h inside = kept-at places i d h.1 (omega arith)

-- what is kept for an equal text is that text's quantity
pub kept_for : (places : List (Option Kept)) (i : ℕ) (element : Option Kept) (kept : Kept) (text : List ℕ)
    → AreKept places → i < length places → element ≡ get_or places i element → element ≡ Some kept → kept.text.now ≡ text → IsQuantity text kept.quantity
kept_for places i element kept text h inside here is same =
    let k : IsKept (Some kept) = subst IsKept (sym here ∙ is) (kept-at places i element h inside) in
    subst (λ (t : List ℕ). IsQuantity t kept.quantity) same k

pub kept_set : (places : List (Option Kept)) (i : ℕ) (new : Option Kept) → AreKept places → IsKept new → AreKept (slice_set places i new)
kept_set [] i new h k = tt
kept_set (kept ∷ places) zero new h k = (k, h.1)
kept_set (kept ∷ places) (suc i) new h k = (h.0, kept_set places i new h.1 k)

pub kept_push : (places : List (Option Kept)) → AreKept places → AreKept (places ++ None ∷ [])
kept_push [] h = (tt, tt)
kept_push (kept ∷ places) h = (h.0, kept_push places h.1)

-- what a text gives is what its bytes give
pub of_bytes : (text bytes : List ℕ) (answer : Option Quantity) → text ≡ bytes → MatchOption answer (IsNoQuantity text) (IsQuantity text)
    → MatchOption answer (IsNoQuantity bytes) (IsQuantity bytes)
of_bytes text bytes answer same h = subst (λ (t : List ℕ). MatchOption answer (IsNoQuantity t) (IsQuantity t)) same h
