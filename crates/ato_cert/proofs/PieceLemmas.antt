-- Pieces that stand first in a text.
use Rattle.std.proofs.Common.{◌≡◌, ℕ, true, false, List, ◌++◌, length, take, drop, ◌+◌, Option, Some, None, MatchOption, sym, ap, ◌∙◌, Bor, nat_eq, take-append-drop}
use Rattle.std.specs.Prelude.{IsSomeAnd, IfSome}
use Rattle.std.specs.Cmp.Lexicographic.{pointwise}
use Rattle.std.proofs.lemmas.Bool.{false≢true}
use Rattle.std.proofs.lemmas.Slice.Eq.{bytes_eq-Decides}
use Rattle.std.proofs.Math.Seq.{take-append_seam, drop-append_seam}

-- what `strip_prefix` answers
abbrev pub Strips : List ℕ → List ℕ → Option (Bor (List ℕ)) → Type 0
Strips text piece r = MatchOption r (pointwise nat_eq (take (length piece) text) piece ≡ false)
    (λ x. (pointwise nat_eq (take (length piece) text) piece ≡ true) × (x.now ≡ drop (length piece) text) × (length x.now + length piece ≡ length text))

pub strips_back : (text piece : List ℕ) (r : Option (Bor (List ℕ))) → Strips text piece r → (rest : List ℕ) → text ≡ piece ++ rest → IsSomeAnd r (λ x. x.now ≡ rest)
strips_back text piece None h rest e =
    false≢true (sym h ∙ (bytes_eq-Decides (take (length piece) text) piece).1 (rw e (take-append_seam piece rest)))
strips_back text piece (Some x) h rest e = h.1 ∙ rw e (drop-append_seam piece rest)

pub strips_stands : (text piece : List ℕ) (r : Option (Bor (List ℕ))) → Strips text piece r → IfSome r (λ x. text ≡ piece ++ x.now)
strips_stands text piece None h = tt
strips_stands text piece (Some x) h =
    sym (take-append-drop (length piece) text) ∙ ap (λ l. l ++ drop (length piece) text) ((bytes_eq-Decides (take (length piece) text) piece).0 h.0) ∙ ap (λ l. piece ++ l) (sym h.1)
