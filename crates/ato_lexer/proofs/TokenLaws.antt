-- A file has one list of tokens or one fault.
use Rattle.std.proofs.Common.{◌≡◌, ◌⊎◌, inl, inr, ◌+◌, ℕ, List, Bool, true, false, Option, Some, None, refl, sym, ap, ◌∙◌}
use Rattle.std.specs.Str.{IsUtf8, is_utf8}
use Rattle.std.specs.Str.Lossy.{utf8_valid_len}
use Rattle.std.proofs.lemmas.Str.{IsUtf8-from_is_utf8}
use Rattle.ato_base.specs.NameTable.{with_names}
use Rattle.ato_base.specs.declared.places.FileId.{FileId}
use Rattle.ato_base.specs.declared.faults.Fault.{Fault}
use Rattle.ato_base.specs.declared.faults.FaultKind.TheVariants as faults
use Rattle.ato_base.specs.declared.faults.Refusal.TheVariants as refusals
use Rattle.ato_base.specs.declared.tokens.Token.{Token}
use Rattle.ato_lexer.specs.Tokens.{first_fault, fault_at, tokens_of, names_in, AreTokens, IsRefused}

pub one_list : (bytes : List ℕ) (file : FileId) (old new other : List (List ℕ)) (tokens others : List Token)
    → AreTokens bytes file old new tokens → AreTokens bytes file old other others → (other ≡ new) × (others ≡ tokens)
one_list bytes file old new other tokens others a b =
    let same : other ≡ new = b.names_are ∙ sym a.names_are in
    (same, b.tokens_are ∙ ap (λ (names : List (List ℕ)). tokens_of names file bytes) same ∙ sym a.tokens_are)

pub one_fault : (bytes : List ℕ) (file : FileId) (f g : Fault) → IsRefused bytes file (refusals.Fault f) → IsRefused bytes file (refusals.Fault g) → f ≡ g
one_fault bytes file f g a b = let e : Some f ≡ Some g = sym a ∙ b in cc

pub never_both : (bytes : List ℕ) (file : FileId) (old new : List (List ℕ)) (tokens : List Token) (f : Fault)
    → AreTokens bytes file old new tokens → ¬ IsRefused bytes file (refusals.Fault f)
never_both bytes file old new tokens f a r = let e : None ≡ Some f = sym a.no_fault ∙ r in cc

-- tokens over the table that the names of the file make of another, or a fault
abbrev pub HasOne : List ℕ → FileId → List (List ℕ) → Type 0
HasOne bytes file old =
    AreTokens bytes file old (with_names old (names_in bytes)) (tokens_of (with_names old (names_in bytes)) file bytes) ⊎ ((f : Fault) × IsRefused bytes file (refusals.Fault f))

pub has_one : (bytes : List ℕ) (file : FileId) (old : List (List ℕ)) → HasOne bytes file old
has_one bytes file old = by (first_fault file bytes) refl
  where
    by : (o : Option Fault) → first_fault file bytes ≡ o → HasOne bytes file old
    by None e = inl (record { no_fault = e; names_are = refl; tokens_are = refl })
    by (Some f) e = inr (f, e)

-- bytes that are no text have the fault at the first byte at which no whole character begins
pub no_text : (file : FileId) (bytes : List ℕ) (n : ℕ) → ¬ IsUtf8 bytes → n ≡ utf8_valid_len bytes → first_fault file bytes ≡ Some (fault_at file faults.BadText n (n + 1))
unfolding first_fault
no_text file bytes n h e = by (is_utf8 bytes) refl
  where
    by : (b : Bool) → is_utf8 bytes ≡ b → first_fault file bytes ≡ Some (fault_at file faults.BadText n (n + 1))
    by true f = absurd (h (IsUtf8-from_is_utf8 bytes f))
    by false f = rw (f, e) refl
