-- The texts of the three lines of a part: bytes that they do not have, and how an assertion is cut.
use Rattle.std.proofs.Common.{◌≡◌, ℕ, ◌==◌, List, [], ◌∷◌, ◌++◌, true, false, ◌&&◌, ap, sym, ◌∙◌, refl, append_assoc}
use Rattle.std.specs.Prelude.{codes, Option, Some, None, MatchOption}
use Rattle.std.specs.Borrow.{Bor}
use Rattle.std.specs.List.{list_any}
use Rattle.std.proofs.lemmas.List.{append_cancel_left, append_cancel_right}
use Rattle.ato_first.specs.FirstForm.{is_ascii_name, is_name_byte, is_kind_text, is_attribute_name, is_short_number, is_line}
use Rattle.ato_first.specs.Statements.{words_text}
use Rattle.ato_first.specs.declared.first_form.Assertion.{Assertion}
use Rattle.ato_first.specs.declared.first_form.Line.TheVariants as lines
use Rattle.ato_first.proofs.Bools.{and_true}
use Rattle.ato_first.proofs.Bytes.{first_cut, neither, name_without, kind_without, number_without}

-- a line without a byte

pub kind_line_without : (c : ℕ) → is_name_byte c ≡ false → list_any (λ b. b == c) (codes "kind = \"") ≡ false → list_any (λ b. b == c) (codes "\"") ≡ false
    → (text : List ℕ) → is_kind_text text ≡ true → list_any (λ b. b == c) (words_text (lines.Kind text)) ≡ false
kind_line_without c o front back text h = neither (λ b. b == c) (codes "kind = \"") (text ++ codes "\"") front (neither (λ b. b == c) text (codes "\"") (kind_without c o text h) back)

pub attribute_line_without : (c : ℕ) → is_name_byte c ≡ false → list_any (λ b. b == c) (codes ": dimensionless") ≡ false
    → (name : List ℕ) → is_attribute_name name ≡ true → list_any (λ b. b == c) (words_text (lines.Attribute name)) ≡ false
attribute_line_without c o back name h = neither (λ b. b == c) name (codes ": dimensionless") (name_without c o name (and_true _ _ h).0) back

-- an assertion's name and ends are those of the form
pub assertion_parts : (a : Assertion) → is_line (lines.Assertion a) ≡ true → (is_ascii_name a.name ≡ true) × (is_short_number a.low ≡ true) × (is_short_number a.high ≡ true)
assertion_parts a h = let both = and_true (is_ascii_name a.name && is_short_number a.low) (is_short_number a.high) h in
    let first = and_true (is_ascii_name a.name) (is_short_number a.low) both.0 in (first.0, first.1, both.1)

pub assertion_line_without : (c : ℕ) → is_name_byte c ≡ false → list_any (λ b. b == c) (codes "assert ") ≡ false → list_any (λ b. b == c) (codes " within ") ≡ false
    → list_any (λ b. b == c) (codes " to ") ≡ false → (a : Assertion) → is_line (lines.Assertion a) ≡ true → list_any (λ b. b == c) (words_text (lines.Assertion a)) ≡ false
assertion_line_without c o front middle back a h =
    let parts = assertion_parts a h in
    let has_no : List ℕ → Type 0 = λ text. list_any (λ b. b == c) text ≡ false in
    let ends : has_no (a.low ++ (codes " to " ++ a.high)) =
    neither (λ b. b == c) a.low (codes " to " ++ a.high) (number_without c o a.low parts.1) (neither (λ b. b == c) (codes " to ") a.high back (number_without c o a.high parts.2)) in
    neither (λ b. b == c) (codes "assert ") (a.name ++ (codes " within " ++ (a.low ++ (codes " to " ++ a.high)))) front
    (neither (λ b. b == c) a.name (codes " within " ++ (a.low ++ (codes " to " ++ a.high))) (name_without c o a.name parts.0)
    (neither (λ b. b == c) (codes " within ") (a.low ++ (codes " to " ++ a.high)) middle ends))

-- A text is cut in one way at its first blank, where a word follows.

pub one_around : (word a b x y : List ℕ) → list_any (λ n. n == 32) a ≡ false → list_any (λ n. n == 32) x ≡ false → a ++ 32 ∷ (word ++ b) ≡ x ++ 32 ∷ (word ++ y) → (a ≡ x) × (b ≡ y)
one_around word a b x y p q e =
    let cut = first_cut 32 a (word ++ b) x (word ++ y) e p q in
    (cut.0, append_cancel_left word b y cut.1)

pub no_word : (text front back word : List ℕ) → text ≡ (front ++ 32 ∷ []) ++ back → list_any (λ b. b == 32) front ≡ false → ((right : List ℕ) → back ≡ word ++ right → ⊥)
    → (left right : List ℕ) → list_any (λ b. b == 32) left ≡ false → text ≡ left ++ 32 ∷ (word ++ right) → ⊥
no_word text front back word is none other left right clear e =
    other right (first_cut 32 front back left (word ++ right) (sym (append_assoc front (32 ∷ []) back) ∙ sym is ∙ e) none clear).1

-- A range and an assertion are read in one way.

pub one_range : (low high x y : List ℕ) → list_any (λ n. n == 32) low ≡ false → list_any (λ n. n == 32) x ≡ false → low ++ (codes " to " ++ high) ≡ x ++ (codes " to " ++ y) → (low ≡ x) × (high ≡ y)
one_range low high x y p q e = one_around (codes "to ") low high x y p q e

same_assertion : (a b : Assertion) → a.name ≡ b.name → a.low ≡ b.low → a.high ≡ b.high → a ≡ b
same_assertion a b p q r =
    let named : List ℕ → Assertion = λ n. record { name = n; low = a.low; high = a.high } in
    let from : List ℕ → Assertion = λ n. record { name = b.name; low = n; high = a.high } in
    let up : List ℕ → Assertion = λ n. record { name = b.name; low = b.low; high = n } in
    ap named p ∙ ap from q ∙ ap up r

pub one_assertion : (a b : Assertion) → is_line (lines.Assertion a) ≡ true → is_line (lines.Assertion b) ≡ true → words_text (lines.Assertion a) ≡ words_text (lines.Assertion b) → a ≡ b
one_assertion a b h k e =
    let mine = assertion_parts a h in
    let other = assertion_parts b k in
    let words = append_cancel_left (codes "assert ") (a.name ++ (codes " within " ++ (a.low ++ (codes " to " ++ a.high)))) (b.name ++ (codes " within " ++ (b.low ++ (codes " to " ++ b.high)))) e in
    let names = one_around (codes "within ") a.name (a.low ++ (codes " to " ++ a.high)) b.name (b.low ++ (codes " to " ++ b.high)) (name_without 32 refl a.name mine.0) (name_without 32 refl b.name other.0) words in
    let ends = one_range a.low a.high b.low b.high (number_without 32 refl a.low mine.1) (number_without 32 refl b.low other.1) names.1 in
    same_assertion a b names.0 ends.0 ends.1

-- A text that cannot be read is none.

pub no_low : (text low high : List ℕ) → text ≡ low ++ 32 ∷ (codes "to " ++ high) → list_any (λ n. n == 32) low ≡ false → is_short_number low ≡ false
    → (x y : List ℕ) → is_short_number x ≡ true → is_short_number y ≡ true → text ≡ x ++ (codes " to " ++ y) → ⊥
no_low text low high is clear none x y h k e =
    let also : is_short_number low ≡ true = ap is_short_number (one_range low high x y clear (number_without 32 refl x h) (sym is ∙ e)).0 ∙ h in cc

pub no_high : (text low high : List ℕ) → text ≡ low ++ 32 ∷ (codes "to " ++ high) → list_any (λ n. n == 32) low ≡ false → is_short_number high ≡ false
    → (x y : List ℕ) → is_short_number x ≡ true → is_short_number y ≡ true → text ≡ x ++ (codes " to " ++ y) → ⊥
no_high text low high is clear none x y h k e =
    let also : is_short_number high ≡ true = ap is_short_number (one_range low high x y clear (number_without 32 refl x h) (sym is ∙ e)).1 ∙ k in cc

-- what comes after `assert `
of_claim : (text rest : List ℕ) (a : Assertion) → text ≡ codes "assert " ++ rest → text ≡ words_text (lines.Assertion a) → rest ≡ a.name ++ 32 ∷ (codes "within " ++ (a.low ++ (codes " to " ++ a.high)))
of_claim text rest a is e = append_cancel_left (codes "assert ") rest (a.name ++ (codes " within " ++ (a.low ++ (codes " to " ++ a.high)))) (sym is ∙ e)

pub no_claim : (text rest : List ℕ) → text ≡ codes "assert " ++ rest → ((left right : List ℕ) → list_any (λ b. b == 32) left ≡ false → rest ≡ left ++ 32 ∷ (codes "within " ++ right) → ⊥)
    → (a : Assertion) → is_line (lines.Assertion a) ≡ true → text ≡ words_text (lines.Assertion a) → ⊥
no_claim text rest is other a h e = other a.name (a.low ++ (codes " to " ++ a.high)) (name_without 32 refl a.name (assertion_parts a h).0) (of_claim text rest a is e)

-- the name and the range of the assertion that a text is
claim_parts : (text rest name range : List ℕ) (a : Assertion) → text ≡ codes "assert " ++ rest → rest ≡ name ++ 32 ∷ (codes "within " ++ range) → list_any (λ b. b == 32) name ≡ false
    → is_line (lines.Assertion a) ≡ true → text ≡ words_text (lines.Assertion a) → (name ≡ a.name) × (range ≡ a.low ++ (codes " to " ++ a.high))
claim_parts text rest name range a is cut clear h e =
    one_around (codes "within ") name range a.name (a.low ++ (codes " to " ++ a.high)) clear (name_without 32 refl a.name (assertion_parts a h).0) (sym cut ∙ of_claim text rest a is e)

pub no_claim_name : (text rest name range : List ℕ) → text ≡ codes "assert " ++ rest → rest ≡ name ++ 32 ∷ (codes "within " ++ range) → list_any (λ b. b == 32) name ≡ false → is_ascii_name name ≡ false
    → (a : Assertion) → is_line (lines.Assertion a) ≡ true → text ≡ words_text (lines.Assertion a) → ⊥
no_claim_name text rest name range is cut clear none a h e =
    let yes : is_ascii_name name ≡ true = ap is_ascii_name (claim_parts text rest name range a is cut clear h e).0 ∙ (assertion_parts a h).0 in cc

pub no_claim_range : (text rest name range : List ℕ) → text ≡ codes "assert " ++ rest → rest ≡ name ++ 32 ∷ (codes "within " ++ range) → list_any (λ b. b == 32) name ≡ false
    → ((low high : List ℕ) → is_short_number low ≡ true → is_short_number high ≡ true → range ≡ low ++ (codes " to " ++ high) → ⊥)
    → (a : Assertion) → is_line (lines.Assertion a) ≡ true → text ≡ words_text (lines.Assertion a) → ⊥
no_claim_range text rest name range is cut clear other a h e =
    let parts = assertion_parts a h in other a.low a.high parts.1 parts.2 (claim_parts text rest name range a is cut clear h e).1

other_attribute : (text front name : List ℕ) → text ≡ front ++ codes ": dimensionless" → is_attribute_name front ≡ false → is_attribute_name name ≡ true → text ≡ words_text (lines.Attribute name) → ⊥
other_attribute text front name is none ok e =
    let same : front ≡ name = append_cancel_right front name (codes ": dimensionless") (sym is ∙ e) in
    let also : is_attribute_name front ≡ true = ap is_attribute_name same ∙ ok in cc

-- The attribute is the name before the colon.
pub attribute_read : (text front : List ℕ) (found : Option (Bor (List ℕ))) → text ≡ front ++ codes ": dimensionless"
    → MatchOption found (is_attribute_name front ≡ false) (λ name. (is_attribute_name name.now ≡ true) × (name.now ≡ front))
    → MatchOption found ((name : List ℕ) → is_attribute_name name ≡ true → text ≡ words_text (lines.Attribute name) → ⊥)
    (λ name. (is_attribute_name name.now ≡ true) × (text ≡ words_text (lines.Attribute name.now)))
attribute_read text front None is h = λ name ok e. other_attribute text front name is h ok e
attribute_read text front (Some name) is h = (h.0, is ∙ ap (λ t. t ++ codes ": dimensionless") (sym h.1))
