-- Which bytes a text has, and where it is cut at the first of them.
use Rattle.std.proofs.Common.{◌≡◌, ℕ, ◌<◌, ◌+◌, ◌==◌, suc, List, [], ◌∷◌, ◌++◌, length, take, drop, get_or, true, false, ◌||◌, ◌&&◌, not, ap, sym, ◌∙◌, refl, arith, Bool, subst, take-append-drop, drop-cons, add-one}
use Rattle.std.specs.List.{list_any, list_all}
use Rattle.std.proofs.lemmas.Bool.{ne_eqb}
use Rattle.std.proofs.lemmas.List.Folds.{list_any-append}
use Rattle.ato_first.specs.FirstForm.{is_digit, is_letter, is_name_byte, is_kind_byte, is_ascii_name, is_short_number, is_kind_text}
use Rattle.ato_first.proofs.Bools.{and_true, or_false, not_both}

-- a list at one of its indices
pub cut_at : (xs : List ℕ) (k c : ℕ) → k < length xs → get_or xs k 0 ≡ c → xs ≡ take k xs ++ c ∷ drop (k + 1) xs
cut_at xs k c h e = sym (take-append-drop k xs) ∙ ap (λ l. take k xs ++ l) (drop-cons xs k 0 h ∙ ap (λ b. b ∷ drop (suc k) xs) e ∙ ap (λ n. c ∷ drop n xs) (sym (add-one k)))

pub eq_self : (c : ℕ) → (c == c) ≡ true
eq_self c = grind arith

pub has : (c : ℕ) (x y : List ℕ) → list_any (λ n. n == c) (x ++ c ∷ y) ≡ true
has c [] y = rw (eq_self c) refl
has c (u ∷ x) y = rw (has c x y) (elim (u == c) as (λ b. (b || true) ≡ true) [ true ↦ refl | false ↦ refl ])

-- the cut at the first c is one
pub first_cut : (c : ℕ) (a b x y : List ℕ) → a ++ c ∷ b ≡ x ++ c ∷ y → list_any (λ n. n == c) a ≡ false → list_any (λ n. n == c) x ≡ false → (a ≡ x) × (b ≡ y)
first_cut c [] b [] y e p q = (refl, cc)
first_cut c [] b (u ∷ x) y e p q =
    let heads : c ≡ u = cc in let bad : ⊥ = not_both (u == c) (list_any (λ n. n == c) x) (ap (λ v. v == c) (sym heads) ∙ eq_self c) q in absurd bad
first_cut c (v ∷ a) b [] y e p q =
    let heads : c ≡ v = cc in let bad : ⊥ = not_both (v == c) (list_any (λ n. n == c) a) (ap (λ w. w == c) (sym heads) ∙ eq_self c) p in absurd bad
first_cut c (v ∷ a) b (u ∷ x) y e p q =
    let heads : v ≡ u = cc in let tails : a ++ c ∷ b ≡ x ++ c ∷ y = cc in
    let rest = first_cut c a b x y tails (or_false (v == c) (list_any (λ n. n == c) a) p).1 (or_false (u == c) (list_any (λ n. n == c) x) q).1 in (cc, rest.1)

-- a text of bytes that pass has no byte that does not

pub no_byte : (p : ℕ → Bool) (c : ℕ) → p c ≡ false → (xs : List ℕ) → list_all p xs ≡ true → list_any (λ b. b == c) xs ≡ false
no_byte p c f [] h = refl
no_byte p c f (x ∷ xs) h =
    let both = and_true (p x) (list_all p xs) h in
    let here : (x == c) ≡ false = ne_eqb x c (λ e. let z : p c ≡ true = subst (λ b. p b ≡ true) e both.0 in cc) in
    rw here (no_byte p c f xs both.1)

pub neither : (p : ℕ → Bool) (xs ys : List ℕ) → list_any p xs ≡ false → list_any p ys ≡ false → list_any p (xs ++ ys) ≡ false
neither p xs ys h k = list_any-append p xs ys ∙ ap (λ b. b || list_any p ys) h ∙ k

pub name_without : (c : ℕ) → is_name_byte c ≡ false → (xs : List ℕ) → is_ascii_name xs ≡ true → list_any (λ b. b == c) xs ≡ false
name_without c o xs h = no_byte is_name_byte c o xs (and_true _ _ (and_true _ _ h).0).1

pub number_without : (c : ℕ) → is_name_byte c ≡ false → (xs : List ℕ) → is_short_number xs ≡ true → list_any (λ b. b == c) xs ≡ false
number_without c o xs h = no_byte is_digit c (or_false (is_letter c) (is_digit c) o).1 xs (and_true _ _ h).1

pub kind_without : (c : ℕ) → is_name_byte c ≡ false → (xs : List ℕ) → is_kind_text xs ≡ true → list_any (λ b. b == c) xs ≡ false
kind_without c o xs h = no_byte is_kind_byte c (ap (λ b. b && not (c == 95)) o) xs (and_true _ _ h).1

-- two texts of which one has a byte are two

pub differ : (a b : List ℕ) (k c : ℕ) → a ≡ b → (get_or a k 0 == c) ≡ true → (get_or b k 0 == c) ≡ false → ⊥
differ a b k c e p q = let z : (get_or b k 0 == c) ≡ true = ap (λ xs. get_or xs k 0 == c) (sym e) ∙ p in cc

pub one_has : (c : ℕ) (a b : List ℕ) → a ≡ b → list_any (λ n. n == c) a ≡ true → list_any (λ n. n == c) b ≡ false → ⊥
one_has c a b e p q = let z : list_any (λ n. n == c) b ≡ true = ap (list_any (λ n. n == c)) (sym e) ∙ p in cc
