-- Which texts stand among the distinct ones, that none stands twice, and that they are those of a table of names.
use Rattle.std.proofs.Common.{◌≡◌, ℕ, Bool, true, false, not, cond, ◌||◌, List, [], ◌∷◌, ◌++◌, filter, ap, sym, ◌∙◌, refl, append-nil, append_assoc, if◌then◌else◌}
use Rattle.std.specs.List.{list_any, AllByRecursion, IsDistinct}
use Rattle.std.specs.Str.{bytes_eq}
use Rattle.std.proofs.lemmas.Bool.Decides.{same_from_decides, Decides-like}
use Rattle.std.proofs.lemmas.List.Elements.{filter-append}
use Rattle.std.proofs.lemmas.Map.Keys.{IsDistinct-head, IsDistinct-tail, IsDistinct-cons}
use Rattle.std.proofs.lemmas.Slice.Eq.{bytes_eq-Decides}
use Rattle.ato_base.specs.NameTable.{with_name, with_names}
use Rattle.ato_nets.specs.Distinct.{distinct}

-- the texts that are not this one
abbrev others : List ℕ → List (List ℕ) → List (List ℕ)
others text texts = filter (λ other. not (bytes_eq text other)) texts

-- the order of the two sides does not matter
pub bytes_eq-flip : (a b : List ℕ) → bytes_eq a b ≡ bytes_eq b a
bytes_eq-flip a b = same_from_decides (bytes_eq a b) (bytes_eq b a) (bytes_eq-Decides a b) (Decides-like (bytes_eq b a) sym sym (bytes_eq-Decides b a))

-- what differs from a text differs from each text that is equal to it
differs : (l x y : List ℕ) → bytes_eq l x ≡ false → bytes_eq x y ≡ true → bytes_eq l y ≡ false
differs l x y h e = ap (bytes_eq l) (sym ((bytes_eq-Decides x y).0 e)) ∙ h

others_step : (l x y : List ℕ) (ys : List (List ℕ)) (b : Bool) → bytes_eq x y ≡ b → bytes_eq l x ≡ false →
    list_any (bytes_eq l) (others x ys) ≡ list_any (bytes_eq l) ys →
    list_any (bytes_eq l) (cond (not b) (y ∷ others x ys) (others x ys)) ≡ (bytes_eq l y || list_any (bytes_eq l) ys)
others_step l x y ys true e h rest = rest ∙ ap (λ b. b || list_any (bytes_eq l) ys) (sym (differs l x y h e))
others_step l x y ys false e h rest = ap (λ b. bytes_eq l y || b) rest

-- without one text, the same of the other texts stand there
pub any-others : (l x : List ℕ) (ys : List (List ℕ)) → bytes_eq l x ≡ false → list_any (bytes_eq l) (others x ys) ≡ list_any (bytes_eq l) ys
any-others l x [] h = refl
any-others l x (y ∷ ys) h = others_step l x y ys (bytes_eq x y) refl h (any-others l x ys h)

same_step : (l x : List ℕ) (xs : List (List ℕ)) (b : Bool) → bytes_eq l x ≡ b → list_any (bytes_eq l) (distinct xs) ≡ list_any (bytes_eq l) xs →
    (b || list_any (bytes_eq l) (others x (distinct xs))) ≡ (b || list_any (bytes_eq l) xs)
same_step l x xs true e rest = refl
same_step l x xs false e rest = any-others l x (distinct xs) e ∙ rest

-- Each text of the list stands in the distinct ones, and no other does.
pub distinct_same : (l : List ℕ) (xs : List (List ℕ)) → list_any (bytes_eq l) (distinct xs) ≡ list_any (bytes_eq l) xs
distinct_same l [] = refl
distinct_same l (x ∷ xs) = same_step l x xs (bytes_eq l x) refl (distinct_same l xs)

apart_step : (x y : List ℕ) (ys : List (List ℕ)) (b : Bool) → bytes_eq x y ≡ b → AllByRecursion (λ z. bytes_eq x z ≡ false) (others x ys) →
    AllByRecursion (λ z. bytes_eq x z ≡ false) (cond (not b) (y ∷ others x ys) (others x ys))
apart_step x y ys true e rest = rest
apart_step x y ys false e rest = (e, rest)

-- a text differs from the others
others_apart : (x : List ℕ) (ys : List (List ℕ)) → AllByRecursion (λ z. bytes_eq x z ≡ false) (others x ys)
others_apart x [] = tt
others_apart x (y ∷ ys) = apart_step x y ys (bytes_eq x y) refl (others_apart x ys)

kept_step : (x z : List ℕ) (zs kept : List (List ℕ)) (b : Bool) → bytes_eq x z ≡ false → AllByRecursion (λ y. bytes_eq x y ≡ false) kept →
    AllByRecursion (λ y. bytes_eq x y ≡ false) (cond b (z ∷ kept) kept)
kept_step x z zs kept true e rest = (e, rest)
kept_step x z zs kept false e rest = rest

-- a text that differs from each of some texts differs from each that is kept of them
kept_apart : (x : List ℕ) (p : List ℕ → Bool) (ys : List (List ℕ)) → AllByRecursion (λ y. bytes_eq x y ≡ false) ys → AllByRecursion (λ y. bytes_eq x y ≡ false) (filter p ys)
kept_apart x p [] h = tt
kept_apart x p (y ∷ ys) h = kept_step x y ys (filter p ys) (p y) h.0 (kept_apart x p ys h.1)

once_step : (y : List ℕ) (kept : List (List ℕ)) (b : Bool) → AllByRecursion (λ z. bytes_eq y z ≡ false) kept → IsDistinct bytes_eq kept →
    IsDistinct bytes_eq (cond b (y ∷ kept) kept)
once_step y kept true apart rest = IsDistinct-cons bytes_eq y kept apart rest
once_step y kept false apart rest = rest

-- texts that differ still do where some are left out
kept_once : (p : List ℕ → Bool) (ys : List (List ℕ)) → IsDistinct bytes_eq ys → IsDistinct bytes_eq (filter p ys)
kept_once p [] h = h
kept_once p (y ∷ ys) h =
    once_step y (filter p ys) (p y) (kept_apart y p ys (IsDistinct-head bytes_eq y ys h)) (kept_once p ys (IsDistinct-tail bytes_eq y ys h))

nothing_once : IsDistinct bytes_eq []
unfolding IsDistinct
nothing_once = tt

-- No text stands twice.
pub distinct_once : (xs : List (List ℕ)) → IsDistinct bytes_eq (distinct xs)
distinct_once [] = nothing_once
distinct_once (x ∷ xs) =
    IsDistinct-cons bytes_eq x (others x (distinct xs)) (others_apart x (distinct xs)) (kept_once (λ other. not (bytes_eq x other)) (distinct xs) (distinct_once xs))

-- ---- texts that are mentioned one after another

-- one more text at the end, where it is equal to the first one, or stands behind it, or is new
push_step : (x y : List ℕ) (ds : List (List ℕ)) (a m : Bool) → bytes_eq y x ≡ a → list_any (bytes_eq y) ds ≡ m →
    x ∷ others x (if m then ds else ds ++ y ∷ []) ≡ (if (a || list_any (bytes_eq y) (others x ds)) then x ∷ others x ds else (x ∷ others x ds) ++ y ∷ [])
push_step x y ds true true e h = refl
push_step x y ds true false e h =
    let same : bytes_eq x y ≡ true = bytes_eq-flip x y ∙ e in
    let gone : others x (y ∷ []) ≡ [] = ap (λ b. cond (not b) (y ∷ []) []) same in
    ap (λ l. x ∷ l) (filter-append (λ other. not (bytes_eq x other)) ds (y ∷ []) ∙ ap (λ l. others x ds ++ l) gone ∙ append-nil (others x ds))
push_step x y ds false true e h =
    let there : list_any (bytes_eq y) (others x ds) ≡ true = any-others y x ds e ∙ h in
    ap (λ b. if b then x ∷ others x ds else (x ∷ others x ds) ++ y ∷ []) (sym there)
push_step x y ds false false e h =
    let differs : bytes_eq x y ≡ false = bytes_eq-flip x y ∙ e in
    let new : others x (y ∷ []) ≡ y ∷ [] = ap (λ b. cond (not b) (y ∷ []) []) differs in
    let absent : list_any (bytes_eq y) (others x ds) ≡ false = any-others y x ds e ∙ h in
    ap (λ l. x ∷ l) (filter-append (λ other. not (bytes_eq x other)) ds (y ∷ []) ∙ ap (λ l. others x ds ++ l) new)
    ∙ ap (λ b. if b then x ∷ others x ds else (x ∷ others x ds) ++ y ∷ []) (sym absent)

-- the distinct texts after one more
pub distinct-push : (xs : List (List ℕ)) (y : List ℕ) → distinct (xs ++ y ∷ []) ≡ with_name (distinct xs) y
distinct-push [] y = refl
distinct-push (x ∷ xs) y =
    ap (λ l. x ∷ others x l) (distinct-push xs y)
    ∙ push_step x y (distinct xs) (bytes_eq y x) (list_any (bytes_eq y) (distinct xs)) refl refl

-- texts mentioned one after another are the distinct ones
mentioned : (xs ys : List (List ℕ)) → with_names (distinct xs) ys ≡ distinct (xs ++ ys)
mentioned xs [] = ap distinct (sym (append-nil xs))
mentioned xs (y ∷ ys) = ap (λ l. with_names l ys) (sym (distinct-push xs y)) ∙ mentioned (xs ++ y ∷ []) ys ∙ ap distinct (append_assoc xs (y ∷ []) ys)

pub all_mentioned : (xs : List (List ℕ)) → with_names [] xs ≡ distinct xs
all_mentioned xs = mentioned [] xs
