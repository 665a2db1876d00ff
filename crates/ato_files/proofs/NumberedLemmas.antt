-- Items with their numbers, one more at a time.
use Rattle.std.proofs.Common.{◌≡◌, ◌<◌, ℕ, suc, ◌+◌, List, [], ◌∷◌, ◌++◌, refl, sym, ap, ◌∙◌, arith, length, get_or, take}
use Rattle.std.specs.Prelude.{map}
use Rattle.std.specs.List.{flat_map}
use Rattle.std.proofs.lemmas.List.{take_more, append_assoc, append-nil, map-append, length-take-le}
use Rattle.std.proofs.lemmas.Grind.{flat_map-append}
use Rattle.ato_files.specs.Lists.{numbered}

pub numbered-append : {X : Type 0} (n : ℕ) (xs ys : List X) → numbered n (xs ++ ys) ≡ numbered n xs ++ numbered (n + length xs) ys
numbered-append n [] ys = let e : n ≡ n + 0 = omega arith in ap (λ m. numbered m ys) e
numbered-append n (x ∷ xs) ys = let e : suc n + length xs ≡ n + suc (length xs) = omega arith in
    ap (λ zs. (n, x) ∷ zs) (numbered-append (suc n) xs ys ∙ ap (λ m. numbered (suc n) xs ++ numbered m ys) e)

pub numbered_push : {X : Type 0} (xs : List X) (y : X) → numbered 0 (xs ++ y ∷ []) ≡ numbered 0 xs ++ (length xs, y) ∷ []
numbered_push xs y = let e : 0 + length xs ≡ length xs = omega arith in
    numbered-append 0 xs (y ∷ []) ∙ ap (λ (m : ℕ). numbered 0 xs ++ (m, y) ∷ []) e

pub numbered_more : {X : Type 0} (xs : List X) (i : ℕ) (d : X) → i < length xs → numbered 0 (take (i + 1) xs) ≡ numbered 0 (take i xs) ++ (i, get_or xs i d) ∷ []
numbered_more xs i d h = let long : length (take i xs) ≡ i = length-take-le i xs (omega arith) in
    ap (numbered 0) (take_more xs i d h) ∙ numbered_push (take i xs) (get_or xs i d) ∙ ap (λ (m : ℕ). numbered 0 (take i xs) ++ (m, get_or xs i d) ∷ []) long

-- what each item with its number gives, one item more
pub flat_numbered_more : {X A : Type 0} (f : ℕ × X → List A) (xs : List X) (i : ℕ) (d : X) → i < length xs
    → flat_map f (numbered 0 (take (i + 1) xs)) ≡ flat_map f (numbered 0 (take i xs)) ++ f (i, get_or xs i d)
flat_numbered_more f xs i d h = ap (flat_map f) (numbered_more xs i d h) ∙ flat_map-append f (numbered 0 (take i xs)) ((i, get_or xs i d) ∷ [])
    ∙ ap (λ ys. flat_map f (numbered 0 (take i xs)) ++ ys) (append-nil (f (i, get_or xs i d)))

-- one item more behind what was there
pub flat_numbered_step : {X A : Type 0} (f : ℕ × X → List A) (xs : List X) (i : ℕ) (d : X) (start before after : List A) → i < length xs
    → before ≡ start ++ flat_map f (numbered 0 (take i xs)) → after ≡ before ++ f (i, get_or xs i d) → after ≡ start ++ flat_map f (numbered 0 (take (i + 1) xs))
flat_numbered_step f xs i d start before after h was now =
    now ∙ ap (λ ys. ys ++ f (i, get_or xs i d)) was ∙ append_assoc start _ _ ∙ ap (λ ys. start ++ ys) (sym (flat_numbered_more f xs i d h))

pub flat_map_map : {X A B : Type 0} (g : A → B) (f : X → List A) (xs : List X) → flat_map (λ x. map g (f x)) xs ≡ map g (flat_map f xs)
flat_map_map g f [] = refl
flat_map_map g f (x ∷ xs) = ap (λ ys. map g (f x) ++ ys) (flat_map_map g f xs) ∙ sym (map-append g (f x) (flat_map f xs))

-- the same for an item that was read
pub flat_numbered_read : {X A : Type 0} (f : ℕ × X → List A) (xs : List X) (i : ℕ) (x : X) (start before after : List A) → i < length xs → x ≡ get_or xs i x
    → before ≡ start ++ flat_map f (numbered 0 (take i xs)) → after ≡ before ++ f (i, x) → after ≡ start ++ flat_map f (numbered 0 (take (i + 1) xs))
flat_numbered_read f xs i x start before after h read was now =
    flat_numbered_step f xs i x start before after h was (now ∙ ap (λ y. before ++ f (i, y)) read)
