use Rattle.std.proofs.Common.{◌≡◌, ℕ, ◌<◌, ◌≢◌, ◌+◌, ◌==◌, suc, true, false, List, [], ◌∷◌, ◌++◌, length, take, drop, get_or, ap, sym, ◌∙◌, refl, arith, take-append-drop, get_or-drop, length-drop, drop-cons, add-one}
use Rattle.std.specs.Prelude.{codes}
use Rattle.std.specs.List.{list_any, slice_range}
use Rattle.std.proofs.lemmas.Bool.{ne_eqb}
use Rattle.ato_words.specs.Words.{is_entry, are_apart, IsBuildOf}
use Rattle.ato_words.specs.declared.words.Build.{Build}
use Rattle.ato_words.proofs.WordLaws.{same_parts, same_entries}

-- a list at one of its indices
cut_at : (xs : List ℕ) (k c : ℕ) → k < length xs → get_or xs k 0 ≡ c → xs ≡ take k xs ++ c ∷ drop (k + 1) xs
cut_at xs k c h e = sym (take-append-drop k xs) ∙ ap (λ l. take k xs ++ l) (drop-cons xs k 0 h ∙ ap (λ b. b ∷ drop (suc k) xs) e ∙ ap (λ n. c ∷ drop n xs) (sym (add-one k)))

-- no index has the byte
pub lacks : (c : ℕ) (xs : List ℕ) → ((i : ℕ) → i < length xs → get_or xs i 0 ≢ c) → list_any (λ b. b == c) xs ≡ false
lacks c [] h = refl
lacks c (x ∷ xs) h =
    let here : (x == c) ≡ false = ne_eqb x c (h 0 (omega arith)) in
    let rest : list_any (λ b. b == c) xs ≡ false = lacks c xs (λ i l. h (suc i) (omega arith)) in
    rw here rest

-- what stands after the last byte c has no c
rest_lacks : (c : ℕ) (xs : List ℕ) (k : ℕ) → k < length xs → ((i : ℕ) → k < i → i < length xs → get_or xs i 0 ≢ c) → list_any (λ b. b == c) (drop (k + 1) xs) ≡ false
rest_lacks c xs k h later = lacks c (drop (k + 1) xs) (λ i l e. later (k + 1 + i) (omega arith) (omega (arith, length-drop (k + 1) xs)) (sym (get_or-drop (k + 1) xs i 0) ∙ e))

-- the two sides of the last colon, as slices
pub cut_parts : (xs a b : List ℕ) (k : ℕ) → a ≡ slice_range xs 0 k → b ≡ drop (k + 1) xs → (k < length xs) × (get_or xs k 0 ≡ 58) × ((i : ℕ) → k < i → i < length xs → get_or xs i 0 ≢ 58) → (xs ≡ a ++ 58 ∷ b) × (list_any (λ n. n == 58) b ≡ false)
cut_parts xs a b k p q r =
    let all : slice_range xs 0 k ≡ take k xs = grind arith in
    let front : a ≡ take k xs = p ∙ all in
    (cut_at xs k 58 r.0 r.1 ∙ ap (λ l. l ++ 58 ∷ drop (k + 1) xs) (sym front) ∙ ap (λ l. a ++ 58 ∷ l) (sym q), ap (list_any (λ n. n == 58)) q ∙ rest_lacks 58 xs k r.0 r.2)

-- three texts
pub three_texts : (xs : List (List ℕ)) (a b c : List ℕ) → length xs ≡ 3 → a ≡ get_or xs 0 a → b ≡ get_or xs 1 b → c ≡ get_or xs 2 c → xs ≡ a ∷ b ∷ c ∷ []
three_texts [] a b c h p q r = absurd (omega arith)
three_texts (x ∷ []) a b c h p q r = absurd (omega arith)
three_texts (x ∷ y ∷ []) a b c h p q r = absurd (omega arith)
three_texts (x ∷ y ∷ z ∷ []) a b c h p q r = cc
three_texts (x ∷ y ∷ z ∷ w ∷ ws) a b c h p q r = absurd (omega arith)

-- another number of texts
pub not_three_texts : (xs : List (List ℕ)) → length xs ≢ 3 → (a b c : List ℕ) → xs ≡ a ∷ b ∷ c ∷ [] → ⊥
not_three_texts xs h a b c e = h (ap length e)

-- four texts
pub four_texts : (xs : List (List ℕ)) (a b c d : List ℕ) → length xs ≡ 4 → a ≡ get_or xs 0 a → b ≡ get_or xs 1 b → c ≡ get_or xs 2 c → d ≡ get_or xs 3 d → xs ≡ a ∷ b ∷ c ∷ d ∷ []
four_texts [] a b c d h p q r s = absurd (omega arith)
four_texts (x ∷ []) a b c d h p q r s = absurd (omega arith)
four_texts (x ∷ y ∷ []) a b c d h p q r s = absurd (omega arith)
four_texts (x ∷ y ∷ z ∷ []) a b c d h p q r s = absurd (omega arith)
four_texts (x ∷ y ∷ z ∷ w ∷ []) a b c d h p q r s = cc
four_texts (x ∷ y ∷ z ∷ w ∷ v ∷ vs) a b c d h p q r s = absurd (omega arith)

-- another number of texts
pub not_four_texts : (xs : List (List ℕ)) → length xs ≢ 4 → (a b c d : List ℕ) → xs ≡ a ∷ b ∷ c ∷ d ∷ [] → ⊥
not_four_texts xs h a b c d e = h (ap length e)

-- a text whose two sides of the last colon are no entry is none
pub no_entry : (text f b : List ℕ) → text ≡ f ++ 58 ∷ b → is_entry f b ≡ false → list_any (λ n. n == 58) b ≡ false → (file block : List ℕ) → text ≡ file ++ 58 ∷ block → is_entry file block ≡ true → ⊥
no_entry text f b is bad none file block e h =
    let same = same_parts file block f b (sym e ∙ is) none h in
    let yes : is_entry f b ≡ true = ap (λ x. is_entry x b) (sym same.0) ∙ ap (λ x. is_entry file x) (sym same.1) ∙ h in
    cc

-- words with an entry, of which the names are not apart, are no build
pub not_apart : (words : List (List ℕ)) (out command entry catalogue file block : List ℕ) → words ≡ command ∷ entry ∷ catalogue ∷ [] → entry ≡ file ++ 58 ∷ block → is_entry file block ≡ true → are_apart out file catalogue ≡ false → (build : Build) → IsBuildOf words out build → ⊥
not_apart words out command entry catalogue file block is sides good bad build job =
    let both : command ∷ entry ∷ catalogue ∷ [] ≡ codes "build" ∷ (build.file ++ 58 ∷ build.block) ∷ build.catalogue ∷ [] = sym is ∙ job.words_are in
    let entries : entry ≡ build.file ++ 58 ∷ build.block = cc in
    let catalogues : catalogue ≡ build.catalogue = cc in
    let same = same_entries file block build.file build.block (sym sides ∙ entries) good job.entry in
    let yes : are_apart out file catalogue ≡ true =
    ap (λ o. are_apart o file catalogue) (sym job.out_is) ∙ ap (λ f. are_apart build.out f catalogue) same.0 ∙ ap (are_apart build.out build.file) catalogues ∙ job.apart in
    let wrong : ⊥ = cc in wrong
