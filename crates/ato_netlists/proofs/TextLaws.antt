-- The path of a member is that of its instance, a point and its name.
use Rattle.std.proofs.Common.{◌≡◌, ℕ, List, [], ◌∷◌, ◌++◌, Option, Some, refl, ap, sym, ◌∙◌, append_assoc}
use Rattle.std.specs.Prelude.{slice_get, unwrap_or}
use Rattle.std.specs.List.{join_with_byte}
use Rattle.ato_links.specs.Parts.{names_from_root, path_text}

join_more : (c : ℕ) (xs : List (List ℕ)) (y z : List ℕ) → join_with_byte c (xs ++ y ∷ z ∷ []) ≡ join_with_byte c (xs ++ y ∷ []) ++ c ∷ z
join_more c [] y z = refl
join_more c (x ∷ []) y z = sym (append_assoc x (c ∷ y) (c ∷ z))
join_more c (x ∷ w ∷ xs) y z =
    ap (λ l. x ++ c ∷ l) (join_more c (w ∷ xs) y z) ∙ sym (append_assoc x (c ∷ join_with_byte c (w ∷ (xs ++ y ∷ []))) (c ∷ z))

-- a member of the root
pub first_path : (names : List (List ℕ)) (n : ℕ) (text name : List ℕ) → text ≡ path_text names [] → slice_get names n ≡ Some name → text ++ name ≡ path_text names (n ∷ [])
first_path names n text name e f = ap (λ t. t ++ name) e ∙ ap (λ (o : Option (List ℕ)). unwrap_or o []) (sym f)

-- a member of another instance
pub longer_path : (names : List (List ℕ)) (n k : ℕ) (path text name : List ℕ) → text ≡ path_text names (k ∷ path) → slice_get names n ≡ Some name
    → (text ++ 46 ∷ []) ++ name ≡ path_text names (n ∷ k ∷ path)
longer_path names n k path text name e f =
    append_assoc text (46 ∷ []) name
    ∙ ap (λ t. t ++ 46 ∷ name) e
    ∙ sym (join_more 46 (names_from_root names path) (unwrap_or (slice_get names k) []) name)
    ∙ ap (join_with_byte 46) (sym (append_assoc (names_from_root names path) (unwrap_or (slice_get names k) [] ∷ []) (name ∷ [])))
    ∙ ap (λ (o : Option (List ℕ)). join_with_byte 46 (names_from_root names (k ∷ path) ++ unwrap_or o [] ∷ [])) (sym f)
