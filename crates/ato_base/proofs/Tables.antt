use Rattle.std.proofs.Common.{◌≡◌, ℕ, ◌+◌, Bool, true, false, ◌||◌, cond, not, List, [], ◌∷◌, ◌++◌, length, map, ap, sym, ◌∙◌, refl, nat_lt, Option, Some, None, slice_get, position, if◌then◌else◌, option_map, arith}
use Rattle.std.specs.Prelude.{String, string_bytes}
use Rattle.std.specs.List.{list_any, prefix_len, position_or_len}
use Rattle.std.specs.Str.{bytes_eq}
use Rattle.std.specs.String.{string_eq}
use Rattle.std.specs.declared.alloc.Global.{Global}
use Rattle.std.proofs.lemmas.List.{length-map, map-append}
use Rattle.std.proofs.lemmas.Option.{slice_get-map}
use Rattle.std.proofs.lemmas.Slice.Eq.{bytes_eq-Decides}
use Rattle.indexmap.specs.IndexSet.{insert_key}
use Rattle.ato_base.specs.NameTable.{with_name, number_of}

-- a test of what the elements stand for
pub list_any-map : {A B : Type 0} (v : A → B) (p : B → Bool) (xs : List A) → list_any p (map v xs) ≡ list_any (λ x. p (v x)) xs
list_any-map v p [] = refl
list_any-map v p (x ∷ xs) = ap (λ b. p (v x) || b) (list_any-map v p xs)

prefix_len-map : {A B : Type 0} (v : A → B) (p : B → Bool) (xs : List A) → prefix_len p (map v xs) ≡ prefix_len (λ x. p (v x)) xs
prefix_len-map v p [] = refl
prefix_len-map v p (x ∷ xs) = ap (λ n. cond (p (v x)) (1 + n) 0) (prefix_len-map v p xs)

pub position_or_len-map : {A B : Type 0} (v : A → B) (p : B → Bool) (xs : List A) → position_or_len p (map v xs) ≡ position_or_len (λ x. p (v x)) xs
position_or_len-map v p xs = prefix_len-map v (λ x. not (p x)) xs

pub position-map : {A B : Type 0} (v : A → B) (p : B → Bool) (xs : List A) → position p (map v xs) ≡ position (λ x. p (v x)) xs
position-map v p xs =
    ap (λ n. cond (nat_lt n (length (map v xs))) (Some n) None) (position_or_len-map v p xs)
    ∙ ap (λ n. cond (nat_lt (position_or_len (λ x. p (v x)) xs) n) (Some (position_or_len (λ x. p (v x)) xs)) None) (length-map xs v)

-- the texts of a set's strings after one is inserted
pub map-insert_key : (keys : List (String Global)) (key : String Global) → map string_bytes (insert_key string_eq keys key) ≡ with_name (map string_bytes keys) (string_bytes key)
map-insert_key keys key =
    by (list_any (string_eq key) keys) ∙ ap (λ b. if b then map string_bytes keys else map string_bytes keys ++ string_bytes key ∷ []) (sym (list_any-map string_bytes (bytes_eq (string_bytes key)) keys))
  where
    by : (b : Bool) → map string_bytes (if b then keys else keys ++ key ∷ []) ≡ (if b then map string_bytes keys else map string_bytes keys ++ string_bytes key ∷ [])
    by true = refl
    by false = map-append string_bytes keys (key ∷ [])

-- the text of the string that an equal string found
pub held_text : (keys : List (String Global)) (n : ℕ) (key found : String Global) → slice_get keys n ≡ Some found → string_eq key found ≡ true → slice_get (map string_bytes keys) n ≡ Some (string_bytes key)
held_text keys n key found at same =
    slice_get-map string_bytes keys n ∙ ap (option_map string_bytes) at ∙ ap Some (sym ((bytes_eq-Decides (string_bytes key) (string_bytes found)).0 same))
