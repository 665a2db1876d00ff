use Rattle.std.proofs.Common.{◌≡◌, ℕ, ◌<◌, ◌≤◌, ◌+◌, suc, true, false, List, [], ◌∷◌, ap, sym, ◌∙◌, refl, get_or, drop, drop-cons, length, add-one}
use Rattle.std.specs.Str.{bytes_eq}
use Rattle.std.proofs.lemmas.List.{drop_all}
use Rattle.std.specs.Prelude.{cond, Some, None}
use Rattle.std.specs.Ordering.{nat_cmp}
use Rattle.std.specs.Cmp.Lexicographic.{slice_cmp, nat_list_cmp_total}
use Rattle.std.proofs.lemmas.Map.Text.{is_eq-slice_cmp}
use Rattle.std.specs.FinMap.{from_entries, get, find, get-from_entries}
use Rattle.ato_outside.specs.Files.{bytes_at}

-- a scan in the order of the bytes finds what a scan by equal bytes does
find-bytes_at : (entries : List (List ℕ × List ℕ)) (name : List ℕ) → find (slice_cmp nat_cmp) name entries ≡ bytes_at entries name
find-bytes_at [] name = refl
find-bytes_at (entry ∷ entries) name =
    ap (λ same. cond same (Some entry.1) (find (slice_cmp nat_cmp) name entries)) (is_eq-slice_cmp name entry.0)
    ∙ ap (cond _ (Some entry.1)) (find-bytes_at entries name)

-- what the files made of entries hold at a name
pub get_entries : (entries : List (List ℕ × List ℕ)) (name : List ℕ) → get (from_entries {R = slice_cmp nat_cmp} entries) name ≡ bytes_at entries name
get_entries entries name = get-from_entries nat_list_cmp_total entries name ∙ find-bytes_at entries name

-- the entry at a place decides, or those after it do
one_more : (entries : List (List ℕ × List ℕ)) (i : ℕ) (entry : List ℕ × List ℕ) (name : List ℕ) → i < length entries → entry ≡ get_or entries i entry →
    bytes_at (drop i entries) name ≡ cond (bytes_eq name entry.0) (Some entry.1) (bytes_at (drop (i + 1) entries) name)
one_more entries i entry name inside is =
    ap (λ l. bytes_at l name) (drop-cons entries i entry inside ∙ ap (λ first. first ∷ drop (suc i) entries) (sym is))
    ∙ ap (λ k. cond (bytes_eq name entry.0) (Some entry.1) (bytes_at (drop k entries) name)) (sym (add-one i))

-- an entry of the name gives its bytes
pub found_here : (entries : List (List ℕ × List ℕ)) (i : ℕ) (entry : List ℕ × List ℕ) (name : List ℕ) → i < length entries → entry ≡ get_or entries i entry →
    bytes_eq name entry.0 ≡ true → bytes_at (drop i entries) name ≡ Some entry.1
found_here entries i entry name inside is same =
    one_more entries i entry name inside is ∙ ap (λ b. cond b (Some entry.1) (bytes_at (drop (i + 1) entries) name)) same

-- an entry of another name is passed over
pub found_later : (entries : List (List ℕ × List ℕ)) (i : ℕ) (entry : List ℕ × List ℕ) (name : List ℕ) → i < length entries → entry ≡ get_or entries i entry →
    bytes_eq name entry.0 ≡ false → bytes_at (drop (i + 1) entries) name ≡ bytes_at (drop i entries) name
found_later entries i entry name inside is other =
    sym (one_more entries i entry name inside is ∙ ap (λ b. cond b (Some entry.1) (bytes_at (drop (i + 1) entries) name)) other)

-- past the last entry there is nothing
pub found_nowhere : (entries : List (List ℕ × List ℕ)) (i : ℕ) (name : List ℕ) → length entries ≤ i → bytes_at (drop i entries) name ≡ None
found_nowhere entries i name past = ap (λ l. bytes_at l name) (drop_all i entries past)

-- the steps of a scan for the first entry of a name
pub ruleset first_entries = (get_entries, found_here, found_later, found_nowhere)
