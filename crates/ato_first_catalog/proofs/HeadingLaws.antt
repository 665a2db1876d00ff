-- Laws over the headings of a header.
use Rattle.std.proofs.Common.{◌≡◌, ◌<◌, ◌≤◌, ◌+◌, ◌-◌, ◌++◌, ◌∷◌, [], ℕ, List, true, arith, false, length, get_or, drop, refl, add-one, drop-cons, append_assoc}
use Rattle.std.proofs.lemmas.List.{append-nil, drop_all}
use Rattle.std.specs.Str.{bytes_eq}
use Rattle.ato_first_catalog.specs.Header.{columns_from, is_among, is_distinct}
use Rattle.ato_first_catalog.specs.Rows.{cell_in}
use Rattle.ato_first_catalog.specs.declared.header.Column.{Column}

pub is_among_more : (cells : List (List ℕ)) (word : List ℕ) (i : ℕ) → i < length cells → bytes_eq word (get_or cells i []) ≡ false → is_among (drop i cells) word ≡ is_among (drop (i + 1) cells) word
is_among_more cells word i inside here = rw (drop-cons cells i [], here, add-one) refl

pub is_among_here : (cells : List (List ℕ)) (word : List ℕ) (i : ℕ) → i < length cells → bytes_eq word (get_or cells i []) ≡ true → is_among (drop i cells) word ≡ true
is_among_here cells word i inside here = rw (drop-cons cells i [], here) refl

pub is_among_end : (cells : List (List ℕ)) (word : List ℕ) (i : ℕ) → length cells ≤ i → is_among (drop i cells) word ≡ false
is_among_end cells word i out = rw (drop_all i cells out) refl

pub is_distinct_more : (cells : List (List ℕ)) (i : ℕ) → i < length cells → is_among (drop (i + 1) cells) (get_or cells i []) ≡ false → is_distinct (drop i cells) ≡ is_distinct (drop (i + 1) cells)
unfolding is_distinct
is_distinct_more cells i inside here = let later = rw add-one at here in rw (drop-cons cells i [], later, add-one) refl

pub is_distinct_here : (cells : List (List ℕ)) (i : ℕ) → i < length cells → is_among (drop (i + 1) cells) (get_or cells i []) ≡ true → is_distinct (drop i cells) ≡ false
unfolding is_distinct
is_distinct_here cells i inside here = let later = rw add-one at here in rw (drop-cons cells i [], later) refl

pub is_distinct_end : (cells : List (List ℕ)) (i : ℕ) → length cells ≤ i → is_distinct (drop i cells) ≡ true
unfolding is_distinct
is_distinct_end cells i out = rw (drop_all i cells out) refl

pub columns_step : (cells : List (List ℕ)) (i : ℕ) (so_far all : List Column) → i < length cells → all ≡ so_far ++ columns_from (i + 1) (drop i cells)
    → all ≡ (so_far ++ record { name = cell_in cells (i + 1); at = i + 1 } ∷ []) ++ columns_from (i + 1 + 1) (drop (i + 1) cells)
unfolding columns_from
columns_step cells i so_far all inside e =
    let place : i + 1 - 1 ≡ i = omega arith in
    let tail : drop i cells ≡ get_or cells i [] ∷ drop (i + 1) cells = rw add-one (drop-cons cells i [] inside) in
    let more = rw tail at e in
    rw (append_assoc, place) more

pub columns_end : (cells : List (List ℕ)) (i : ℕ) (so_far all : List Column) → length cells ≤ i → all ≡ so_far ++ columns_from (i + 1) (drop i cells) → all ≡ so_far
unfolding columns_from
columns_end cells i so_far all out e = rw (drop_all i cells out, append-nil so_far) at e
