-- Laws over the headings of a header.
use Rattle.std.proofs.Common.{◌≡◌, ◌<◌, ◌≤◌, ◌+◌, ◌++◌, ◌∷◌, [], ℕ, zero, suc, List, Bool, true, false, Some, None, arith, length, get_or, take, drop, refl, ap, add-one, drop-cons, append_assoc}
use Rattle.std.specs.Prelude.{◌||◌, if◌then◌else◌}
use Rattle.std.specs.Str.{bytes_eq}
use Rattle.std.proofs.lemmas.List.{append-nil, drop_all, length-take-le}
use Rattle.std.proofs.lemmas.List.Folds.{list_any-append}
use Rattle.std.proofs.Math.Seq.{take-suc}
use Rattle.ato_catalog.specs.Header.{columns_from, is_among, is_twice, put_column, role_of, twice_after}
use Rattle.ato_catalog.specs.declared.header.Column.{Column}
use Rattle.ato_catalog.specs.declared.header.Role.{Role}
use Rattle.ato_catalog.specs.declared.header.Role.TheVariants as under

or-true : (a : Bool) → (a || true) ≡ true
or-true true = refl
or-true false = refl

pub is_among_more : (cells : List (List ℕ)) (word : List ℕ) (i : ℕ) → i < length cells → is_among (take i cells) word ≡ false → bytes_eq word (get_or cells i []) ≡ false
    → is_among (take (i + 1) cells) word ≡ false
is_among_more cells word i inside before here =
    rw (add-one, take-suc cells i [] inside, list_any-append (bytes_eq word) (take i cells) (get_or cells i [] ∷ []), before, here) refl

any-here : (cells : List (List ℕ)) (word : List ℕ) (i n : ℕ) → i < n → i < length cells → bytes_eq word (get_or cells i []) ≡ true → is_among (take n cells) word ≡ true
any-here [] word i n low inside here = absurd (omega arith)
any-here (cell ∷ cells) word i zero low inside here = absurd (omega arith)
any-here (cell ∷ cells) word zero (suc n) low inside here = rw here refl
any-here (cell ∷ cells) word (suc i) (suc n) low inside here = rw (any-here cells word i n (omega arith) (omega arith) here) (or-true (bytes_eq word cell))

pub is_among_here : (cells : List (List ℕ)) (word : List ℕ) (i n : ℕ) → bytes_eq word (get_or cells i []) ≡ true → i < n → i < length cells → is_among (take n cells) word ≡ true
is_among_here cells word i n here low inside = any-here cells word i n low inside here

new-step : (before : List (List ℕ)) (heading : List ℕ) (rest : List (List ℕ)) → is_twice before heading ≡ false → twice_after before (heading ∷ rest) ≡ twice_after (before ++ heading ∷ []) rest
unfolding twice_after
new-step before heading rest new = ap (λ (b : Bool). if b then Some (length before + 1) else twice_after (before ++ heading ∷ []) rest) new

old-step : (before : List (List ℕ)) (heading : List ℕ) (rest : List (List ℕ)) → is_twice before heading ≡ true → twice_after before (heading ∷ rest) ≡ Some (length before + 1)
unfolding twice_after
old-step before heading rest old = ap (λ (b : Bool). if b then Some (length before + 1) else twice_after (before ++ heading ∷ []) rest) old

pub twice_more : (cells : List (List ℕ)) (i : ℕ) → i < length cells → is_twice (take i cells) (get_or cells i []) ≡ false
    → twice_after (take i cells) (drop i cells) ≡ twice_after (take (i + 1) cells) (drop (i + 1) cells)
twice_more cells i inside new = rw (drop-cons cells i [], add-one, take-suc cells i [] inside) (new-step (take i cells) (get_or cells i []) (drop (suc i) cells) new)

pub twice_here : (cells : List (List ℕ)) (i : ℕ) → i < length cells → is_twice (take i cells) (get_or cells i []) ≡ true
    → twice_after (take i cells) (drop i cells) ≡ Some (i + 1)
twice_here cells i inside old =
    let size : length (take i cells) ≡ i = length-take-le i cells (omega arith) in
    rw (drop-cons cells i [], old-step (take i cells) (get_or cells i []) (drop (suc i) cells) old, size) refl

pub twice_end : (cells : List (List ℕ)) (i : ℕ) → length cells ≤ i → twice_after (take i cells) (drop i cells) ≡ None
unfolding twice_after
twice_end cells i out = rw (drop_all i cells out) refl

put-other : (role : Role) (at : ℕ) (name : List ℕ) (columns : List Column) → (role ≡ under.Attribute → ⊥) → put_column role at name columns ≡ columns
put-other under.Part at name columns h = refl
put-other under.Kind at name columns h = refl
put-other under.Package at name columns h = refl
put-other under.Footprint at name columns h = refl
put-other under.Price at name columns h = refl
put-other under.Remark at name columns h = refl
put-other under.Attribute at name columns h = absurd (h refl)

pub columns_step : (cells : List (List ℕ)) (i : ℕ) (so_far all : List Column) → i < length cells → role_of (get_or cells i []) ≡ under.Attribute
    → all ≡ so_far ++ columns_from (i + 1) (drop i cells)
    → all ≡ (so_far ++ record { name = get_or cells i []; at = i + 1 } ∷ []) ++ columns_from (i + 1 + 1) (drop (i + 1) cells)
unfolding columns_from
columns_step cells i so_far all inside attribute e =
    let tail : drop i cells ≡ get_or cells i [] ∷ drop (i + 1) cells = rw add-one (drop-cons cells i [] inside) in
    let more = rw (tail, attribute) at e in
    rw append_assoc more

pub columns_pass : (cells : List (List ℕ)) (i : ℕ) (so_far all : List Column) → i < length cells → (role_of (get_or cells i []) ≡ under.Attribute → ⊥)
    → all ≡ so_far ++ columns_from (i + 1) (drop i cells) → all ≡ so_far ++ columns_from (i + 1 + 1) (drop (i + 1) cells)
unfolding columns_from
columns_pass cells i so_far all inside other e =
    let tail : drop i cells ≡ get_or cells i [] ∷ drop (i + 1) cells = rw add-one (drop-cons cells i [] inside) in
    let more = rw tail at e in
    rw (put-other (role_of (get_or cells i [])) (i + 1) (get_or cells i []) (columns_from (i + 1 + 1) (drop (i + 1) cells)) other) at more

pub columns_end : (cells : List (List ℕ)) (i : ℕ) (so_far all : List Column) → length cells ≤ i → all ≡ so_far ++ columns_from (i + 1) (drop i cells) → all ≡ so_far
unfolding columns_from
columns_end cells i so_far all out e = rw (drop_all i cells out, append-nil so_far) at e
