-- Laws over the cells of a row, one after another.
use Rattle.std.proofs.Common.{◌≡◌, ◌<◌, ◌+◌, ◌++◌, ◌∷◌, [], ℕ, zero, suc, List, Option, length, get_or, take, drop, map, refl, sym, ap, subst, arith, add-one, drop-cons, append_assoc, inl, inr, ◌∙◌}
use Rattle.std.proofs.lemmas.List.{append-nil, length-take-le}
use Rattle.std.proofs.Math.Seq.{take-suc}
use Rattle.std.proofs.Math.ListN.{take-append-drop}
use Rattle.ato_units.specs.declared.quantities.Quantity.{Quantity}
use Rattle.ato_catalog.specs.Rows.{AreValues, HasValues, IsBadAt, IsBadCell, part_in}
use Rattle.ato_catalog.specs.declared.header.Layout.{Layout}
use Rattle.ato_catalog.specs.Reads.{ReadsCell}
use Rattle.ato_catalog.specs.declared.header.Role.{Role}
use Rattle.ato_catalog.specs.declared.header.Role.TheVariants as under
use Rattle.ato_catalog.specs.declared.values.Cell.{Cell}
use Rattle.ato_catalog.specs.declared.values.Cell.TheVariants as cells

-- the parts that some rows name
abbrev pub parts_of : Layout → List (List (List ℕ)) → List (List ℕ)
parts_of layout rows = map (part_in layout) rows

push : (roles : List Role) (cells : List (List ℕ)) (values : List (Option Quantity)) (role : Role) (cell : List ℕ) (first : List (Option Quantity))
    → AreValues roles cells values → HasValues role cell first → AreValues (roles ++ role ∷ []) (cells ++ cell ∷ []) (values ++ first)
push [] [] values role cell first h k = (first, [], rw (h, append-nil first) refl, k, refl)
push [] (c ∷ cells) values role cell first h k = absurd h
push (r ∷ roles) [] values role cell first h k = absurd h
push (r ∷ roles) (c ∷ cells) values role cell first h k =
    (h.0, h.1 ++ first, rw h.2 (append_assoc h.0 h.1 first), h.3, push roles cells h.1 role cell first h.4 k)

bad-here : (at : ℕ) (roles : List Role) (cells : List (List ℕ)) (values : List (Option Quantity)) (role : Role) (cell : List ℕ) (more : List Role) (others : List (List ℕ))
    → AreValues roles cells values → IsBadCell role cell → IsBadAt at (roles ++ role ∷ more) (cells ++ cell ∷ others) (at + length roles)
bad-here at [] [] values role cell more others h k = inl (k, omega arith)
bad-here at [] (c ∷ cells) values role cell more others h k = absurd h
bad-here at (r ∷ roles) [] values role cell more others h k = absurd h
bad-here at (r ∷ roles) (c ∷ cells) values role cell more others h k =
    let later = bad-here (at + 1) roles cells h.1 role cell more others h.4 k in
    let same : at + 1 + length roles ≡ at + length (r ∷ roles) = omega arith in
    inr (h.0, h.3, subst (λ (column : ℕ). IsBadAt (at + 1) (roles ++ role ∷ more) (cells ++ cell ∷ others) column) same later)

-- an element that is there is that with any default
get-any : {X : Type 0} (xs : List X) (i : ℕ) (d e : X) → i < length xs → get_or xs i d ≡ get_or xs i e
get-any [] i d e low = absurd (omega arith)
get-any (x ∷ xs) zero d e low = refl
get-any (x ∷ xs) (suc i) d e low = get-any xs i d e (omega arith)

more : (roles : List Role) (cells : List (List ℕ)) (values : List (Option Quantity)) (i : ℕ) (first : List (Option Quantity))
    → AreValues (take i roles) (take i cells) values → HasValues (get_or roles i under.Part) (get_or cells i []) first → i < length roles → length cells ≡ length roles
    → AreValues (take (i + 1) roles) (take (i + 1) cells) (values ++ first)
more roles cells values i first h k inside wide =
    let there : i < length cells = omega arith in
    rw (add-one, take-suc roles i under.Part inside, take-suc cells i [] there) (push (take i roles) (take i cells) values (get_or roles i under.Part) (get_or cells i []) first h k)

-- one more good cell, of no attribute,
pub plain_more : (roles : List Role) (texts : List (List ℕ)) (values new : List (Option Quantity)) (i : ℕ) (text : List ℕ) (cell : Cell)
    → AreValues (take i roles) (take i texts) values → ReadsCell (get_or roles i under.Part) text cell → cell ≡ cells.Plain → text ≡ get_or texts i [] → new ≡ values
    → i < length roles → length texts ≡ length roles → AreValues (take (i + 1) roles) (take (i + 1) texts) new
plain_more roles texts values new i text cell h reads plain here same inside wide =
    let k : HasValues (get_or roles i under.Part) text [] = subst (λ (c : Cell). ReadsCell (get_or roles i under.Part) text c) plain reads in
    let good : HasValues (get_or roles i under.Part) (get_or texts i []) [] = subst (λ (t : List ℕ). HasValues (get_or roles i under.Part) t []) here k in
    subst (λ (vs : List (Option Quantity)). AreValues (take (i + 1) roles) (take (i + 1) texts) vs) (append-nil values ∙ sym same) (more roles texts values i [] h good inside wide)

-- and of an attribute
pub value_more : (roles : List Role) (texts : List (List ℕ)) (values new : List (Option Quantity)) (i : ℕ) (text : List ℕ) (cell : Cell) (value : Option Quantity)
    → AreValues (take i roles) (take i texts) values → ReadsCell (get_or roles i under.Part) text cell → cell ≡ cells.Value value → text ≡ get_or texts i [] → new ≡ values ++ value ∷ []
    → i < length roles → length texts ≡ length roles → AreValues (take (i + 1) roles) (take (i + 1) texts) new
value_more roles texts values new i text cell value h reads is here same inside wide =
    let k : HasValues (get_or roles i under.Part) text (value ∷ []) = subst (λ (c : Cell). ReadsCell (get_or roles i under.Part) text c) is reads in
    let good : HasValues (get_or roles i under.Part) (get_or texts i []) (value ∷ []) = subst (λ (t : List ℕ). HasValues (get_or roles i under.Part) t (value ∷ [])) here k in
    subst (λ (vs : List (Option Quantity)). AreValues (take (i + 1) roles) (take (i + 1) texts) vs) (sym same) (more roles texts values i (value ∷ []) h good inside wide)

around : {X : Type 0} (xs : List X) (i : ℕ) (x : X) → i < length xs → x ≡ get_or xs i x → take i xs ++ x ∷ drop (suc i) xs ≡ xs
around xs i x inside here = let tail = drop-cons xs i x inside in ap (λ more. take i xs ++ more) (ap (λ y. y ∷ drop (suc i) xs) here ∙ sym tail) ∙ take-append-drop i xs

-- the first bad cell
pub bad_at : (roles : List Role) (texts : List (List ℕ)) (values : List (Option Quantity)) (i : ℕ) (text : List ℕ) (cell : Cell)
    → AreValues (take i roles) (take i texts) values → ReadsCell (get_or roles i under.Part) text cell → cell ≡ cells.Bad → text ≡ get_or texts i []
    → i < length roles → length texts ≡ length roles → IsBadAt 1 roles texts (i + 1)
bad_at roles texts values i text cell h reads is here inside wide =
    let role = get_or roles i under.Part in
    let k : IsBadCell role text = subst (λ (c : Cell). ReadsCell role text c) is reads in
    let bad : IsBadCell role (get_or texts i []) = subst (λ (t : List ℕ). IsBadCell role t) here k in
    let there : i < length texts = omega arith in
    let found = bad-here 1 (take i roles) (take i texts) values role (get_or texts i []) (drop (suc i) roles) (drop (suc i) texts) h bad in
    let size = length-take-le i roles (omega arith) in
    let place : 1 + i ≡ i + 1 = omega arith in
    rw (
      around roles i role inside (get-any roles i under.Part role inside),
      around texts i (get_or texts i []) there (get-any texts i [] (get_or texts i []) there),
      size,
      place,
    )
    at found
