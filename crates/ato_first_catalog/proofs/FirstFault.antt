-- The first fault in the rows, one row after another.
use Rattle.std.proofs.Common.{◌≡◌, ◌<◌, ◌≤◌, ◌+◌, ◌-◌, ◌++◌, ◌∷◌, [], ℕ, List, Bool, true, false, Option, None, Ok, length, get_or, take, drop, map, refl, add-one, drop-cons, arith, ◌∙◌, ap}
use Rattle.std.specs.Prelude.{◌||◌, option_map}
use Rattle.std.specs.Str.{bytes_eq}
use Rattle.std.proofs.lemmas.List.{drop_all, length-map, length-take-le, map-append}
use Rattle.std.proofs.Math.Seq.{take-length, take-suc}
use Rattle.std.proofs.lemmas.List.Folds.{list_any-append}
use Rattle.ato_base.specs.declared.faults.Fault.{Fault}
use Rattle.ato_base.specs.declared.faults.Refusal.{Refusal}
use Rattle.ato_base.specs.declared.faults.Refusal.TheVariants as refusal
use Rattle.ato_first_catalog.specs.Catalogue.{Explains}
use Rattle.ato_first_catalog.specs.Contents.{contents_in, fault_at, first_fault, is_taken, row_fault}
use Rattle.ato_first_catalog.specs.Header.{is_header, layout_of}
use Rattle.ato_first_catalog.specs.Rows.{part_in, row_of}
use Rattle.ato_first_catalog.specs.declared.header.Layout.{Layout}

or-false : (a : Bool) → (a || false) ≡ a
or-false true = refl
or-false false = refl

-- the elements up to and with this one
pub map-take-more : {X Y : Type 0} (f : X → Y) (xs : List X) (i : ℕ) (x : X) → i < length xs → x ≡ get_or xs i x → map f (take (i + 1) xs) ≡ map f (take i xs) ++ f x ∷ []
map-take-more f xs i x inside here = rw (add-one, take-suc xs i x inside, map-append, ← here) refl

-- this element and those after it
drop-here : {X : Type 0} (xs : List X) (i : ℕ) (x : X) → i < length xs → x ≡ get_or xs i x → drop i xs ≡ x ∷ drop (i + 1) xs
drop-here xs i x inside here = rw (drop-cons xs i x, ← here, add-one) refl

-- the parts that some records name
abbrev pub parts_of : {X : Type 0} → (X → List (List ℕ)) → Layout → List X → List (List ℕ)
parts_of cells_of layout rows = map (λ row. part_in layout (cells_of row)) rows

module _ {X : Type 0} (cells_of : X → List (List ℕ)) (layout : Layout) (rows : List X) (i : ℕ) where
  length-before : i ≤ length rows → length (parts_of cells_of layout (take i rows)) ≡ i
  length-before inside = length-map (take i rows) (λ row. part_in layout (cells_of row)) ∙ length-take-le i rows inside

  pub is_taken-more : (row : X) (part : List ℕ) → i < length rows → row ≡ get_or rows i row
      → is_taken (parts_of cells_of layout (take (i + 1) rows)) part ≡ (is_taken (parts_of cells_of layout (take i rows)) part || bytes_eq (part_in layout (cells_of row)) part)
  is_taken-more row part inside here =
      rw (
        map-take-more (λ row. part_in layout (cells_of row)) rows i row inside here,
        list_any-append (λ held. bytes_eq held part) (parts_of cells_of layout (take i rows)) (part_in layout (cells_of row) ∷ []),
      )
      (ap (λ more. is_taken (parts_of cells_of layout (take i rows)) part || more) (or-false (bytes_eq (part_in layout (cells_of row)) part)))

  pub first_fault-more : (row : X) (taken : Bool) → i < length rows → row ≡ get_or rows i row
      → taken ≡ is_taken (parts_of cells_of layout (take i rows)) (part_in layout (cells_of row))
      → row_fault layout i taken (cells_of row) ≡ None
      → first_fault layout (parts_of cells_of layout (take i rows)) (map cells_of (drop i rows))
      ≡ first_fault layout (parts_of cells_of layout (take (i + 1) rows)) (map cells_of (drop (i + 1) rows))
  unfolding first_fault
  first_fault-more row taken inside here same sound =
      rw (map-take-more (λ row. part_in layout (cells_of row)) rows i row inside here, drop-here rows i row inside here, length-before (omega arith), ← same, sound) refl

  pub first_fault-here : (row : X) (taken : Bool) (all : Option Fault) (e : Refusal) → i < length rows → row ≡ get_or rows i row
      → taken ≡ is_taken (parts_of cells_of layout (take i rows)) (part_in layout (cells_of row))
      → all ≡ first_fault layout (parts_of cells_of layout (take i rows)) (map cells_of (drop i rows))
      → Explains (option_map (λ found. fault_at found.0 (i + 1) found.1) (row_fault layout i taken (cells_of row))) e
      → Explains all e
  unfolding first_fault
  first_fault-here row taken all refusal.NoMemory inside here same so_far h = tt
  first_fault-here row taken all (refusal.Fault found) inside here same so_far h =
      rw (so_far, drop-here rows i row inside here, length-before (omega arith), ← same, h) refl

  pub first_fault_end : length rows ≤ i → first_fault layout (parts_of cells_of layout (take i rows)) (map cells_of (drop i rows)) ≡ None
  unfolding first_fault
  first_fault_end out = rw (drop_all i rows out) refl

map-map : {X Y Z : Type 0} (g : Y → Z) (f : X → Y) (xs : List X) → map g (map f xs) ≡ map (λ x. g (f x)) xs
map-map g f [] = refl
map-map g f (x ∷ xs) = ap (λ ys. g (f x) ∷ ys) (map-map g f xs)

-- a slice from 1 on, as the code writes it
slice-rest : {X : Type 0} (x : X) (xs : List X) → take (length (x ∷ xs) - 1) (drop 1 (x ∷ xs)) ≡ xs
slice-rest x xs = let n : length (x ∷ xs) - 1 ≡ length xs = omega arith in rw (n, take-length xs) refl

-- the catalogue of a header and the rows below it, where none of these has a fault
pub contents_in-rows : {X : Type 0} (cells_of : X → List (List ℕ)) (records rows : List X) (header : X) → 1 ≤ length records → header ≡ get_or records 0 header
    → rows ≡ take (length records - 1) (drop 1 records)
    → is_header (cells_of header) ≡ true → first_fault (layout_of (cells_of header)) [] (map cells_of rows) ≡ None
    → contents_in (map cells_of records) ≡ Ok (record { columns = (layout_of (cells_of header)).attributes; rows = map (λ row. row_of (layout_of (cells_of header)) (cells_of row)) rows })
unfolding contents_in
contents_in-rows cells_of [] rows header inside here rest named sound = absurd (omega arith)
contents_in-rows cells_of (first ∷ below) rows header inside here rest named sound =
    let same : rows ≡ below = rest ∙ slice-rest first below in
    let fine = rw same at sound in
    rw (same, ← here, named, fine, map-map (row_of (layout_of (cells_of header))) cells_of below) refl
