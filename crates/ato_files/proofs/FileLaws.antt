-- Files that are loaded one after another are those of the project.
use Rattle.std.proofs.Common.{true≢false, ap, sym, ◌∙◌, refl, arith, subst, inl, inr}
use Rattle.std.specs.Prelude.{◌≡◌, ℕ, zero, suc, ◌≤◌, Bool, true, false, ◌||◌, cond, List, [], ◌∷◌, ◌++◌, map, length, take, fold, Some, None, slice_get}
use Rattle.std.specs.List.{flat_map, list_any, AllByRecursion}
use Rattle.std.specs.Str.{bytes_eq}
use Rattle.std.specs.Option.{unwrap_or}
use Rattle.std.proofs.lemmas.List.{append-nil, append_assoc, length_push, map-append, take_all}
use Rattle.std.proofs.lemmas.Option.{none-some, slice_get_cases}
use Rattle.std.proofs.lemmas.Grind.{flat_map-append, fold-append}
use Rattle.std.proofs.lemmas.Slice.Eq.{bytes_eq-Decides}
use Rattle.ato_base.specs.NameTable.{with_name}
use Rattle.ato_files.specs.declared.program.SourceFile.{SourceFile}
use Rattle.ato_files.specs.Lists.{Among, here, there}
use Rattle.ato_files.specs.Files.{mentioned, known, Reached, at_entry, by_import, name_of, AreFiles, AreFirst, no_file, next_file, LoadsAll}

-- ---- lists

pub among_left : {X : Type 0} {x : X} {xs : List X} (ys : List X) → Among x xs → Among x (xs ++ ys)
among_left ys here = here
among_left ys (there a) = there (among_left ys a)

pub among_right : {X : Type 0} {x : X} (xs : List X) {ys : List X} → Among x ys → Among x (xs ++ ys)
among_right [] a = a
among_right (x ∷ xs) a = there (among_right xs a)

pub among_flat_map : {X A : Type 0} (f : X → List A) {x : X} {a : A} {xs : List X} → Among x xs → Among a (f x) → Among a (flat_map f xs)
among_flat_map f (here {xs = xs}) b = among_left (flat_map f xs) b
among_flat_map f (there {y = y} a) b = among_right (f y) (among_flat_map f a b)

pub all_append : {X : Type 0} (P : X → Type 0) (xs ys : List X) → AllByRecursion P xs → AllByRecursion P ys → AllByRecursion P (xs ++ ys)
all_append P [] ys left right = right
all_append P (x ∷ xs) ys left right = (left.0, all_append P xs ys left.1 right)

all_map : {X : Type 0} (P Q : X → Type 0) (xs : List X) → ((x : X) → P x → Q x) → AllByRecursion P xs → AllByRecursion Q xs
all_map P Q [] f all = tt
all_map P Q (x ∷ xs) f all = (f x all.0, all_map P Q xs f all.1)

pub all_among : {X : Type 0} (P : X → Type 0) (xs : List X) → ((x : X) → Among x xs → P x) → AllByRecursion P xs
all_among P [] f = tt
all_among P (x ∷ xs) f = (f x here, all_among P xs (λ y a. f y (there a)))

some-injective : {X : Type 0} (x y : X) → Some x ≡ Some y → x ≡ y
some-injective x y e = ap (λ o. unwrap_or o x) e

pub at_place : {X : Type 0} (P : X → Type 0) (xs : List X) (i : ℕ) (x : X) → slice_get xs i ≡ Some x → AllByRecursion P xs → P x
at_place P [] i x e all = absurd (none-some x e)
at_place P (y ∷ xs) zero x e all = subst P (some-injective y x e) all.0
at_place P (y ∷ xs) (suc i) x e all = at_place P xs i x e all.1

take_one_more : {X : Type 0} (xs zs : List X) (n : ℕ) (x : X) → slice_get xs n ≡ Some x → take (suc n) (xs ++ zs) ≡ take n xs ++ x ∷ []
take_one_more [] zs n x e = absurd (none-some x e)
take_one_more (y ∷ xs) zs zero x e = ap (λ z. z ∷ []) (some-injective y x e)
take_one_more (y ∷ xs) zs (suc n) x e = ap (λ z. y ∷ z) (take_one_more xs zs n x e)

-- ---- names become known

-- Known names stay, and new ones go last.
grows_by_one : (names : List (List ℕ)) (m : List ℕ) (b : Bool) → (zs : List (List ℕ)) × (cond b names (names ++ m ∷ []) ≡ names ++ zs)
grows_by_one names m true = ([], sym (append-nil names))
grows_by_one names m false = (m ∷ [], refl)

pub grows : (names ms : List (List ℕ)) → (zs : List (List ℕ)) × (fold with_name names ms ≡ names ++ zs)
grows names [] = ([], sym (append-nil names))
grows names (m ∷ ms) =
    let more = grows (with_name names m) ms in
    let one = grows_by_one names m (list_any (bytes_eq m) names) in
    (one.0 ++ more.0, more.1 ∙ ap (λ z. z ++ more.0) one.1 ∙ append_assoc names one.0 more.0)

-- what holds of known names and of mentioned ones holds of all that are known then
added : (P : List ℕ → Type 0) (names : List (List ℕ)) (m : List ℕ) (b : Bool) → AllByRecursion P names → P m → AllByRecursion P (cond b names (names ++ m ∷ []))
added P names m true old new = old
added P names m false old new = all_append P names (m ∷ []) old (new, tt)

pub all_known : (P : List ℕ → Type 0) (names ms : List (List ℕ)) → AllByRecursion P names → AllByRecursion P ms → AllByRecursion P (fold with_name names ms)
all_known P names [] old new = old
all_known P names (m ∷ ms) old new = all_known P (with_name names m) ms (added P names m (list_any (bytes_eq m) names) old new.0) new.1

-- each mentioned name is known then
or_true : (a b : Bool) → (a || b) ≡ true → (P : Type 0) → (a ≡ true → P) → (b ≡ true → P) → P
or_true true b h P f g = f refl
or_true false b h P f g = g h

pub any_among : (m : List ℕ) (xs : List (List ℕ)) → list_any (bytes_eq m) xs ≡ true → Among m xs
any_among m [] h = absurd (true≢false (sym h))
any_among m (x ∷ xs) h = or_true (bytes_eq m x) (list_any (bytes_eq m) xs) h (Among m (x ∷ xs))
    (λ e. subst (λ z. Among z (x ∷ xs)) (sym ((bytes_eq-Decides m x).0 e)) here) (λ e. there (any_among m xs e))

among_added : (names : List (List ℕ)) (m : List ℕ) (b : Bool) → (b ≡ true → Among m names) → Among m (cond b names (names ++ m ∷ []))
among_added names m true old = old refl
among_added names m false old = among_right names here

pub mention_known : {m : List ℕ} (names ms : List (List ℕ)) → Among m ms → Among m (fold with_name names ms)
mention_known {m} names ms (here {xs = xs}) =
    let more = grows (with_name names m) xs in
    subst (Among m) (sym more.1) (among_left more.0 (among_added names m (list_any (bytes_eq m) names) (any_among m names)))
mention_known names ms (there {y = y} {xs = xs} a) = mention_known (with_name names y) xs a

-- ---- files

reached_more : {entry : List ℕ} {files : List SourceFile} {name : List ℕ} (more : List SourceFile) → Reached entry files name → Reached entry (files ++ more) name
reached_more more at_entry = at_entry
reached_more more (by_import file a r b) = by_import file (among_left more a) (reached_more more r) b

pub known_more : (entry : List ℕ) (before : List SourceFile) (file : SourceFile) → known entry (before ++ file ∷ []) ≡ fold with_name (known entry before) (mentioned file)
known_more entry before file = ap (fold with_name (entry ∷ [])) (flat_map-append mentioned before (file ∷ []) ∙ ap (λ z. flat_map mentioned before ++ z) (append-nil (mentioned file)))
    ∙ fold-append with_name (entry ∷ []) (flat_map mentioned before) (mentioned file)

module _ {IsGood : List SourceFile → SourceFile → Type 0} {entry : List ℕ} where
  reach : {files : List SourceFile} → AreFirst IsGood entry files → AllByRecursion (Reached entry files) (known entry files)
  reach no_file = (at_entry, tt)
  reach (next_file {before = before} {file = file} d e good) =
      let R = Reached entry (before ++ file ∷ []) in
      let old : AllByRecursion R (known entry before) = all_map (Reached entry before) R (known entry before) (λ x r. reached_more (file ∷ []) r) (reach d) in
      subst (AllByRecursion R) (sym (known_more entry before file)) (all_known R (known entry before) (mentioned file) old
      (all_among R (mentioned file) (λ x a. by_import file (among_right before here) (at_place R (known entry before) (length before) file.name e old) a)))

  pub order : {files : List SourceFile} → AreFirst IsGood entry files → map name_of files ≡ take (length files) (known entry files)
  order no_file = refl
  order (next_file {before = before} {file = file} d e good) =
      let more = grows (known entry before) (mentioned file) in
      let long : suc (length before) ≡ length (before ++ file ∷ []) = (let push = length_push before file in omega arith) in
      map-append name_of before (file ∷ [])
      ∙ ap (λ z. z ++ file.name ∷ []) (order d)
      ∙ sym (take_one_more (known entry before) more.0 (length before) file.name e)
      ∙ ap (take (suc (length before))) (sym (known_more entry before file ∙ more.1))
      ∙ ap (λ n. take n (known entry (before ++ file ∷ []))) long

there_is : {entry : List ℕ} {files : List SourceFile} → AreFiles entry files → {name : List ℕ} → Reached entry files name → Among name (map name_of files)
there_is {entry = entry} {files = files} a at_entry =
    let more = grows (entry ∷ []) (flat_map mentioned files) in subst (Among entry) (sym (a.in_order ∙ more.1)) here
there_is {entry = entry} {files = files} a {name} (by_import file f r m) =
    subst (Among name) (sym a.in_order) (mention_known (entry ∷ []) (flat_map mentioned files) (among_flat_map mentioned f m))

past : {X : Type 0} (xs : List X) (i : ℕ) → slice_get xs i ≡ None → length xs ≤ i
past xs i e = elim (slice_get_cases xs i).1 [ inl h ↦ absurd (none-some h.0 (sym e ∙ h.2)) | inr h ↦ h.0 ]

pub loads_all : (IsGood : List SourceFile → SourceFile → Type 0) (entry : List ℕ) (files : List SourceFile) → LoadsAll IsGood entry files
loads_all IsGood entry files = record {
  all = λ first end. let same : map name_of files ≡ known entry files = order first ∙ take_all (length files) (known entry files) (past (known entry files) (length files) end) in
      record { in_order = same; reached = subst (AllByRecursion (Reached entry files)) (sym same) (reach first) };
  there = there_is;
}
