-- Where no fault stands in the tree, no path of it is cut off.
use Rattle.std.proofs.Common.{true≢false, ap, sym, ◌∙◌, refl, arith, subst, inl, inr}
use Rattle.std.specs.Prelude.{◌≡◌, ℕ, zero, suc, ◌+◌, ◌<◌, ◌≤◌, Bool, true, false, ◌||◌, ◌&&◌, ◌==◌, nat_eq, ⊤, nat_lt, List, [], ◌∷◌, ◌++◌, map, length, Option, Some, None, option_to_list, slice_get, find, filter_map, ◌⊎◌, if◌then◌else◌}
use Rattle.std.specs.List.{flat_map, list_any, position_or_len, AllByRecursion, IsDistinct}
use Rattle.std.proofs.lemmas.Bool.{eqb-true, ltb-true}
use Rattle.std.specs.Option.{option_map, option_or, option_and_then}
use Rattle.std.proofs.lemmas.Option.{none-some, same_Some, cond_some}
use Rattle.std.proofs.lemmas.Map.Steps.{length-le_from_distinct_below}
use Rattle.ato_ast.specs.declared.names.Named.{Named}
use Rattle.ato_ast.specs.declared.stmts.Stmt.{Stmt}
use Rattle.ato_ast.specs.declared.stmts.Stmt.TheVariants as stmt
use Rattle.ato_files.specs.declared.program.SourceFile.{SourceFile}
use Rattle.ato_files.specs.Lists.{last_of, first_of_all}
use Rattle.ato_files.specs.Blocks.{BlockAt, blocks_of, block_of, own, imported, import_file, imports_of, meaning, meaning_in}
use Rattle.ato_files.specs.Members.{signal, instance, param}
use Rattle.ato_instance_tree.specs.Types.{type_stmts, meant}
use Rattle.ato_instance_tree.specs.Walk.{news_of, news, replaces_of, replaces, replacements, leads, made, walk, type_at}
use Rattle.ato_instance_tree.specs.Members.{Member, pin, named, members}
use Rattle.ato_instance_tree.specs.Order.{Spot, leaf, made_at, member_spots, spots, nodes, instance_of, instances}
use Rattle.ato_instance_tree.specs.TreeFaults.{Limits, types_around, made_faults, instance_faults, faults_from, tree_fault, not_special}

-- ---- a type is a block

pub among_then : {X Y : Type 0} (f : X → Option Y) (o : Option X) (y : Y) → option_and_then f o ≡ Some y → (x : X) × (o ≡ Some x) × (f x ≡ Some y)
among_then f None y e = absurd (none-some y e)
among_then f (Some x) y e = (x, refl, e)

either : {X : Type 0} (o p : Option X) (x : X) → option_or o p ≡ Some x → (o ≡ Some x) ⊎ (p ≡ Some x)
either None p x e = inr e
either (Some y) p x e = inl e

pub own_below : (files : List SourceFile) (file name b : ℕ) → own files file name ≡ Some b → b < length (blocks_of files)
own_below files file name b e =
    let test = λ (x : BlockAt). (x.file == file) && (x.block.name.name.0 == name) in
    let at = position_or_len test (blocks_of files) in
    let h = cond_some (nat_lt at (length (blocks_of files))) at b e in
    subst (λ z. z < length (blocks_of files)) h.1 (ltb-true at (length (blocks_of files)) h.0)

imported_below : (files : List SourceFile) (file name b : ℕ) → option_and_then (λ (f : SourceFile). option_and_then (imported files f) (find (λ import. import.0.name.0 == name) (imports_of f))) (slice_get files file) ≡ Some b
    → b < length (blocks_of files)
imported_below files file name b e =
    let at = among_then (λ (f : SourceFile). option_and_then (imported files f) (find (λ import. import.0.name.0 == name) (imports_of f))) (slice_get files file) b e in
    let which = among_then (imported files at.0) (find (λ import. import.0.name.0 == name) (imports_of at.0)) b at.2 in
    let from = among_then (λ k. own files k which.0.0.name.0) (import_file files at.0 which.0.1) b which.2 in
    own_below files from.0 which.0.0.name.0 b from.2

meaning_below : (files : List SourceFile) (file name b : ℕ) → meaning files file name ≡ Some b → b < length (blocks_of files)
meaning_below files file name b e = elim (either (own files file name) _ b e) [ inl h ↦ own_below files file name b h | inr h ↦ imported_below files file name b h ]

meant_of : (files : List SourceFile) (type : Named) (o : Option ℕ) → ((b : ℕ) → o ≡ Some b → b < length (blocks_of files))
    → AllByRecursion (λ (r : ℕ × Named). r.0 < length (blocks_of files)) (map (λ t. (t, type)) (option_to_list o))
meant_of files type None below = tt
meant_of files type (Some b) below = (below b refl, tt)

meant_below : (files : List SourceFile) (block : ℕ) (type : Named) → AllByRecursion (λ (r : ℕ × Named). r.0 < length (blocks_of files)) (meant files block type)
meant_below files block type = meant_of files type (meaning_in files block type.name.0) (λ b e.
    let at = among_then (λ (x : BlockAt). meaning files x.file type.name.0) (block_of files block) b e in meaning_below files at.0.file type.name.0 b at.2)

all_if : {X : Type 0} (P : X → Type 0) (b : Bool) (xs : List X) → AllByRecursion P xs → AllByRecursion P (if b then xs else [])
all_if P true xs all = all
all_if P false xs all = tt

news_below : (files : List SourceFile) (name block : ℕ) (s : Stmt) → AllByRecursion (λ (r : ℕ × Named). r.0 < length (blocks_of files)) (news_of files name block s)
news_below files name block (stmt.Make n type at) = all_if _ (n.name.0 == name) (meant files block type) (meant_below files block type)
news_below files name block _ = tt

replaces_below : (files : List SourceFile) (path from : List ℕ) (block : ℕ) (s : Stmt) → AllByRecursion (λ (r : ℕ × Named). r.0 < length (blocks_of files)) (replaces_of files path from block s)
replaces_below files path from block (stmt.Replace p type at) = all_if _ (leads p from path) (meant files block type) (meant_below files block type)
replaces_below files path from block _ = tt

all_append : {X : Type 0} (P : X → Type 0) (xs ys : List X) → AllByRecursion P xs → AllByRecursion P ys → AllByRecursion P (xs ++ ys)
all_append P [] ys left right = right
all_append P (x ∷ xs) ys left right = (left.0, all_append P xs ys left.1 right)

all_flat_map : {X A : Type 0} (P : A → Type 0) (f : X → List A) (xs : List X) → ((x : X) → AllByRecursion P (f x)) → AllByRecursion P (flat_map f xs)
all_flat_map P f [] all = tt
all_flat_map P f (x ∷ xs) all = all_append P (f x) (flat_map f xs) (all x) (all_flat_map P f xs all)

first_holds : {X : Type 0} (P : X → Type 0) (xs : List X) (x : X) → first_of_all xs ≡ Some x → AllByRecursion P xs → P x
first_holds P [] x e all = absurd (none-some x e)
first_holds P (y ∷ xs) x e all = subst P (same_Some y x e) all.0

last_holds : {X : Type 0} (P : X → Type 0) (x : X) (xs : List X) → P x → AllByRecursion P xs → P (last_of x xs)
last_holds P x [] one all = one
last_holds P x (y ∷ xs) one all = last_holds P y xs all.0 all.1

pub mapped : {X Y : Type 0} (f : X → Y) (o : Option X) (y : Y) → option_map f o ≡ Some y → (x : X) × (o ≡ Some x) × (f x ≡ y)
mapped f None y e = absurd (none-some y e)
mapped f (Some x) y e = (x, refl, same_Some (f x) y e)

type_below : (files : List SourceFile) (entry name t : ℕ) (up : List ℕ) → type_at files entry (name ∷ up) ≡ Some t → t < length (blocks_of files)
type_below files entry name t up e =
    let P = λ (r : ℕ × Named). r.0 < length (blocks_of files) in
    let s = walk files entry up in
    let new = mapped (λ new. (last_of new (replacements files (name ∷ up) s)).0) (made files name s) t e in
    subst (λ b. b < length (blocks_of files)) new.2
    (last_holds P new.0 (replacements files (name ∷ up) s)
    (first_holds P (flat_map (news files name) (flat_map (type_stmts files) (option_to_list s.type))) new.0 new.1
    (all_flat_map P (news files name) (flat_map (type_stmts files) (option_to_list s.type)) (λ l. news_below files name l.block l.stmt)))
    (all_flat_map P (replaces files (name ∷ up)) s.stmts (λ o. replaces_below files (name ∷ up) o.path o.at.block o.at.stmt)))

-- ---- no fault, no loop

-- The type at a path is not one of those around it.
abbrev IsFree : List SourceFile → ℕ → List ℕ → Type 0
IsFree files entry [] = ⊤
IsFree files entry (n ∷ up) = (t : ℕ) → type_at files entry (n ∷ up) ≡ Some t → list_any (nat_eq t) (types_around files entry up) ≡ false

nil-cons : {X : Type 0} (x : X) (xs : List X) → x ∷ xs ≡ [] → ⊥
nil-cons x xs e = let long = ap length e in omega arith

pub nil_left : {X : Type 0} (xs ys : List X) → xs ++ ys ≡ [] → xs ≡ []
nil_left [] ys e = refl
nil_left (x ∷ xs) ys e = absurd (nil-cons x (xs ++ ys) e)

pub nil_right : {X : Type 0} (xs ys : List X) → xs ++ ys ≡ [] → ys ≡ []
nil_right [] ys e = e
nil_right (x ∷ xs) ys e = absurd (nil-cons x (xs ++ ys) e)

pub no_first : {X : Type 0} (xs : List X) → first_of_all xs ≡ None → xs ≡ []
no_first [] e = refl
no_first (x ∷ xs) e = absurd (none-some x (sym e))

pub not_if : {X : Type 0} (b : Bool) (x : X) → (if b then x ∷ [] else []) ≡ [] → b ≡ false
not_if true x e = absurd (nil-cons x [] e)
not_if false x e = refl

-- the flat map of an option's item
pub at_some : {X Y : Type 0} (f : X → List Y) (o : Option X) (x : X) → o ≡ Some x → flat_map f (option_to_list o) ≡ [] → f x ≡ []
at_some f o x e none = nil_left (f x) [] (ap (λ z. flat_map f (option_to_list z)) (sym e) ∙ none)

free_made : (files : List SourceFile) (entry : ℕ) (most : Limits) (before : List (List ℕ)) (n : ℕ) (up : List ℕ) (new : ℕ × Named)
    → made_faults files entry most before n up new ≡ [] → IsFree files entry (n ∷ up)
free_made files entry most before n up new all = λ t e.
    not_if (list_any (nat_eq t) (types_around files entry up)) _ (at_some _ (type_at files entry (n ∷ up)) t e
    (nil_right (not_special files (n ∷ up) new.0 (replacements files (n ∷ up) (walk files entry up))) _ (nil_left _ _ all)))

free_of : (files : List SourceFile) (entry : ℕ) (most : Limits) (before : List (List ℕ)) (path : List ℕ)
    → instance_faults files entry most before path ≡ [] → IsFree files entry path
free_of files entry most before [] none = tt
free_of files entry most before (n ∷ up) none = λ t e.
    let s = walk files entry up in
    let new = mapped (λ new. (last_of new (replacements files (n ∷ up) s)).0) (made files n s) t e in
    free_made files entry most before n up new.0 (at_some (made_faults files entry most before n up) (made files n s) new.0 new.1 none) t e

all_free : (files : List SourceFile) (entry : ℕ) (most : Limits) (before paths : List (List ℕ))
    → faults_from files entry most before paths ≡ [] → AllByRecursion (IsFree files entry) paths
all_free files entry most before [] none = tt
all_free files entry most before (p ∷ paths) none = (
  free_of files entry most before p (nil_left (instance_faults files entry most before p) _ none),
  all_free files entry most (before ++ p ∷ []) paths (nil_right (instance_faults files entry most before p) _ none),
)

abbrev IsFreeSpot : List SourceFile → ℕ → Spot → Type 0
IsFreeSpot files entry (leaf path m) = ⊤
IsFreeSpot files entry (made_at path) = IsFree files entry path

spots_free : (files : List SourceFile) (entry : ℕ) (ss : List Spot) → AllByRecursion (IsFree files entry) (filter_map instance_of ss) → AllByRecursion (IsFreeSpot files entry) ss
spots_free files entry [] all = tt
spots_free files entry (leaf path m ∷ ss) all = (tt, spots_free files entry ss all)
spots_free files entry (made_at path ∷ ss) all = (all.0, spots_free files entry ss all.1)

-- ---- how long a path is

-- Above a path the types are blocks that differ, one for each name.
record AreAround (files : List SourceFile) (entry : ℕ) (path : List ℕ) : Type 0 where
  differ : IsDistinct nat_eq (types_around files entry path)
  long : length (types_around files entry path) ≡ suc (length path)
  below : (q : ℕ) → list_any (nat_eq q) (types_around files entry path) ≡ true → q < length (blocks_of files)

abbrev Fits : List SourceFile → ℕ → List ℕ → Type 0
Fits files entry [] = ⊤
Fits files entry (n ∷ up) = AreAround files entry up

or_true : (a b : Bool) → (a || b) ≡ true → (P : Type 0) → (a ≡ true → P) → (b ≡ true → P) → P
or_true true b h P f g = f refl
or_true false b h P f g = g h

or_falses : (a b : Bool) → (a || b) ≡ false → (a ≡ false) × (b ≡ false)
or_falses true b h = absurd (true≢false h)
or_falses false b h = (refl, h)

-- one more type, which none of the others is
each_differs : (t : ℕ) (ts : List ℕ) → list_any (nat_eq t) ts ≡ false → AllByRecursion (λ y. nat_eq t y ≡ false) ts
each_differs t [] h = tt
each_differs t (u ∷ ts) h = let k = or_falses (nat_eq t u) (list_any (nat_eq t) ts) h in (k.0, each_differs t ts k.1)

more_distinct : (t : ℕ) (ts : List ℕ) → list_any (nat_eq t) ts ≡ false → IsDistinct nat_eq ts → IsDistinct nat_eq (t ∷ ts)
unfolding IsDistinct
more_distinct t ts h d = (each_differs t ts h, d)

one_distinct : (t : ℕ) → IsDistinct nat_eq (t ∷ [])
unfolding IsDistinct
one_distinct t = (tt, tt)

below_one : (t bound : ℕ) (ts : List ℕ) → t < bound → ((q : ℕ) → list_any (nat_eq q) ts ≡ true → q < bound) → (q : ℕ) → list_any (nat_eq q) (t ∷ ts) ≡ true → q < bound
below_one t bound ts h more q k = or_true (nat_eq q t) (list_any (nat_eq q) ts) k (q < bound) (λ e. subst (λ z. z < bound) (sym (eqb-true q t e)) h) (more q)

around_more : (files : List SourceFile) (entry : ℕ) (path : List ℕ) (t : ℕ) → entry < length (blocks_of files) → type_at files entry path ≡ Some t
    → IsFree files entry path → Fits files entry path → AreAround files entry path
around_more files entry [] t h e free fits = record {
  differ = one_distinct entry;
  long = refl;
  below = below_one entry (length (blocks_of files)) [] h (λ q k. absurd (true≢false (sym k)));
}
around_more files entry (n ∷ up) t h e free fits =
    let same : types_around files entry (n ∷ up) ≡ t ∷ types_around files entry up = ap (λ o. option_to_list o ++ types_around files entry up) e in
    record {
      differ = subst (IsDistinct nat_eq) (sym same) (more_distinct t (types_around files entry up) (free t e) fits.differ);
      long = ap length same ∙ ap suc fits.long;
      below = λ q k. below_one t (length (blocks_of files)) (types_around files entry up) (type_below files entry n t up e) fits.below q (sym (ap (list_any (nat_eq q)) same) ∙ k);
    }

-- ---- deeper finds the same

all_left : {X : Type 0} (P : X → Type 0) (xs ys : List X) → AllByRecursion P (xs ++ ys) → AllByRecursion P xs
all_left P [] ys all = tt
all_left P (x ∷ xs) ys all = (all.0, all_left P xs ys all.1)

all_right : {X : Type 0} (P : X → Type 0) (xs ys : List X) → AllByRecursion P (xs ++ ys) → AllByRecursion P ys
all_right P [] ys all = all
all_right P (x ∷ xs) ys all = all_right P xs ys all.1

same_members : (P : Spot → Type 0) (F G : List ℕ → List Spot) (path : List ℕ) (ms : List Member) → AllByRecursion P (flat_map (member_spots F path) ms)
    → ((n : ℕ) → AllByRecursion P (F (n ∷ path)) → F (n ∷ path) ≡ G (n ∷ path)) → flat_map (member_spots F path) ms ≡ flat_map (member_spots G path) ms
same_members P F G path [] all same = refl
same_members P F G path (pin text ∷ ms) all same = ap (λ z. leaf path (pin text) ∷ z) (same_members P F G path ms all.1 same)
same_members P F G path (named n signal ∷ ms) all same = ap (λ z. leaf path (named n signal) ∷ z) (same_members P F G path ms all.1 same)
same_members P F G path (named n param ∷ ms) all same = ap (λ z. leaf path (named n param) ∷ z) (same_members P F G path ms all.1 same)
same_members P F G path (named n (instance type) ∷ ms) all same =
    let one = F (n.name.0 ∷ path) in
    let rest = flat_map (member_spots F path) ms in
    ap (λ z. z ++ rest) (same n.name.0 (all_left P one rest all))
    ∙ ap (λ z. G (n.name.0 ∷ path) ++ z) (same_members P F G path ms (all_right P one rest all) same)

-- an instance without a type has no members
no_members : (files : List SourceFile) (entry : ℕ) (F G : Member → List Spot) (path : List ℕ) → type_at files entry path ≡ None
    → flat_map F (members files (type_at files entry path)) ≡ flat_map G (members files (type_at files entry path))
no_members files entry F G path e = ap (λ t. flat_map F (members files t)) e ∙ sym (ap (λ t. flat_map G (members files t)) e)

either_type : (o : Option ℕ) → (o ≡ None) ⊎ ((t : ℕ) × (o ≡ Some t))
either_type None = inl refl
either_type (Some t) = inr (t, refl)

deeper : (files : List SourceFile) (entry d more : ℕ) (path : List ℕ) → entry < length (blocks_of files) → Fits files entry path
    → d + length path ≡ suc (length (blocks_of files)) → d ≤ more → AllByRecursion (IsFreeSpot files entry) (spots files entry d path)
    → spots files entry d path ≡ spots files entry more path
deeper files entry zero more [] h fits long le free = absurd (omega arith)
deeper files entry zero more (n ∷ up) h fits long le free =
    let few = length-le_from_distinct_below (types_around files entry up) (length (blocks_of files)) fits.differ fits.below in
    let size = fits.long in absurd (omega arith)
deeper files entry (suc d) zero path h fits long le free = absurd (omega arith)
deeper files entry (suc d) (suc more) path h fits long le free = ap (λ z. made_at path ∷ z)
    (elim (either_type (type_at files entry path)) [
      | inl e ↦ no_members files entry (member_spots (spots files entry d) path) (member_spots (spots files entry more) path) path e
      | inr found ↦ same_members (IsFreeSpot files entry) (spots files entry d) (spots files entry more) path (members files (type_at files entry path)) free.1
          (λ n all. deeper files entry d more (n ∷ path) h (around_more files entry path found.0 h found.1 free.0 fits) (omega arith) (omega arith) all)
    ])

pub nothing_is_cut : (files : List SourceFile) (entry depth : ℕ) (most : Limits) → entry < length (blocks_of files)
    → tree_fault files most (Some entry) ≡ None → suc (length (blocks_of files)) ≤ depth → spots files entry depth [] ≡ nodes files entry
nothing_is_cut files entry depth most h none le =
    sym (deeper files entry (suc (length (blocks_of files))) depth [] h tt (omega arith) le
    (spots_free files entry (nodes files entry) (all_free files entry most [] (instances files entry) (no_first (faults_from files entry most [] (instances files entry)) none))))
