-- Loading asks for each name once, so what is held under the next one does not matter before.
use Rattle.std.proofs.Common.{◌≡◌, ℕ, zero, suc, Bool, true, false, ◌||◌, List, [], ◌∷◌, ◌++◌, map, take, length, Option, Some, refl, sym, ap, subst, ◌∙◌, if◌then◌else◌, ◌⊎◌, inl, inr}
use Rattle.std.specs.Prelude.{fold, slice_get}
use Rattle.std.specs.List.{list_any, flat_map}
use Rattle.std.specs.Str.{bytes_eq}
use Rattle.std.proofs.lemmas.Option.{none-some}
use Rattle.std.proofs.lemmas.Slice.Eq.{bytes_eq-Decides}
use Rattle.ato_base.specs.NameTable.{with_name}
use Rattle.ato_base.specs.Stages.{Reaches, arrived, onward}
use Rattle.ato_files.specs.declared.program.SourceFile.{SourceFile}
use Rattle.ato_files.specs.Lists.{Among, here, there}
use Rattle.ato_files.specs.Files.{mentioned, known, next_name, name_of}
use Rattle.ato_files.specs.Loading.{Held, Loaded, IsStart, LeadsOn}
use Rattle.ato_files.specs.Programs.{Stage, Started, Loading, Named, Leads, IsReached}
use Rattle.ato_files.proofs.FileLaws.{among_left, among_right, order}
use Rattle.ato_files.proofs.ReachLaws.{files_first}

-- ---- known names are different

abbrev pub Distinct : List (List ℕ) → Type 0
Distinct [] = Unit {0}
Distinct (x ∷ xs) = (Among x xs → ⊥) × Distinct xs

at_end : {X : Type 0} {x y : X} (xs : List X) → Among x (xs ++ y ∷ []) → Among x xs ⊎ (x ≡ y)
at_end [] here = inr refl
at_end [] (there a) = elim a [ ]
at_end (z ∷ xs) here = inl here
at_end (z ∷ xs) (there a) = elim (at_end xs a) [ inl b ↦ inl (there b) | inr b ↦ inr b ]

one_more : (xs : List (List ℕ)) (y : List ℕ) → Distinct xs → (Among y xs → ⊥) → Distinct (xs ++ y ∷ [])
one_more [] y d new = ((λ a. elim a [ ]), tt)
one_more (x ∷ xs) y d new =
    ((λ a. elim (at_end xs a) [ inl b ↦ d.0 b | inr b ↦ new (subst (λ z. Among z (x ∷ xs)) b here) ]), one_more xs y d.1 (λ a. new (there a)))

same_text : (t : List ℕ) → bytes_eq t t ≡ true
same_text t = (bytes_eq-Decides t t).1 refl

or_right : (a b : Bool) → b ≡ true → (a || b) ≡ true
or_right true b h = refl
or_right false b h = h

among_any : {m : List ℕ} {xs : List (List ℕ)} → Among m xs → list_any (bytes_eq m) xs ≡ true
among_any {m} (here {xs = xs}) = ap (λ b. b || list_any (bytes_eq m) xs) (same_text m)
among_any {m} (there {y = y} {xs = xs} a) = or_right (bytes_eq m y) (list_any (bytes_eq m) xs) (among_any a)

with_one : (names : List (List ℕ)) (m : List ℕ) → Distinct names → Distinct (with_name names m)
with_one names m d = by (list_any (bytes_eq m) names) refl
  where
    by : (b : Bool) → list_any (bytes_eq m) names ≡ b → Distinct (if b then names else names ++ m ∷ [])
    by true e = d
    by false e = one_more names m d (λ a. let no : true ≡ false = sym (among_any a) ∙ e in absurd (cc))

pub with_all : (names ms : List (List ℕ)) → Distinct names → Distinct (fold with_name names ms)
with_all names [] d = d
with_all names (m ∷ ms) d = with_all (with_name names m) ms (with_one names m d)

known_distinct : (entry : List ℕ) (files : List SourceFile) → Distinct (known entry files)
known_distinct entry files = with_all (entry ∷ []) (flat_map mentioned files) ((λ a. elim a [ ]), tt)

pub at_place : {X : Type 0} (xs : List X) (i : ℕ) (x : X) → slice_get xs i ≡ Some x → Among x xs
at_place [] i x e = absurd (none-some x e)
at_place (y ∷ xs) zero x e = let same : y ≡ x = cc in subst (λ z. Among z (y ∷ xs)) same here
at_place (y ∷ xs) (suc i) x e = there (at_place xs i x e)

not_before : (xs : List (List ℕ)) (i : ℕ) (x : List ℕ) → Distinct xs → slice_get xs i ≡ Some x → Among x (take i xs) → ⊥
not_before [] i x d e a = absurd (none-some x e)
not_before (y ∷ xs) zero x d e a = elim a [ ]
not_before (y ∷ xs) (suc i) _ d e here = d.0 (at_place xs i y e)
not_before (y ∷ xs) (suc i) x d e (there a) = not_before xs i x d.1 e a

among_map : {X Y : Type 0} (f : X → Y) {x : X} {xs : List X} → Among x xs → Among (f x) (map f xs)
among_map f here = here
among_map f (there a) = there (among_map f a)

-- ---- a stage is reached over all that holds the same files

files_of : Stage → List SourceFile
files_of Started = []
files_of (Loading l) = l.files
files_of (Named l) = l.files

-- two shelves hold the same under the names of files
abbrev Agree : Held → Held → List SourceFile → Type 0
Agree held other files = (f : SourceFile) → Among f files → other f.name ≡ held f.name

module _ (entry : List ℕ) where
  stays : (held : Held) (s t : Stage) {f : SourceFile} → Leads held entry s t → Among f (files_of s) → Among f (files_of t)
  unfolding files_of
  stays held Started t a b = elim b [ ]
  stays held (Named _) t a b = elim a [ ]
  stays held (Loading l) Started a b = elim a [ ]
  stays held (Loading l) (Loading m) {f} a b = subst (Among f) (sym a.files) (among_left (a.file ∷ []) b)
  stays held (Loading l) (Named m) {f} a b = subst (λ (n : Loaded). Among f n.files) (sym a.0) b

  stays_on : (held : Held) (s t : Stage) {f : SourceFile} → Reaches (Leads held entry) s t → Among f (files_of s) → Among f (files_of t)
  stays_on held s t arrived b = b
  stays_on held s t (onward {t = u} a more) b = stays_on held u t more (stays held s u a b)

  loads_same : (held other : Held) (l m : Loaded) → Agree held other m.files → LeadsOn held entry l m → LeadsOn other entry l m
  loads_same held other l m agree a =
      let last : Among a.file m.files = subst (Among a.file) (sym a.files) (among_right l.files here) in
      let read = a.next.are.read in
      record {
        tokens = a.tokens;
        file = a.file;
        next = record {
          are = record { read = record { next = read.next; plain = read.plain; holds = agree a.file last ∙ read.holds; short = read.short }; lexed = a.next.are.lexed };
          tree = a.next.tree;
        };
        few = a.few;
        library = a.library;
        files = a.files;
      }

  leads_same : (held other : Held) (s t : Stage) → Agree held other (files_of t) → Leads held entry s t → Leads other entry s t
  unfolding files_of
  leads_same held other Started Started agree a = elim a [ ]
  leads_same held other Started (Named m) agree a = elim a [ ]
  leads_same held other (Named _) t agree a = elim a [ ]
  leads_same held other (Loading l) Started agree a = elim a [ ]
  leads_same held other Started (Loading l) agree a = a
  leads_same held other (Loading l) (Loading m) agree a = loads_same held other l m agree a
  leads_same held other (Loading l) (Named m) agree a = (a.0, record { last = a.1.last; sound = a.1.sound })

  reaches_same : (held other : Held) (s t : Stage) → Agree held other (files_of t) → Reaches (Leads held entry) s t → Reaches (Leads other entry) s t
  reaches_same held other s t agree arrived = arrived
  reaches_same held other s t agree (onward {t = u} a more) =
      onward (leads_same held other s u (λ f b. agree f (stays_on held u t more b)) a) (reaches_same held other u t agree more)

  reached_same : (held other : Held) (l : Loaded) → Agree held other l.files → IsReached held entry (Loading l) → IsReached other entry (Loading l)
  unfolding files_of
  reached_same held other l agree reached = reaches_same held other Started (Loading l) agree reached

  -- no file that is loaded has the next name
  next_is_new : (held : Held) (l : Loaded) (name : List ℕ) → IsReached held entry (Loading l) → next_name entry l.files ≡ Some name → (f : SourceFile) → Among f l.files → f.name ≡ name → ⊥
  next_is_new held l name reached next f a same =
      let names : map name_of l.files ≡ take (length l.files) (known entry l.files) = order (files_first held entry l reached) in
      not_before (known entry l.files) (length l.files) name (known_distinct entry l.files) next
      (subst (Among name) names (subst (λ n. Among n (map name_of l.files)) same (among_map name_of a)))

  -- the same, but for one name
  abbrev pub with_held : Held → List ℕ → Option (List ℕ) → Held
  with_held held name found other = if bytes_eq other name then found else held other

  pub held_there : (held : Held) (name : List ℕ) (found : Option (List ℕ)) → with_held held name found name ≡ found
  held_there held name found = ap (λ b. if b then found else held name) (same_text name)

  held_elsewhere : (held : Held) (name other : List ℕ) (found : Option (List ℕ)) → (other ≡ name → ⊥) → with_held held name found other ≡ held other
  held_elsewhere held name other found differ = by (bytes_eq other name) refl
    where
      by : (b : Bool) → bytes_eq other name ≡ b → (if b then found else held other) ≡ held other
      by true e = absurd (differ ((bytes_eq-Decides other name).0 e))
      by false e = refl

  -- What is reached does not depend on what is held under the next name.
  pub reached_whatever : (held : Held) (l : Loaded) (name : List ℕ) (found : Option (List ℕ)) → IsReached held entry (Loading l) → next_name entry l.files ≡ Some name
      → IsReached (with_held held name found) entry (Loading l)
  reached_whatever held l name found reached next =
      reached_same held (with_held held name found) l (λ f a. held_elsewhere held name f.name found (next_is_new held l name reached next f a)) reached

  -- ---- one more step

  then_leads : (held : Held) (s t u : Stage) → Reaches (Leads held entry) s t → Leads held entry t u → Reaches (Leads held entry) s u
  then_leads held s t u arrived b = onward b arrived
  then_leads held s t u (onward {t = v} a more) b = onward a (then_leads held v t u more b)

  pub reached_next : (held : Held) (l m : Loaded) → IsReached held entry (Loading l) → LeadsOn held entry l m → IsReached held entry (Loading m)
  reached_next held l m reached on = then_leads held Started (Loading l) (Loading m) reached on

  pub reached_start : (held : Held) (l : Loaded) → IsStart l → IsReached held entry (Loading l)
  reached_start held l is = onward is arrived
