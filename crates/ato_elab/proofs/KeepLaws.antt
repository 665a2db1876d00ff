-- What is kept of statements in tree order is what counts at and around an instance.
use Rattle.std.proofs.Common.{◌≡◌, ℕ, Bool, true, false, cond, true≢false, length, arith, List, [], ◌∷◌, ◌++◌, Option, Some, None, ◌⊎◌, inl, inr, refl, ap, sym, subst, ◌∙◌, append-nil}
use Rattle.std.specs.Prelude.{⊤, map, filter, option_to_list, if◌then◌else◌}
use Rattle.std.specs.List.{flat_map, AllByRecursion}
use Rattle.std.specs.Str.{bytes_eq}
use Rattle.std.proofs.lemmas.Option.{none-some, same_Some}
use Rattle.std.proofs.lemmas.Slice.Eq.{bytes_eq-Decides}
use Rattle.ato_files.specs.Lists.{last_of}
use Rattle.ato_files.specs.declared.program.SourceFile.{SourceFile}
use Rattle.ato_files.proofs.PlaceLemmas.{all_append}
use Rattle.ato_instance_tree.specs.Types.{Located, type_stmts}
use Rattle.ato_instance_tree.specs.Walk.{Occ, occs, walk, last, type_at}
use Rattle.ato_instance_tree.specs.Order.{occs_at}
use Rattle.ato_instance_tree.proofs.SpotLaws.{IsIn, Under, in_flat_map, not_under, under_more}
use Rattle.ato_elab.proofs.AroundLaws.{InOrder, compared}

-- ---- keeping

-- of two statements the later one where both are of one instance, else the first
abbrev pub one_of : Option Occ → Occ → Occ
one_of None o = o
one_of (Some a) o = if bytes_eq a.path o.path then o else a

abbrev pub keep : (Occ → Bool) → Option Occ → Occ → Option Occ
keep test acc o = if test o then Some (one_of acc o) else acc

-- what is kept behind statements
abbrev pub kept : (Occ → Bool) → Option Occ → List Occ → Option Occ
kept test acc [] = acc
kept test acc (o ∷ os) = kept test (keep test acc o) os

kept_append : (test : Occ → Bool) (acc : Option Occ) (xs ys : List Occ) → kept test acc (xs ++ ys) ≡ kept test (kept test acc xs) ys
kept_append test acc [] ys = refl
kept_append test acc (x ∷ xs) ys = kept_append test (keep test acc x) xs ys

abbrev OfPath : List ℕ → Occ → Type 0
OfPath p o = o.path ≡ p

-- ---- the statements of one instance

later_one : (a x : Occ) → a.path ≡ x.path → one_of (Some a) x ≡ x
later_one a x e = ap (λ (b : Bool). if b then x else a) ((bytes_eq-Decides a.path x.path).1 e)

kept_from : (test : Occ → Bool) (p : List ℕ) (a : Occ) (xs : List Occ) → a.path ≡ p → AllByRecursion (OfPath p) xs → kept test (Some a) xs ≡ Some (last_of a (filter test xs))
kept_from test p a [] e all = refl
kept_from test p a (x ∷ xs) e all = by (test x) (kept_from test p a xs e all.1) (kept_from test p x xs all.0 all.1)
  where
    by : (b : Bool) → kept test (Some a) xs ≡ Some (last_of a (filter test xs)) → kept test (Some x) xs ≡ Some (last_of x (filter test xs))
        → kept test (if b then Some (one_of (Some a) x) else Some a) xs ≡ Some (last_of a (cond b (x ∷ filter test xs) (filter test xs)))
    by true f g = ap (λ (o : Occ). kept test (Some o) xs) (later_one a x (e ∙ sym all.0)) ∙ g
    by false f g = f

kept_one : (test : Occ → Bool) (p : List ℕ) (xs : List Occ) → AllByRecursion (OfPath p) xs → kept test None xs ≡ last (filter test xs)
kept_one test p [] all = refl
kept_one test p (x ∷ xs) all = by (test x) (kept_one test p xs all.1) (kept_from test p x xs all.0 all.1)
  where
    by : (b : Bool) → kept test None xs ≡ last (filter test xs) → kept test (Some x) xs ≡ Some (last_of x (filter test xs))
        → kept test (if b then Some x else None) xs ≡ last (cond b (x ∷ filter test xs) (filter test xs))
    by true f g = g
    by false f g = f

-- statements of other instances change nothing
stays : (test : Occ → Bool) (a : Occ) (xs : List Occ) → ((o : Occ) → IsIn o xs → a.path ≡ o.path → ⊥) → kept test (Some a) xs ≡ Some a
stays test a [] other = refl
stays test a (x ∷ xs) other = ap (λ (o : Option Occ). kept test o xs) (by (test x) (bytes_eq a.path x.path) refl) ∙ stays test a xs (λ o h. other o (inr h))
  where
    by : (b c : Bool) → bytes_eq a.path x.path ≡ c → (if b then Some (if c then x else a) else Some a) ≡ Some a
    by true true e = absurd (other x (inl refl) ((bytes_eq-Decides a.path x.path).0 e))
    by true false e = refl
    by false c e = refl

-- ---- the statements of all instances

abbrev or_else : Option Occ → Option Occ → Option Occ
or_else None o = o
or_else (Some a) o = Some a

last_has : (P : Occ → Type 0) (x : Occ) (xs : List Occ) → P x → AllByRecursion P xs → P (last_of x xs)
last_has P x [] h all = h
last_has P x (y ∷ ys) h all = last_has P y ys all.0 all.1

all_filter : (P : Occ → Type 0) (test : Occ → Bool) (xs : List Occ) → AllByRecursion P xs → AllByRecursion P (filter test xs)
all_filter P test [] all = tt
all_filter P test (x ∷ xs) all = by (test x) (all_filter P test xs all.1)
  where
    by : (b : Bool) → AllByRecursion P (filter test xs) → AllByRecursion P (cond b (x ∷ filter test xs) (filter test xs))
    by true h = (all.0, h)
    by false h = h

last_is : (P : Occ → Type 0) (xs : List Occ) (a : Occ) → AllByRecursion P xs → last xs ≡ Some a → P a
last_is P [] a all e = absurd (none-some a e)
last_is P (x ∷ xs) a all e = subst P (same_Some (last_of x xs) a e) (last_has P x xs all.0 all.1)

of_path : (p : List ℕ) (ls : List Located) → AllByRecursion (OfPath p) (map (λ l. record { path = p; at = l }) ls)
of_path p [] = tt
of_path p (l ∷ ls) = (refl, of_path p ls)

in_all : (P : Occ → Type 0) (xs : List Occ) (o : Occ) → AllByRecursion P xs → IsIn o xs → P o
in_all P [] o all h = absurd h
in_all P (x ∷ xs) o all (inl e) = subst P (sym e) all.0
in_all P (x ∷ xs) o all (inr h) = in_all P xs o all.1 h

abbrev rest : List ℕ → List ℕ
rest [] = []
rest (x ∷ xs) = xs

front_nil : (q : List ℕ) → Under q [] → q ≡ []
front_nil q ([], e) = sym e
front_nil q (x ∷ f, e) = let long = ap length e in absurd (omega arith)

shorter : (n : ℕ) (path q : List ℕ) → Under q (n ∷ path) → (q ≡ n ∷ path → ⊥) → Under q path
shorter n path q ([], e) other = absurd (other (sym e))
shorter n path q (x ∷ f, e) other = (f, ap rest e)

filter_append : (test : Occ → Bool) (xs ys : List Occ) → filter test (xs ++ ys) ≡ filter test xs ++ filter test ys
filter_append test [] ys = refl
filter_append test (x ∷ xs) ys = by (test x) (filter_append test xs ys)
  where
    by : (b : Bool) → filter test (xs ++ ys) ≡ filter test xs ++ filter test ys
        → cond b (x ∷ filter test (xs ++ ys)) (filter test (xs ++ ys)) ≡ cond b (x ∷ filter test xs) (filter test xs) ++ filter test ys
    by true e = ap (λ (l : List Occ). x ∷ l) e
    by false e = e

last_behind : (x : Occ) (xs ys : List Occ) → last (x ∷ xs ++ ys) ≡ or_else (last ys) (last (x ∷ xs))
last_behind x [] [] = refl
last_behind x [] (y ∷ ys) = refl
last_behind x (z ∷ xs) ys = last_behind z xs ys

last_append : (xs ys : List Occ) → last (xs ++ ys) ≡ or_else (last ys) (last xs)
last_append [] [] = refl
last_append [] (y ∷ ys) = refl
last_append (x ∷ xs) ys = last_behind x xs ys

none_both : (a b : Option Occ) → or_else a b ≡ None → (a ≡ None) × (b ≡ None)
none_both None b e = (refl, e)
none_both (Some x) b e = absurd (none-some x (sym e))

pass_one : (test : Occ → Bool) (x : Occ) (more : List Occ) (b : Bool) → test x ≡ b → AllByRecursion (λ (o : Occ). test o ≡ true) more → AllByRecursion (λ (o : Occ). test o ≡ true) (cond b (x ∷ more) more)
pass_one test x more true e all = (e, all)
pass_one test x more false e all = all

passing : (test : Occ → Bool) (xs : List Occ) → AllByRecursion (λ (o : Occ). test o ≡ true) (filter test xs)
passing test [] = tt
passing test (x ∷ xs) = pass_one test x (filter test xs) (test x) refl (passing test xs)

module _ (test : Occ → Bool) (files : List SourceFile) (entry : ℕ) where
  -- the last statement of an instance that passes
  abbrev pub tested : List ℕ → Option Occ
  tested p = last (filter test (occs_at files entry p))

  -- that of the first instance that has one
  abbrev pub chosen : List (List ℕ) → Option Occ
  chosen [] = None
  chosen (p ∷ ps) = or_else (tested p) (chosen ps)

  occs_of : (p : List ℕ) → AllByRecursion (OfPath p) (occs_at files entry p)
  occs_of p = of_path p (flat_map (type_stmts files) (option_to_list (type_at files entry p)))

  tested_path : (p : List ℕ) (a : Occ) → tested p ≡ Some a → a.path ≡ p
  tested_path p a e = last_is (OfPath p) (filter test (occs_at files entry p)) a (all_filter (OfPath p) test (occs_at files entry p) (occs_of p)) e

  pub kept_all : (ps : List (List ℕ)) → InOrder ps → kept test None (flat_map (occs_at files entry) ps) ≡ chosen ps
  kept_all [] h = refl
  kept_all (p ∷ ps) h =
      kept_append test None (occs_at files entry p) (flat_map (occs_at files entry) ps)
      ∙ ap (λ (o : Option Occ). kept test o (flat_map (occs_at files entry) ps)) (kept_one test p (occs_at files entry p) (occs_of p))
      ∙ by (tested p) refl (kept_all ps h.1)
    where
      by : (o : Option Occ) → tested p ≡ o → kept test None (flat_map (occs_at files entry) ps) ≡ chosen ps → kept test o (flat_map (occs_at files entry) ps) ≡ or_else o (chosen ps)
      by None e f = f
      by (Some a) e f = stays test a (flat_map (occs_at files entry) ps) (λ o k same.
          let q = in_flat_map (occs_at files entry) o ps k in
          h.0 q.0 q.1 ([], sym (tested_path p a e) ∙ same ∙ in_all (OfPath q.0) (occs_at files entry q.0) o (occs_of q.0) q.2))

  -- that of the outermost instance, at a path and around it, that has one
  abbrev pub around : List ℕ → Option Occ
  around [] = tested []
  around (n ∷ p) = or_else (around p) (tested (n ∷ p))

  pub walked : (p : List ℕ) → last (filter test (walk files entry p).stmts) ≡ around p
  walked [] = ap (λ (l : List Occ). last (filter test l)) (append-nil (occs files [] (Some entry)))
  walked (n ∷ p) =
      ap last (filter_append test (occs_at files entry (n ∷ p)) (walk files entry p).stmts)
      ∙ last_append (filter test (occs_at files entry (n ∷ p))) (filter test (walk files entry p).stmts)
      ∙ ap (λ (o : Option Occ). or_else o (tested (n ∷ p))) (walked p)

  none_around : (path : List ℕ) → around path ≡ None → (q : List ℕ) → Under q path → tested q ≡ None
  none_around [] e q u = ap tested (front_nil q u) ∙ e
  none_around (n ∷ path) e q ([], f) = ap tested (sym f) ∙ (none_both (around path) (tested (n ∷ path)) e).1
  none_around (n ∷ path) e q (x ∷ f, g) = none_around path (none_both (around path) (tested (n ∷ path)) e).0 q (f, ap rest g)

  -- The instance is the outermost one, at a path and around it, that has one.
  record IsOutermost (path : List ℕ) (o : Occ) : Type 0 where
    p : List ℕ
    under : Under p path
    is : tested p ≡ Some o
    none : (q : List ℕ) → Under q p → (q ≡ p → ⊥) → tested q ≡ None

  outermost : (path : List ℕ) (o : Occ) → around path ≡ Some o → IsOutermost path o
  outermost [] o e = record { p = []; under = ([], refl); is = e; none = λ q u other. absurd (other (front_nil q u)) }
  outermost (n ∷ path) o e = by (around path) refl e (λ a f. outermost path a f)
    where
      by : (t : Option Occ) → around path ≡ t → or_else t (tested (n ∷ path)) ≡ Some o → ((a : Occ) → around path ≡ Some a → IsOutermost path a) → IsOutermost (n ∷ path) o
      by None f g more = record { p = n ∷ path; under = ([], refl); is = g; none = λ q u other. none_around path f q (shorter n path q u other) }
      by (Some a) f g more = let r = more a f in record { p = r.p; under = (n ∷ r.under.0, ap (λ (l : List ℕ). n ∷ l) r.under.1); is = r.is ∙ g; none = r.none }

  module _ (path : List ℕ) (only : (p : List ℕ) (a : Occ) → tested p ≡ Some a → Under p path) where
    first_chosen : (o : Occ) (r : IsOutermost path o) (ps : List (List ℕ)) → InOrder ps → IsIn r.p ps → chosen ps ≡ Some o
    first_chosen o r [] h k = absurd k
    first_chosen o r (x ∷ ps) h k = by (tested x) refl k (first_chosen o r ps h.1)
      where
        by : (t : Option Occ) → tested x ≡ t → IsIn r.p (x ∷ ps) → (IsIn r.p ps → chosen ps ≡ Some o) → or_else t (chosen ps) ≡ Some o
        by None e (inl same) more = absurd (none-some o (sym e ∙ ap tested (sym same) ∙ r.is))
        by None e (inr k) more = more k
        by (Some a) e (inl same) more = sym e ∙ ap tested (sym same) ∙ r.is
        by (Some a) e (inr k) more = let u = only x a e in elim (compared path x r.p u.0 r.under.0 u.1 r.under.1) [
          | inl v ↦ absurd (none-some a (sym (r.none x v (λ same. h.0 r.p k ([], same))) ∙ e))
          | inr v ↦ absurd (h.0 r.p k v)
        ]

    none_chosen : around path ≡ None → (ps : List (List ℕ)) → chosen ps ≡ None
    none_chosen e [] = refl
    none_chosen e (x ∷ ps) = by (tested x) refl (none_chosen e ps)
      where
        by : (t : Option Occ) → tested x ≡ t → chosen ps ≡ None → or_else t (chosen ps) ≡ None
        by None f more = more
        by (Some a) f more = absurd (none-some a (sym (none_around path e x (only x a f)) ∙ f))

    pub all_around : (ps : List (List ℕ)) → InOrder ps → ((q : List ℕ) → Under q path → IsIn q ps) → chosen ps ≡ around path
    all_around ps h there = by (around path) refl
      where
        by : (t : Option Occ) → around path ≡ t → chosen ps ≡ t
        by None e = none_chosen e ps
        by (Some o) e = let r = outermost path o e in first_chosen o r ps h (there r.p r.under)

  -- where only statements at and around a path pass, only instances there have one
  pub tested_takes : (path : List ℕ) → ((o : Occ) → test o ≡ true → Under o.path path) → (p : List ℕ) (a : Occ) → tested p ≡ Some a → Under p path
  tested_takes path only p a e = subst (λ (q : List ℕ). Under q path) (tested_path p a e) (only a (last_is (λ (o : Occ). test o ≡ true) (filter test (occs_at files entry p)) a (passing test (occs_at files entry p)) e))

pub same_filter : (f g : Occ → Bool) (P : Occ → Type 0) → ((o : Occ) → P o → f o ≡ g o) → (xs : List Occ) → AllByRecursion P xs → filter f xs ≡ filter g xs
same_filter f g P same [] all = refl
same_filter f g P same (x ∷ xs) all = ap (λ (b : Bool). cond b (x ∷ filter f xs) (filter f xs)) (same x all.0) ∙ ap (λ (l : List Occ). cond (g x) (x ∷ l) l) (same_filter f g P same xs all.1)

path_under : (path p : List ℕ) → Under p path → (xs : List Occ) → AllByRecursion (OfPath p) xs → AllByRecursion (λ (o : Occ). Under o.path path) xs
path_under path p u [] all = tt
path_under path p u (x ∷ xs) all = (subst (λ (q : List ℕ). Under q path) (sym all.0) u, path_under path p u xs all.1)

-- the statements at and around a path are of instances there
pub walk_under : (files : List SourceFile) (entry : ℕ) (path p : List ℕ) → Under p path → AllByRecursion (λ (o : Occ). Under o.path path) (walk files entry p).stmts
walk_under files entry path [] u =
    all_append (λ (o : Occ). Under o.path path) (occs files [] (Some entry)) [] (path_under path [] u (occs files [] (Some entry)) (of_path [] (flat_map (type_stmts files) (option_to_list (Some entry))))) tt
walk_under files entry path (n ∷ p) u =
    all_append (λ (o : Occ). Under o.path path) (occs_at files entry (n ∷ p)) (walk files entry p).stmts
    (path_under path (n ∷ p) u (occs_at files entry (n ∷ p)) (of_path (n ∷ p) (flat_map (type_stmts files) (option_to_list (type_at files entry (n ∷ p))))))
    (walk_under files entry path p (under_more n p path u))
