-- The words of a task determine it.
use Rattle.std.proofs.Common.{◌≡◌, ℕ, ◌==◌, true, false, ◌||◌, List, [], ◌∷◌, ◌++◌, ap, sym, ◌∙◌, refl, arith}
use Rattle.std.specs.Prelude.{codes, unwrap_or}
use Rattle.std.specs.List.{list_any}
use Rattle.std.proofs.lemmas.Bool.{and_parts, not-true}
use Rattle.ato_words.specs.Words.{is_entry, IsBuildOf, IsBuild, IsCheckOf, IsCheck, IsJob, default_out}
use Rattle.ato_words.specs.WordLines.{line_of}
use Rattle.ato_words.proofs.WordLineLaws.{build_read, check_read}
use Rattle.ato_words.specs.declared.words.Build.{Build}
use Rattle.ato_words.specs.declared.words.Check.{Check}
use Rattle.ato_words.specs.declared.words.Task.{Task}
use Rattle.ato_words.specs.declared.words.Task.TheVariants as tasks

eq_self : (c : ℕ) → (c == c) ≡ true
eq_self c = grind arith

-- a byte stands where it stands
has : (c : ℕ) (x y : List ℕ) → list_any (λ n. n == c) (x ++ c ∷ y) ≡ true
has c [] y = rw (eq_self c) refl
has c (u ∷ x) y = rw (has c x y) (elim (u == c) as (λ b. (b || true) ≡ true) [ true ↦ refl | false ↦ refl ])

-- a list is divided at its last c in one way
one_cut : (c : ℕ) (a b x y : List ℕ) → a ++ c ∷ b ≡ x ++ c ∷ y → list_any (λ n. n == c) b ≡ false → list_any (λ n. n == c) y ≡ false → (a ≡ x) × (b ≡ y)
one_cut c [] b [] y e p q = (refl, cc)
one_cut c [] b (u ∷ x) y e p q =
    let tails : b ≡ x ++ c ∷ y = cc in let yes : list_any (λ n. n == c) b ≡ true = ap (list_any (λ n. n == c)) tails ∙ has c x y in
    let bad : ⊥ = cc in absurd bad
one_cut c (v ∷ a) b [] y e p q =
    let tails : y ≡ a ++ c ∷ b = cc in let yes : list_any (λ n. n == c) y ≡ true = ap (list_any (λ n. n == c)) tails ∙ has c a b in
    let bad : ⊥ = cc in absurd bad
one_cut c (v ∷ a) b (u ∷ x) y e p q =
    let heads : v ≡ u = cc in let tails : a ++ c ∷ b ≡ x ++ c ∷ y = cc in
    let rest = one_cut c a b x y tails p q in (cc, rest.1)

-- an entry's block has no colon
block_lacks : (file block : List ℕ) → is_entry file block ≡ true → list_any (λ b. b == 58) block ≡ false
block_lacks file block h = not-true _ (and_parts _ _ h).1

-- an entry is divided at its last colon
pub same_parts : (file block f b : List ℕ) → file ++ 58 ∷ block ≡ f ++ 58 ∷ b → list_any (λ n. n == 58) b ≡ false → is_entry file block ≡ true → (file ≡ f) × (block ≡ b)
same_parts file block f b e none h = one_cut 58 file block f b e (block_lacks file block h) none

-- two entries with one text are the same
pub same_entries : (file block f b : List ℕ) → file ++ 58 ∷ block ≡ f ++ 58 ∷ b → is_entry file block ≡ true → is_entry f b ≡ true → (file ≡ f) × (block ≡ b)
same_entries file block f b e p q = same_parts file block f b e (block_lacks f b q) p

-- a build of its fields
abbrev build_of : List ℕ → List ℕ → List ℕ → List ℕ → ℕ → Build
build_of file block catalogue out steps = record { file = file; block = block; catalogue = catalogue; out = out; steps = steps }

-- Positional words are a build in one way.
pub one_build_of : (words : List (List ℕ)) (out : List ℕ) (a b : Build) → IsBuildOf words out a → IsBuildOf words out b → a ≡ b
one_build_of words out a b p q =
    let both : codes "build" ∷ (a.file ++ 58 ∷ a.block) ∷ a.catalogue ∷ [] ≡ codes "build" ∷ (b.file ++ 58 ∷ b.block) ∷ b.catalogue ∷ [] = sym p.words_are ∙ q.words_are in
    let entries : a.file ++ 58 ∷ a.block ≡ b.file ++ 58 ∷ b.block = cc in
    let catalogues : a.catalogue ≡ b.catalogue = cc in
    let sides = same_entries a.file a.block b.file b.block entries p.entry q.entry in
    ap (λ f. build_of f a.block a.catalogue a.out a.steps) sides.0
    ∙ ap (λ k. build_of b.file k a.catalogue a.out a.steps) sides.1
    ∙ ap (λ c. build_of b.file b.block c a.out a.steps) catalogues
    ∙ ap (λ o. build_of b.file b.block b.catalogue o a.steps) (p.out_is ∙ sym q.out_is)
    ∙ ap (build_of b.file b.block b.catalogue b.out) (p.steps ∙ sym q.steps)

-- Words are a build in one way.
pub one_build : (words : List (List ℕ)) (a b : Build) → IsBuild words a → IsBuild words b → a ≡ b
one_build words a b p q = one_build_of (line_of words).positional (unwrap_or (line_of words).out default_out) a b (build_read words a p).of (build_read words b q).of

-- a check of its fields
abbrev check_of : List ℕ → List ℕ → List ℕ → List ℕ → Check
check_of file block catalogue cert = record { file = file; block = block; catalogue = catalogue; cert = cert }

-- Positional words are a check in one way.
pub one_check_of : (words : List (List ℕ)) (a b : Check) → IsCheckOf words a → IsCheckOf words b → a ≡ b
one_check_of words a b p q =
    let both : codes "check" ∷ (a.file ++ 58 ∷ a.block) ∷ a.catalogue ∷ a.cert ∷ [] ≡ codes "check" ∷ (b.file ++ 58 ∷ b.block) ∷ b.catalogue ∷ b.cert ∷ [] = sym p.words_are ∙ q.words_are in
    let entries : a.file ++ 58 ∷ a.block ≡ b.file ++ 58 ∷ b.block = cc in
    let catalogues : a.catalogue ≡ b.catalogue = cc in
    let certs : a.cert ≡ b.cert = cc in
    let sides = same_entries a.file a.block b.file b.block entries p.entry q.entry in
    ap (λ f. check_of f a.block a.catalogue a.cert) sides.0
    ∙ ap (λ k. check_of b.file k a.catalogue a.cert) sides.1
    ∙ ap (λ c. check_of b.file b.block c a.cert) catalogues
    ∙ ap (check_of b.file b.block b.catalogue) certs

-- Words are a check in one way.
pub one_check : (words : List (List ℕ)) (a b : Check) → IsCheck words a → IsCheck words b → a ≡ b
one_check words a b p q = one_check_of (line_of words).positional a b (check_read words a p).of (check_read words b q).of

-- Words are never both a build and a check: their first word differs.
pub build_no_check : (words : List (List ℕ)) (build : Build) (check : Check) → IsBuild words build → IsCheck words check → ⊥
build_no_check words build check p q =
    let both : codes "build" ∷ (build.file ++ 58 ∷ build.block) ∷ build.catalogue ∷ [] ≡ codes "check" ∷ (check.file ++ 58 ∷ check.block) ∷ check.catalogue ∷ check.cert ∷ [] = sym (build_read words build p).of.words_are ∙ (check_read words check q).of.words_are in
    let commands : codes "build" ≡ codes "check" = cc in
    let bad : ⊥ = cc in bad

-- Words are a task in one way.
pub one_job : (words : List (List ℕ)) (a b : Task) → IsJob words a → IsJob words b → a ≡ b
one_job words (tasks.Build a) (tasks.Build b) p q = ap tasks.Build (one_build words a b p q)
one_job words (tasks.Build a) (tasks.Check b) p q = absurd (build_no_check words a b p q)
one_job words (tasks.Check a) (tasks.Build b) p q = absurd (build_no_check words b a q p)
one_job words (tasks.Check a) (tasks.Check b) p q = ap tasks.Check (one_check words a b p q)
