-- What ancestors declare.
use Rattle.std.proofs.Common.{true≢false, ap, refl, sym, subst, ◌∙◌, ◌+◌, get_or, append_assoc, append-nil, arith}
use Rattle.std.specs.Prelude.{◌≡◌, ℕ, ◌<◌, Bool, true, false, ◌||◌, ◌==◌, not, nat_eq, cond, List, [], ◌∷◌, ◌++◌, map, Option, Some, None, length, take, filter, option_to_list}
use Rattle.std.specs.List.{list_any, flat_map}
use Rattle.std.specs.Option.{option_map}
use Rattle.std.proofs.lemmas.Bool.{eqb-true}
use Rattle.std.proofs.lemmas.List.{take_more, map-append}
use Rattle.std.proofs.lemmas.List.Concat.{flat_map-append}
use Rattle.std.proofs.lemmas.List.Folds.{list_any-append}
use Rattle.std.proofs.lemmas.Option.{slice_get-map}
use Rattle.ato_files.specs.declared.program.SourceFile.{SourceFile}
use Rattle.ato_files.specs.declared.members.Declared.{Declared}
use Rattle.ato_files.specs.declared.members.Members.{Members}
use Rattle.ato_files.specs.declared.clashes.Clashes.{Clashes}
use Rattle.ato_files.specs.Blocks.{BlockAt, blocks_of, block_of}
use Rattle.ato_files.specs.Lineages.{lineage}
use Rattle.ato_files.specs.Members.{decls, stmts_of}
use Rattle.ato_files.specs.MemberLists.{declared_of}
use Rattle.ato_files.specs.NameFaults.{decls_of, inherited}
use Rattle.ato_files.specs.NumberSet.{has}
use Rattle.ato_files.specs.Clashes.{AreDeclared, clash_of}
use Rattle.ato_files.specs.Inherited.{all_members, block_members, decls_at, decls_but, held_decls}

-- ---- lists with the same members

both : (a b : Bool) → (a ≡ true → b ≡ true) → (b ≡ true → a ≡ true) → a ≡ b
both true b f g = sym (f refl)
both false true f g = g refl
both false false f g = refl

either : (a b : Bool) → (a || b) ≡ true → (P : Type 0) → (a ≡ true → P) → (b ≡ true → P) → P
either true b h P f g = f refl
either false b h P f g = g h

right_of : (a b : Bool) → b ≡ true → (a || b) ≡ true
right_of true b e = refl
right_of false b e = e

module _ (test : ℕ → Bool) where
  -- one of the numbers passes
  record Passes (xs : List ℕ) : Type 0 where
    number : ℕ
    within : has xs number ≡ true
    passes : test number ≡ true

  itself : (x : ℕ) → nat_eq x x ≡ true
  itself x = grind arith

  one_passes : (xs : List ℕ) → list_any test xs ≡ true → Passes xs
  one_passes [] h = absurd (true≢false (sym h))
  one_passes (x ∷ xs) h = either (test x) (list_any test xs) h (Passes (x ∷ xs))
      (λ e. record { number = x; within = ap (λ v. v || has xs x) (itself x); passes = e })
      (λ e. let p = one_passes xs e in record { number = p.number; within = right_of (nat_eq p.number x) (has xs p.number) p.within; passes = p.passes })

  passes_any : (xs : List ℕ) (x : ℕ) → has xs x ≡ true → test x ≡ true → list_any test xs ≡ true
  passes_any [] x h e = absurd (true≢false (sym h))
  passes_any (y ∷ xs) x h e = either (nat_eq x y) (has xs x) h (list_any test (y ∷ xs) ≡ true)
      (λ q. ap (λ z. test z || list_any test xs) (sym (eqb-true x y q)) ∙ ap (λ v. v || list_any test xs) e)
      (λ q. right_of (test y) (list_any test xs) (passes_any xs x q e))

  same_any : (xs ys : List ℕ) → ((x : ℕ) → has xs x ≡ has ys x) → list_any test xs ≡ list_any test ys
  same_any xs ys same = both (list_any test xs) (list_any test ys)
      (λ h. let p = one_passes xs h in passes_any ys p.number (sym (same p.number) ∙ p.within) p.passes)
      (λ h. let p = one_passes ys h in passes_any xs p.number (same p.number ∙ p.within) p.passes)

any_flat : (p : Declared → Bool) (f : ℕ → List Declared) (xs : List ℕ) → list_any p (flat_map f xs) ≡ list_any (λ x. list_any p (f x)) xs
any_flat p f [] = refl
any_flat p f (x ∷ xs) = list_any-append p (f x) (flat_map f xs) ∙ ap (λ v. list_any p (f x) || v) (any_flat p f xs)

same_declared : (c : Clashes) (f : ℕ → List Declared) (xs ys : List ℕ) → ((x : ℕ) → has xs x ≡ has ys x) → AreDeclared c (flat_map f xs) → AreDeclared c (flat_map f ys)
same_declared c f xs ys same are = λ d. are d ∙ any_flat (clash_of d) f xs ∙ same_any (λ x. list_any (clash_of d) (f x)) xs ys same ∙ sym (any_flat (clash_of d) f ys)

-- ---- the declarations of blocks in the list

held_of : (b : Option BlockAt) → held_decls (option_map block_members b) ≡ map declared_of (flat_map (λ (x : BlockAt). flat_map decls (stmts_of x.block)) (option_to_list b))
held_of None = refl
held_of (Some b) = ap (map declared_of) (sym (append-nil (flat_map decls (stmts_of b.block))))

decls_are : (files : List SourceFile) (block : ℕ) → decls_at (all_members files) block ≡ map declared_of (decls_of files block)
decls_are files block = ap held_decls (slice_get-map block_members (blocks_of files) block) ∙ held_of (block_of files block)

but_one : (files : List SourceFile) (block number : ℕ) (v : Bool) (rest : List ℕ)
    → cond v [] (decls_at (all_members files) number) ++ map declared_of (flat_map (decls_of files) rest) ≡ map declared_of (flat_map (decls_of files) (cond (not v) (number ∷ rest) rest))
but_one files block number true rest = refl
but_one files block number false rest = ap (λ l. l ++ map declared_of (flat_map (decls_of files) rest)) (decls_are files number)
    ∙ sym (map-append declared_of (decls_of files number) (flat_map (decls_of files) rest))

others_are : (files : List SourceFile) (block : ℕ) (xs : List ℕ)
    → flat_map (decls_but (all_members files) block) xs ≡ map declared_of (flat_map (decls_of files) (filter (λ b. not (b == block)) xs))
others_are files block [] = refl
others_are files block (x ∷ xs) = ap (λ l. cond (x == block) [] (decls_at (all_members files) x) ++ l) (others_are files block xs)
    ∙ but_one files block x (x == block) (filter (λ b. not (b == block)) xs)

pub inherited_declared : (files : List SourceFile) (c : Clashes) (members : List Members) (block : ℕ) (numbers : List ℕ) → members ≡ all_members files
    → ((b : ℕ) → has numbers b ≡ has (lineage files block) b) → AreDeclared c (flat_map (decls_but members block) numbers) → AreDeclared c (map declared_of (inherited files block))
inherited_declared files c members block numbers e same are =
    subst (AreDeclared c) (ap (λ m. flat_map (decls_but m block) (lineage files block)) e ∙ others_are files block (lineage files block))
    (same_declared c (decls_but members block) numbers (lineage files block) same are)

-- ---- one block more

pub others_more : (c d : Clashes) (members : List Members) (block : ℕ) (seen : List Declared) (xs : List ℕ) (i : ℕ) (e : ℕ) → i < length xs
    → AreDeclared d ((seen ++ flat_map (decls_but members block) (take i xs)) ++ decls_but members block (get_or xs i e)) → AreDeclared d (seen ++ flat_map (decls_but members block) (take (i + 1) xs))
others_more c d members block seen xs i e h are =
    let f = decls_but members block in
    subst (AreDeclared d) (append_assoc seen (flat_map f (take i xs)) (f (get_or xs i e)) ∙ ap (λ z. seen ++ z)
    (ap (λ z. flat_map f (take i xs) ++ z) (sym (append-nil (f (get_or xs i e)))) ∙ sym (flat_map-append f (take i xs) (get_or xs i e ∷ [])) ∙ ap (flat_map f) (sym (take_more xs i e h)))) are
