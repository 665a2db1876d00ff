-- No occurrence stands twice.
use Rattle.std.proofs.Common.{◌≡◌, ◌≤◌, ℕ, zero, suc, List, [], ◌∷◌, ◌++◌, length, length-append, map, Option, Some, None, ◌⊎◌, inl, inr, refl, sym, ap, ◌∙◌, subst, arith}
use Rattle.std.specs.Prelude.{⊤, slice_get, option_to_list}
use Rattle.std.specs.List.{flat_map}
use Rattle.std.proofs.lemmas.Option.{none-some}
use Rattle.ato_ast.specs.declared.stmts.Stmt.{Stmt}
use Rattle.ato_files.specs.declared.program.SourceFile.{SourceFile}
use Rattle.ato_files.specs.Blocks.{BlockAt, block_of}
use Rattle.ato_files.specs.Lineages.{parent, IsLineage, oldest, child, lineage}
use Rattle.ato_files.specs.Lists.{numbered}
use Rattle.ato_files.specs.NameFaults.{name_fault}
use Rattle.ato_files.proofs.BlockLaws.{no_loop}
use Rattle.ato_files.proofs.LineageLaws.{one_lineage, ends_exactly}
use Rattle.ato_instance_tree.specs.Types.{Located, line_stmts, block_stmts, located, type_stmts}
use Rattle.ato_instance_tree.specs.Walk.{Occ, occs, type_at}
use Rattle.ato_instance_tree.specs.Order.{instances, occs_at, occurrences}
use Rattle.ato_instance_tree.proofs.SpotLaws.{IsIn, in_append, in_flat_map, at_in}
use Rattle.ato_elab.specs.Counting.{NothingOccursTwice}
use Rattle.ato_elab.proofs.AroundLaws.{InOrder, instances_ordered}

-- ---- lists in which nothing stands twice

abbrev Distinct : {X : Type 0} → List X → Type 0
Distinct [] = ⊤
Distinct (x ∷ xs) = (IsIn x xs → ⊥) × Distinct xs

distinct_append : {X : Type 0} (xs ys : List X) → Distinct xs → Distinct ys → ((x : X) → IsIn x xs → IsIn x ys → ⊥) → Distinct (xs ++ ys)
distinct_append [] ys a b apart = b
distinct_append (x ∷ xs) ys a b apart = (
  (λ h. elim (in_append x xs ys h) [ inl k ↦ a.0 k | inr k ↦ apart x (inl refl) k ]),
  distinct_append xs ys a.1 b (λ y h k. apart y (inr h) k),
)

distinct_flat : {X Y : Type 0} (f : X → List Y) (xs : List X) → Distinct xs → ((x : X) → IsIn x xs → Distinct (f x))
    → ((x z : X) (y : Y) → IsIn x xs → IsIn z xs → IsIn y (f x) → IsIn y (f z) → x ≡ z) → Distinct (flat_map f xs)
distinct_flat f [] d each one = tt
distinct_flat f (x ∷ xs) d each one =
    distinct_append (f x) (flat_map f xs) (each x (inl refl)) (distinct_flat f xs d.1 (λ z h. each z (inr h)) (λ w z y h k. one w z y (inr h) (inr k)))
    (λ y h k. let r = in_flat_map f y xs k in d.0 (subst (λ z. IsIn z xs) (sym (one x r.0 y (inl refl) (inr r.1) h r.2)) r.1))

in_map : {X Y : Type 0} (f : X → Y) (y : Y) (xs : List X) → IsIn y (map f xs) → (x : X) × IsIn x xs × (y ≡ f x)
in_map f y [] h = absurd h
in_map f y (x ∷ xs) (inl e) = (x, inl refl, e)
in_map f y (x ∷ xs) (inr h) = let r = in_map f y xs h in (r.0, inr r.1, r.2)

distinct_map : {X Y : Type 0} (f : X → Y) (xs : List X) → ((x z : X) → f x ≡ f z → x ≡ z) → Distinct xs → Distinct (map f xs)
distinct_map f [] back d = tt
distinct_map f (x ∷ xs) back d = ((λ h. let r = in_map f (f x) xs h in d.0 (subst (λ z. IsIn z xs) (sym (back x r.0 r.2)) r.1)), distinct_map f xs back d.1)

distinct_option : {X : Type 0} (o : Option X) → Distinct (option_to_list o)
distinct_option None = tt
distinct_option (Some x) = ((λ h. h), tt)

one_option : {X : Type 0} (o : Option X) (x z : X) → IsIn x (option_to_list o) → IsIn z (option_to_list o) → x ≡ z
one_option None x z h k = absurd h
one_option (Some y) x z (inl e) (inl f) = e ∙ sym f
one_option (Some y) x z (inl e) (inr k) = absurd k
one_option (Some y) x z (inr h) k = absurd h

distinct_at : {X : Type 0} (xs : List X) (i j : ℕ) (x : X) → Distinct xs → slice_get xs i ≡ Some x → slice_get xs j ≡ Some x → i ≡ j
distinct_at [] i j x d e f = absurd (none-some x e)
distinct_at (z ∷ xs) zero zero x d e f = refl
distinct_at (z ∷ xs) zero (suc j) x d e f = absurd (d.0 (at_in z xs j (f ∙ sym e)))
distinct_at (z ∷ xs) (suc i) zero x d e f = absurd (d.0 (at_in z xs i (e ∙ sym f)))
distinct_at (z ∷ xs) (suc i) (suc j) x d e f = ap suc (distinct_at xs i j x d.1 e f)

-- ---- numbered items

number_from : {X : Type 0} (n : ℕ) (xs : List X) (p : ℕ × X) → IsIn p (numbered n xs) → n ≤ p.0
number_from n [] p h = absurd h
number_from n (x ∷ xs) p (inl e) = let same = ap (λ (q : ℕ × _). q.0) e in omega arith
number_from n (x ∷ xs) p (inr h) = let more = number_from (suc n) xs p h in omega arith

distinct_numbered : {X : Type 0} (n : ℕ) (xs : List X) → Distinct (numbered n xs)
distinct_numbered n [] = tt
distinct_numbered n (x ∷ xs) = ((λ h. let more = number_from (suc n) xs (n, x) h in omega arith), distinct_numbered (suc n) xs)

one_number : {X : Type 0} (n : ℕ) (xs : List X) (p q : ℕ × X) → IsIn p (numbered n xs) → IsIn q (numbered n xs) → p.0 ≡ q.0 → p ≡ q
one_number n [] p q h k e = absurd h
one_number n (x ∷ xs) p q (inl a) (inl b) e = a ∙ sym b
one_number n (x ∷ xs) p q (inl a) (inr k) e = let same = ap (λ (r : ℕ × _). r.0) a in let more = number_from (suc n) xs q k in absurd (omega arith)
one_number n (x ∷ xs) p q (inr h) (inl b) e = let same = ap (λ (r : ℕ × _). r.0) b in let more = number_from (suc n) xs p h in absurd (omega arith)
one_number n (x ∷ xs) p q (inr h) (inr k) e = one_number (suc n) xs p q h k e

-- ---- statements

stmt_line : (block : ℕ) (l : ℕ × List Stmt) (y : Located) → IsIn y (line_stmts block l) → (y.block ≡ block) × (y.line ≡ l.0)
stmt_line block l y h = let r = in_map (λ (p : ℕ × Stmt). record { block = block; line = l.0; part = p.0; stmt = p.1 }) y (numbered 0 l.1) h in
    (ap (λ (z : Located). z.block) r.2, ap (λ (z : Located). z.line) r.2)

distinct_line : (block : ℕ) (l : ℕ × List Stmt) → Distinct (line_stmts block l)
distinct_line block l = distinct_map (λ (p : ℕ × Stmt). record { block = block; line = l.0; part = p.0; stmt = p.1 }) (numbered 0 l.1)
    (λ x z e. ap (λ (y : Located). (y.part, y.stmt)) e) (distinct_numbered 0 l.1)

distinct_block : (block : ℕ) (b : BlockAt) → Distinct (block_stmts block b)
distinct_block block b = distinct_flat (line_stmts block) (numbered 0 (map (λ l. l.parts) b.block.lines)) (distinct_numbered 0 (map (λ l. l.parts) b.block.lines))
    (λ l h. distinct_line block l)
    (λ l m y h k a c. one_number 0 (map (λ l. l.parts) b.block.lines) l m h k (sym (stmt_line block l y a).1 ∙ (stmt_line block m y c).1))

block_is : (block : ℕ) (b : BlockAt) (y : Located) → IsIn y (block_stmts block b) → y.block ≡ block
block_is block b y h = let r = in_flat_map (line_stmts block) y (numbered 0 (map (λ l. l.parts) b.block.lines)) h in (stmt_line block r.0 y r.2).0

module _ (files : List SourceFile) (sound : name_fault files ≡ None) where
  located_is : (block : ℕ) (y : Located) → IsIn y (located files block) → y.block ≡ block
  located_is block y h = let r = in_flat_map (block_stmts block) y (option_to_list (block_of files block)) h in block_is block r.0 y r.2

  distinct_located : (block : ℕ) → Distinct (located files block)
  distinct_located block = distinct_flat (block_stmts block) (option_to_list (block_of files block)) (distinct_option (block_of files block))
      (λ b h. distinct_block block b) (λ b c y h k a d. one_option (block_of files block) b c h k)

  -- a block of a lineage has a lineage of its own, which is no longer
  own_lineage : {block : ℕ} {found : List ℕ} (x : ℕ) → IsLineage files block found → IsIn x found → (own : List ℕ) × IsLineage files x own × (length own ≤ length found)
  own_lineage x (oldest {block = b} e) (inl same) = (b ∷ [], subst (λ (y : ℕ). IsLineage files y (b ∷ [])) (sym same) (oldest e), omega arith)
  own_lineage x (oldest {block = b} e) (inr h) = absurd h
  own_lineage x (child {block = b} {lineage = l} e d) h = by (in_append x l (b ∷ []) h) (λ k. own_lineage x d k)
    where
      by : (IsIn x l ⊎ IsIn x (b ∷ [])) → (IsIn x l → (own : List ℕ) × IsLineage files x own × (length own ≤ length l)) → (own : List ℕ) × IsLineage files x own × (length own ≤ length (l ++ b ∷ []))
      by (inl k) more = let own = more k in let long = length-append l (b ∷ []) in let le = own.2 in let less : length own.0 ≤ length (l ++ b ∷ []) = omega arith in (own.0, own.1, less)
      by (inr (inl same)) more = (l ++ b ∷ [], subst (λ (y : ℕ). IsLineage files y (l ++ b ∷ [])) (sym same) (child e d), omega arith)
      by (inr (inr k)) more = absurd k

  distinct_lineage : {block : ℕ} {found : List ℕ} → IsLineage files block found → Distinct found
  distinct_lineage (oldest e) = ((λ h. h), tt)
  distinct_lineage (child {block = b} {lineage = l} e d) = distinct_append l (b ∷ []) (distinct_lineage d) ((λ h. h), tt) (λ x h k. new x h k)
    where
      new : (x : ℕ) → IsIn x l → IsIn x (b ∷ []) → ⊥
      new x h (inl same) = let own = own_lineage x d h in
          let is = one_lineage (subst (λ (y : ℕ). IsLineage files y own.0) same own.1) (child e d) in
          let long = ap length is in let more = length-append l (b ∷ []) in let le = own.2 in omega arith
      new x h (inr k) = absurd k

  distinct_type : (type : ℕ) → Distinct (type_stmts files type)
  distinct_type type = distinct_flat (located files) (lineage files type)
      (distinct_lineage ((ends_exactly files type).ends (no_loop files sound type (parent files type) refl)))
      (λ b h. distinct_located b) (λ b c y h k a d. sym (located_is b y a) ∙ located_is c y d)

  distinct_occs : (path : List ℕ) (type : Option ℕ) → Distinct (occs files path type)
  distinct_occs path type = distinct_map (λ (l : Located). record { path = path; at = l }) (flat_map (type_stmts files) (option_to_list type))
      (λ x z e. ap (λ (o : Occ). o.at) e)
      (distinct_flat (type_stmts files) (option_to_list type) (distinct_option type) (λ t h. distinct_type t) (λ t u y h k a d. one_option type t u h k))

  occ_path : (entry : ℕ) (path : List ℕ) (o : Occ) → IsIn o (occs_at files entry path) → o.path ≡ path
  occ_path entry path o h = let r = in_map (λ (l : Located). record { path = path; at = l }) o (flat_map (type_stmts files) (option_to_list (type_at files entry path))) h in
      ap (λ (z : Occ). z.path) r.2

  distinct_paths : (ps : List (List ℕ)) → InOrder ps → Distinct ps
  distinct_paths [] h = tt
  distinct_paths (p ∷ ps) h = ((λ k. h.0 p k ([], refl)), distinct_paths ps h.1)

  pub distinct_occurrences : (entry : ℕ) → Distinct (occurrences files entry)
  distinct_occurrences entry = distinct_flat (occs_at files entry) (instances files entry) (distinct_paths (instances files entry) (instances_ordered files entry))
      (λ p h. distinct_occs p (type_at files entry p)) (λ p q o h k a d. sym (occ_path entry p o a) ∙ occ_path entry q o d)

pub nothing_occurs_twice : NothingOccursTwice
nothing_occurs_twice files entry sound = record { once = λ i j o e f. distinct_at (occurrences files entry) i j o (distinct_occurrences files sound entry) e f }
