-- Where the names of files have no fault, each `new` of a member means a type.
use Rattle.std.proofs.Common.{◌≡◌, ℕ, zero, suc, ◌+◌, Bool, true, false, true≢false, ◌||◌, ◌==◌, if◌then◌else◌, List, [], ◌∷◌, map, Option, Some, None, inl, inr, refl, ap, sym, subst, ◌∙◌, arith}
use Rattle.std.specs.Prelude.{slice_get, find, is_some, is_none, option_to_list}
use Rattle.std.specs.List.{flat_map, list_any}
use Rattle.std.specs.Option.{option_and_then, option_or}
use Rattle.std.proofs.lemmas.Bool.{eq-eqb}
use Rattle.std.proofs.lemmas.Option.{none-some, same_Some}
use Rattle.ato_base.specs.declared.faults.FaultKind.TheVariants as kinds
use Rattle.ato_ast.specs.declared.names.Named.{Named}
use Rattle.ato_ast.specs.declared.names.Quoted.{Quoted}
use Rattle.ato_ast.specs.declared.paths.Point.{Point}
use Rattle.ato_ast.specs.declared.paths.Point.TheVariants as point
use Rattle.ato_ast.specs.declared.stmts.Stmt.{Stmt}
use Rattle.ato_ast.specs.declared.stmts.Stmt.TheVariants as stmt
use Rattle.ato_files.specs.declared.program.SourceFile.{SourceFile}
use Rattle.ato_files.specs.Lists.{numbered, first_of_all}
use Rattle.ato_files.specs.Blocks.{BlockAt, blocks_of, block_of, imports_of, imported, own, meaning, meaning_in, is_known}
use Rattle.ato_files.specs.Lineages.{lineage}
use Rattle.ato_files.specs.Members.{signal, instance, param, points, assigned_names, stmts_of}
use Rattle.ato_files.specs.Faults.{fault}
use Rattle.ato_files.specs.NameFaults.{file_faults, block_faults, parent_faults, unknown, type_names, name_faults, name_fault}
use Rattle.ato_files.proofs.FaultLaws.{none_is_empty}
use Rattle.ato_instance_tree.specs.Types.{Located, line_stmts, block_stmts, located, type_stmts, stmts_of_type, meant}
use Rattle.ato_instance_tree.specs.Members.{Member, pin, named, same_member, firsts, point_members, is_declared, stmt_members, members}
use Rattle.ato_instance_tree.specs.Walk.{news, news_of, made_in}
use Rattle.ato_instance_tree.proofs.DepthLaws.{nil_left, nil_right, not_if}
use Rattle.ato_instance_tree.proofs.SpotLaws.{IsIn, in_append, in_flat_map, at_in}
use Rattle.ato_instance_tree.proofs.NodeLaws.{into_flat_map}

-- ---- items of lists

pub in_map : {X Y : Type 0} (f : X → Y) (y : Y) (xs : List X) → IsIn y (map f xs) → (x : X) × IsIn x xs × (y ≡ f x)
in_map f y [] h = absurd h
in_map f y (x ∷ xs) (inl e) = (x, inl refl, e)
in_map f y (x ∷ xs) (inr h) = let more = in_map f y xs h in (more.0, inr more.1, more.2)

pub in_option : {X : Type 0} (x : X) (o : Option X) → IsIn x (option_to_list o) → o ≡ Some x
in_option x None h = absurd h
in_option x (Some y) (inl e) = ap Some (sym e)
in_option x (Some y) (inr h) = absurd h

nil_at : {X Y : Type 0} (f : X → List Y) (x : X) (xs : List X) → flat_map f xs ≡ [] → IsIn x xs → f x ≡ []
nil_at f x [] e h = absurd h
nil_at f x (y ∷ xs) e (inl k) = ap f k ∙ nil_left (f y) (flat_map f xs) e
nil_at f x (y ∷ xs) e (inr h) = nil_at f x xs (nil_right (f y) (flat_map f xs) e) h

numbered_at : {X : Type 0} (n i : ℕ) (x : X) (xs : List X) → slice_get xs i ≡ Some x → IsIn (n + i, x) (numbered n xs)
numbered_at n i x [] e = absurd (none-some x e)
numbered_at n zero x (y ∷ xs) e = inl (ap (λ k. (k, x)) (omega arith) ∙ ap (λ z. (n, z)) (sym (same_Some y x e)))
numbered_at n (suc i) x (y ∷ xs) e = inr (subst (λ k. IsIn (k, x) (numbered (suc n) xs)) (omega arith) (numbered_at (suc n) i x xs e))

numbered_item : {X : Type 0} (n : ℕ) (p : ℕ × X) (xs : List X) → IsIn p (numbered n xs) → IsIn p.1 xs
numbered_item n p [] h = absurd h
numbered_item n p (x ∷ xs) (inl e) = inl (ap (λ q. q.1) e)
numbered_item n p (x ∷ xs) (inr h) = inr (numbered_item (suc n) p xs h)

first_there : {X : Type 0} (x : X) (xs : List X) → IsIn x xs → (y : X) × (first_of_all xs ≡ Some y)
first_there x [] h = absurd h
first_there x (y ∷ xs) h = (y, refl)

found : {X : Type 0} (p : X → Bool) (xs : List X) → list_any p xs ≡ true → (x : X) × (find p xs ≡ Some x) × IsIn x xs
found p [] h = absurd (true≢false (sym h))
found p (x ∷ xs) h = by (p x) refl h (found p xs) where
  by : (b : Bool) → p x ≡ b → (b || list_any p xs) ≡ true → (list_any p xs ≡ true → (y : _) × (find p xs ≡ Some y) × IsIn y xs) → (y : _) × (find p (x ∷ xs) ≡ Some y) × IsIn y (x ∷ xs)
  by true e k more = (x, ap (λ b. if b then Some x else find p xs) e, inl refl)
  by false e k more = let y = more k in (y.0, ap (λ b. if b then Some x else find p xs) e ∙ y.1, inr y.2)

if_there : {X : Type 0} (b : Bool) (x : X) → (if b then [] else x ∷ []) ≡ [] → b ≡ true
if_there true x e = refl
if_there false x e = absurd (true≢false (sym (ap (λ (l : List _). is_empty l) e))) where
  is_empty : {Y : Type 0} → List Y → Bool
  is_empty [] = true
  is_empty (y ∷ ys) = false

there_or : {X : Type 0} (o : Option X) → is_none o ≡ false → (x : X) × (o ≡ Some x)
there_or None e = absurd (true≢false e)
there_or (Some x) e = (x, refl)

-- ---- names without a fault

module _ (files : List SourceFile) (sound : name_fault files ≡ None) where
  no_faults : name_faults files ≡ []
  no_faults = none_is_empty (name_faults files) sound

  file_sound : (i : ℕ) (f : SourceFile) → slice_get files i ≡ Some f → file_faults files f ≡ []
  file_sound i f e = nil_at (file_faults files) f files (nil_left (flat_map (file_faults files) files) _ no_faults) (at_in f files i e)

  block_sound : (number : ℕ) (b : BlockAt) → block_of files number ≡ Some b → block_faults files number b ≡ []
  block_sound number b e = nil_at (λ (x : ℕ × BlockAt). block_faults files x.0 x.1) (number, b) (numbered 0 (blocks_of files))
      (nil_right (flat_map (file_faults files) files) _ no_faults)
      (subst (λ k. IsIn (k, b) (numbered 0 (blocks_of files))) (omega arith) (numbered_at 0 number b (blocks_of files) e))

  type_known : (number : ℕ) (b : BlockAt) (type : Named) → block_of files number ≡ Some b → IsIn type (flat_map type_names (stmts_of b.block)) → is_known files b.file type.name.0 ≡ true
  type_known number b type e h = if_there (is_known files b.file type.name.0) (fault kinds.NameUnknown type.at)
      (nil_at (unknown files b.file) type (flat_map type_names (stmts_of b.block))
      (nil_right (parent_faults files number b.file b.block b.block.parent _) _ (nil_left _ _ (nil_left _ _ (nil_left _ _ (block_sound number b e))))) h)

  import_means : (i : ℕ) (f : SourceFile) (name : ℕ) → slice_get files i ≡ Some f → list_any (λ (import : Named × Option Quoted). import.0.name.0 == name) (imports_of f) ≡ true
      → (b : ℕ) × (option_and_then (imported files f) (find (λ import. import.0.name.0 == name) (imports_of f)) ≡ Some b)
  import_means i f name e h =
      let import = found (λ (import : Named × Option Quoted). import.0.name.0 == name) (imports_of f) h in
      let block = there_or (imported files f import.0) (not_if (is_none (imported files f import.0)) (fault kinds.NameUnknown import.0.0.at)
      (nil_at (λ (i : Named × Option Quoted). if is_none (imported files f i) then fault kinds.NameUnknown i.0.at ∷ [] else []) import.0 (imports_of f) (nil_right _ _ (file_sound i f e)) import.2)) in
      (block.0, ap (option_and_then (imported files f)) import.1 ∙ block.1)

  imports_mean : (i name : ℕ) (o : Option SourceFile) → slice_get files i ≡ o → list_any (λ f. list_any (λ import. import.0.name.0 == name) (imports_of f)) (option_to_list o) ≡ true
      → (b : ℕ) × (option_and_then (λ f. option_and_then (imported files f) (find (λ import. import.0.name.0 == name) (imports_of f))) o ≡ Some b)
  imports_mean i name None e h = absurd (true≢false (sym h))
  imports_mean i name (Some f) e h = import_means i f name e (or_no_more (list_any (λ import. import.0.name.0 == name) (imports_of f)) h) where
    or_no_more : (b : Bool) → (b || false) ≡ true → b ≡ true
    or_no_more true k = refl
    or_no_more false k = k

  -- a known name means a block
  known_means : (file name : ℕ) (o : Option ℕ) → own files file name ≡ o
      → (is_some o || list_any (λ f. list_any (λ import. import.0.name.0 == name) (imports_of f)) (option_to_list (slice_get files file))) ≡ true
      → (b : ℕ) × (option_or o (option_and_then (λ f. option_and_then (imported files f) (find (λ import. import.0.name.0 == name) (imports_of f))) (slice_get files file)) ≡ Some b)
  known_means file name (Some b) e h = (b, refl)
  known_means file name None e h = imports_mean file name (slice_get files file) refl h

  type_means : (number : ℕ) (b : BlockAt) (type : Named) → block_of files number ≡ Some b → IsIn type (flat_map type_names (stmts_of b.block))
      → (m : ℕ) × (meaning_in files number type.name.0 ≡ Some m)
  type_means number b type e h =
      let m = known_means b.file type.name.0 (own files b.file type.name.0) refl (type_known number b type e h) in
      (m.0, ap (option_and_then (λ (x : BlockAt). meaning files x.file type.name.0)) e ∙ m.1)

-- ---- a statement among those of a type

-- The statement stands in the block whose number it has.
pub record Stands (files : List SourceFile) (l : Located) : Type 0 where
  pub at : BlockAt
  pub block : block_of files l.block ≡ Some at
  pub is : IsIn l.stmt (stmts_of at.block)

line_stands : (block : ℕ) (line : ℕ × List Stmt) (l : Located) → IsIn l (line_stmts block line) → (l.block ≡ block) × IsIn l.stmt line.1
line_stands block line l h =
    let p = in_map (λ (p : ℕ × Stmt). record { block = block; line = line.0; part = p.0; stmt = p.1 }) l (numbered 0 line.1) h in
    (ap (λ (x : Located). x.block) p.2, subst (λ s. IsIn s line.1) (sym (ap (λ (x : Located). x.stmt) p.2)) (numbered_item 0 p.0 line.1 p.1))

block_stands : (files : List SourceFile) (block : ℕ) (b : BlockAt) (l : Located) → block_of files block ≡ Some b → IsIn l (block_stmts block b) → Stands files l
block_stands files block b l e h =
    let line = in_flat_map (line_stmts block) l (numbered 0 (map (λ l. l.parts) b.block.lines)) h in
    let stands = line_stands block line.0 l line.2 in
    let written = in_map (λ l. l.parts) line.0.1 b.block.lines (numbered_item 0 line.0 (map (λ l. l.parts) b.block.lines) line.1) in
    record {
      at = b;
      block = ap (block_of files) stands.0 ∙ e;
      is = into_flat_map (λ l. l.parts) l.stmt written.0 b.block.lines written.1 (subst (IsIn l.stmt) written.2 stands.1);
    }

pub type_stands : (files : List SourceFile) (type : ℕ) (l : Located) → IsIn l (type_stmts files type) → Stands files l
type_stands files type l h =
    let block = in_flat_map (located files) l (lineage files type) h in
    let b = in_flat_map (block_stmts block.0) l (option_to_list (block_of files block.0)) block.2 in
    block_stands files block.0 b.0 l (in_option b.0 (block_of files block.0) b.1) b.2

-- ---- members that are instances

abbrev is_instance_member : Member → Bool
is_instance_member (pin text) = false
is_instance_member (named n signal) = false
is_instance_member (named n param) = false
is_instance_member (named n (instance type)) = true

abbrev name_or : Named → Member → Named
name_or other (pin text) = other
name_or other (named n k) = n

abbrev type_or : Named → Member → Named
type_or other (named n (instance type)) = type
type_or other _ = other

point_member : (files : List SourceFile) (m : Member) (p : Point) → IsIn m (point_members files p) → is_instance_member m ≡ false
point_member files m (point.Signal n at) (inl e) = ap is_instance_member e
point_member files m (point.Signal n at) (inr h) = absurd h
point_member files m (point.Pin l at) (inl e) = ap is_instance_member e
point_member files m (point.Pin l at) (inr h) = absurd h

points_member : (files : List SourceFile) (m : Member) (ps : List Point) → IsIn m (flat_map (point_members files) ps) → is_instance_member m ≡ false
points_member files m ps h = let p = in_flat_map (point_members files) m ps h in point_member files m p.0 p.2

assigned_member : (all : List Stmt) (m : Member) (ns : List Named) → IsIn m (flat_map (λ n. if is_declared all n.name.0 then [] else named n param ∷ []) ns) → is_instance_member m ≡ false
assigned_member all m ns h = let n = in_flat_map (λ (n : Named). if is_declared all n.name.0 then [] else named n param ∷ []) m ns h in by (is_declared all n.0.name.0) n.0 n.2 where
  by : (b : Bool) (n : Named) → IsIn m (if b then [] else named n param ∷ []) → is_instance_member m ≡ false
  by true n k = absurd k
  by false n (inl e) = ap is_instance_member e
  by false n (inr k) = absurd k

-- an instance is a member by the `new` of its name
made_by : (files : List SourceFile) (all : List Stmt) (n type : Named) (s : Stmt) → IsIn (named n (instance type)) (stmt_members files all s) → (at : _) × (s ≡ stmt.Make n type at)
made_by files all n type (stmt.Pass at) h = absurd h
made_by files all n type (stmt.Docs text) h = absurd h
made_by files all n type (stmt.Point p e at) h = absurd (true≢false (points_member files (named n (instance type)) (points (stmt.Point p e at)) h))
made_by files all n type (stmt.Connect p e at) h = absurd (true≢false (points_member files (named n (instance type)) (points (stmt.Connect p e at)) h))
made_by files all n type (stmt.Replace p t at) h = absurd h
made_by files all n type (stmt.Assign p v at) h = absurd (true≢false (assigned_member all (named n (instance type)) (assigned_names (stmt.Assign p v at)) h))
made_by files all n type (stmt.Make m t at) (inl e) = (at, ap (λ x. stmt.Make x t at) (sym (ap (name_or n) e)) ∙ ap (λ x. stmt.Make n x at) (sym (ap (type_or type) e)))
made_by files all n type (stmt.Make m t at) (inr h) = absurd h
made_by files all n type (stmt.Declare m unit v at) (inl e) = absurd (true≢false (ap is_instance_member e))
made_by files all n type (stmt.Declare m unit v at) (inr h) = absurd h
made_by files all n type (stmt.Assert x c at) h = absurd h

kept_of : (m : Member) (seen ms : List Member) → IsIn m (firsts seen ms) → IsIn m ms
kept_of m seen [] h = absurd h
kept_of m seen (o ∷ ms) h = elim (in_append m (if list_any (same_member o) seen then [] else o ∷ []) (firsts (o ∷ seen) ms) h) [
  | inl k ↦ inl (by (list_any (same_member o) seen) k)
  | inr k ↦ inr (kept_of m (o ∷ seen) ms k)
] where
  by : (b : Bool) → IsIn m (if b then [] else o ∷ []) → m ≡ o
  by true k = absurd k
  by false (inl e) = e
  by false (inr k) = absurd k

pub made_there : (files : List SourceFile) (type : Option ℕ) (n : Named) (of : Named) → name_fault files ≡ None → IsIn (named n (instance of)) (members files type)
    → (new : ℕ × Named) × (made_in files n.name.0 type ≡ Some new)
made_there files type n of sound h =
    let all = stmts_of_type files type in
    let s = in_flat_map (stmt_members files all) (named n (instance of)) all (kept_of (named n (instance of)) [] (flat_map (stmt_members files all) all) h) in
    let make = made_by files all n of s.0 s.2 in
    let l = in_map (λ (l : Located). l.stmt) s.0 (flat_map (type_stmts files) (option_to_list type)) s.1 in
    let t = in_flat_map (type_stmts files) l.0 (option_to_list type) l.1 in
    let stands = type_stands files t.0 l.0 t.2 in
    let is : l.0.stmt ≡ stmt.Make n of make.0 = sym l.2 ∙ make.1 in
    let named_there = into_flat_map type_names of l.0.stmt (stmts_of stands.at.block) stands.is (subst (λ x. IsIn of (type_names x)) (sym is) (inl refl)) in
    let m = type_means files sound l.0.block stands.at of stands.block named_there in
    let new : meant files l.0.block of ≡ (m.0, of) ∷ [] = ap (λ o. map (λ t. (t, of)) (option_to_list o)) m.1 in
    let one : news files n.name.0 l.0 ≡ (m.0, of) ∷ [] = ap (news_of files n.name.0 l.0.block) is ∙ ap (λ b. if b then meant files l.0.block of else []) (eq-eqb n.name.0 n.name.0 refl) ∙ new in
    first_there (m.0, of) (flat_map (news files n.name.0) (flat_map (type_stmts files) (option_to_list type)))
    (into_flat_map (news files n.name.0) (m.0, of) l.0 (flat_map (type_stmts files) (option_to_list type)) l.1 (subst (IsIn (m.0, of)) (sym one) (inl refl)))
