-- Where no fault of paths stands, the prefix of each instance is one: the statement that assigns it would have the fault.
use Rattle.std.proofs.Common.{◌≡◌, ℕ, suc, Bool, true, false, true≢false, ◌&&◌, not, if◌then◌else◌, nat_eq, List, [], ◌∷◌, ◌++◌, length, map, Option, Some, None, inl, inr, refl, ap, sym, ◌∙◌, subst}
use Rattle.std.specs.Prelude.{◌==◌, MatchOption, is_some, is_none, option_to_list, position, unwrap_or, codes}
use Rattle.std.specs.List.{flat_map, list_any}
use Rattle.std.specs.Option.{option_and_then, option_map}
use Rattle.std.specs.Str.{bytes_eq}
use Rattle.std.proofs.lemmas.Bool.{and_parts, and_from, eq-eqb, or_left}
use Rattle.std.proofs.lemmas.Option.{none-some, same_Some}
use Rattle.std.proofs.lemmas.Slice.Eq.{bytes_eq-Decides}
use Rattle.ato_base.specs.declared.faults.Fault.{Fault}
use Rattle.ato_ast.specs.declared.names.Named.{Named}
use Rattle.ato_ast.specs.declared.names.Quoted.{Quoted}
use Rattle.ato_ast.specs.declared.paths.Path.{Path}
use Rattle.ato_ast.specs.declared.stmts.Value.{Value}
use Rattle.ato_ast.specs.declared.stmts.Value.TheVariants as value
use Rattle.ato_ast.specs.declared.stmts.Stmt.{Stmt}
use Rattle.ato_ast.specs.declared.stmts.Stmt.TheVariants as stmt
use Rattle.ato_files.specs.declared.program.SourceFile.{SourceFile}
use Rattle.ato_files.specs.Lists.{numbered}
use Rattle.ato_files.specs.Blocks.{blocks_of}
use Rattle.ato_files.specs.Members.{Kind, instance, param}
use Rattle.ato_instance_tree.specs.Types.{Located, type_stmts}
use Rattle.ato_instance_tree.specs.Members.{source_text, members}
use Rattle.ato_instance_tree.specs.Walk.{Occ, occs, down, leads, counts, assigns, assigns_of, walk, type_at, effective}
use Rattle.ato_instance_tree.specs.Order.{made_at, nodes, instances, occs_at, occurrences}
use Rattle.ato_instance_tree.specs.PathFaults.{keys_of, text_of, string_of, string_at, is_prefix, same_place, same_occ, is_effective, is_key, prefix_faults, assigned_prefix, value_faults, target_faults, declared_faults, stmt_faults, occ_faults, numbered_faults, path_faults, path_fault}
use Rattle.ato_instance_tree.specs.Paths.{Found, free, member_of, member_at, find_steps, onward, end_found, steps_found, pin_ended, find_path, wrong_kind}
use Rattle.ato_instance_tree.specs.Laws.{IsLastAssigning, named_kind}
use Rattle.ato_instance_tree.proofs.DepthLaws.{nil_left, nil_right, no_first, not_if}
use Rattle.ato_instance_tree.proofs.SpotLaws.{IsIn, in_append, in_right, members_differ}
use Rattle.ato_instance_tree.proofs.NodeLaws.{into_flat_map, instance_stands}
use Rattle.ato_instance_tree.proofs.KnownLaws.{in_map}
use Rattle.ato_instance_tree.proofs.LastLaws.{is_last}
use Rattle.ato_instance_tree.proofs.LimitLaws.{among_instances}
use Rattle.ato_instance_tree.proofs.MemberLaws.{agree}
use Rattle.ato_instance_tree.proofs.PlaceLaws.{place_in, kind_there}
use Rattle.ato_links.specs.Parts.{prefix_of, EachPrefixIsOne}
use Rattle.ato_links.proofs.PinLaws.{into_in, in_instances, nil_at, numbered_there}

-- ---- lists and tests

nil_cons : {X : Type 0} (x : X) (xs : List X) → x ∷ xs ≡ [] → ⊥
nil_cons x xs e = absurd (cc)

head_or : ℕ → List ℕ → ℕ
head_or other [] = other
head_or other (n ∷ path) = n

rest_of : List ℕ → List ℕ
rest_of [] = []
rest_of (n ∷ path) = path

parts_same : (a b : ℕ) (xs ys : List ℕ) → a ∷ xs ≡ b ∷ ys → (a ≡ b) × (xs ≡ ys)
parts_same a b xs ys e = (cc, cc)

none_mapped : {X Y : Type 0} (f : X → Y) (xs : List X) → map f xs ≡ [] → xs ≡ []
none_mapped f [] e = refl
none_mapped f (x ∷ xs) e = absurd (nil_cons (f x) (map f xs) e)

last_of_three : (a b c : Bool) → a ≡ true → b ≡ true → (a && b && not c) ≡ false → c ≡ true
last_of_three true true true e f g = refl
last_of_three true true false e f g = absurd (true≢false g)
last_of_three true false c e f g = absurd (true≢false (sym f))
last_of_three false b c e f g = absurd (true≢false (sym e))

is_none_then : {X : Type 0} (o : Option X) → is_none o ≡ true → o ≡ None
is_none_then None e = refl
is_none_then (Some x) e = absurd (true≢false (sym e))

same_as_itself : (o : Occ) → same_occ o o ≡ true
same_as_itself o = and_from (bytes_eq o.path o.path) (same_place o.at o.at) ((bytes_eq-Decides o.path o.path).1 refl)
    (and_from ((o.at.block == o.at.block) && (o.at.line == o.at.line)) (o.at.part == o.at.part)
    (and_from (o.at.block == o.at.block) (o.at.line == o.at.line) (eq-eqb o.at.block o.at.block refl) (eq-eqb o.at.line o.at.line refl))
    (eq-eqb o.at.part o.at.part refl))

-- The name is found as one that is no member.
record IsFree (name : ℕ) (path : List ℕ) (found : Found) : Type 0 where
  pub last : Named
  pub called : last.name.0 ≡ name
  pub is : found ≡ free path last

module _ (files : List SourceFile) (entry : ℕ) where
  abbrev IsMade : List ℕ → Type 0
  IsMade path = IsIn (made_at path) (nodes files entry)

  -- ---- instances

  -- an instance is a member of the one around it
  made_member : (name : ℕ) (path : List ℕ) → IsMade (name ∷ path) → (type : Named) × IsMade path × (member_at files entry path name ≡ Some (instance type))
  made_member name path m = elim (instance_stands files entry (suc (length (blocks_of files))) [] path name m) [
    | inl e ↦ absurd (nil_cons name path e)
    | inr is ↦ (
      is.is.type,
      is.at,
      sym ((agree files (type_at files entry path)).names name) ∙ ap (named_kind (members files (type_at files entry path))) (sym is.is.called)
          ∙ kind_there (members files (type_at files entry path)) is.is.name (instance is.is.type) (members_differ files (type_at files entry path)) is.is.is,
    )
  ]

  -- where names lead to a name of an instance, they start at an instance
  starts : (name : ℕ) (path : List ℕ) → IsMade path → (n : Named) (more : List Named) (from : List ℕ) → down (n ∷ more) from ≡ name ∷ path → IsMade from
  starts name path m n [] from e = subst IsMade (sym (parts_same n.name.0 name from path e).1) m
  starts name path m n (k ∷ more) from e = (made_member n.name.0 from (starts name path m k more (n.name.0 ∷ from) e)).1

  found_free : (name : ℕ) (path : List ℕ) → IsMade path → member_at files entry path name ≡ None → (n : Named) (more : List Named) (from : List ℕ)
      → down (n ∷ more) from ≡ name ∷ path → IsFree name path (find_steps files entry from n more)
  found_free name path m none n [] from e =
      let it = parts_same n.name.0 name from path e in
      record {
        last = n;
        called = it.0;
        is = ap (end_found from n) (ap (member_at files entry from) it.0 ∙ (ap (λ p. member_at files entry p name) it.1 ∙ none)) ∙ ap (λ p. free p n) it.1;
      }
  found_free name path m none n (k ∷ more) from e =
      let it = found_free name path m none k more (n.name.0 ∷ from) e in
      let up = made_member n.name.0 from (starts name path m k more (n.name.0 ∷ from) e) in
      record { last = it.last; called = it.called; is = ap (λ o. onward n k o (find_steps files entry (n.name.0 ∷ from) k more)) up.2 ∙ it.is }

  path_free : (name : ℕ) (path from : List ℕ) (p : Path) → IsMade path → IsMade from → member_at files entry path name ≡ None
      → leads p from (name ∷ path) ≡ true
      → IsFree name path (find_path files entry from p)
  path_free name path from p m start none e =
      let it = and_parts (is_none p.pin) (bytes_eq (down p.steps from) (name ∷ path)) e in
      let found = by p.steps ((bytes_eq-Decides (down p.steps from) (name ∷ path)).0 it.1) in
      record {
        last = found.last;
        called = found.called;
        is = ap (λ o. pin_ended files entry p.at o (steps_found files entry from p.at p.steps)) (is_none_then p.pin it.0) ∙ found.is;
      }
    where
      by : (steps : List Named) → down steps from ≡ name ∷ path → IsFree name path (steps_found files entry from p.at steps)
      by [] f = absurd (none-some _ (sym none ∙ (made_member name path (subst IsMade f start)).2))
      by (n ∷ more) f = found_free name path m none n more from f

  -- ---- occurrences

  -- a statement at an instance or around it is an occurrence, of an instance
  occurs_at : (path : List ℕ) (o : Occ) → IsMade path → IsIn o (occs_at files entry path) → IsMade o.path × IsIn o (occurrences files entry)
  occurs_at path o m h =
      let l = in_map (λ (l : Located). record { path = path; at = l }) o (flat_map (type_stmts files) (option_to_list (type_at files entry path))) h in (
        subst IsMade (sym (ap (λ (x : Occ). x.path) l.2)) m,
        into_flat_map (occs_at files entry) o path (instances files entry)
            (in_instances path (nodes files entry) m) h,
      )

  occurs : (path : List ℕ) (o : Occ) → IsMade path → IsIn o (walk files entry path).stmts → IsMade o.path × IsIn o (occurrences files entry)
  occurs [] o m h = elim (in_append o (occs files [] (Some entry)) [] h) [ inl k ↦ occurs_at [] o m k | inr k ↦ absurd k ]
  occurs (n ∷ path) o m h = elim (in_append o (occs files (n ∷ path) (type_at files entry (n ∷ path))) (walk files entry path).stmts h) [
    | inl k ↦ occurs_at (n ∷ path) o m k
    | inr k ↦ occurs path o (made_member n path m).1 k
  ]

  -- ---- the statement that assigns a prefix

  module _ (names : List (List ℕ)) (sound : path_fault files entry (keys_of names) ≡ None) where
    no_fault_at : (o : Occ) → IsIn o (occurrences files entry) → occ_faults files entry (keys_of names) o ≡ []
    no_fault_at o m =
        let i = place_in o (occurrences files entry) m in
        none_mapped (λ (f : Fault). (i.0, f)) (occ_faults files entry (keys_of names) o)
        (nil_at (numbered_faults files entry (keys_of names)) (i.0, o) (numbered 0 (occurrences files entry))
        (no_first (path_faults files entry (keys_of names)) sound)
        (numbered_there i.0 o (occurrences files entry) i.1))

    module _ (name : ℕ) (is_name : position (bytes_eq (codes "designator_prefix")) names ≡ Some name) (path : List ℕ) (m : IsMade path)
        (none : member_at files entry path name ≡ None) (o : Occ) (last : effective files entry name path ≡ Some o) where
      judged : (text : Quoted) (found : Found) → IsFree name path found → assigned_prefix files entry (keys_of names) o text found ≡ []
          → is_prefix (source_text files text.contents) ≡ true
      judged text found is e =
          let n = is.last in
          let faults : prefix_faults files entry (keys_of names) o path n text ≡ [] = sym (ap (assigned_prefix files entry (keys_of names) o text) is.is) ∙ e in
          let key : is_key (keys_of names).prefix n ≡ true = ap (λ k. list_any (nat_eq n.name.0) (option_to_list k)) is_name
          ∙ or_left (nat_eq n.name.0 name) false (eq-eqb n.name.0 name is.called) in
          let counted : is_effective files entry o n.name.0 path ≡ true =
          ap (λ k. list_any (same_occ o) (option_to_list (effective files entry k path))) is.called
          ∙ (ap (λ k. list_any (same_occ o) (option_to_list k)) last ∙ or_left (same_occ o o) false (same_as_itself o)) in
          last_of_three (is_key (keys_of names).prefix n) (is_effective files entry o n.name.0 path) (is_prefix (source_text files text.contents)) key counted
          (not_if _ _ faults)

      by_value : (text : Quoted) (p : Path) (v : Value) (found : Found) → IsFree name path found → text_of v ≡ Some text
          → target_faults files entry o.path p v ++ value_faults files entry (keys_of names) o.path found v
          ++ flat_map (λ t. assigned_prefix files entry (keys_of names) o t found) (option_to_list (text_of v)) ≡ []
          → is_prefix (source_text files text.contents) ≡ true
      by_value text p (value.Text t) found is f e = subst (λ (t : Quoted). is_prefix (source_text files t.contents) ≡ true) (same_Some t text f)
          (judged t found is (nil_left _ [] (nil_right _ _ e)))
      by_value text p (value.Truth flag at) found is f e = absurd (none-some text f)
      by_value text p (value.Expr x) found is f e = absurd (none-some text f)

      by_declared : (text : Quoted) (n : Named) (v : Option Value) → option_and_then text_of v ≡ Some text
          → flat_map (λ w. declared_faults o.path n w ++ value_faults files entry (keys_of names) o.path (member_of o.path n param) w) (option_to_list v) ≡ []
          → ⊥
      by_declared text n None f e = none-some text f
      by_declared text n (Some (value.Text t)) f e =
          nil_cons (wrong_kind o.path n.at) [] (nil_left (wrong_kind o.path n.at ∷ [])
          (value_faults files entry (keys_of names) o.path (member_of o.path n param) (value.Text t)) (nil_left _ [] e))
      by_declared text n (Some (value.Truth flag at)) f e = none-some text f
      by_declared text n (Some (value.Expr x)) f e = none-some text f

      by_stmt : (start : IsMade o.path) (text : Quoted) (s : Stmt) → assigns_of (name ∷ path) o.path s ≡ true → string_of s ≡ Some text
          → stmt_faults files entry (keys_of names) o s ≡ [] → is_prefix (source_text files text.contents) ≡ true
      by_stmt start text (stmt.Assign p v at) a f e =
          by_value text p v (find_path files entry o.path p)
          (path_free name path o.path p m start none (and_parts (counts v) (leads p o.path (name ∷ path)) a).1) f e
      by_stmt start text (stmt.Declare n unit v at) a f e = absurd (by_declared text n v f e)
      by_stmt start text (stmt.Pass at) a f e = absurd (none-some text f)
      by_stmt start text (stmt.Docs t) a f e = absurd (none-some text f)
      by_stmt start text (stmt.Point p t at) a f e = absurd (none-some text f)
      by_stmt start text (stmt.Connect p t at) a f e = absurd (none-some text f)
      by_stmt start text (stmt.Replace p type at) a f e = absurd (none-some text f)
      by_stmt start text (stmt.Make n type at) a f e = absurd (none-some text f)
      by_stmt start text (stmt.Assert x c at) a f e = absurd (none-some text f)

      assigned : (text : Quoted) → string_of o.at.stmt ≡ Some text → is_prefix (source_text files text.contents) ≡ true
      assigned text f =
          let is = subst (λ k. MatchOption k (list_any (assigns (name ∷ path)) (walk files entry path).stmts ≡ false)
          (IsLastAssigning (walk files entry path).stmts (name ∷ path))) last
          (is_last files entry name path) in
          let it = occurs path o m (subst (IsIn o) (sym is.is) (in_right o is.before (o ∷ is.after) (inl refl))) in
          by_stmt it.0 text o.at.stmt is.does f (no_fault_at o it.1)

    -- ---- the string that counts

    abbrev shown : Option Quoted → List ℕ
    shown text = unwrap_or (option_map (λ (t : Quoted). source_text files t.contents) text) (codes "U")

    module _ (path : List ℕ) (m : IsMade path) where
      by_string : (name : ℕ) → position (bytes_eq (codes "designator_prefix")) names ≡ Some name → (k : Option Kind) → member_at files entry path name ≡ k
          → (e : Option Occ) → effective files entry name path ≡ e
          → is_prefix (shown (if is_some k then None else option_and_then (λ (o : Occ). string_of o.at.stmt) e)) ≡ true
      by_string name is_name (Some k) f e g = refl
      by_string name is_name None f None g = refl
      by_string name is_name None f (Some o) g = by (string_of o.at.stmt) refl where
        by : (text : Option Quoted) → string_of o.at.stmt ≡ text → is_prefix (shown text) ≡ true
        by None h = refl
        by (Some text) h = assigned name is_name path m f o g text h

      by_name : (name : Option ℕ) → position (bytes_eq (codes "designator_prefix")) names ≡ name
          → is_prefix (shown (option_and_then (λ n. string_at files entry n path) name)) ≡ true
      by_name None e = refl
      by_name (Some name) e = by_string name e (member_at files entry path name) refl (effective files entry name path) refl

      prefix_is_one : is_prefix (prefix_of files entry names path) ≡ true
      prefix_is_one = by_name (position (bytes_eq (codes "designator_prefix")) names) refl

pub each_prefix : EachPrefixIsOne
each_prefix most program name tree is path none m =
    prefix_is_one program.files is.entry program.names none path
    (among_instances path (nodes program.files is.entry) (into_in path (instances program.files is.entry) m))
