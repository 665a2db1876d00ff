-- The entries that are made from the assignments that count are those of the tree.
use Rattle.std.proofs.Common.{◌≡◌, ℕ, zero, suc, Bool, true, false, ◌&&◌, true≢false, List, [], ◌∷◌, ◌++◌, length, map, Option, Some, None, refl, sym, ap, ◌∙◌, subst, arith}
use Rattle.std.specs.Prelude.{slice_get, position, is_none, option_to_list, MatchOption}
use Rattle.std.specs.List.{flat_map, list_any}
use Rattle.std.specs.Option.{option_map, option_and_then}
use Rattle.std.specs.Str.{bytes_eq}
use Rattle.std.proofs.lemmas.Option.{none-some, same_Some, slice_get-map}
use Rattle.std.proofs.lemmas.Slice.Eq.{bytes_eq-Decides}
use Rattle.indexmap.specs.IndexMap.{IsUnique}
use Rattle.ato_base.specs.declared.faults.Fault.{Fault}
use Rattle.ato_base.specs.declared.places.Span.{Span}
use Rattle.ato_base.specs.declared.tokens.TokenKind.{TokenKind}
use Rattle.ato_ast.specs.declared.names.Named.{Named}
use Rattle.ato_ast.specs.declared.paths.Path.{Path}
use Rattle.ato_ast.specs.declared.stmts.Stmt.{Stmt}
use Rattle.ato_ast.specs.declared.stmts.Stmt.TheVariants as stmt
use Rattle.ato_ast.specs.declared.stmts.Value.{Value}
use Rattle.ato_ast.specs.declared.stmts.Value.TheVariants as value
use Rattle.ato_files.specs.declared.program.SourceFile.{SourceFile}
use Rattle.ato_files.specs.Members.{Kind, signal, instance, param}
use Rattle.ato_files.specs.Lists.{numbered, first_of_all}
use Rattle.ato_files.specs.Programs.{NamesDiffer}
use Rattle.ato_instance_tree.specs.declared.tree.Effective.{Effective}
use Rattle.ato_instance_tree.specs.declared.tree.Node.{Node}
use Rattle.ato_instance_tree.specs.declared.tree.Tree.{Tree}
use Rattle.ato_instance_tree.specs.Walk.{Occ, down, counts, counts_maybe, assigns, assigns_of, walk, effective}
use Rattle.ato_instance_tree.specs.Laws.{IsLastAssigning, at_names, place_of}
use Rattle.ato_instance_tree.specs.Order.{made_at, nodes, occurrences}
use Rattle.ato_instance_tree.specs.Paths.{Found, lost, free, member_of, pin_of, member_at, pin_ended, onward, find_steps, steps_found, find_path, must_be, is_param, text_found}
use Rattle.ato_instance_tree.specs.PathFaults.{Keys, keys_of, path_fault, path_faults, numbered_faults, occ_faults, stmt_faults, target_faults, value_faults, assigned_prefix, text_of}
use Rattle.ato_instance_tree.specs.Trees.{Step, Where, Said, where_at, node_paths, said_with, spot_said, steps, Counts}
use Rattle.ato_instance_tree.proofs.LastLaws.{is_last}
use Rattle.ato_instance_tree.proofs.PushLaws.{paths_long}
use Rattle.ato_instance_tree.proofs.SpotLaws.{IsIn, no_node_twice}
use Rattle.ato_instance_tree.proofs.TreeLaws.{Told, IsTold, told_at, all_told, spot_steps, said_place, same_place, mapped}
use Rattle.ato_elab.specs.declared.assigned.Assigned.{Assigned}
use Rattle.ato_elab.specs.declared.built.Built.{Built}
use Rattle.ato_elab.specs.Assigned.{held_by, assigned_to}
use Rattle.ato_elab.specs.Built.{IsBuilt, same_key, stands_under}
use Rattle.ato_elab.specs.Counting.{entry_of, entries_of, AreKeys, OccurOnce, EntriesCount}
use Rattle.ato_elab.specs.Standing.{IsAt, IsReady, IsWhole, Agrees}
use Rattle.ato_elab.specs.Landing.{AreAssigned, IsChosen}
use Rattle.ato_elab.proofs.EntryLaws.{entry_law}
use Rattle.ato_elab.proofs.EntryList.{contains_in, in_contains, in_made, made_in, made_of, in_held, held_in, once_at, entries_once}
use Rattle.ato_elab.proofs.SaidLaws.{spot_node}

-- ---- where nodes are

where_of : {files : List SourceFile} {names : List (List ℕ)} {entry : ℕ} {built : Built} → IsBuilt files names entry built → (number : ℕ) (path : List ℕ) → IsAt files entry number path
    → where_at (node_paths built.nodes) number ≡ Some (steps names path)
where_of is number path at = ap (option_and_then (λ (w : Where). w)) (spot_node is number (made_at path) at.is).path

-- a path that is there is said
said_there : (ws : List Where) (ns : List Node) (i : ℕ) (q : List Step) → length ws ≡ length ns → where_at ws i ≡ Some q → (s : Said) × (slice_get (said_with ws ns) i ≡ Some s) × (s.path ≡ Some q)
said_there [] ns i q long e = absurd (none-some q e)
said_there (w ∷ ws) [] i q long e = absurd (omega arith)
said_there (w ∷ ws) (n ∷ ns) zero q long e = (record { path = w; name = Some n.name; kind = Some n.kind; block = n.block }, refl, e)
said_there (w ∷ ws) (n ∷ ns) (suc i) q long e = said_there ws ns i q (omega arith) e

-- the number of a node at the path of an instance is that of the instance
one_number : {files : List SourceFile} {names : List (List ℕ)} {entry : ℕ} {built : Built} → IsBuilt files names entry built → NamesDiffer names → (i j : ℕ) (path : List ℕ)
    → where_at (node_paths built.nodes) i ≡ Some (steps names path) → IsAt files entry j path → i ≡ j
one_number {files = files} {names = names} {entry = entry} {built = built} is differ i j path e at =
    let s = said_there (node_paths built.nodes) built.nodes i (steps names path) (paths_long built.nodes) e in
    let spot = mapped (spot_said files entry names) (slice_get (nodes files entry) i) s.0
    (sym (slice_get-map (spot_said files entry names) (nodes files entry) i) ∙ ap (λ (l : List Said). slice_get l i) (sym is.told) ∙ s.1) in
    let known : Told (steps names path) = subst IsTold e (told_at (node_paths built.nodes) i (all_told [] built.nodes tt)) in
    let same : spot_steps names (place_of spot.0) ≡ steps names path =
    same_Some (spot_steps names (place_of spot.0)) (steps names path) (sym (said_place files entry names spot.0) ∙ ap (λ (x : Said). x.path) spot.2 ∙ s.2) in
    no_node_twice files entry i j spot.0 (made_at path) spot.1 at.is (same_place names (place_of spot.0) (at_names path) differ same (subst Told (sym same) known))

-- ---- no faults

append_nil : {X : Type 0} (xs ys : List X) → xs ++ ys ≡ [] → (xs ≡ []) × (ys ≡ [])
append_nil [] ys e = (refl, e)
append_nil (x ∷ xs) ys e = let long = ap length e in absurd (omega arith)

assign_faults : {X : Type 0} (xs ys zs : List X) → (xs ++ ys) ++ zs ≡ [] → xs ≡ []
assign_faults xs ys zs e = (append_nil xs ys (append_nil (xs ++ ys) zs e).0).0

map_nil : {X Y : Type 0} (f : X → Y) (xs : List X) → map f xs ≡ [] → xs ≡ []
map_nil f [] e = refl
map_nil f (x ∷ xs) e = let long = ap length e in absurd (omega arith)

first_none : {X : Type 0} (xs : List X) → first_of_all xs ≡ None → xs ≡ []
first_none [] e = refl
first_none (x ∷ xs) e = absurd (none-some x (sym e))

no_fault_at : (files : List SourceFile) (entry : ℕ) (keys : Keys) (os : List Occ) (n i : ℕ) (o : Occ) → flat_map (numbered_faults files entry keys) (numbered n os) ≡ [] → slice_get os i ≡ Some o
    → occ_faults files entry keys o ≡ []
no_fault_at files entry keys [] n i o e at = absurd (none-some o at)
no_fault_at files entry keys (x ∷ os) n zero o e at =
    let here = append_nil (numbered_faults files entry keys (n, x)) (flat_map (numbered_faults files entry keys) (numbered (suc n) os)) e in
    ap (occ_faults files entry keys) (sym (same_Some x o at)) ∙ map_nil (λ (f : Fault). (n, f)) (occ_faults files entry keys x) here.0
no_fault_at files entry keys (x ∷ os) n (suc i) o e at =
    let more = append_nil (numbered_faults files entry keys (n, x)) (flat_map (numbered_faults files entry keys) (numbered (suc n) os)) e in
    no_fault_at files entry keys os (suc n) i o more.1 at

abbrev is_lost : Found → Bool
is_lost (lost at) = true
is_lost (free path n) = false
is_lost (member_of path n k) = false
is_lost (pin_of path n) = false

text_kept : (path : List ℕ) (f : Found) → text_found path f ≡ [] → is_lost f ≡ false
text_kept path (lost at) e = let long = ap length e in absurd (omega arith)
text_kept path (free holder n) e = refl
text_kept path (member_of holder n k) e = refl
text_kept path (pin_of holder n) e = refl

param_kept : (path : List ℕ) (f : Found) → must_be is_param false path f ≡ [] → is_lost f ≡ false
param_kept path (lost at) e = let long = ap length e in absurd (omega arith)
param_kept path (free holder n) e = refl
param_kept path (member_of holder n k) e = refl
param_kept path (pin_of holder n) e = refl

target_kept : (files : List SourceFile) (entry : ℕ) (path : List ℕ) (p : Path) (v : Value) → target_faults files entry path p v ≡ [] → is_lost (find_path files entry path p) ≡ false
target_kept files entry path p (value.Text text) e = text_kept path (find_path files entry path p) e
target_kept files entry path p (value.Truth is at) e = text_kept path (find_path files entry path p) e
target_kept files entry path p (value.Expr x) e = param_kept path (find_path files entry path p) e

-- ---- where assignments lead

and_true : (a b : Bool) → (a && b) ≡ true → (a ≡ true) × (b ≡ true)
and_true true b h = (refl, h)
and_true false b h = absurd (true≢false (sym h))

abbrev rest : List ℕ → List ℕ
rest [] = []
rest (x ∷ xs) = xs

module _ (files : List SourceFile) (entry : ℕ) (whole : IsWhole files entry) where
  below_at : (from : List ℕ) (name : ℕ) (type : Named) (o : Option ℕ) → Agrees (nodes files entry) from name (Some (instance type)) o → (number : ℕ) × IsAt files entry number (name ∷ from)
  below_at from name type None h = absurd h
  below_at from name type (Some number) h = (number, record { is = h })

  -- the instance before the last name of a path that does not break off is in the tree
  led_to : (name : ℕ) (path from : List ℕ) (node : ℕ) → IsAt files entry node from → (n : Named) (more : List Named) → is_lost (find_steps files entry from n more) ≡ false
      → down (n ∷ more) from ≡ name ∷ path → (number : ℕ) × IsAt files entry number path
  led_to name path from node at n [] kept e = (node, subst (λ (p : List ℕ). IsAt files entry node p) (ap rest e) at)
  led_to name path from node at n (m ∷ more) kept e =
      on (member_at files entry from n.name.0) kept (whole.members node from n.name.0 at) (λ number there f. led_to name path (n.name.0 ∷ from) number there m more f e)
    where
      on : (k : Option Kind) → is_lost (onward n m k (find_steps files entry (n.name.0 ∷ from) m more)) ≡ false
          → Agrees (nodes files entry) from n.name.0 k (position (stands_under from n.name.0) (nodes files entry))
          → ((number : ℕ) → IsAt files entry number (n.name.0 ∷ from) → is_lost (find_steps files entry (n.name.0 ∷ from) m more) ≡ false → (i : ℕ) × IsAt files entry i path)
          → (i : ℕ) × IsAt files entry i path
      on None f a further = absurd (true≢false f)
      on (Some signal) f a further = absurd (true≢false f)
      on (Some (instance type)) f a further = let b = below_at from n.name.0 type (position (stands_under from n.name.0) (nodes files entry)) a in further b.0 b.1 f
      on (Some param) f a further = absurd (true≢false f)

  steps_to : (name : ℕ) (path from : List ℕ) (node : ℕ) → IsAt files entry node from → (p : Path) → is_none p.pin ≡ true → (ns : List Named)
      → is_lost (steps_found files entry from p.at ns) ≡ false → down ns from ≡ name ∷ path → (number : ℕ) × IsAt files entry number path
  steps_to name path from node at p plain [] kept e = absurd (true≢false kept)
  steps_to name path from node at p plain (n ∷ more) kept e = led_to name path from node at n more kept e

  open_kept : (whole : Span) (pin : Option TokenKind) (f : Found) → is_none pin ≡ true → is_lost (pin_ended files entry whole pin f) ≡ is_lost f
  open_kept whole None f e = refl
  open_kept whole (Some kind) f e = absurd (true≢false (sym e))

  assigned_to_path : (name : ℕ) (path from : List ℕ) (node : ℕ) → IsAt files entry node from → (p : Path) (v : Value) → target_faults files entry from p v ≡ []
      → (is_none p.pin && bytes_eq (down p.steps from) (name ∷ path)) ≡ true → (number : ℕ) × IsAt files entry number path
  assigned_to_path name path from node at p v none e =
      let both = and_true (is_none p.pin) (bytes_eq (down p.steps from) (name ∷ path)) e in
      steps_to name path from node at p both.0 p.steps
      (sym (open_kept p.at p.pin (steps_found files entry from p.at p.steps) both.0) ∙ target_kept files entry from p v none)
      ((bytes_eq-Decides (down p.steps from) (name ∷ path)).0 both.1)

  -- the instance to whose name a statement without faults assigns is in the tree
  stmt_to : (keys : Keys) (o : Occ) (name : ℕ) (path : List ℕ) (node : ℕ) → IsAt files entry node o.path → (s : Stmt) → stmt_faults files entry keys o s ≡ []
      → assigns_of (name ∷ path) o.path s ≡ true → (number : ℕ) × IsAt files entry number path
  stmt_to keys o name path node at (stmt.Pass place) none e = absurd (true≢false (sym e))
  stmt_to keys o name path node at (stmt.Docs text) none e = absurd (true≢false (sym e))
  stmt_to keys o name path node at (stmt.Point p x place) none e = absurd (true≢false (sym e))
  stmt_to keys o name path node at (stmt.Connect p x place) none e = absurd (true≢false (sym e))
  stmt_to keys o name path node at (stmt.Replace p type place) none e = absurd (true≢false (sym e))
  stmt_to keys o name path node at (stmt.Assign p v place) none e =
      assigned_to_path name path o.path node at p v (assign_faults (target_faults files entry o.path p v) (value_faults files entry keys o.path (find_path files entry o.path p) v)
      (flat_map (λ text. assigned_prefix files entry keys o text (find_path files entry o.path p)) (option_to_list (text_of v))) none)
      (and_true (counts v) (is_none p.pin && bytes_eq (down p.steps o.path) (name ∷ path)) e).1
  stmt_to keys o name path node at (stmt.Make n type place) none e = absurd (true≢false (sym e))
  stmt_to keys o name path node at (stmt.Declare n unit v place) none e =
      let same = (bytes_eq-Decides (n.name.0 ∷ o.path) (name ∷ path)).0 (and_true (counts_maybe v) (bytes_eq (n.name.0 ∷ o.path) (name ∷ path)) e).1 in
      (node, subst (λ (p : List ℕ). IsAt files entry node p) (ap rest same) at)
  stmt_to keys o name path node at (stmt.Assert x c place) none e = absurd (true≢false (sym e))

-- the assignment that counts assigns
effective_assigns : (files : List SourceFile) (entry name : ℕ) (path : List ℕ) (o : Occ) → effective files entry name path ≡ Some o → assigns (name ∷ path) o ≡ true
effective_assigns files entry name path o e =
    let last : IsLastAssigning (walk files entry path).stmts (name ∷ path) o = subst (λ (x : Option Occ). MatchOption x (list_any (assigns (name ∷ path)) (walk files entry path).stmts ≡ false)
    (λ (o : Occ). IsLastAssigning (walk files entry path).stmts (name ∷ path) o)) e (is_last files entry name path) in last.does

-- ---- the law

chosen_some : (os : List Occ) (o : Occ) (held : Option (ℕ × ℕ)) → IsChosen os (Some o) (option_map (λ p. p.0) held) → (p : ℕ × ℕ) × (held ≡ Some p) × (slice_get os p.0 ≡ Some o)
chosen_some os o None h = absurd h
chosen_some os o (Some p) h = (p, refl, h)

some_chosen : (os : List Occ) (o : Option Occ) (number : ℕ) → IsChosen os o (Some number) → (x : Occ) × (o ≡ Some x) × (slice_get os number ≡ Some x)
some_chosen os None number h = absurd h
some_chosen os (Some x) number h = (x, refl, h)

made : ℕ → List ℕ → ℕ → Effective
made node name by = record { node = node; name = name; by = by }

made_entry : (names : List (List ℕ)) (number name by : ℕ) (p : ℕ × ℕ) (e : Effective) → slice_get names name ≡ Some e.name → number ≡ e.node → p.0 ≡ e.by → entry_of names ((number, name), p) ≡ Some e
unfolding made
made_entry names number name by p e called node is =
    ap (option_map (λ (text : List ℕ). made number text p.0)) called ∙ ap (λ (n : ℕ). Some (made n e.name p.0)) node ∙ ap (λ (n : ℕ). Some (made e.node e.name n)) is

module _ (files : List SourceFile) (names : List (List ℕ)) (entry : ℕ) (built : Built) (a : Assigned) (tree : Tree) (ready : IsReady files names entry built)
    (assigned : AreAssigned files entry a) (keys : AreKeys files entry a) (differ : NamesDiffer names) (unique : IsUnique same_key a.by) (nodes_are : tree.nodes ≡ built.nodes) where
  entry_counts : (e : Effective) → IsIn e (entries_of names a) → Counts files entry names tree e
  entry_counts e h =
      let x = in_made names a.by.entries e h in
      let m = made_of names x.0 e x.2 in
      let held = in_held a unique x.0 x.1 in
      let at = keys.each x.0.0.0 x.0.0.1 x.0.1 held in
      let chosen = some_chosen (occurrences files entry) (effective files entry x.0.0.1 at.path) x.0.1.0
      (subst (λ (o : Option (ℕ × ℕ)). IsChosen (occurrences files entry) (effective files entry x.0.0.1 at.path) (option_map (λ (p : ℕ × ℕ). p.0) o)) held
      (assigned.each x.0.0.0 x.0.0.1 at.path at.at)) in
      record {
        path = at.path;
        name = x.0.0.1;
        occ = chosen.0;
        at = ap (λ (ns : List Node). where_at (node_paths ns) e.node) nodes_are ∙ ap (where_at (node_paths built.nodes)) (sym m.node) ∙ where_of ready.is x.0.0.0 at.path at.at;
        called = m.name;
        last = chosen.1;
        by = ap (slice_get (occurrences files entry)) (sym m.by) ∙ chosen.2;
      }

  counts_entry : OccurOnce files entry → path_fault files entry (keys_of names) ≡ None → (e : Effective) → Counts files entry names tree e → IsIn e (entries_of names a)
  counts_entry once none e c =
      let os = occurrences files entry in
      let under = entry_law ready.is e.by c.occ c.by in
      let sound = no_fault_at files entry (keys_of names) os 0 e.by c.occ (first_none (path_faults files entry (keys_of names)) none) c.by in
      let at = stmt_to files entry ready.whole (keys_of names) c.occ c.name c.path under.entry_of.node under.node c.occ.at.stmt sound (effective_assigns files entry c.name c.path c.occ c.last) in
      let node = one_number ready.is differ e.node at.0 c.path (ap (λ (ns : List Node). where_at (node_paths ns) e.node) (sym nodes_are) ∙ c.at) at.1 in
      let held = chosen_some os c.occ (held_by a at.0 c.name)
      (subst (λ (o : Option Occ). IsChosen os o (assigned_to a at.0 c.name)) c.last (assigned.each at.0 c.name c.path at.1)) in
      made_in names a.by.entries ((at.0, c.name), held.0) e (held_in a unique at.0 c.name held.0 held.1)
      (made_entry names at.0 c.name e.by held.0 e c.called (sym node) (once.once held.0.0 e.by c.occ held.2 c.by))

pub entries_count : EntriesCount
entries_count files names entry built a tree ready assigned keys once differ unique none nodes_are is = record {
  each = λ e. (
    (λ h. entry_counts files names entry built a tree ready assigned keys differ unique nodes_are e (subst (IsIn e) is (contains_in e tree.effective h))),
    (λ c. in_contains e tree.effective (subst (IsIn e) (sym is) (counts_entry files names entry built a tree ready assigned keys differ unique nodes_are once none e c))),
  );
  once = λ i j e f g. once_at (entries_of names a) i j e (entries_once names differ a.by.entries unique)
      (ap (λ (l : List Effective). slice_get l i) (sym is) ∙ f) (ap (λ (l : List Effective). slice_get l j) (sym is) ∙ g);
}
