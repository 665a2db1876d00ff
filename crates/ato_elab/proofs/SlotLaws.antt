-- Slots and prefixes by numbers are those by paths.
use Rattle.std.proofs.Common.{◌≡◌, ℕ, Bool, true, false, ◌&&◌, ◌||◌, not, nat_eq, List, [], ◌∷◌, ◌++◌, Option, Some, None, refl, sym, ap, ◌∙◌, subst}
use Rattle.std.specs.Prelude.{slice_get, map, is_some, is_none, if◌then◌else◌, option_to_list}
use Rattle.std.specs.List.{list_any, flat_map}
use Rattle.std.specs.Option.{option_map, option_and_then}
use Rattle.std.proofs.lemmas.Option.{slice_get-map}
use Rattle.std.proofs.lemmas.List.{append-nil}
use Rattle.ato_base.specs.declared.name_table.Name.{Name}
use Rattle.ato_ast.specs.declared.names.Named.{Named}
use Rattle.ato_ast.specs.declared.names.Quoted.{Quoted}
use Rattle.ato_ast.specs.declared.exprs.Expr.{Expr}
use Rattle.ato_ast.specs.declared.stmts.Stmt.{Stmt}
use Rattle.ato_ast.specs.declared.blocks.BlockKind.{BlockKind}
use Rattle.ato_files.specs.declared.program.SourceFile.{SourceFile}
use Rattle.ato_files.specs.Members.{Kind, signal, instance, param}
use Rattle.ato_instance_tree.specs.declared.tree.Node.{Node}
use Rattle.ato_instance_tree.specs.declared.tree.NodeKind.{NodeKind}
use Rattle.ato_instance_tree.specs.declared.tree.NodeKind.TheVariants as node
use Rattle.ato_instance_tree.specs.declared.tree.Occurrence.{Occurrence}
use Rattle.ato_instance_tree.specs.Types.{type_kind, block_kinds, is_component, is_module}
use Rattle.ato_instance_tree.specs.Members.{source_text}
use Rattle.ato_instance_tree.specs.Walk.{Occ, effective, type_at}
use Rattle.ato_instance_tree.specs.Order.{occurrences}
use Rattle.ato_instance_tree.specs.Exprs.{expr_front}
use Rattle.ato_instance_tree.specs.Paths as paths
use Rattle.ato_instance_tree.specs.Paths.{lost, free, member_of, pin_of, member_at, wrong_kind}
use Rattle.ato_instance_tree.specs.PathFaults.{Keys, keys_of, string_of, string_at, is_component_at, is_slot, is_prefix, is_key, is_effective, same_occ, prefix_faults, assigned_prefix, attribute_faults}
use Rattle.ato_elab.specs.declared.finding_names.Sort.{Sort}
use Rattle.ato_elab.specs.declared.finding_names.Sort.TheVariants as sort
use Rattle.ato_elab.specs.declared.finding_paths.Found.{Found}
use Rattle.ato_elab.specs.declared.finding_paths.Found.TheVariants as found
use Rattle.ato_elab.specs.declared.late_ground.Ground.{Ground}
use Rattle.ato_elab.specs.Assigned.{assigned_to}
use Rattle.ato_elab.specs.Finding.{named_in}
use Rattle.ato_elab.specs.Late.{stmt_in, assigning, string_in, kind_is_component, some_component, component_at, slot_in, same_entry, same_entries, same_numbers, counts_in, key_is, prefix_in, text_in, slot_mark, holder_of}
use Rattle.ato_elab.specs.Faults.{wrong}
use Rattle.ato_elab.specs.Standing.{IsAt}
use Rattle.ato_elab.specs.Landing.{IsNamed, IsFound, IsGround, IsFirst, IsOcc, IsChosen, sort_of}
use Rattle.ato_elab.proofs.NamedLaws.{names_are_found}
use Rattle.ato_elab.proofs.FoundLaws.{type_of_node}
use Rattle.ato_elab.proofs.EntryLaws.{IsEntry, entry_law, same_law}
use Rattle.ato_elab.proofs.JudgedLaws.{none_first, when_first}

-- ---- components

kind_law : (a b : Bool) → kind_is_component (if a then node.Component else (if b then node.Module else node.Interface)) ≡ a
kind_law true b = refl
kind_law false true = refl
kind_law false false = refl

type_law : (files : List SourceFile) (type : ℕ) → kind_is_component (type_kind files type) ≡ list_any is_component (block_kinds files type)
type_law files type = kind_law (list_any is_component (block_kinds files type)) (list_any is_module (block_kinds files type))

component_law : {names : List (List ℕ)} {entry : ℕ} {g : Ground} → IsGround names entry g → {number : ℕ} {path : List ℕ} → IsAt g.files.now entry number path
    → component_at g.built.now.nodes number ≡ is_component_at g.files.now entry path
component_law {entry = entry} {g = g} is {number = number} {path = path} at = let t = type_of_node is.ready number path at in
    ap some_component t.at ∙ ap kind_is_component t.kind ∙ type_law g.files.now t.type
    ∙ ap (list_any is_component) (sym (append-nil (block_kinds g.files.now t.type)))
    ∙ ap (λ (o : Option ℕ). list_any is_component (flat_map (block_kinds g.files.now) (option_to_list o))) (sym t.is)

-- ---- strings

stmt_law : {names : List (List ℕ)} {entry : ℕ} {g : Ground} → IsGround names entry g → (number : ℕ) (o : Occ) → slice_get (occurrences g.files.now entry) number ≡ Some o
    → stmt_in g number ≡ Some o.at.stmt
stmt_law {entry = entry} {g = g} is number o at =
    sym (slice_get-map (λ s. s.now) g.stmts.now number) ∙ ap (λ (ss : List Stmt). slice_get ss number) is.stmts
    ∙ slice_get-map (λ (w : Occ). w.at.stmt) (occurrences g.files.now entry) number ∙ ap (option_map (λ (w : Occ). w.at.stmt)) at

chosen_law : {names : List (List ℕ)} {entry : ℕ} {g : Ground} → IsGround names entry g → (e : Option Occ) (a : Option ℕ) → IsChosen (occurrences g.files.now entry) e a
    → option_and_then string_of (option_and_then (stmt_in g) a) ≡ option_and_then (λ (o : Occ). string_of o.at.stmt) e
chosen_law is None None h = refl
chosen_law is None (Some number) h = absurd h
chosen_law is (Some o) None h = absurd h
chosen_law is (Some o) (Some number) h = ap (option_and_then string_of) (stmt_law is number o h)

cut_law : (files : List SourceFile) (entry : ℕ) (path : List ℕ) (name : ℕ) (m : Option Kind) (r : Option (ℕ × Sort)) (x y : Option Quoted) → IsNamed files entry path name m r → x ≡ y
    → (if is_none r then x else None) ≡ (if is_some m then None else y)
cut_law files entry path name None None x y is e = e
cut_law files entry path name None (Some r) x y is e = absurd is
cut_law files entry path name (Some k) None x y is e = absurd is
cut_law files entry path name (Some k) (Some r) x y is e = refl

string_law : {names : List (List ℕ)} {entry : ℕ} {g : Ground} → IsGround names entry g → {number : ℕ} {path : List ℕ} → IsAt g.files.now entry number path → (name : ℕ)
    → string_in g number name ≡ string_at g.files.now entry name path
unfolding string_in assigning
string_law {names = names} {entry = entry} {g = g} is {number = number} {path = path} at name =
    cut_law g.files.now entry path name (member_at g.files.now entry path name) (named_in g.built.now number name)
    (option_and_then string_of (option_and_then (stmt_in g) (assigned_to g.assigned.now number name)))
    (option_and_then (λ (o : Occ). string_of o.at.stmt) (effective g.files.now entry name path))
    (names_are_found g.files.now names entry number name g.built.now path is.ready at)
    (chosen_law is (effective g.files.now entry name path) (assigned_to g.assigned.now number name) (is.assigned.each number name path at))

kind_string : {names : List (List ℕ)} {entry : ℕ} {g : Ground} → IsGround names entry g → {number : ℕ} {path : List ℕ} → IsAt g.files.now entry number path → (k : Option Name)
    → option_and_then (λ (n : Name). string_in g number n.0) k ≡ option_and_then (λ (name : ℕ). string_at g.files.now entry name path) (option_map (λ (n : Name). n.0) k)
kind_string is at None = refl
kind_string is at (Some n) = string_law is at n.0

slot_law : {names : List (List ℕ)} {entry : ℕ} {g : Ground} → IsGround names entry g → {number : ℕ} {path : List ℕ} → IsAt g.files.now entry number path
    → slot_in g number ≡ is_slot g.files.now entry (keys_of names).kind path
unfolding slot_in
slot_law {entry = entry} {g = g} is {number = number} {path = path} at =
    ap (λ (b : Bool). b && is_some (option_and_then (λ (n : Name). string_in g number n.0) g.kind)) (component_law is at)
    ∙ ap (λ (o : Option Quoted). is_component_at g.files.now entry path && is_some o)
    (kind_string is at g.kind ∙ ap (option_and_then (λ (name : ℕ). string_at g.files.now entry name path)) is.kind)

pub slot_first : {names : List (List ℕ)} {entry : ℕ} {g : Ground} → IsGround names entry g → {number : ℕ} {holder : List ℕ} → IsAt g.files.now entry number holder → (path : List ℕ) (n : Named) (x : Expr)
    → IsFirst path (slot_mark g (Some number) x) (attribute_faults g.files.now entry (keys_of names) path x (member_of holder n param))
slot_first {names = names} {entry = entry} {g = g} is {number = number} {holder = holder} at path n x =
    when_first (slot_in g number) (is_slot g.files.now entry (keys_of names).kind holder) (slot_law is at) (record { is = refl })

by_sort : {names : List (List ℕ)} {entry : ℕ} {g : Ground} → IsGround names entry g → {number : ℕ} {holder : List ℕ} → IsAt g.files.now entry number holder → (node : ℕ) (path : List ℕ) (n m : Named) (x : Expr) (k : Kind)
    → IsFirst path (slot_mark g (holder_of (found.Member number m node (sort_of k))) x) (attribute_faults g.files.now entry (keys_of names) path x (member_of holder n k))
by_sort is at node path n m x signal = none_first
by_sort is at node path n m x (instance type) = none_first
by_sort is at node path n m x param = slot_first is at path n x

pub attribute_first : {names : List (List ℕ)} {entry : ℕ} {g : Ground} → IsGround names entry g → (path : List ℕ) (x : Expr) (f : paths.Found) (r : Found) → IsFound g.files.now entry f r
    → IsFirst path (slot_mark g (holder_of r) x) (attribute_faults g.files.now entry (keys_of names) path x f)
attribute_first is path x (lost a) (found.Lost b) h = none_first
attribute_first is path x (free holder n) (found.Free number m) h = none_first
attribute_first {names = names} {entry = entry} {g = g} is path x (member_of holder n k) (found.Member number m node s) h =
    subst (λ (s : Sort). IsFirst path (slot_mark g (holder_of (found.Member number m node s)) x) (attribute_faults g.files.now entry (keys_of names) path x (member_of holder n k))) (sym h.2)
    (by_sort is h.1 node path n m x k)
attribute_first is path x (pin_of holder n) (found.Pin m) h = none_first
attribute_first is path x (lost a) (found.Free number m) h = absurd h
attribute_first is path x (lost a) (found.Member number m node s) h = absurd h
attribute_first is path x (lost a) (found.Pin m) h = absurd h
attribute_first is path x (free holder n) (found.Lost b) h = absurd h
attribute_first is path x (free holder n) (found.Member number m node s) h = absurd h
attribute_first is path x (free holder n) (found.Pin m) h = absurd h
attribute_first is path x (member_of holder n k) (found.Lost b) h = absurd h
attribute_first is path x (member_of holder n k) (found.Free number m) h = absurd h
attribute_first is path x (member_of holder n k) (found.Pin m) h = absurd h
attribute_first is path x (pin_of holder n) (found.Lost b) h = absurd h
attribute_first is path x (pin_of holder n) (found.Free number m) h = absurd h
attribute_first is path x (pin_of holder n) (found.Member number m node s) h = absurd h

-- ---- prefixes

or_false : (b : Bool) → b ≡ (b || false)
or_false true = refl
or_false false = refl

key_law : (key : Option Name) (n : Named) → key_is key n ≡ is_key (option_map (λ (k : Name). k.0) key) n
key_law None n = refl
key_law (Some key) n = or_false (nat_eq n.name.0 key.0)

by_chosen : {names : List (List ℕ)} {entry : ℕ} {g : Ground} → IsGround names entry g → (number : ℕ) (o : Occ) → IsOcc g.files.now entry number o
    → (e : Option Occ) (a : Option ℕ) → IsChosen (occurrences g.files.now entry) e a
    → same_numbers g.built.now.occurrences number a ≡ list_any (same_occ o) (option_to_list e)
by_chosen is number o at None None h = refl
by_chosen is number o at None (Some other) h = absurd h
by_chosen is number o at (Some w) None h = absurd h
by_chosen {g = g} is number o at (Some w) (Some other) h =
    let x = entry_law is.ready.is number o at.is in
    let y = entry_law is.ready.is other w h in
    ap (λ (e : Option Occurrence). same_entries e (slice_get g.built.now.occurrences other)) x.at
    ∙ ap (λ (e : Option Occurrence). same_entries (Some x.entry_of) e) y.at
    ∙ same_law is.ready number other o w x y ∙ or_false (same_occ o w)

counts_law : {names : List (List ℕ)} {entry : ℕ} {g : Ground} → IsGround names entry g → (number : ℕ) (o : Occ) → IsOcc g.files.now entry number o → {holder : ℕ} {path : List ℕ} → IsAt g.files.now entry holder path
    → (name : ℕ) → counts_in g number holder name ≡ is_effective g.files.now entry o name path
unfolding counts_in
counts_law {entry = entry} {g = g} is number o at {holder = holder} {path = path} there name =
    by_chosen is number o at (effective g.files.now entry name path) (assigned_to g.assigned.now holder name) (is.assigned.each holder name path there)

prefix_law : {names : List (List ℕ)} {entry : ℕ} {g : Ground} → IsGround names entry g → (number : ℕ) (o : Occ) → IsOcc g.files.now entry number o → {holder : ℕ} {path : List ℕ} → IsAt g.files.now entry holder path
    → (n : Named) (text : Quoted) → IsFirst o.path (prefix_in g number holder n text) (prefix_faults g.files.now entry (keys_of names) o path n text)
unfolding prefix_in
prefix_law {names = names} {entry = entry} {g = g} is number o at {holder = holder} {path = path} there n text =
    when_first (key_is g.prefix n && counts_in g number holder n.name.0 && not (is_prefix (source_text g.files.now text.contents)))
    (is_key (keys_of names).prefix n && is_effective g.files.now entry o n.name.0 path && not (is_prefix (source_text g.files.now text.contents)))
    (ap (λ (b : Bool). b && counts_in g number holder n.name.0 && not (is_prefix (source_text g.files.now text.contents))) (key_law g.prefix n ∙ ap (λ (k : Option ℕ). is_key k n) is.prefix)
    ∙ ap (λ (b : Bool). is_key (keys_of names).prefix n && b && not (is_prefix (source_text g.files.now text.contents))) (counts_law is number o at there n.name.0))
    (record { is = refl })

pub prefix_first : {names : List (List ℕ)} {entry : ℕ} {g : Ground} → IsGround names entry g → (number : ℕ) (o : Occ) → IsOcc g.files.now entry number o → (text : Quoted) (f : paths.Found) (r : Found)
    → IsFound g.files.now entry f r → IsFirst o.path (text_in g number text r) (assigned_prefix g.files.now entry (keys_of names) o text f)
prefix_first is number o at text (lost a) (found.Lost b) h = none_first
prefix_first {names = names} {entry = entry} {g = g} is number o at text (free holder n) (found.Free node m) h =
    subst (λ (x : Named). IsFirst o.path (prefix_in g number node x text) (prefix_faults g.files.now entry (keys_of names) o holder n text)) (sym h.0) (prefix_law is number o at h.1 n text)
prefix_first is number o at text (member_of holder n k) (found.Member node m s t) h = none_first
prefix_first is number o at text (pin_of holder n) (found.Pin m) h = none_first
prefix_first is number o at text (lost a) (found.Free node m) h = absurd h
prefix_first is number o at text (lost a) (found.Member node m s t) h = absurd h
prefix_first is number o at text (lost a) (found.Pin m) h = absurd h
prefix_first is number o at text (free holder n) (found.Lost b) h = absurd h
prefix_first is number o at text (free holder n) (found.Member node m s t) h = absurd h
prefix_first is number o at text (free holder n) (found.Pin m) h = absurd h
prefix_first is number o at text (member_of holder n k) (found.Lost b) h = absurd h
prefix_first is number o at text (member_of holder n k) (found.Free node m) h = absurd h
prefix_first is number o at text (member_of holder n k) (found.Pin m) h = absurd h
prefix_first is number o at text (pin_of holder n) (found.Lost b) h = absurd h
prefix_first is number o at text (pin_of holder n) (found.Free node m) h = absurd h
prefix_first is number o at text (pin_of holder n) (found.Member node m s t) h = absurd h
