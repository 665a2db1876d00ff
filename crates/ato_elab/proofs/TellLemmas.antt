-- The names above an instance are those of its path.
use Rattle.std.proofs.Common.{◌≡◌, ◌<◌, ℕ, zero, suc, ◌+◌, Bool, true, false, List, [], ◌∷◌, ◌++◌, Option, Some, None, refl, sym, ap, ◌∙◌, subst, arith}
use Rattle.std.specs.Prelude.{slice_get, map, reverse, position}
use Rattle.std.specs.Option.{option_map, option_and_then}
use Rattle.std.specs.Str.{bytes_eq}
use Rattle.std.proofs.lemmas.List.{map-append, reverse-append, reverse-reverse}
use Rattle.std.proofs.lemmas.Option.{none-some, same_Some, slice_get-map}
use Rattle.std.proofs.lemmas.Slice.Eq.{bytes_eq-Decides}
use Rattle.ato_base.specs.declared.name_table.Name.{Name}
use Rattle.ato_files.specs.Programs.{NamesDiffer}
use Rattle.ato_files.proofs.PositionLemmas.{position_first}
use Rattle.ato_files.specs.declared.program.SourceFile.{SourceFile}
use Rattle.ato_instance_tree.specs.declared.tree.Node.{Node}
use Rattle.ato_instance_tree.specs.Order.{nodes, made_at}
use Rattle.ato_instance_tree.specs.TreeFaults.{shown}
use Rattle.ato_instance_tree.specs.Trees.{Step, Where, Said, where_at, step_of, below, node_paths, steps, tree_said, spot_said}
use Rattle.ato_instance_tree.proofs.TreeLaws.{mapped, nil_step, later, front_at}
use Rattle.ato_instance_tree.proofs.ParentLaws.{IsMid, mid_of, where_mid}
use Rattle.ato_elab.specs.declared.built.Built.{Built}
use Rattle.ato_elab.specs.declared.late_names.Above.{Above}
use Rattle.ato_elab.specs.Built.{IsBuilt}
use Rattle.ato_elab.specs.Standing.{IsAt}
use Rattle.ato_elab.specs.Climbing.{under_name, above_node, above_maybe, above_at, climb_on, climbed}
use Rattle.ato_elab.proofs.SaidLaws.{spot_node, said_at}

-- ---- names from the root

name_of : ℕ → Name
name_of n = record { 0 = n }

shown_is : (path : List ℕ) → shown path ≡ map name_of (reverse path)
unfolding name_of
shown_is [] = refl
shown_is (n ∷ path) = ap (λ (xs : List Name). xs ++ name_of n ∷ []) (shown_is path) ∙ sym (map-append name_of (reverse path) (n ∷ []))
    ∙ ap (map name_of) (sym (reverse-append (n ∷ []) path))

same_names : (xs : List Name) → xs ≡ map name_of (map (λ n. n.0) xs)
unfolding name_of
same_names [] = refl
same_names (x ∷ xs) = ap (λ (l : List Name). x ∷ l) (same_names xs)

pub shown_back : (xs : List Name) (path : List ℕ) → reverse (map (λ n. n.0) xs) ≡ path → xs ≡ shown path
shown_back xs path e = same_names xs ∙ ap (map name_of) (sym (reverse-reverse (map (λ (n : Name). n.0) xs)) ∙ ap reverse e) ∙ sym (shown_is path)

-- ---- up to the root

-- the number of a text whose place is known
the_number : (names : List (List ℕ)) (m : ℕ) (text : List ℕ) → NamesDiffer names → slice_get names m ≡ Some text → position (bytes_eq text) names ≡ Some m
the_number names m text differ e = position_first (bytes_eq text) names m text e ((bytes_eq-Decides text text).1 refl) (λ k y less at. by k y less at (bytes_eq text y) refl)
  where
    by : (k : ℕ) (y : List ℕ) → k < m → slice_get names k ≡ Some y → (b : Bool) → bytes_eq text y ≡ b → b ≡ false
    by k y less at false f = refl
    by k y less at true f = let same : text ≡ y = (bytes_eq-Decides text y).0 f in
        let one : k ≡ m = differ k m text (at ∙ ap Some (sym same)) e in absurd (omega arith)

abbrev text_or : Option (List ℕ) → List Step → Option (List ℕ)
text_or other [] = other
text_or other (s ∷ ss) = s.text

mid_at : (ns : List Node) (j : ℕ) (n : Node) → slice_get ns j ≡ Some n → IsMid (node_paths ns) n j
mid_at ns j n e = subst (IsMid (node_paths ns) n) (omega arith) (mid_of [] ns j n e)

mid_where : (ws : List Where) (n : Node) (j : ℕ) (m : IsMid ws n j) → where_at ws j ≡ below m.front n n.parent
mid_where ws n j m = ap (λ (l : List Where). where_at l j) m.is ∙ where_mid m.front (below m.front n n.parent) m.rest j m.long

climbed_suc : (names : List (List ℕ)) (ns : List Node) (most at : ℕ) → climbed names ns (suc most) at ≡ climb_on (above_at names ns at) (λ parent. climbed names ns most parent)
unfolding climbed
climbed_suc names ns most at = refl

climbed_zero : (names : List (List ℕ)) (ns : List Node) (at : ℕ) → climbed names ns zero at ≡ None
unfolding climbed
climbed_zero names ns at = refl

above_is : (names : List (List ℕ)) (ns : List Node) (at : ℕ) → above_at names ns at ≡ above_maybe names (slice_get ns at)
unfolding above_at
above_is names ns at = refl

module _ (names : List (List ℕ)) (ns : List Node) (differ : NamesDiffer names) where
  -- one name of the path
  under_one : (most : ℕ) (n : Node) (number parent : ℕ) (path p : List ℕ) → ((number : ℕ) (path p : List ℕ) → where_at (node_paths ns) number ≡ Some (steps names path) → climbed names ns most number ≡ Some p → p ≡ path)
      → (m : IsMid (node_paths ns) n number) → (up : List Step) → where_at m.front parent ≡ Some up → step_of n ∷ up ≡ steps names path
      → climb_on (under_name parent (position (bytes_eq n.name) names)) (λ parent. climbed names ns most parent) ≡ Some p → p ≡ path
  under_one most n number parent [] p more m up at e f = absurd (nil_step (step_of n) up e)
  under_one most n number parent (k ∷ rest) p more m up at e f =
      let text : slice_get names k ≡ Some n.name = sym (ap (text_or None) e) in
      let here : climb_on (under_name parent (position (bytes_eq n.name) names)) (λ parent. climbed names ns most parent) ≡ option_map (λ path. k ∷ path) (climbed names ns most parent)
      = ap (λ (o : Option ℕ). climb_on (under_name parent o) (λ parent. climbed names ns most parent)) (the_number names k n.name differ text) in
      let q = mapped (λ (path : List ℕ). k ∷ path) (climbed names ns most parent) p (sym here ∙ f) in
      let there : where_at (node_paths ns) parent ≡ Some (steps names rest)
      = ap (λ (l : List Where). where_at l parent) m.is ∙ front_at m.front (below m.front n n.parent ∷ m.rest) parent up at ∙ ap Some (ap later e) in
      sym q.2 ∙ ap (λ (path : List ℕ). k ∷ path) (more parent rest q.0 there q.1)

  by_node : (most : ℕ) (n : Node) (number : ℕ) (path p : List ℕ) → ((number : ℕ) (path p : List ℕ) → where_at (node_paths ns) number ≡ Some (steps names path) → climbed names ns most number ≡ Some p → p ≡ path)
      → (m : IsMid (node_paths ns) n number) → (parent : Option ℕ) → below m.front n parent ≡ Some (steps names path)
      → climb_on (above_node names n parent) (λ parent. climbed names ns most parent) ≡ Some p → p ≡ path
  by_node most n number [] p more m None e f = sym (same_Some [] p f)
  by_node most n number (k ∷ path) p more m None e f = absurd (nil_step _ (steps names path) (sym (same_Some [] (steps names (k ∷ path)) e)))
  by_node most n number path p more m (Some parent) e f =
      let up = mapped (λ (path : List Step). step_of n ∷ path) (where_at m.front parent) (steps names path) e in
      under_one most n number parent path p more m up.0 up.1 up.2 f

  by_number : (most number : ℕ) (path p : List ℕ) → ((number : ℕ) (path p : List ℕ) → where_at (node_paths ns) number ≡ Some (steps names path) → climbed names ns most number ≡ Some p → p ≡ path)
      → where_at (node_paths ns) number ≡ Some (steps names path) → (o : Option Node) → slice_get ns number ≡ o → climb_on (above_maybe names o) (λ parent. climbed names ns most parent) ≡ Some p → p ≡ path
  by_number most number path p more at None g f = absurd (none-some p f)
  by_number most number path p more at (Some n) g f = let m = mid_at ns number n g in
      by_node most n number path p more m n.parent (sym (mid_where (node_paths ns) n number m) ∙ at) f

  climbs : (most number : ℕ) (path p : List ℕ) → where_at (node_paths ns) number ≡ Some (steps names path) → climbed names ns most number ≡ Some p → p ≡ path
  climbs zero number path p at f = absurd (none-some p (sym (climbed_zero names ns number) ∙ f))
  climbs (suc most) number path p at f = by_number most number path p (climbs most) at (slice_get ns number) refl
      (sym (climbed_suc names ns most number ∙ ap (λ (a : Above). climb_on a (λ parent. climbed names ns most parent)) (above_is names ns number)) ∙ f)

-- the names above the node of an instance
pub climbed_path : {files : List SourceFile} {names : List (List ℕ)} {entry : ℕ} {built : Built} → NamesDiffer names → IsBuilt files names entry built → (most number : ℕ) (path p : List ℕ)
    → IsAt files entry number path → climbed names built.nodes most number ≡ Some p → p ≡ path
climbed_path {files = files} {names = names} {entry = entry} {built = built} differ is most number path p at f =
    let s = spot_node is number (made_at path) at.is in
    climbs names built.nodes differ most number path p (ap (option_and_then (λ (w : Where). w)) s.path) f

-- the same for a tree that is not built here
pub names_shown : (files : List SourceFile) (entry : ℕ) (names : List (List ℕ)) (ns : List Node) (most number : ℕ) (path : List ℕ) (found : List Name) → NamesDiffer names
    → tree_said ns ≡ map (spot_said files entry names) (nodes files entry) → slice_get (nodes files entry) number ≡ Some (made_at path)
    → climbed names ns most number ≡ Some (reverse (map (λ n. n.0) found)) → found ≡ shown path
names_shown files entry names ns most number path found differ told at f =
    let s = said_at (node_paths ns) ns number (spot_said files entry names (made_at path))
    (ap (λ (ss : List Said). slice_get ss number) told ∙ slice_get-map (spot_said files entry names) (nodes files entry) number ∙ ap (option_map (spot_said files entry names)) at) in
    shown_back found path (climbs names ns differ most number path (reverse (map (λ (n : Name). n.0) found)) (ap (option_and_then (λ (w : Where). w)) s.path) f)
