-- What the connections of a tree give, against those of its project.
use Rattle.std.proofs.Common.{◌≡◌, ◌<◌, ◌≤◌, ℕ, zero, suc, ◌+◌, Bool, true, false, true≢false, if◌then◌else◌, All, List, [], ◌∷◌, ◌++◌, map, length, take, Option, Some, None, refl, ap, sym, subst, ◌∙◌, arith}
use Rattle.std.specs.Prelude.{Contains, slice_get}
use Rattle.std.specs.List.{list_any}
use Rattle.std.specs.Option.{option_map}
use Rattle.std.proofs.lemmas.Bool.{le-ltb, lt-ltb}
use Rattle.std.proofs.lemmas.List.{length-map}
use Rattle.std.proofs.lemmas.List.Elements.{All-contains_itself, All-weaker}
use Rattle.std.proofs.lemmas.Option.{none-some, same_Some, slice_get_within}
use Rattle.ato_base.specs.declared.places.Span.{Span}
use Rattle.ato_base.specs.declared.places.Place.TheVariants as place
use Rattle.ato_base.specs.declared.faults.Fault.{Fault}
use Rattle.ato_base.specs.declared.faults.FaultKind.TheVariants as kinds
use Rattle.ato_base.proofs.ClassLaws.{first}
use Rattle.ato_files.specs.declared.program.Program.{Program}
use Rattle.ato_files.specs.Lists.{Among, numbered, first_of_all}
use Rattle.ato_files.proofs.FileLaws.{among_flat_map}
use Rattle.ato_files.proofs.PositionLemmas.{position_first}
use Rattle.ato_instance_tree.specs.declared.tree.Late.{Late}
use Rattle.ato_instance_tree.specs.declared.tree.Occurrence.{Occurrence}
use Rattle.ato_instance_tree.specs.declared.tree.Tree.{Tree}
use Rattle.ato_instance_tree.specs.Elaborated.{IsElaborated, IsLoaded}
use Rattle.ato_instance_tree.specs.Laws.{SpotPlace, place_of, IsNodeAt}
use Rattle.ato_instance_tree.specs.Order.{Spot, made_at, nodes, occurrences}
use Rattle.ato_instance_tree.specs.TreeFaults.{Limits, tree_fault, fault_in}
use Rattle.ato_instance_tree.specs.Trees.{node_paths, occ_said, walked_said, first_said}
use Rattle.ato_instance_tree.specs.Walk.{Occ}
use Rattle.ato_instance_tree.proofs.NodesLaws.{into, out}
use Rattle.ato_instance_tree.proofs.ParentLaws.{item_there}
use Rattle.ato_instance_tree.proofs.PlaceLaws.{place_in}
use Rattle.ato_instance_tree.proofs.SpotLaws.{at_in, no_node_twice}
use Rattle.ato_links.specs.declared.classes.Classes.{Classes}
use Rattle.ato_links.specs.Joins.{AreClasses}
use Rattle.ato_links.specs.LinkFaults as faults
use Rattle.ato_links.specs.LinkFaults.{faults_by, link_fault, link_faults, left_end, earlier}
use Rattle.ato_links.specs.Links as by_path
use Rattle.ato_links.specs.Links.{Link, Electrical, occ_links, links}
use Rattle.ato_links.specs.Linked.{IsLinked, fault_stands, library_of}
use Rattle.ato_links.specs.NodeJoins.{same_place, number_at, node_joins}
use Rattle.ato_links.proofs.JoinNodes.{joins_are_nodes}
use Rattle.ato_links.proofs.LinkedLaws.{by_tree}
use Rattle.ato_links.proofs.NumberLaws.{place_same, least_are_classes}
use Rattle.ato_nets.specs.ClassNumbers.{IsJoin, AreClassNumbers}
use Rattle.ato_connections.specs.declared.joining.Clash.{Clash}
use Rattle.ato_connections.specs.declared.links.Links.{Links}
use Rattle.ato_connections.specs.NodeLinks.{NodeLink, join, clash, is_clash}
use Rattle.ato_connections.specs.Outcome.{AreLinked, IsClash, entry_links, entries_links, sound_before}
use Rattle.ato_connections.specs.Placing.{IsLink, AreSame}
use Rattle.ato_connections.proofs.ChildLaws.{counted}
use Rattle.ato_connections.proofs.EntryLinks.{known, entry_is, entries}
use Rattle.ato_connections.proofs.PairSets.{place_tells, pair_had, pair_there, node_at, same_numbers}
use Rattle.ato_connections.proofs.TakenLists.{in_taken, into_taken, from_flat, any_among, among_any, none_of}

-- ---- clashes

module _ (spots : List Spot) where
  clash_there : (l : Link) (m : NodeLink) → faults.is_clash l ≡ true → IsLink spots l m → is_clash m ≡ true
  clash_there by_path.clash clash e h = refl
  clash_there by_path.clash (join p q) e h = absurd h
  clash_there (by_path.join a b) m e h = absurd (true≢false (sym e))

  clash_back : (l : Link) (m : NodeLink) → is_clash m ≡ true → IsLink spots l m → faults.is_clash l ≡ true
  clash_back by_path.clash m e h = refl
  clash_back (by_path.join a b) clash e h = absurd h
  clash_back (by_path.join a b) (join p q) e h = absurd (true≢false (sym e))

  same_clashes : (ls : List Link) (ms : List NodeLink) → AreSame spots ls ms → list_any faults.is_clash ls ≡ list_any is_clash ms
  same_clashes ls ms same = by (list_any faults.is_clash ls) (list_any is_clash ms) refl refl where
    by : (b c : Bool) → list_any faults.is_clash ls ≡ b → list_any is_clash ms ≡ c → b ≡ c
    by true true e f = refl
    by false false e f = refl
    by true false e f =
        let l = among_any faults.is_clash ls e in
        let m = same.there l.0 l.1 in
        absurd (true≢false (sym (any_among is_clash ms m.0 m.1 (clash_there l.0 m.0 l.2 m.2)) ∙ f))
    by false true e f =
        let m = among_any is_clash ms f in
        let l = same.back m.0 m.1 in
        absurd (true≢false (sym (any_among faults.is_clash ls l.0 l.1 (clash_back l.0 m.0 m.2 l.2)) ∙ e))

-- ---- first faults

-- The number of a first fault is none before this one.
abbrev FromOn : ℕ → Option (ℕ × Fault) → Type 0
FromOn n None = Unit {0}
FromOn n (Some f) = n ≤ f.0

lower_on : (n k : ℕ) (o : Option (ℕ × Fault)) → n ≤ k → FromOn k o → FromOn n o
lower_on n k None l h = tt
lower_on n k (Some f) l h = omega (arith, l, h)

module _ (found : Occ → List Fault) where
  -- the faults where an occurrence has none
  skipped : (n : ℕ) (o : Occ) (os : List Occ) → found o ≡ [] → faults_by found (numbered n (o ∷ os)) ≡ faults_by found (numbered (suc n) os)
  skipped n o os e = ap (λ (fs : List Fault). map (λ f. (n, f)) fs ++ faults_by found (numbered (suc n) os)) e

  all_from : (n : ℕ) (os : List Occ) → FromOn n (first_of_all (faults_by found (numbered n os)))
  all_from n [] = tt
  all_from n (o ∷ os) = by (found o) (all_from (suc n) os) where
    by : (fs : List Fault) → FromOn (suc n) (first_of_all (faults_by found (numbered (suc n) os)))
        → FromOn n (first_of_all (map (λ f. (n, f)) fs ++ faults_by found (numbered (suc n) os)))
    by [] more = lower_on n (suc n) (first_of_all (faults_by found (numbered (suc n) os))) (omega arith) more
    by (f ∷ fs) more = omega arith

  from_on : (n k : ℕ) (os : List Occ) → ((i : ℕ) (o : Occ) → i < k → slice_get os i ≡ Some o → found o ≡ [])
      → FromOn (n + k) (first_of_all (faults_by found (numbered n os)))
  from_on n k [] none = tt
  from_on n zero (o ∷ os) none = lower_on (n + 0) n (first_of_all (faults_by found (numbered n (o ∷ os)))) (omega arith) (all_from n (o ∷ os))
  from_on n (suc k) (o ∷ os) none =
      subst (λ fs. FromOn (n + suc k) (first_of_all fs)) (sym (skipped n o os (none 0 o (omega arith) refl)))
      (lower_on (n + suc k) (suc n + k) (first_of_all (faults_by found (numbered (suc n) os))) (omega arith)
      (from_on (suc n) k os (λ i p l e. none (suc i) p (omega arith) e)))

  none_at_all : (n : ℕ) (os : List Occ) → ((i : ℕ) (o : Occ) → slice_get os i ≡ Some o → found o ≡ []) → first_of_all (faults_by found (numbered n os)) ≡ None
  none_at_all n [] none = refl
  none_at_all n (o ∷ os) none = ap first_of_all (skipped n o os (none 0 o refl)) ∙ none_at_all (suc n) os (λ i p e. none (suc i) p e)

  here_first : (n : ℕ) (f : Fault) (rest : List (ℕ × Fault)) (fs : List Fault) → first_of_all fs ≡ Some f
      → first_of_all (map (λ f. (n, f)) fs ++ rest) ≡ Some (n, f)
  here_first n f rest [] e = absurd (none-some f e)
  here_first n f rest (g ∷ fs) e = ap (λ x. Some (n, x)) (same_Some g f e)

  first_at : (n k m : ℕ) (os : List Occ) (o : Occ) (f : Fault) → n + k ≡ m → ((i : ℕ) (o : Occ) → i < k → slice_get os i ≡ Some o → found o ≡ [])
      → slice_get os k ≡ Some o
      → first_of_all (found o) ≡ Some f → first_of_all (faults_by found (numbered n os)) ≡ Some (m, f)
  first_at n k m [] o f s none e h = absurd (none-some o e)
  first_at n zero m (p ∷ os) o f s none e h =
      let same : n ≡ m = omega (arith, s) in
      here_first n f (faults_by found (numbered (suc n) os)) (found p) (ap (λ (x : Occ). first_of_all (found x)) (same_Some p o e) ∙ h)
      ∙ ap (λ x. Some (x, f)) same
  first_at n (suc k) m (p ∷ os) o f s none e h =
      ap first_of_all (skipped n p os (none 0 p (omega arith) refl))
      ∙ first_at (suc n) k m os o f (omega (arith, s)) (λ i q l g. none (suc i) q (omega arith) g) e h

late_first : (n : ℕ) (f : Fault) (o : Option (ℕ × Fault)) → FromOn n o → earlier o (Some (n, f)) ≡ Some (n, f)
late_first n f None h = refl
late_first n f (Some g) h = ap (λ b. if b then Some g else Some (n, f)) (le-ltb g.0 n h)

no_late : (o : Option (ℕ × Fault)) → earlier o None ≡ o
no_late None = refl
no_late (Some f) = refl

-- ---- the tree of a project

module _ (most : Limits) (program : Program) (name : List ℕ) (tree : Tree) (loaded : IsLoaded program) (is : IsElaborated most program name tree) where
  abbrev spots : List Spot
  spots = nodes program.files is.entry

  abbrev os : List Occ
  os = occurrences program.files is.entry

  abbrev library : Electrical
  library = library_of program

  abbrev links_of : Occ → List Link
  links_of o = occ_links program.files is.entry library o

  abbrev entry_of : Occurrence → List NodeLink
  entry_of e = entry_links program.files program.names tree.nodes e

  agree : (i : ℕ) (e : Occurrence) (o : Occ) → slice_get tree.occurrences i ≡ Some e → slice_get os i ≡ Some o → AreSame spots (links_of o) (entry_of e)
  agree i e o f g = entries most program name tree loaded is i e o f g

  long : length tree.occurrences ≡ length os
  long =
      let a = length-map tree.occurrences (occ_said (node_paths tree.nodes)) in
      let b = length-map os (walked_said program.names) in
      let c = ap length is.is.written in omega arith

  occ_there : (i : ℕ) (e : Occurrence) → slice_get tree.occurrences i ≡ Some e → (o : Occ) × (slice_get os i ≡ Some o)
  occ_there i e f = let l = slice_get_within tree.occurrences i e f in let same = long in item_there os i (omega arith)

  entry_there : (i : ℕ) (o : Occ) → slice_get os i ≡ Some o → (e : Occurrence) × (slice_get tree.occurrences i ≡ Some e)
  entry_there i o f = let l = slice_get_within os i o f in let same = long in item_there tree.occurrences i (omega arith)

  at_node : (at : SpotPlace) (i : ℕ) → IsNodeAt spots at i → number_at spots at ≡ Some i
  at_node at i h = position_first (λ s. same_place (place_of s) at) spots i h.node h.is (ap (λ p. same_place p at) h.at ∙ place_same at)
      (λ k s less stands. by k s less stands (same_place (place_of s) at) refl) where
        by : (k : ℕ) (s : Spot) → k < i → slice_get spots k ≡ Some s → (b : Bool) → same_place (place_of s) at ≡ b → b ≡ false
        by k s less stands false e = refl
        by k s less stands true e =
            let same = no_node_twice program.files is.entry k i s h.node stands h.is (place_tells (place_of s) at e ∙ sym h.at) in
            absurd (omega arith)

  one_node : (at : SpotPlace) (i j : ℕ) → IsNodeAt spots at i → IsNodeAt spots at j → i ≡ j
  one_node at i j h k = no_node_twice program.files is.entry i j h.node k.node h.is k.is (h.at ∙ sym k.at)

  below : (at : SpotPlace) (i : ℕ) → IsNodeAt spots at i → i < length tree.nodes
  below at i h =
      let l = slice_get_within spots i h.node h.is in
      let same = counted program is.entry tree.nodes (known most program name tree loaded is) in omega arith

  -- ---- what is joined

  -- two nodes that an occurrence joins
  record IsOfOcc (p q : ℕ) : Type 0 where
    occ : Occ
    among : Among occ os
    one : SpotPlace
    other : SpotPlace
    link : Among (by_path.join one other) (links_of occ)
    at_one : IsNodeAt spots one p
    at_other : IsNodeAt spots other q

  of_link : (o : Occ) (l : Link) (p q : ℕ) → Among o os → Among l (links_of o) → IsLink spots l (join p q) → IsOfOcc p q
  of_link o by_path.clash p q m k h = absurd h
  of_link o (by_path.join a b) p q m k h = record { occ = o; among = m; one = a; other = b; link = k; at_one = h.0; at_other = h.1 }

  joined_in : (count : ℕ) (ls : Links) → AreLinked program.files program.names tree.nodes (take count tree.occurrences) ls → (p q : ℕ)
      → Contains ls.joins (p, q) → IsOfOcc p q
  joined_in count ls are p q h =
      let e = from_flat entry_of (take count tree.occurrences) (join p q) ((are.each (join p q)).0 h) in
      let i = place_in e.0 tree.occurrences (into e.0 tree.occurrences (in_taken count tree.occurrences e.0 e.1)) in
      let o = occ_there i.0 e.0 i.1 in
      let l = (agree i.0 e.0 o.0 i.1 o.1).back (join p q) e.2 in
      of_link o.0 l.0 p q (out o.0 os (at_in o.0 os i.0 o.1)) l.1 l.2

  pub pair_within : (count : ℕ) (ls : Links) → AreLinked program.files program.names tree.nodes (take count tree.occurrences) ls → (j : ℕ × ℕ)
      → Contains ls.joins j
      → (j.0 < length tree.nodes) × (j.1 < length tree.nodes)
  pair_within count ls are (p, q) h = let it = joined_in count ls are p q h in (below it.one p it.at_one, below it.other q it.at_other)

  -- the joins of the tree are those of the project
  pair_forth : (count : ℕ) (ls : Links) → AreLinked program.files program.names tree.nodes (take count tree.occurrences) ls → (p q : ℕ) → IsJoin ls.joins p q
      → IsJoin (node_joins program.files is.entry library) p q
  pair_forth count ls are p q h =
      let it = joined_in count ls are p q h in
      pair_there spots (links program.files is.entry library) it.one it.other p q (among_flat_map links_of it.among it.link) (at_node it.one p it.at_one)
      (at_node it.other q it.at_other)

  of_node_link : (e : Occurrence) (m : NodeLink) (a b : SpotPlace) (p q : ℕ) → Among m (entry_of e) → IsLink spots (by_path.join a b) m → IsNodeAt spots a p
      → IsNodeAt spots b q → Among (join p q) (entry_of e)
  of_node_link e clash a b p q k h f g = absurd h
  of_node_link e (join x y) a b p q k h f g =
      subst (λ z. Among (join z q) (entry_of e)) (one_node a x p h.0 f) (subst (λ z. Among (join x z) (entry_of e)) (one_node b y q h.1 g) k)

  pair_back : (ls : Links) → AreLinked program.files program.names tree.nodes (take (length tree.occurrences) tree.occurrences) ls → (p q : ℕ)
      → IsJoin (node_joins program.files is.entry library) p q → IsJoin ls.joins p q
  pair_back ls are p q h =
      let it = pair_had spots (links program.files is.entry library) p q h in
      let o = from_flat links_of os (by_path.join it.one it.other) it.link in
      let i = place_in o.0 os (into o.0 os o.1) in
      let e = entry_there i.0 o.0 i.1 in
      let m = (agree i.0 e.0 o.0 e.1 i.1).there (by_path.join it.one it.other) o.2 in
      (are.each (join p q)).1 (among_flat_map entry_of
      (into_taken i.0 (length tree.occurrences) tree.occurrences e.0 (slice_get_within tree.occurrences i.0 e.0 e.1) e.1)
      (of_node_link e.0 m.0 it.one it.other p q m.1 m.2 (node_at spots it.one p it.is_one) (node_at spots it.other q it.is_other)))

  -- least numbers of joined nodes are the classes
  pub are_classes : (of : List ℕ) → AreClassNumbers (length spots) (node_joins program.files is.entry library) of → AreClasses program.files is.entry library of
  are_classes of are =
      let k = known most program name tree loaded is in
      least_are_classes program.files is.entry library of
      (joins_are_nodes program.files is.entry most library k.below (ap (tree_fault program.files most) (sym is.named) ∙ is.sound))
      (record { size = are.size; joined = are.joined; least = are.least })

  pub classes_by : (ls : Links) (of : List ℕ) → AreLinked program.files program.names tree.nodes (take (length tree.occurrences) tree.occurrences) ls
      → AreClassNumbers (length tree.nodes) ls.joins of → AreClasses program.files is.entry library of
  classes_by ls of are numbers = are_classes of
      (subst (λ n. AreClassNumbers n (node_joins program.files is.entry library) of)
      (counted program is.entry tree.nodes (known most program name tree loaded is))
      (same_numbers (length tree.nodes) ls.joins (node_joins program.files is.entry library) of (pair_forth (length tree.occurrences) ls are)
      (pair_back ls are) numbers))

  -- ---- faults

  -- an occurrence without a clash has no fault
  no_fault : (o : Occ) → list_any faults.is_clash (links_of o) ≡ false → link_faults program.files is.entry library o ≡ []
  no_fault o e = ap (λ (b : Bool). if b then map (λ (at : Span). fault_in o.path kinds.CannotConnect (place.Source at)) (left_end o.at.stmt) else []) e

  a_fault : (o : Occ) (at : Span) → list_any faults.is_clash (links_of o) ≡ true → left_end o.at.stmt ≡ at ∷ []
      → first_of_all (link_faults program.files is.entry library o) ≡ Some (fault_in o.path kinds.CannotConnect (place.Source at))
  a_fault o at e f = ap (λ (b : Bool). first_of_all
      (if b then map (λ (at : Span). fault_in o.path kinds.CannotConnect (place.Source at)) (left_end o.at.stmt) else [])) e
      ∙ ap (λ (ats : List Span). first_of_all (map (λ (at : Span). fault_in o.path kinds.CannotConnect (place.Source at)) ats)) f

  none_before : (count : ℕ) → list_any is_clash (entries_links program.files program.names tree.nodes (take count tree.occurrences)) ≡ false
      → (i : ℕ) (o : Occ) → i < count → slice_get os i ≡ Some o → link_faults program.files is.entry library o ≡ []
  none_before count none i o l e =
      let x = entry_there i o e in
      no_fault o (same_clashes spots (links_of o) (entry_of x.0) (agree i x.0 o x.1 e) ∙ none_of is_clash entry_of count i tree.occurrences x.0 none l x.1)

  -- the fault that stands, by the first fault of links
  standing : (o : Option (ℕ × Fault)) → link_fault program.files is.entry library ≡ o
      → fault_stands program is.entry ≡ option_map (λ f. f.1) (earlier o (first_said tree.first))
  standing o e = ap (option_map (λ f. f.1)) (by_tree most program name tree is ∙ ap (λ x. earlier x (first_said tree.first)) e)

  pub no_fault_stands : tree.first ≡ None
      → list_any is_clash (entries_links program.files program.names tree.nodes (take (length tree.occurrences) tree.occurrences)) ≡ false
      → fault_stands program is.entry ≡ None
  no_fault_stands none sound =
      standing None (none_at_all (link_faults program.files is.entry library) 0 os
      (λ i o e. none_before (length tree.occurrences) sound i o (let l = slice_get_within os i o e in let same = long in omega arith) e))
      ∙ ap (λ f. option_map (λ f. f.1) (earlier None (first_said f))) none

  pub late_stands : (l : Late) → tree.first ≡ Some l
      → list_any is_clash (entries_links program.files program.names tree.nodes (take l.occurrence tree.occurrences)) ≡ false
      → fault_stands program is.entry ≡ Some l.fault
  late_stands l is_first sound =
      standing (link_fault program.files is.entry library) refl
      ∙ ap (λ f. option_map (λ f. f.1) (earlier (link_fault program.files is.entry library) (first_said f))) is_first
      ∙ ap (option_map (λ f. f.1)) (late_first l.occurrence l.fault (link_fault program.files is.entry library)
      (lower_on l.occurrence (0 + l.occurrence) (link_fault program.files is.entry library) (omega arith)
      (from_on (link_faults program.files is.entry library) 0 l.occurrence os (none_before l.occurrence sound))))

  earlier_stands : (number : ℕ) (f : Fault) (o : Option Late) → number < sound_before tree.occurrences o
      → earlier (Some (number, f)) (first_said o) ≡ Some (number, f)
  earlier_stands number f None h = refl
  earlier_stands number f (Some l) h = ap (λ (b : Bool). if b then Some (number, f) else Some (l.occurrence, l.fault)) (lt-ltb number l.occurrence h)

  pub clash_stands : (number : ℕ) (o : Occ) (at : Span) → number < sound_before tree.occurrences tree.first → slice_get os number ≡ Some o
      → list_any is_clash (entries_links program.files program.names tree.nodes (take number tree.occurrences)) ≡ false
      → list_any faults.is_clash (links_of o) ≡ true → left_end o.at.stmt ≡ at ∷ []
      → fault_stands program is.entry ≡ Some (fault_in o.path kinds.CannotConnect (place.Source at))
  clash_stands number o at before e sound has written =
      let f = fault_in o.path kinds.CannotConnect (place.Source at) in
      standing (Some (number, f)) (first_at (link_faults program.files is.entry library) 0 number number os o f (omega arith) (none_before number sound) e
      (a_fault o at has written))
      ∙ ap (option_map (λ f. f.1)) (earlier_stands number f tree.first before)

-- ---- what a tree comes to

-- what is joined are nodes
pub within : (most : Limits) (program : Program) (name : List ℕ) (tree : Tree) (count : ℕ) (links : Links) → IsLoaded program
    → IsElaborated most program name tree
    → AreLinked program.files program.names tree.nodes (take count tree.occurrences) links
    → All (λ (join : ℕ × ℕ). (join.0 < length tree.nodes) × (join.1 < length tree.nodes)) links.joins
within most program name tree count ls loaded is are = All-weaker (Contains ls.joins)
    (λ (join : ℕ × ℕ). (join.0 < length tree.nodes) × (join.1 < length tree.nodes))
    (pair_within most program name tree loaded is count ls are) ls.joins (All-contains_itself ls.joins)

-- the classes, where no fault of paths stands
pub linked : (most : Limits) (program : Program) (name : List ℕ) (tree : Tree) (links : Links) (classes : Classes) → IsLoaded program
    → (is : IsElaborated most program name tree)
    → tree.first ≡ None → AreLinked program.files program.names tree.nodes (take (sound_before tree.occurrences tree.first) tree.occurrences) links
    → AreClassNumbers (length tree.nodes) links.joins classes.of → IsLinked program is.entry classes
linked most program name tree ls classes loaded is none are numbers =
    let whole = subst (λ o. AreLinked program.files program.names tree.nodes (take (sound_before tree.occurrences o) tree.occurrences) ls) none are in
    record {
      sound = no_fault_stands most program name tree loaded is none whole.sound;
      classes = classes_by most program name tree loaded is ls classes.of whole numbers;
    }

-- The fault that tells a clash in an instance of the project stands.
pub record TellsClash (program : Program) (entry : ℕ) (c : Clash) : Type 0 where
  pub path : List ℕ
  pub instance : slice_get (nodes program.files entry) c.instance ≡ Some (made_at path)
  pub fault : fault_stands program entry ≡ Some (fault_in path kinds.CannotConnect (place.Source c.at))

-- the fault of the first clash, which stands before that of paths
pub clashed : (most : Limits) (program : Program) (name : List ℕ) (tree : Tree) (number : ℕ) (c : Clash) → IsLoaded program
    → (is : IsElaborated most program name tree)
    → number < sound_before tree.occurrences tree.first → IsClash program.files program.names tree.nodes tree.occurrences number c
    → TellsClash program is.entry c
clashed most program name tree number c loaded is before h =
    let o = occ_there most program name tree loaded is number h.entry h.is in
    let e = entry_is most program name tree loaded is number h.entry o.0 h.is o.1 in
    let stmt : h.stmt ≡ o.0.at.stmt = same_Some h.stmt o.0.at.stmt (sym h.written ∙ e.written) in
    let has = same_clashes (nodes program.files is.entry) (occ_links program.files is.entry (library_of program) o.0)
    (entry_links program.files program.names tree.nodes h.entry)
    (agree most program name tree loaded is number h.entry o.0 h.is o.1) ∙ h.has in
    record {
      path = o.0.path;
      instance = ap (slice_get (nodes program.files is.entry)) h.instance ∙ e.node;
      fault = clash_stands most program name tree loaded is number o.0 c.at before o.1 h.before has (sym (ap left_end stmt) ∙ h.at);
    }

-- the first fault of paths, where nothing clashes before it
pub late : (most : Limits) (program : Program) (name : List ℕ) (tree : Tree) (links : Links) (l : Late) → IsLoaded program
    → (is : IsElaborated most program name tree)
    → tree.first ≡ Some l → AreLinked program.files program.names tree.nodes (take (sound_before tree.occurrences tree.first) tree.occurrences) links
    → fault_stands program is.entry ≡ Some l.fault
late most program name tree ls l loaded is first are =
    late_stands most program name tree loaded is l first
    (subst (λ o. list_any is_clash
    (entries_links program.files program.names tree.nodes (take (sound_before tree.occurrences o) tree.occurrences)) ≡ false) first are.sound)
