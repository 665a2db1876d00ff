-- A tree keeps the limits: the nodes and occurrences are those that are counted at the last instance.
use Rattle.std.proofs.Common.{◌≡◌, ◌≤◌, ℕ, zero, suc, ◌+◌, Bool, true, false, true≢false, ◌||◌, List, [], ◌∷◌, ◌++◌, length, Some, None, inl, inr, refl, ap, sym, subst, ◌∙◌, append_assoc, length-append, arith}
use Rattle.std.specs.Prelude.{⊤, nat_lt, sum_by, filter, filter_map}
use Rattle.std.specs.List.{flat_map}
use Rattle.std.proofs.lemmas.Bool.{ltb-false}
use Rattle.std.proofs.lemmas.List.{length-map}
use Rattle.std.proofs.lemmas.List.Concat.{length-flat_map}
use Rattle.std.proofs.lemmas.List.Elements.{filter_map-append}
use Rattle.std.proofs.lemmas.List.Sums.{sum_by-append, sum_by-cons}
use Rattle.ato_ast.specs.declared.names.Named.{Named}
use Rattle.ato_files.specs.declared.program.SourceFile.{SourceFile}
use Rattle.ato_files.specs.declared.program.Program.{Program}
use Rattle.ato_files.specs.Blocks.{blocks_of}
use Rattle.ato_files.specs.Members.{signal, instance, param}
use Rattle.ato_files.specs.NameFaults.{name_fault}
use Rattle.ato_instance_tree.specs.declared.tree.Tree.{Tree}
use Rattle.ato_instance_tree.specs.Members.{Member, pin, named, members}
use Rattle.ato_instance_tree.specs.Walk.{walk, type_at, made, replacements}
use Rattle.ato_instance_tree.specs.Order as order
use Rattle.ato_instance_tree.specs.Order.{Spot, leaf, made_at, member_spots, spots, nodes, instance_of, instances, occs_at}
use Rattle.ato_instance_tree.specs.TreeFaults.{Limits, is_leaf, own_nodes, own_occs, too_large, fault_in, not_special, nest_faults, size_faults, made_faults, instance_faults, faults_from}
use Rattle.ato_instance_tree.specs.Trees.{node_paths, spot_said, occ_said, walked_said}
use Rattle.ato_instance_tree.specs.Elaborated.{IsElaborated, IsLoaded}
use Rattle.ato_instance_tree.specs.Laws.{AreKept}
use Rattle.ato_instance_tree.proofs.PushLaws.{said_long}
use Rattle.ato_instance_tree.proofs.DepthLaws.{nil_left, nil_right, no_first, not_if, at_some}
use Rattle.ato_instance_tree.proofs.SpotLaws.{IsIn}
use Rattle.ato_instance_tree.proofs.NodeLaws.{instance_stands}
use Rattle.ato_instance_tree.proofs.KnownLaws.{made_there}
use Rattle.ato_instance_tree.proofs.LoadedLaws.{names_are_sound}

-- ---- what is counted

-- nodes of members: the leaves among them, and those of the instances below
members_counted : (files : List SourceFile) (entry : ℕ) (F : List ℕ → List Spot) (path : List ℕ) (ms : List Member)
    → ((n : ℕ) → length (F (n ∷ path)) ≡ sum_by (own_nodes files entry) (filter_map instance_of (F (n ∷ path))))
    → length (flat_map (member_spots F path) ms) ≡ length (filter is_leaf ms) + sum_by (own_nodes files entry) (filter_map instance_of (flat_map (member_spots F path) ms))
members_counted files entry F path [] below = refl
members_counted files entry F path (pin text ∷ ms) below = let more = members_counted files entry F path ms below in omega arith
members_counted files entry F path (named n signal ∷ ms) below = let more = members_counted files entry F path ms below in omega arith
members_counted files entry F path (named n param ∷ ms) below = let more = members_counted files entry F path ms below in omega arith
members_counted files entry F path (named n (instance type) ∷ ms) below =
    let here = F (n.name.0 ∷ path) in
    let rest = flat_map (member_spots F path) ms in
    let more = members_counted files entry F path ms below in
    let long = length-append here rest in
    let one = below n.name.0 in
    let sums = ap (sum_by (own_nodes files entry)) (filter_map-append instance_of here rest) ∙ sum_by-append (own_nodes files entry) (filter_map instance_of here) (filter_map instance_of rest) in
    omega arith

pub nodes_counted : (files : List SourceFile) (entry d : ℕ) (path : List ℕ) → length (spots files entry d path) ≡ sum_by (own_nodes files entry) (filter_map instance_of (spots files entry d path))
nodes_counted files entry zero path = refl
nodes_counted files entry (suc d) path =
    let rest = flat_map (member_spots (spots files entry d) path) (members files (type_at files entry path)) in
    let leaves = length (filter is_leaf (members files (type_at files entry path))) in
    let more = members_counted files entry (spots files entry d) path (members files (type_at files entry path)) (λ n. nodes_counted files entry d (n ∷ path)) in
    let all : suc (length rest) ≡ suc leaves + sum_by (own_nodes files entry) (filter_map instance_of rest) = omega arith in
    all ∙ sym (sum_by-cons (own_nodes files entry) path (filter_map instance_of rest))

-- ---- no instance is too many

or_falses : (a b : Bool) → (a || b) ≡ false → (a ≡ false) × (b ≡ false)
or_falses true b h = absurd (true≢false h)
or_falses false b h = (refl, h)

-- The instance is the root, or its `new` means a type.
abbrev HasNew : List SourceFile → ℕ → List ℕ → Type 0
HasNew files entry [] = ⊤
HasNew files entry (n ∷ up) = (new : ℕ × Named) × (made files n (walk files entry up) ≡ Some new)

fits : (files : List SourceFile) (entry : ℕ) (most : Limits) (before : List (List ℕ)) (path : List ℕ) → HasNew files entry path → instance_faults files entry most before path ≡ []
    → too_large files entry most (before ++ path ∷ []) ≡ false
fits files entry most before [] has none = not_if (too_large files entry most (before ++ [] ∷ [])) _ none
fits files entry most before (n ∷ up) has none = not_if (too_large files entry most (before ++ (n ∷ up) ∷ [])) _
    (nil_right (not_special files (n ∷ up) has.0.0 (replacements files (n ∷ up) (walk files entry up)) ++ nest_faults files entry n up has.0.1) _
    (at_some (made_faults files entry most before n up) (made files n (walk files entry up)) has.0 has.1 none))

all_fit : (files : List SourceFile) (entry : ℕ) (most : Limits) (before : List (List ℕ)) (x : List ℕ) (xs : List (List ℕ)) → ((p : List ℕ) → IsIn p (x ∷ xs) → HasNew files entry p)
    → faults_from files entry most before (x ∷ xs) ≡ [] → too_large files entry most (before ++ x ∷ xs) ≡ false
all_fit files entry most before x [] has none = fits files entry most before x (has x (inl refl)) (nil_left (instance_faults files entry most before x) _ none)
all_fit files entry most before x (y ∷ xs) has none =
    ap (too_large files entry most) (sym (append_assoc before (x ∷ []) (y ∷ xs)))
    ∙ all_fit files entry most (before ++ x ∷ []) y xs (λ p h. has p (inr h)) (nil_right (instance_faults files entry most before x) _ none)

pub counted_within : (files : List SourceFile) (entry : ℕ) (most : Limits) (xs : List (List ℕ)) → ((p : List ℕ) → IsIn p xs → HasNew files entry p) → faults_from files entry most [] xs ≡ []
    → (sum_by (own_nodes files entry) xs ≤ most.nodes) × (sum_by (own_occs files entry) xs ≤ most.occurrences)
counted_within files entry most [] has none = (omega arith, omega arith)
counted_within files entry most (x ∷ xs) has none =
    let both = or_falses (nat_lt most.nodes (sum_by (own_nodes files entry) (x ∷ xs))) (nat_lt most.occurrences (sum_by (own_occs files entry) (x ∷ xs))) (all_fit files entry most [] x xs has none) in
    (ltb-false most.nodes (sum_by (own_nodes files entry) (x ∷ xs)) both.0, ltb-false most.occurrences (sum_by (own_occs files entry) (x ∷ xs)) both.1)

-- ---- each instance has its `new`

pub among_instances : (p : List ℕ) (ss : List Spot) → IsIn p (filter_map instance_of ss) → IsIn (made_at p) ss
among_instances p [] h = absurd h
among_instances p (leaf path m ∷ ss) h = inr (among_instances p ss h)
among_instances p (made_at path ∷ ss) (inl e) = inl (ap made_at e)
among_instances p (made_at path ∷ ss) (inr h) = inr (among_instances p ss h)

nil_cons : (n : ℕ) (path : List ℕ) → n ∷ path ≡ [] → ⊥
nil_cons n path e = let long = ap length e in omega arith

has_new : (files : List SourceFile) (entry : ℕ) (p : List ℕ) → name_fault files ≡ None → IsIn p (instances files entry) → HasNew files entry p
has_new files entry [] sound h = tt
has_new files entry (n ∷ up) sound h = elim (instance_stands files entry (suc (length (blocks_of files))) [] up n (among_instances (n ∷ up) (nodes files entry) h)) [
  | inl e ↦ absurd (nil_cons n up e)
  | inr k ↦ subst (λ x. (new : ℕ × Named) × (made files x (walk files entry up) ≡ Some new)) k.is.called (made_there files (type_at files entry up) k.is.name k.is.type sound k.is.is)
]

-- ---- the limits

pub kept : (most : Limits) (program : Program) (name : List ℕ) (tree : Tree) → IsLoaded program → IsElaborated most program name tree → AreKept most tree
kept most program name tree loaded is =
    let files = program.files in
    let none = no_first (faults_from files is.entry most [] (instances files is.entry)) (ap (λ o. Rattle.ato_instance_tree.specs.TreeFaults.tree_fault files most o) (sym is.named) ∙ is.sound) in
    let counted = counted_within files is.entry most (instances files is.entry) (λ p. has_new files is.entry p (names_are_sound program loaded)) none in
    let told = ap length is.is.told in
    let long = length-map (nodes files is.entry) (spot_said files is.entry program.names) in
    let all = nodes_counted files is.entry (suc (length (blocks_of files))) [] in
    let said = said_long tree.nodes in
    let written = ap length is.is.written in
    let here = length-map tree.occurrences (occ_said (node_paths tree.nodes)) in
    let there = length-map (order.occurrences files is.entry) (walked_said program.names) in
    let occs = length-flat_map (occs_at files is.entry) (instances files is.entry) in
    record { nodes = omega (arith, counted.0); occurrences = omega (arith, counted.1) }
