-- What one more of something adds: instances in order, nodes with their paths, and what nodes say.
use Rattle.std.proofs.Common.{◌≡◌, ◌<◌, ℕ, suc, ◌+◌, List, [], ◌∷◌, ◌++◌, fold, length, Some, refl, ap, sym, ◌∙◌, append_assoc, append-nil, length-append, arith}
use Rattle.std.specs.Prelude.{filter_map, sum_by}
use Rattle.std.specs.List.{flat_map}
use Rattle.std.specs.Option.{option_and_then}
use Rattle.std.proofs.lemmas.Grind.{fold-append, flat_map-append}
use Rattle.std.proofs.lemmas.List.Elements.{filter_map-append}
use Rattle.std.proofs.lemmas.List.Sums.{sum_by-append}
use Rattle.ato_files.specs.declared.program.SourceFile.{SourceFile}
use Rattle.ato_files.proofs.PushLemmas.{slice_get_push_first, slice_get_push_last}
use Rattle.ato_instance_tree.specs.declared.tree.Node.{Node}
use Rattle.ato_instance_tree.specs.Order.{Spot, instance_of, occs_at}
use Rattle.ato_instance_tree.specs.TreeFaults.{Limits, instance_faults, faults_from, own_nodes, own_occs}
use Rattle.ato_instance_tree.specs.Trees.{Where, where_at, below, with_path, node_paths, said_with, tree_said}

-- ---- instances

-- the faults at some instances and then others
pub faults_append : (files : List SourceFile) (entry : ℕ) (most : Limits) (before xs ys : List (List ℕ))
    → faults_from files entry most before (xs ++ ys) ≡ faults_from files entry most before xs ++ faults_from files entry most (before ++ xs) ys
faults_append files entry most before [] ys = ap (λ b. faults_from files entry most b ys) (sym (append-nil before))
faults_append files entry most before (x ∷ xs) ys =
    let here = instance_faults files entry most before x in
    ap (λ z. here ++ z) (faults_append files entry most (before ++ x ∷ []) xs ys
    ∙ ap (λ b. faults_from files entry most (before ++ x ∷ []) xs ++ faults_from files entry most b ys) (append_assoc before (x ∷ []) xs))
    ∙ sym (append_assoc here (faults_from files entry most (before ++ x ∷ []) xs) (faults_from files entry most (before ++ x ∷ xs) ys))

-- one more instance
pub faults_push : (files : List SourceFile) (entry : ℕ) (most : Limits) (before xs : List (List ℕ)) (x : List ℕ)
    → faults_from files entry most before (xs ++ x ∷ []) ≡ faults_from files entry most before xs ++ instance_faults files entry most (before ++ xs) x
faults_push files entry most before xs x = faults_append files entry most before xs (x ∷ [])
    ∙ ap (λ z. faults_from files entry most before xs ++ z) (append-nil (instance_faults files entry most (before ++ xs) x))

-- the instances among some nodes and then others
pub instances_append : (xs ys : List Spot) → filter_map instance_of (xs ++ ys) ≡ filter_map instance_of xs ++ filter_map instance_of ys
instances_append xs ys = filter_map-append instance_of xs ys

-- the occurrences of some instances and then others
pub occurrences_append : (files : List SourceFile) (entry : ℕ) (xs ys : List (List ℕ))
    → flat_map (occs_at files entry) (xs ++ ys) ≡ flat_map (occs_at files entry) xs ++ flat_map (occs_at files entry) ys
occurrences_append files entry xs ys = flat_map-append (occs_at files entry) xs ys

pub occurrences_push : (files : List SourceFile) (entry : ℕ) (xs : List (List ℕ)) (x : List ℕ)
    → flat_map (occs_at files entry) (xs ++ x ∷ []) ≡ flat_map (occs_at files entry) xs ++ occs_at files entry x
occurrences_push files entry xs x = flat_map-append (occs_at files entry) xs (x ∷ [])
    ∙ ap (λ z. flat_map (occs_at files entry) xs ++ z) (append-nil (occs_at files entry x))

-- how many nodes and occurrences there are with one more instance
pub nodes_sum_push : (files : List SourceFile) (entry : ℕ) (xs : List (List ℕ)) (x : List ℕ)
    → sum_by (own_nodes files entry) (xs ++ x ∷ []) ≡ sum_by (own_nodes files entry) xs + own_nodes files entry x
nodes_sum_push files entry xs x = let e = sum_by-append (own_nodes files entry) xs (x ∷ []) in omega arith

pub occs_sum_push : (files : List SourceFile) (entry : ℕ) (xs : List (List ℕ)) (x : List ℕ)
    → sum_by (own_occs files entry) (xs ++ x ∷ []) ≡ sum_by (own_occs files entry) xs + own_occs files entry x
occs_sum_push files entry xs x = let e = sum_by-append (own_occs files entry) xs (x ∷ []) in omega arith

-- ---- nodes

-- A node that is added changes no earlier path.
pub paths_push : (ns : List Node) (n : Node) → node_paths (ns ++ n ∷ []) ≡ node_paths ns ++ below (node_paths ns) n n.parent ∷ []
paths_push ns n = fold-append with_path [] ns (n ∷ [])

-- what a fold of paths adds to those that are there
paths_more : (paths : List Where) (ns : List Node) → length (fold with_path paths ns) ≡ length paths + length ns
paths_more paths [] = omega arith
paths_more paths (n ∷ ns) = let e = paths_more (with_path paths n) ns in let l = length-append paths (below paths n n.parent ∷ []) in omega arith

-- There is one path for each node.
pub paths_long : (ns : List Node) → length (node_paths ns) ≡ length ns
paths_long ns = let e = paths_more [] ns in omega arith

-- paths that are there stay, and the new one is the last
pub where_earlier : (paths : List Where) (p : Where) (i : ℕ) → i < length paths → where_at (paths ++ p ∷ []) i ≡ where_at paths i
where_earlier paths p i h = ap (option_and_then (λ w. w)) (slice_get_push_first paths p i h)

pub where_last : (paths : List Where) (p : Where) (i : ℕ) → length paths ≡ i → where_at (paths ++ p ∷ []) i ≡ p
where_last paths p i e = ap (option_and_then (λ w. w)) (slice_get_push_last paths p i e)

-- ---- what nodes say

pub said_append : (paths : List Where) (ns : List Node) (p : Where) (n : Node) → length paths ≡ length ns
    → said_with (paths ++ p ∷ []) (ns ++ n ∷ []) ≡ said_with paths ns ++ record { path = p; name = Some n.name; kind = Some n.kind; block = n.block } ∷ []
said_append [] [] p n e = refl
said_append [] (m ∷ ns) p n e = absurd (omega arith)
said_append (q ∷ paths) [] p n e = absurd (omega arith)
said_append (q ∷ paths) (m ∷ ns) p n e = ap (λ z. record { path = q; name = Some m.name; kind = Some m.kind; block = m.block } ∷ z) (said_append paths ns p n (omega arith))

-- what nodes say with one more
pub said_push : (ns : List Node) (n : Node)
    → tree_said (ns ++ n ∷ []) ≡ tree_said ns ++ record { path = below (node_paths ns) n n.parent; name = Some n.name; kind = Some n.kind; block = n.block } ∷ []
said_push ns n = ap (λ paths. said_with paths (ns ++ n ∷ [])) (paths_push ns n)
    ∙ said_append (node_paths ns) ns (below (node_paths ns) n n.parent) n (paths_long ns)

-- Each node says something.
pub said_long : (ns : List Node) → length (tree_said ns) ≡ length ns
said_long ns = long (node_paths ns) ns (paths_long ns) where
  long : (paths : List Where) (ms : List Node) → length paths ≡ length ms → length (said_with paths ms) ≡ length ms
  long [] [] e = refl
  long [] (m ∷ ms) e = absurd (omega arith)
  long (p ∷ paths) [] e = absurd (omega arith)
  long (p ∷ paths) (m ∷ ms) e = ap suc (long paths ms (omega arith))
