-- Where the next instance stands, and that there is room below the open ones for it.
use Rattle.std.proofs.Common.{◌≡◌, ◌<◌, ◌≤◌, ℕ, zero, suc, ◌+◌, List, [], ◌∷◌, ◌++◌, map, Option, Some, None, refl, sym, ap, ◌∙◌, length, append_assoc, arith}
use Rattle.std.specs.Prelude.{slice_get}
use Rattle.std.specs.List.{flat_map}
use Rattle.std.proofs.lemmas.List.{length-map}
use Rattle.std.proofs.lemmas.Map.Steps.{length-le_from_distinct_below}
use Rattle.std.proofs.lemmas.Option.{none-some, slice_get_within}
use Rattle.ato_ast.specs.declared.names.Named.{Named}
use Rattle.ato_files.specs.declared.program.SourceFile.{SourceFile}
use Rattle.ato_files.specs.Blocks.{blocks_of}
use Rattle.ato_files.specs.Members.{instance}
use Rattle.ato_instance_tree.specs.Members.{Member, named, members}
use Rattle.ato_instance_tree.specs.Order.{Spot, made_at, member_spots, spots, nodes}
use Rattle.ato_instance_tree.specs.Walk.{type_at}
use Rattle.ato_instance_tree.specs.Laws.{place_of}
use Rattle.ato_instance_tree.proofs.SpotLaws.{no_node_twice}
use Rattle.ato_elab.specs.declared.built.Built.{Built}
use Rattle.ato_elab.specs.declared.marks.Marks.{Marks}
use Rattle.ato_elab.specs.declared.frames.Counts.{Counts}
use Rattle.ato_elab.specs.declared.frames.Frame.{Frame}
use Rattle.ato_elab.specs.Building.{path_of, types_of, left, next_of, remaining, IsDone}
use Rattle.ato_elab.specs.Placing.{IsFresh}

-- ---- items of lists

at_front : {X : Type 0} (xs ys : List X) (i : ℕ) (x : X) → slice_get xs i ≡ Some x → slice_get (xs ++ ys) i ≡ Some x
at_front [] ys i x e = absurd (none-some x e)
at_front (z ∷ xs) ys zero x e = e
at_front (z ∷ xs) ys (suc i) x e = at_front xs ys i x e

at_middle : {X : Type 0} (xs ys : List X) (x : X) → slice_get (xs ++ x ∷ ys) (length xs) ≡ Some x
at_middle [] ys x = refl
at_middle (z ∷ xs) ys x = at_middle xs ys x

-- What comes next was not there before.
pub next_fresh : (files : List SourceFile) (entry : ℕ) (done rest : List Spot) (path : List ℕ) → done ++ made_at path ∷ rest ≡ nodes files entry → IsFresh done (made_at path)
next_fresh files entry done rest path all j p same at =
    let here : slice_get (nodes files entry) (length done) ≡ Some (made_at path) = ap (λ (ss : List Spot). slice_get ss (length done)) (sym all) ∙ at_middle done rest (made_at path) in
    let there : slice_get (nodes files entry) j ≡ Some (made_at p) = ap (λ (ss : List Spot). slice_get ss j) (sym all) ∙ at_front done (made_at path ∷ rest) j (made_at p) at in
    let twice : j ≡ length done = no_node_twice files entry j (length done) (made_at p) (made_at path) there here (ap place_of (sym same)) in
    let within = slice_get_within done j (made_at p) at in
    absurd (omega arith)

-- ---- the next instance

-- the nodes below an instance, so many levels
abbrev pub inner : List SourceFile → ℕ → ℕ → List ℕ → List Spot
inner files entry d path = flat_map (member_spots (spots files entry d) path) (members files (type_at files entry path))

-- The instance at a path is the next node, and the nodes below it and then these are left.
pub record IsNext (files : List SourceFile) (entry : ℕ) (done : List Spot) (f : Frame) (fs : List Frame) (path : List ℕ) : Type 0 where
  pub depth : ℕ
  pub levels : depth + length (f ∷ fs) ≡ length (blocks_of files)
  pub parts : done ++ made_at path ∷ (inner files entry depth path ++ remaining files entry (suc depth) (next_of f ∷ fs)) ≡ nodes files entry

module _ (files : List SourceFile) (names : List (List ℕ)) (entry : ℕ) (most : Counts) (done : List Spot) (f : Frame) (fs : List Frame) (built : Built) (marks : Marks) (counts : Counts)
    (was : IsDone files names entry most done (f ∷ fs) built marks counts) where
  few_open : length (f ∷ fs) ≤ length (blocks_of files)
  few_open = let few = length-le_from_distinct_below (types_of (f ∷ fs)) (length (blocks_of files)) was.differ was.below in
      let long : length (types_of (f ∷ fs)) ≡ length (f ∷ fs) = length-map (f ∷ fs) (λ (g : Frame). g.block) in omega arith

  pub next_at : (called type : Named) → left f ≡ named called (instance type) ∷ left (next_of f) → IsNext files entry done f fs (called.name.0 ∷ path_of (f ∷ fs))
  next_at called type here = by was.depth was.levels was.parts
    where
      by : (depth : ℕ) → depth + length (f ∷ fs) ≡ suc (length (blocks_of files)) → done ++ remaining files entry depth (f ∷ fs) ≡ nodes files entry
          → IsNext files entry done f fs (called.name.0 ∷ path_of (f ∷ fs))
      by zero l p = let few = few_open in absurd (omega arith)
      by (suc d) l p = record {
        depth = d;
        levels = omega arith;
        parts = ap (λ (z : List Spot). done ++ made_at (called.name.0 ∷ path_of (f ∷ fs)) ∷ z)
            (sym (append_assoc (inner files entry d (called.name.0 ∷ path_of (f ∷ fs))) (flat_map (member_spots (spots files entry (suc d)) (path_of (f ∷ fs))) (left (next_of f))) (remaining files entry (suc (suc d)) fs)))
            ∙ ap (λ (ms : List Member). done ++ (flat_map (member_spots (spots files entry (suc d)) (path_of (f ∷ fs))) ms ++ remaining files entry (suc (suc d)) fs)) (sym here)
            ∙ p;
      }
