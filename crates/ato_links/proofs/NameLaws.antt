-- Each name in the path of a node of a tree is in the table: a node tells its name.
use Rattle.std.proofs.Common.{◌≡◌, ℕ, suc, List, [], ◌∷◌, length, map, Some, inl, inr, ap, sym, subst, refl}
use Rattle.std.specs.Prelude.{slice_get}
use Rattle.ato_files.specs.declared.program.SourceFile.{SourceFile}
use Rattle.ato_files.specs.Blocks.{blocks_of}
use Rattle.ato_files.specs.Members.{signal, instance, param}
use Rattle.ato_instance_tree.specs.declared.tree.Node.{Node}
use Rattle.ato_instance_tree.specs.Members.{pin, named}
use Rattle.ato_instance_tree.specs.Order.{Spot, leaf, made_at, nodes}
use Rattle.ato_instance_tree.specs.Trees.{Where, Said, node_paths, said_with, tree_said, spot_said}
use Rattle.ato_instance_tree.specs.Laws.{SpotPlace, at_names, at_label, place_of}
use Rattle.ato_instance_tree.proofs.SpotLaws.{IsIn}
use Rattle.ato_instance_tree.proofs.NodeLaws.{leaf_stands, instance_stands}
use Rattle.ato_links.specs.Parts.{NamesAreInTable}
use Rattle.ato_links.proofs.PinLaws.{into_in}

into_map : {X Y : Type 0} (f : X → Y) (x : X) (xs : List X) → IsIn x xs → IsIn (f x) (map f xs)
into_map f x [] m = absurd m
into_map f x (y ∷ ys) (inl e) = inl (ap f e)
into_map f x (y ∷ ys) (inr m) = inr (into_map f x ys m)

nil_cons : (n : ℕ) (path : List ℕ) → [] ≡ n ∷ path → ⊥
nil_cons n path e = absurd (cc)

abbrev names_of : SpotPlace → List ℕ
names_of (at_names path) = path
names_of (at_label path text) = []

heads : (a b : ℕ) (xs ys : List ℕ) → at_names (a ∷ xs) ≡ at_names (b ∷ ys) → (a ≡ b) × (xs ≡ ys)
heads a b xs ys e = (cc, cc)

said_name : (ws : List Where) (ns : List Node) (x : Said) → IsIn x (said_with ws ns) → (text : List ℕ) × (x.name ≡ Some text)
said_name [] ns x m = absurd m
said_name (w ∷ ws) [] x m = absurd m
said_name (w ∷ ws) (n ∷ ns) x (inl e) = (n.name, ap (λ (y : Said). y.name) e)
said_name (w ∷ ws) (n ∷ ns) x (inr m) = said_name ws ns x m

module _ (files : List SourceFile) (entry : ℕ) (names : List (List ℕ)) (ns : List Node)
    (told : tree_said ns ≡ map (spot_said files entry names) (nodes files entry)) where
  abbrev Has : ℕ → Type 0
  Has n = (text : List ℕ) × (slice_get names n ≡ Some text)

  tells : (s : Spot) → IsIn s (nodes files entry) → (text : List ℕ) × ((spot_said files entry names s).name ≡ Some text)
  tells s m = said_name (node_paths ns) ns (spot_said files entry names s)
      (subst (IsIn (spot_said files entry names s)) (sym told) (into_map (spot_said files entry names) s (nodes files entry) m))

  -- the last name of a node is in the table, and what is above it is an instance
  last_told : (s : Spot) (n : ℕ) (path : List ℕ) → IsIn s (nodes files entry) → place_of s ≡ at_names (n ∷ path)
      → Has n × IsIn (made_at path) (nodes files entry)
  last_told (made_at []) n path m e = absurd (nil_cons n path (ap names_of e))
  last_told (made_at (k ∷ up)) n path m e =
      let it = heads k n up path e in
      elim (instance_stands files entry (suc (length (blocks_of files))) [] up k m) [
        | inl f ↦ absurd (nil_cons k up (sym f))
        | inr is ↦ (subst Has it.0 (tells (made_at (k ∷ up)) m), subst (λ p. IsIn (made_at p) (nodes files entry)) it.1 is.at)
      ]
  last_told (leaf up (pin text)) n path m e = absurd (nil_cons n path (ap names_of e))
  last_told (leaf up (named k signal)) n path m e =
      let it = heads k.name.0 n up path e in (
        subst Has it.0 (tells (leaf up (named k signal)) m),
        subst (λ p. IsIn (made_at p) (nodes files entry)) it.1
            (leaf_stands files entry (suc (length (blocks_of files))) [] up (named k signal) m).at,
      )
  last_told (leaf up (named k param)) n path m e =
      let it = heads k.name.0 n up path e in (
        subst Has it.0 (tells (leaf up (named k param)) m),
        subst (λ p. IsIn (made_at p) (nodes files entry)) it.1
            (leaf_stands files entry (suc (length (blocks_of files))) [] up (named k param) m).at,
      )
  last_told (leaf up (named k (instance type))) n path m e =
      let it = heads k.name.0 n up path e in (
        subst Has it.0 (tells (leaf up (named k (instance type))) m),
        subst (λ p. IsIn (made_at p) (nodes files entry)) it.1 (leaf_stands files entry (suc (length (blocks_of files))) [] up (named k (instance type)) m).at,
      )

  all_told : (s : Spot) (path : List ℕ) → IsIn s (nodes files entry) → place_of s ≡ at_names path → (n : ℕ) → IsIn n path → Has n
  all_told s [] m e n h = absurd h
  all_told s (k ∷ path) m e n (inl f) = subst Has (sym f) (last_told s k path m e).0
  all_told s (k ∷ path) m e n (inr h) = all_told (made_at path) path (last_told s k path m e).1 refl n h

pub names_told : NamesAreInTable
names_told most program name tree is s path n m e h =
    all_told program.files is.entry program.names tree.nodes is.is.told s path (into_in s (nodes program.files is.entry) m) e n (into_in n path h)
