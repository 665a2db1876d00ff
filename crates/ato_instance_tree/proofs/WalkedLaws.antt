-- The occurrences of a tree, against those of the walk.
use Rattle.std.proofs.Common.{◌≡◌, ℕ, List, [], ◌∷◌, ◌++◌, Option, Some, None, refl, sym, ap, ◌∙◌, map}
use Rattle.std.specs.Prelude.{slice_get, option_to_list}
use Rattle.std.specs.List.{flat_map, AllByRecursion}
use Rattle.std.specs.Option.{option_and_then, option_map}
use Rattle.std.proofs.lemmas.Option.{slice_get-map}
use Rattle.ato_ast.specs.declared.stmts.Stmt.{Stmt}
use Rattle.ato_ast.specs.declared.blocks.Line.{Line}
use Rattle.ato_files.specs.declared.program.SourceFile.{SourceFile}
use Rattle.ato_files.specs.declared.program.Program.{Program}
use Rattle.ato_files.specs.Lists.{numbered}
use Rattle.ato_files.specs.Blocks.{BlockAt, block_of}
use Rattle.ato_files.specs.Lineages.{lineage}
use Rattle.ato_files.proofs.PlaceLemmas.{all_append, all_flat, all_at, own_numbers}
use Rattle.ato_instance_tree.specs.declared.tree.Occurrence.{Occurrence}
use Rattle.ato_instance_tree.specs.declared.tree.Tree.{Tree}
use Rattle.ato_instance_tree.specs.Types.{Located, line_stmts, block_stmts, located, type_stmts}
use Rattle.ato_instance_tree.specs.Walk.{Occ, occs, type_at}
use Rattle.ato_instance_tree.specs.Order.{instances, occs_at, occurrences}
use Rattle.ato_instance_tree.specs.Targets.{stmt_at, statement_of}
use Rattle.ato_instance_tree.specs.Trees.{SaidOcc, occ_said, walked_said, node_paths}
use Rattle.ato_instance_tree.specs.TreeFaults.{Limits}
use Rattle.ato_instance_tree.specs.Elaborated.{IsElaborated}

all_map : {X A : Type 0} (P : A → Type 0) (Q : X → Type 0) (f : X → A) → ((x : X) → Q x → P (f x)) → (xs : List X) → AllByRecursion Q xs → AllByRecursion P (map f xs)
all_map P Q f step [] h = tt
all_map P Q f step (x ∷ xs) h = (step x h.0, all_map P Q f step xs h.1)

all_any : {X A : Type 0} (P : A → Type 0) (f : X → List A) → ((x : X) → AllByRecursion P (f x)) → (xs : List X) → AllByRecursion P (flat_map f xs)
all_any P f step [] = tt
all_any P f step (x ∷ xs) = all_append P (f x) (flat_map f xs) (step x) (all_any P f step xs)

-- a statement of a line
line_at : (lines : List (Line Stmt)) (line part : ℕ) (parts : List Stmt) (s : Stmt) (o : Option (Line Stmt)) → slice_get lines line ≡ o
    → option_map (λ (l : Line Stmt). l.parts) o ≡ Some parts → slice_get parts part ≡ Some s → option_and_then (λ (l : Line Stmt). slice_get l.parts part) (slice_get lines line) ≡ Some s
line_at lines line part parts s None e f g = cc
line_at lines line part parts s (Some l) e f g =
    let same : l.parts ≡ parts = cc in
    ap (option_and_then (λ (x : Line Stmt). slice_get x.parts part)) e ∙ ap (λ (ps : List Stmt). slice_get ps part) same ∙ g

module _ (files : List SourceFile) where
  Stands : Located → Type 0
  Stands l = stmt_at files l.block l.line l.part ≡ Some l.stmt

  module _ (block : ℕ) (b : BlockAt) (found : block_of files block ≡ Some b) where
    part_stands : (line : ℕ) (parts : List Stmt) → slice_get (map (λ (l : Line Stmt). l.parts) b.block.lines) line ≡ Some parts
        → (part : ℕ) (s : Stmt) → slice_get parts part ≡ Some s → Stands (record { block = block; line = line; part = part; stmt = s })
    unfolding Stands
    part_stands line parts at part s e =
        ap (option_and_then (λ (x : BlockAt). option_and_then (λ (l : Line Stmt). slice_get l.parts part) (slice_get x.block.lines line))) found
        ∙ line_at b.block.lines line part parts s (slice_get b.block.lines line) refl (sym (slice_get-map (λ (l : Line Stmt). l.parts) b.block.lines line) ∙ at) e

    line_stands : (q : ℕ × List Stmt) → slice_get (map (λ (l : Line Stmt). l.parts) b.block.lines) q.0 ≡ Some q.1 → AllByRecursion Stands (line_stmts block q)
    line_stands q at = all_map Stands (λ (p : ℕ × Stmt). slice_get q.1 p.0 ≡ Some p.1) (λ (p : ℕ × Stmt). record { block = block; line = q.0; part = p.0; stmt = p.1 })
        (λ p e. part_stands q.0 q.1 at p.0 p.1 e) (numbered 0 q.1) (own_numbers q.1)

    block_stands : AllByRecursion Stands (block_stmts block b)
    block_stands = all_flat Stands (λ (q : ℕ × List Stmt). slice_get (map (λ (l : Line Stmt). l.parts) b.block.lines) q.0 ≡ Some q.1) (line_stmts block) line_stands
        (numbered 0 (map (λ (l : Line Stmt). l.parts) b.block.lines)) (own_numbers (map (λ (l : Line Stmt). l.parts) b.block.lines))

  located_stands : (block : ℕ) → AllByRecursion Stands (located files block)
  located_stands block = by (block_of files block) refl
    where
      by : (o : Option BlockAt) → block_of files block ≡ o → AllByRecursion Stands (flat_map (block_stmts block) (option_to_list o))
      by None e = tt
      by (Some b) e = all_append Stands (block_stmts block b) [] (block_stands block b e) tt

  type_stands : (type : ℕ) → AllByRecursion Stands (type_stmts files type)
  type_stands type = all_any Stands (located files) located_stands (lineage files type)

  any_stands : (type : Option ℕ) → AllByRecursion Stands (flat_map (type_stmts files) (option_to_list type))
  any_stands type = all_any Stands (type_stmts files) type_stands (option_to_list type)

  OccStands : Occ → Type 0
  OccStands o = Stands o.at

  occs_stand : (path : List ℕ) (type : Option ℕ) → AllByRecursion OccStands (occs files path type)
  unfolding OccStands
  occs_stand path type = all_map OccStands Stands (λ (l : Located). record { path = path; at = l }) (λ l e. e) (flat_map (type_stmts files) (option_to_list type)) (any_stands type)

  pub walked_stands : (entry i : ℕ) (o : Occ) → slice_get (occurrences files entry) i ≡ Some o → stmt_at files o.at.block o.at.line o.at.part ≡ Some o.at.stmt
  unfolding OccStands Stands
  walked_stands entry i o e = all_at OccStands (occurrences files entry) i o
      (all_any OccStands (occs_at files entry) (λ path. occs_stand path (type_at files entry path)) (instances files entry)) e

-- the statement of an occurrence of a tree is that of the walk
pub statement_walked : (most : Limits) (program : Program) (name : List ℕ) (tree : Tree) (is : IsElaborated most program name tree) (n : ℕ)
    → statement_of program tree n ≡ option_map (λ (o : Occ). o.at.stmt) (slice_get (occurrences program.files is.entry) n)
statement_walked most program name tree is n = by (slice_get tree.occurrences n) (slice_get (occurrences program.files is.entry) n) refl both
  where
    both : option_map (occ_said (node_paths tree.nodes)) (slice_get tree.occurrences n) ≡ option_map (walked_said program.names) (slice_get (occurrences program.files is.entry) n)
    both = sym (slice_get-map (occ_said (node_paths tree.nodes)) tree.occurrences n) ∙ ap (λ (l : List SaidOcc). slice_get l n) is.is.written
        ∙ slice_get-map (walked_said program.names) (occurrences program.files is.entry) n

    by : (a : Option Occurrence) (b : Option Occ) → slice_get (occurrences program.files is.entry) n ≡ b → option_map (occ_said (node_paths tree.nodes)) a ≡ option_map (walked_said program.names) b
        → option_and_then (λ (o : Occurrence). stmt_at program.files o.block o.line o.part) a ≡ option_map (λ (o : Occ). o.at.stmt) b
    by None None e h = refl
    by None (Some w) e h = cc
    by (Some o) None e h = cc
    by (Some o) (Some w) e h =
        let same : occ_said (node_paths tree.nodes) o ≡ walked_said program.names w = cc in
        ap (λ (x : SaidOcc). stmt_at program.files x.block x.line x.part) same ∙ walked_stands program.files is.entry n w e
