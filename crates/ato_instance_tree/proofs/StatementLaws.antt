-- The statement at the numbers that an occurrence has is the statement of the occurrence.
use Rattle.std.proofs.Common.{◌≡◌, ℕ, suc, ◌+◌, List, [], ◌∷◌, map, Option, Some, None, inl, inr, refl, ap, sym, ◌∙◌, arith}
use Rattle.std.specs.Prelude.{slice_get, option_to_list}
use Rattle.std.specs.List.{flat_map}
use Rattle.std.specs.Option.{option_and_then, option_map}
use Rattle.std.proofs.lemmas.Option.{none-some, same_Some, slice_get-map}
use Rattle.ato_ast.specs.declared.stmts.Stmt.{Stmt}
use Rattle.ato_files.specs.declared.program.SourceFile.{SourceFile}
use Rattle.ato_files.specs.declared.program.Program.{Program}
use Rattle.ato_files.specs.Lists.{numbered}
use Rattle.ato_files.specs.Blocks.{BlockAt, block_of}
use Rattle.ato_files.specs.Lineages.{lineage}
use Rattle.ato_instance_tree.specs.declared.tree.Occurrence.{Occurrence}
use Rattle.ato_instance_tree.specs.declared.tree.Tree.{Tree}
use Rattle.ato_instance_tree.specs.Types.{Located, line_stmts, block_stmts, located, type_stmts}
use Rattle.ato_instance_tree.specs.Walk.{Occ, type_at}
use Rattle.ato_instance_tree.specs.Order as order
use Rattle.ato_instance_tree.specs.Order.{instances, occs_at}
use Rattle.ato_instance_tree.specs.TreeFaults.{Limits}
use Rattle.ato_instance_tree.specs.Trees.{Where, node_paths, SaidOcc, occ_said, walked_said}
use Rattle.ato_instance_tree.specs.Targets.{stmt_at, statement_of}
use Rattle.ato_instance_tree.specs.Elaborated.{IsElaborated}
use Rattle.ato_instance_tree.proofs.SpotLaws.{IsIn, in_flat_map, at_in}
use Rattle.ato_instance_tree.proofs.KnownLaws.{in_map, in_option}

numbered_get : {X : Type 0} (n : ℕ) (p : ℕ × X) (xs : List X) → IsIn p (numbered n xs) → (i : ℕ) × (p.0 ≡ n + i) × (slice_get xs i ≡ Some p.1)
numbered_get n p [] h = absurd h
numbered_get n p (x ∷ xs) (inl e) = (0, ap (λ q. q.0) e ∙ omega arith, ap Some (sym (ap (λ q. q.1) e)))
numbered_get n p (x ∷ xs) (inr h) = let more = numbered_get (suc n) p xs h in (suc more.0, more.1 ∙ omega arith, more.2)

-- an item by the number that it has
by_number : {X : Type 0} (p : ℕ × X) (xs : List X) → IsIn p (numbered 0 xs) → slice_get xs p.0 ≡ Some p.1
by_number p xs h = let at = numbered_get 0 p xs h in ap (slice_get xs) (at.1 ∙ omega arith) ∙ at.2

mapped : {X Y : Type 0} (f : X → Y) (o : Option X) (y : Y) → option_map f o ≡ Some y → (x : X) × (o ≡ Some x) × (f x ≡ y)
mapped f None y e = absurd (none-some y e)
mapped f (Some x) y e = (x, refl, same_Some (f x) y e)

at_block : (files : List SourceFile) (block : ℕ) (b : BlockAt) (l : Located) → block_of files block ≡ Some b → IsIn l (block_stmts block b) → stmt_at files l.block l.line l.part ≡ Some l.stmt
at_block files block b l e h =
    let line = in_flat_map (line_stmts block) l (numbered 0 (map (λ l. l.parts) b.block.lines)) h in
    let part = in_map (λ (p : ℕ × Stmt). record { block = block; line = line.0.0; part = p.0; stmt = p.1 }) l (numbered 0 line.0.1) line.2 in
    let written = mapped (λ l. l.parts) (slice_get b.block.lines line.0.0) line.0.1 (sym (slice_get-map (λ l. l.parts) b.block.lines line.0.0) ∙ by_number line.0 (map (λ l. l.parts) b.block.lines) line.1) in
    ap (λ (x : Located). stmt_at files x.block x.line x.part) part.2
    ∙ ap (option_and_then (λ (b : BlockAt). option_and_then (λ l. slice_get l.parts part.0.0) (slice_get b.block.lines line.0.0))) e
    ∙ ap (option_and_then (λ l. slice_get l.parts part.0.0)) written.1
    ∙ ap (λ (parts : List Stmt). slice_get parts part.0.0) written.2
    ∙ by_number part.0 line.0.1 part.1
    ∙ ap (λ (x : Located). Some x.stmt) (sym part.2)

at_type : (files : List SourceFile) (type : ℕ) (l : Located) → IsIn l (type_stmts files type) → stmt_at files l.block l.line l.part ≡ Some l.stmt
at_type files type l h =
    let block = in_flat_map (located files) l (lineage files type) h in
    let b = in_flat_map (block_stmts block.0) l (option_to_list (block_of files block.0)) block.2 in
    at_block files block.0 b.0 l (in_option b.0 (block_of files block.0) b.1) b.2

pub at_occurrence : (files : List SourceFile) (entry : ℕ) (o : Occ) → IsIn o (order.occurrences files entry) → stmt_at files o.at.block o.at.line o.at.part ≡ Some o.at.stmt
at_occurrence files entry o h =
    let path = in_flat_map (occs_at files entry) o (instances files entry) h in
    let l = in_map (λ (l : Located). record { path = path.0; at = l }) o (flat_map (type_stmts files) (option_to_list (type_at files entry path.0))) path.2 in
    let type = in_flat_map (type_stmts files) l.0 (option_to_list (type_at files entry path.0)) l.1 in
    ap (λ (x : Occ). stmt_at files x.at.block x.at.line x.at.part) l.2 ∙ at_type files type.0 l.0 type.2 ∙ ap (λ (x : Occ). Some x.at.stmt) (sym l.2)

both : (files : List SourceFile) (ws : List Where) (names : List (List ℕ)) (a : Option Occurrence) (b : Option Occ) → option_map (occ_said ws) a ≡ option_map (walked_said names) b
    → ((o : Occ) → b ≡ Some o → stmt_at files o.at.block o.at.line o.at.part ≡ Some o.at.stmt)
    → option_and_then (λ o. stmt_at files o.block o.line o.part) a ≡ option_map (λ o. o.at.stmt) b
both files ws names None None e h = refl
both files ws names None (Some o) e h = absurd (none-some _ e)
both files ws names (Some x) None e h = absurd (none-some _ (sym e))
both files ws names (Some x) (Some o) e h =
    let said : occ_said ws x ≡ walked_said names o = same_Some (occ_said ws x) (walked_said names o) e in
    ap (λ (s : SaidOcc). stmt_at files s.block s.line s.part) said ∙ h o refl

-- the occurrences of a tree and the project's, number by number
pub same_said : (ws : List Where) (names : List (List ℕ)) (xs : List Occurrence) (os : List Occ) (i : ℕ) → map (occ_said ws) xs ≡ map (walked_said names) os
    → option_map (occ_said ws) (slice_get xs i) ≡ option_map (walked_said names) (slice_get os i)
same_said ws names xs os i e = sym (slice_get-map (occ_said ws) xs i) ∙ ap (λ l. slice_get l i) e ∙ slice_get-map (walked_said names) os i

pub walked : (most : Limits) (program : Program) (name : List ℕ) (tree : Tree) (is : IsElaborated most program name tree) (i : ℕ)
    → statement_of program tree i ≡ option_map (λ o. o.at.stmt) (slice_get (order.occurrences program.files is.entry) i)
walked most program name tree is i = both program.files (node_paths tree.nodes) program.names (slice_get tree.occurrences i) (slice_get (order.occurrences program.files is.entry) i)
    (same_said (node_paths tree.nodes) program.names tree.occurrences (order.occurrences program.files is.entry) i is.is.written)
    (λ o e. at_occurrence program.files is.entry o (at_in o (order.occurrences program.files is.entry) i e))
