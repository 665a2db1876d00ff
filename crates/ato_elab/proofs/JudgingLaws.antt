-- What is found of a tree that is built is right.
use Rattle.std.proofs.Common.{◌≡◌, ℕ, List, Some, None, Bor, ap, ◌∙◌, subst}
use Rattle.std.specs.Prelude.{map}
use Rattle.ato_ast.specs.declared.stmts.Stmt.{Stmt}
use Rattle.ato_files.specs.Programs.{AreBlocks, NamesDiffer}
use Rattle.ato_files.specs.declared.program.SourceFile.{SourceFile}
use Rattle.ato_files.specs.declared.program.BlockInfo.{BlockInfo}
use Rattle.ato_instance_tree.specs.declared.tree.Node.{Node}
use Rattle.ato_instance_tree.specs.declared.tree.Occurrence.{Occurrence}
use Rattle.ato_instance_tree.specs.Order.{occurrences}
use Rattle.ato_instance_tree.specs.PathFaults.{keys_of, path_fault}
use Rattle.ato_instance_tree.specs.Trees.{first_said}
use Rattle.ato_elab.specs.declared.built.Built.{Built}
use Rattle.ato_elab.specs.declared.finding_pins.Pins.{Pins}
use Rattle.ato_elab.specs.declared.judging.Judged.{Judged}
use Rattle.ato_elab.specs.Assigned.{held_by, picked}
use Rattle.ato_elab.specs.Judging.{IsJudged}
use Rattle.ato_elab.specs.Landing.{AreAssigned}
use Rattle.ato_elab.specs.Listing.{stmt_of}
use Rattle.ato_elab.specs.Pins.{ArePins}
use Rattle.ato_elab.specs.Standing.{IsReady}
use Rattle.ato_elab.proofs.AssignedLaws.{assignments_count}
use Rattle.ato_elab.proofs.FirstLemmas.{stmts_are}

-- the parts of what is found, put together
pub judged_is : (files : List SourceFile) (names : List (List ℕ)) (blocks : List BlockInfo) (built : Built) (stmts : List (Bor Stmt)) (pins : Pins) (j : Judged)
    → (AreBlocks files blocks → map (λ s. Some s.now) stmts ≡ map (stmt_of files) built.occurrences)
    → ((instance name : ℕ) → held_by j.assigned instance name ≡ picked built instance name 0 (map (λ s. s.now) stmts) None)
    → (AreBlocks files blocks → ArePins files built.nodes pins)
    → ((entry : ℕ) → NamesDiffer names → IsReady files names entry built → ArePins files built.nodes pins → map (λ s. s.now) stmts ≡ map (λ o. o.at.stmt) (occurrences files entry)
    → AreAssigned files entry j.assigned → first_said j.first ≡ path_fault files entry (keys_of names))
    → (entry : ℕ) → AreBlocks files blocks → NamesDiffer names → IsReady files names entry built → IsJudged files names entry built j
judged_is files names blocks built stmts pins j walked held met first entry are differ ready =
    let same : map (λ (s : Bor Stmt). s.now) stmts ≡ map (λ o. o.at.stmt) (occurrences files entry) = stmts_are ready.is stmts (walked are) in
    let counted : AreAssigned files entry j.assigned = assignments_count files names entry built (map (λ (s : Bor Stmt). s.now) stmts) j.assigned ready same held in
    record {
      held = λ instance name. held instance name ∙ ap (λ (ss : List Stmt). picked built instance name 0 ss None) same;
      assigned = counted;
      first = first entry differ ready (met are) same counted;
    }

-- the same, where each part is told of a slice that has the list's items
pub judged_from : (files : List SourceFile) (names : List (List ℕ)) (blocks : List BlockInfo) (built : Built) (stmts : List (Bor Stmt)) (pins : Pins) (j : Judged)
    → (all : List Occurrence) (ns : List Node) (two four : List (Bor Stmt)) → all ≡ built.occurrences → ns ≡ built.nodes → two ≡ stmts → four ≡ stmts
    → (AreBlocks files blocks → map (λ s. Some s.now) stmts ≡ map (stmt_of files) all)
    → ((instance name : ℕ) → held_by j.assigned instance name ≡ picked built instance name 0 (map (λ s. s.now) two) None)
    → (AreBlocks files blocks → ArePins files ns pins)
    → ((entry : ℕ) → NamesDiffer names → IsReady files names entry built → ArePins files built.nodes pins → map (λ s. s.now) four ≡ map (λ o. o.at.stmt) (occurrences files entry)
    → AreAssigned files entry j.assigned → first_said j.first ≡ path_fault files entry (keys_of names))
    → (entry : ℕ) → AreBlocks files blocks → NamesDiffer names → IsReady files names entry built → IsJudged files names entry built j
judged_from files names blocks built stmts pins j all ns two four eall ens etwo efour walked held met first = judged_is files names blocks built stmts pins j
    (λ are. walked are ∙ ap (map (stmt_of files)) eall)
    (λ instance name. held instance name ∙ ap (λ (ss : List (Bor Stmt)). picked built instance name 0 (map (λ (s : Bor Stmt). s.now) ss) None) etwo)
    (λ are. subst (λ (l : List Node). ArePins files l pins) ens (met are))
    (λ entry differ ready are same. first entry differ ready are (ap (map (λ (s : Bor Stmt). s.now)) efour ∙ same))
