-- What is known of a tree is right, and so the fault of its first mark is the first fault of paths.
use Rattle.std.proofs.Common.{◌≡◌, ℕ, List, Option, Result, Ok, Err, IfOk, sym, ap, ◌∙◌, subst, Bor}
use Rattle.std.specs.Prelude.{map}
use Rattle.std.specs.Option.{option_map}
use Rattle.ato_base.specs.declared.memory.NoMemory.{NoMemory}
use Rattle.ato_ast.specs.declared.stmts.Stmt.{Stmt}
use Rattle.ato_files.specs.Programs.{NamesDiffer}
use Rattle.ato_files.specs.declared.program.SourceFile.{SourceFile}
use Rattle.ato_instance_tree.specs.declared.tree.Late.{Late}
use Rattle.ato_instance_tree.specs.Order.{occurrences}
use Rattle.ato_instance_tree.specs.PathFaults.{keys_of, path_fault}
use Rattle.ato_instance_tree.specs.Trees.{first_said}
use Rattle.ato_elab.specs.declared.assigned.Assigned.{Assigned}
use Rattle.ato_elab.specs.declared.built.Built.{Built}
use Rattle.ato_elab.specs.declared.finding_pins.Pins.{Pins}
use Rattle.ato_elab.specs.declared.late_ground.Ground.{Ground}
use Rattle.ato_elab.specs.Landing.{AreAssigned, IsGround}
use Rattle.ato_elab.specs.Pins.{ArePins}
use Rattle.ato_elab.specs.Standing.{IsReady}
use Rattle.ato_elab.specs.Telling.{IsFirstLate}
use Rattle.ato_elab.proofs.FirstLemmas.{first_fault}

-- What is known is right, where its files are those of the program.
pub ground_is : (names : List (List ℕ)) (entry : ℕ) (files : List SourceFile) (g : Ground) → g.files.now ≡ files → IsReady files names entry g.built.now
    → ArePins files g.built.now.nodes g.pins.now → map (λ s. s.now) g.stmts.now ≡ map (λ o. o.at.stmt) (occurrences files entry) → AreAssigned files entry g.assigned.now
    → option_map (λ n. n.0) g.kind ≡ (keys_of names).kind → option_map (λ n. n.0) g.prefix ≡ (keys_of names).prefix → IsGround names entry g
ground_is names entry files g same ready pins stmts assigned kind prefix = record {
  ready = subst (λ (fs : List SourceFile). IsReady fs names entry g.built.now) (sym same) ready;
  pins = subst (λ (fs : List SourceFile). ArePins fs g.built.now.nodes g.pins.now) (sym same) pins;
  stmts = stmts ∙ ap (λ (fs : List SourceFile). map (λ o. o.at.stmt) (occurrences fs entry)) (sym same);
  assigned = subst (λ (fs : List SourceFile). AreAssigned fs entry g.assigned.now) (sym same) assigned;
  kind = kind;
  prefix = prefix;
}

-- The first mark of what is known is the first fault of paths of the program's files.
pub fault_is : (names : List (List ℕ)) (entry : ℕ) (files : List SourceFile) (g : Ground) (late : Option Late) → g.files.now ≡ files → IsFirstLate names g late → NamesDiffer names
    → IsGround names entry g → first_said late ≡ path_fault files entry (keys_of names)
fault_is names entry files g late same first differ is =
    first_fault names entry g differ is late first ∙ ap (λ (fs : List SourceFile). path_fault fs entry (keys_of names)) same

-- the same of what is found, if memory does not run out
pub found_is : (names : List (List ℕ)) (files : List SourceFile) (built : Built) (stmts : List (Bor Stmt)) (pins : Pins) (assigned : Assigned) (g : Ground)
    (r : Result (Option Late) NoMemory) → g.files.now ≡ files → IfOk r (λ late. IsFirstLate names g late)
    → ((entry : ℕ) → IsReady files names entry built → ArePins files built.nodes pins → map (λ s. s.now) stmts ≡ map (λ o. o.at.stmt) (occurrences files entry)
    → AreAssigned files entry assigned → IsGround names entry g)
    → IfOk r (λ late. (entry : ℕ) → NamesDiffer names → IsReady files names entry built → ArePins files built.nodes pins
    → map (λ s. s.now) stmts ≡ map (λ o. o.at.stmt) (occurrences files entry) → AreAssigned files entry assigned
    → first_said late ≡ path_fault files entry (keys_of names))
found_is names files built stmts pins assigned g (Ok late) same first right =
    λ entry differ ready held walked counted. fault_is names entry files g late same first differ (right entry ready held walked counted)
found_is names files built stmts pins assigned g (Err e) same first right = tt
