-- What is found of a tree that is built: the assignments that count, and the first fault of its paths. Only private functions have clauses in these words.
use Rattle.std.specs.Prelude.{◌≡◌, ℕ, List, None, map}
use Rattle.ato_files.specs.declared.program.SourceFile.{SourceFile}
use Rattle.ato_instance_tree.specs.Order.{occurrences}
use Rattle.ato_instance_tree.specs.PathFaults.{keys_of, path_fault}
use Rattle.ato_instance_tree.specs.Trees.{first_said}
use Rattle.ato_elab.specs.declared.built.Built.{Built}
use Rattle.ato_elab.specs.declared.judging.Judged.{Judged}
use Rattle.ato_elab.specs.Assigned.{held_by, picked}
use Rattle.ato_elab.specs.Landing.{AreAssigned}

-- The assignments are those that count, and the fault is the first one of paths.
pub record IsJudged (files : List SourceFile) (names : List (List ℕ)) (entry : ℕ) (built : Built) (j : Judged) : Type 0 where
  pub held : (instance name : ℕ) → held_by j.assigned instance name ≡ picked built instance name 0 (map (λ o. o.at.stmt) (occurrences files entry)) None
  pub assigned : AreAssigned files entry j.assigned
  pub first : first_said j.first ≡ path_fault files entry (keys_of names)
