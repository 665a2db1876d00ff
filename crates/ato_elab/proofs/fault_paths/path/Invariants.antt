use Rattle.std.proofs.Common.{◌≡◌, take, reverse}
use Rattle.ato_instance_tree.specs.TreeFaults.{shown}
use Rattle.ato_elab.specs.Building.{path_of}
use Rattle.ato_elab.proofs.fault_paths.path.Given as goal

abbrev pub invariant-loop-frame : goal.invariant-loop-frame
invariant-loop-frame l = l.names ≡ shown (path_of (reverse (take l.frame-index l.open)))
