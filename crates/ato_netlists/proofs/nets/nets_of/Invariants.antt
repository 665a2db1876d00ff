use Rattle.std.proofs.Common.{◌≡◌, ℕ, map, take}
use Rattle.ato_instance_tree.specs.declared.tree.Tree.{Tree}
use Rattle.ato_links.specs.ByNumbers.{group_net}
use Rattle.ato_netlists.specs.Boards.{IsBoard, pin_at}
use Rattle.ato_netlists.proofs.nets.nets_of.Given as goal

abbrev pub invariant-loop-group : goal.invariant-loop-group
invariant-loop-group l = (tree : Tree) (entry : ℕ) → IsBoard tree entry l.board
    → l.nets ≡ map (λ group. group_net l.board.program.now.files entry l.board.program.now.names l.board.of.now (map (pin_at l.board.program.now entry) group)) (take l.group-index l.groups)
