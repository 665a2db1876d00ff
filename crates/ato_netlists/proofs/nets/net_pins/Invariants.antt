use Rattle.std.proofs.Common.{◌≡◌, ℕ, map, take}
use Rattle.ato_instance_tree.specs.declared.tree.Tree.{Tree}
use Rattle.ato_links.specs.Nets.{net_pin}
use Rattle.ato_netlists.specs.Boards.{IsBoard, pin_at}
use Rattle.ato_netlists.proofs.nets.net_pins.Given as goal

abbrev pub invariant-loop-place : goal.invariant-loop-place
invariant-loop-place l = (tree : Tree) (entry : ℕ) → IsBoard tree entry l.board
    → l.pins ≡ map (λ place. net_pin l.board.program.now.files entry l.board.program.now.names (pin_at l.board.program.now entry place).1) (take l.place-index l.group)
