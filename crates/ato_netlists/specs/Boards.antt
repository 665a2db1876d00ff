-- What the nets of a tree are made from. Only private functions have clauses in these words.
use Rattle.std.specs.Prelude.{◌≡◌, ℕ, ◌<◌, ◌==◌, All, Contains, IfSome, List, [], length}
use Rattle.std.specs.List.{position_or_len, slice_index, slice_index_or}
use Rattle.std.specs.Str.{bytes_eq}
use Rattle.ato_files.specs.declared.program.Program.{Program}
use Rattle.ato_instance_tree.specs.declared.tree.Tree.{Tree}
use Rattle.ato_instance_tree.specs.Order.{nodes}
use Rattle.ato_links.specs.Parts.{parts}
use Rattle.ato_links.specs.Nets.{Pin, pins_of, signals_of}
use Rattle.ato_links.specs.ByNumbers.{numbered_by}
use Rattle.ato_netlists.specs.declared.nets.Board.{Board}
use Rattle.ato_netlists.specs.declared.parts.Part.{Part}
use Rattle.ato_netlists.specs.Known.{IsAt, IsSound}
use Rattle.ato_netlists.specs.Signals.{AreSignals}
use Rattle.ato_netlists.specs.Pins.{pin_numbers}

-- Each of so many nodes has the place of its part, or how many parts there are.
pub record AreNumbers (count : ℕ) (ps : List Part) (numbers : List ℕ) : Type 0 where
  pub size : length numbers ≡ count
  pub each : (node : ℕ) → node < count → slice_index numbers node ≡ position_or_len (λ p. p.node == node) ps

-- What the board has of nodes fits its nodes.
pub record IsWithin (board : Board) : Type 0 where
  pub size : length board.of.now ≡ length board.nodes.now
  pub classes : All (λ class. class < length board.of.now) board.of.now
  pub parts : length board.parts.now ≡ length board.nodes.now
  pub pins : All (λ pin. pin < length board.nodes.now) board.pins.now
  pub signals : AreSignals board.nodes.now board.of.now board.signals.now
  pub parents : All (λ n. IfSome n.parent (λ parent. parent < length board.nodes.now)) board.nodes.now

-- The board is that of a tree: its parts are numbered in tree order, and its pins are those of the tree.
pub record IsBoard (tree : Tree) (entry : ℕ) (board : Board) : Type 0 where
  pub sound : IsSound board.program.now tree entry
  pub nodes : board.nodes.now ≡ tree.nodes
  pub parts : (number : ℕ) (path : List ℕ) → IsAt board.program.now entry number path
      → slice_index board.parts.now number ≡ position_or_len (bytes_eq path) (parts board.program.now.files entry board.program.now.names)
  pub pins : board.pins.now ≡ pin_numbers 0 board.nodes.now

-- the pins and the signals, with the numbers of their nodes
abbrev pub numbered_pins : Program → ℕ → List (ℕ × Pin)
numbered_pins program entry = numbered_by pins_of 0 (nodes program.files entry)

abbrev pub numbered_signals : Program → ℕ → List (ℕ × List ℕ)
numbered_signals program entry = numbered_by signals_of 0 (nodes program.files entry)

-- The node of this number is a pin, or a signal with this path.
pub record IsPinAt (program : Program) (entry number : ℕ) (p : Pin) : Type 0 where
  pub is : Contains (numbered_pins program entry) (number, p)

pub record IsSignalAt (program : Program) (entry number : ℕ) (path : List ℕ) : Type 0 where
  pub is : Contains (numbered_signals program entry) (number, path)

-- the pin at a place
abbrev pub pin_at : Program → ℕ → ℕ → ℕ × Pin
pin_at program entry place = slice_index_or (numbered_pins program entry) place (0, record { path = []; label = [] })
