-- What the input of a task comes to: a board, of which picks are made and certificates speak. What a build decides, what a check
-- finds and what a run promises see the board by the words of this file alone.
use Rattle.std.specs.Prelude.{ℕ, List}
use Rattle.ato_base.specs.declared.nets.NetList.{NetList}
use Rattle.ato_first.specs.declared.first_form.Block.{Block}
use Rattle.ato_first_catalog.specs.Contents.{Contents}
use Rattle.ato_cert.specs.declared.cert.Cert.{Cert}
use Rattle.ato_cert.specs.declared.problem.Problem.{Problem}
use Rattle.ato_first.specs.FirstNets.{IsNetList, SharesExactly}
use Rattle.ato_first.specs.FirstParts.{part_of, slot_count, IsGoodPick, IsFirstGoodPick, NoGoodPick, comp_value}
use Rattle.ato_build.specs.Problems.{IsProblem, IsValidFor}

-- the block that is built, and the contents of the catalogue
pub record Board : Type 0 where
  pub block : Block
  pub contents : Contents

abbrev pub board_of : Block → Contents → Board
board_of block contents = record { block = block; contents = contents }

-- The pick is good: what is asserted holds at every rational value of what is picked.
abbrev pub IsGood : Board → List ℕ → Type 0
IsGood board pick = IsGoodPick (part_of board.block.lines) board.contents pick

-- It is also the first good one.
abbrev pub IsFirstGood : Board → List ℕ → Type 0
IsFirstGood board pick = IsFirstGoodPick (part_of board.block.lines) board.contents pick

-- No pick is good: whatever is picked, what is asserted fails at some value of it.
abbrev pub NoGood : Board → Type 0
NoGood board = NoGoodPick (part_of board.block.lines) board.contents

-- The net list is the board's, with what is picked. Two pins share a net of it exactly where the sources join them.
pub record IsListFor (board : Board) (pick : List ℕ) (list : NetList) : Type 0 where
  pub is_list : IsNetList board.block (comp_value board.block board.contents pick) list
  pub shares : SharesExactly board.block list

-- how many slots the board has, each with one variable and one check
abbrev pub slots_of : Board → ℕ
slots_of board = slot_count (part_of board.block.lines)

-- The problem is the board's.
abbrev pub IsProblemOf : Board → Problem → Type 0
IsProblemOf board problem = IsProblem (part_of board.block.lines) board.contents problem

-- The certificate is valid for the board's problem.
abbrev pub IsValidOn : Board → Cert → Type 0
IsValidOn board cert = IsValidFor (part_of board.block.lines) board.contents cert
