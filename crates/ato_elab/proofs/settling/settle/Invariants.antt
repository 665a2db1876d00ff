use Rattle.std.proofs.Common.{◌≡◌, ℕ, map, drop}
use Rattle.ato_base.specs.declared.places.Span.{Span}
use Rattle.ato_files.specs.Programs.{AreBlocks}
use Rattle.ato_elab.specs.Changes.{seen}
use Rattle.ato_elab.specs.Settling.{LeadsTo, StopsAt}
use Rattle.ato_elab.specs.Waiting.{ends}
use Rattle.ato_elab.proofs.settling.settle.Given as goal

abbrev pub invariant-loop-change : goal.invariant-loop-change
invariant-loop-change l =
    ((to : ℕ) → AreBlocks l.fn.program.files l.fn.program.blocks → LeadsTo l.fn.program.files l.so_far (ends (map seen (drop l.change-index l.changes))) to → LeadsTo l.fn.program.files l.fn.from (ends (map seen l.changes)) to)
    × ((at : Span) → AreBlocks l.fn.program.files l.fn.program.blocks → StopsAt l.fn.program.files l.so_far (ends (map seen (drop l.change-index l.changes))) at → StopsAt l.fn.program.files l.fn.from (ends (map seen l.changes)) at)
