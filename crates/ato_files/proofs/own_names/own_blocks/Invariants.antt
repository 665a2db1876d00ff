use Rattle.ato_files.specs.NameMaps.{AreFirst}
use Rattle.ato_files.proofs.OwnLemmas.{first_pairs}
use Rattle.ato_files.proofs.own_names.own_blocks.Given as goal

abbrev pub invariant-loop-number : goal.invariant-loop-number
invariant-loop-number l = AreFirst (first_pairs l.files l.number) l.own
