use Rattle.std.proofs.Common.{◌≡◌, take}
use Rattle.std.specs.Prelude.{map}
use Rattle.std.specs.List.{join_with_byte}
use Rattle.ato_netlists.specs.Naming.{name_text}
use Rattle.ato_netlists.proofs.paths.path_text.Given as goal

abbrev pub invariant-loop-at : goal.invariant-loop-at
invariant-loop-at l = l.text ≡ join_with_byte 46 (map (name_text l.names) (take l.at l.name-items))
