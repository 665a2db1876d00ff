use Rattle.std.proofs.Common.{◌≡◌, ◌++◌, take}
use Rattle.std.specs.List.{flat_map}
use Rattle.ato_cert.specs.Texts.{fraction_word}
use Rattle.ato_cert.proofs.writing.push_fractions.Given as goal

abbrev pub invariant-loop-fraction : goal.invariant-loop-fraction
invariant-loop-fraction l = l.out.items ≡ l.fn.out.items ++ flat_map fraction_word (take l.fraction-index l.fractions)
