use Rattle.std.proofs.Common.{◌≡◌, drop}
use Rattle.ato_outside.specs.Numbered.{kept_bytes}
use Rattle.ato_outside.proofs.numbered.kept_bytes.Given as goal

abbrev pub invariant-loop-number : goal.invariant-loop-number
invariant-loop-number l = kept_bytes (drop l.number-index l.fail) l.call ≡ kept_bytes l.fail l.call
