use Rattle.std.proofs.Common.{◌≡◌, ◌++◌, ◌+◌, drop}
use Rattle.ato_cert.specs.Texts.{checks_text}
use Rattle.ato_cert.proofs.writing.push_checks.Given as goal

abbrev pub invariant-loop-at : goal.invariant-loop-at
invariant-loop-at l = l.out.items ++ checks_text (l.at + 1) (drop l.at l.boxes) ≡ l.fn.out.items ++ checks_text 1 l.boxes
