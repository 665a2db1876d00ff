use Rattle.std.proofs.Common.{◌≡◌, drop}
use Rattle.ato_parser.proofs.EndLaws.{ends}
use Rattle.ato_parser.proofs.parsing.ends_once.Given as goal

abbrev pub invariant-loop-place : goal.invariant-loop-place
invariant-loop-place l = ends l.tokens ≡ ends (drop l.place l.tokens)
