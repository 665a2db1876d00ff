use Rattle.std.proofs.Common.{◌≡◌, length}
use denote.Text.{Utf8}
use denote.Shadow.{shadow}
use Rattle.ato_units.specs.Literals.{is_blank}
use Rattle.std.specs.Str.{chars}
use Rattle.ato_units.specs.LiteralReading.{past}
use Rattle.ato_units.proofs.tokens.past_blanks.Given as goal

abbrev pub invariant-loop-next : goal.invariant-loop-next
invariant-loop-next l = shadow (Utf8 l.rest) × (past is_blank (chars l.rest) ≡ past is_blank (chars l.text))

abbrev pub decreases-loop-next : goal.decreases-loop-next
decreases-loop-next l = length l.rest
