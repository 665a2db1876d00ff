use Rattle.std.proofs.Common.{◌≡◌, length}
use denote.Text.{Utf8}
use denote.Shadow.{shadow}
use Rattle.std.specs.Str.{chars}
use Rattle.ato_units.specs.LiteralReading.{past}
use Rattle.ato_lexer.specs.Reading.{is_in_line}
use Rattle.ato_lexer.proofs.pieces.past_line.Given as goal

abbrev pub invariant-loop-next : goal.invariant-loop-next
invariant-loop-next l = shadow (Utf8 l.rest) × (past is_in_line (chars l.rest) ≡ past is_in_line (chars l.text))

abbrev pub decreases-loop-next : goal.decreases-loop-next
decreases-loop-next l = length l.rest
