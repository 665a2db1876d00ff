use Rattle.std.proofs.Common.{◌≡◌, ◌+◌, ◌*◌, ◌≤◌, length}
use denote.Text.{Utf8}
use denote.Shadow.{shadow}
use Rattle.std.specs.List.{fold}
use Rattle.std.specs.Str.{chars}
use Rattle.ato_lexer.specs.Lines.{column_after}
use Rattle.ato_lexer.proofs.scanning.column_behind.Given as goal

abbrev pub invariant-chars : goal.invariant-chars
invariant-chars l = shadow (Utf8 l.rest)
    × (fold column_after l.behind (chars l.rest) ≡ fold column_after l.column (chars l.text))
    × (l.behind + 8 * length l.rest ≤ l.column + 8 * length l.text)

abbrev pub decreases-chars : goal.decreases-chars
decreases-chars l = length l.rest
