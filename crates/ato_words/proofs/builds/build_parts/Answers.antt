use Rattle.std.proofs.Common.{sym}
use Rattle.ato_words.proofs.WordLemmas.{not_apart}
use Rattle.ato_words.proofs.builds.build_parts.Goals as goal

pub returns-then-not-are_apart : goal.returns-then-not-are_apart
returns-then-not-are_apart c = not_apart _ _ _ _ _ _ _ c.in_ok-command.ensures c.in_ok-file.ensures.0 c.in_ok-file.ensures.1 (sym c.if-not-are_apart.ensures)
