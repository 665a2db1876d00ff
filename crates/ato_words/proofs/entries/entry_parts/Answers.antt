use Rattle.std.proofs.Common.{sym, ◌∙◌}
use Rattle.ato_words.proofs.WordLemmas.{no_entry}
use Rattle.ato_words.proofs.entries.entry_parts.Goals as goal

pub returns-else-is_entry : goal.returns-else-is_entry
returns-else-is_entry c = no_entry c.args.entry.now _ _ c.in-Some.ensures.0 (sym c.is_entry.ensures ∙ c.if-is_entry.false) c.in-Some.ensures.1
