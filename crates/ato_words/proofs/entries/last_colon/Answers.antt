use Rattle.std.proofs.Common.{lit<, None, Some}
use Rattle.std.proofs.lemmas.Str.Pattern.{rfind_char}
use Rattle.ato_words.proofs.WordLemmas.{cut_parts, lacks}
use Rattle.ato_words.proofs.entries.last_colon.Goals as goal

pub returns-in-None : goal.returns-in-None
returns-in-None c = lacks 58 c.args.entry.now (rfind_char 58 c.args.entry.now None c.in-None.ensures.cases (lit< tt))

pub returns-in-Some : goal.returns-in-Some
returns-in-Some c = cut_parts c.args.entry.now _ _ c.in-Some.at c.range.ensures.value c.range_from.ensures.value
    (rfind_char 58 c.args.entry.now (Some c.in-Some.at) c.in-Some.ensures.cases (lit< tt))
