use Rattle.std.proofs.Common.{rules, tests, arith, ◌==◌, ◌+◌, not, ap, ◌∙◌, take, reverse}
use Rattle.std.specs.List.{take_while}
use Rattle.std.proofs.lemmas.Iterator.Adapters.{YieldsList-from_rev_slice}
use Rattle.std.proofs.lemmas.Iterator.Consumers.{count_from_yields_List, YieldsList-from_filter, YieldsList-at}
use Rattle.std.proofs.lemmas.Iterator.Search.{YieldsList-from_take_while}
use Rattle.std.proofs.lemmas.List.Sums.{length-filter}
use Rattle.ato_build.specs.Texts.{begins_char}
use Rattle.ato_build.proofs.texts.column_at.Goals as goal

pub returns : goal.returns
returns c =
    let counted = count_from_yields_List c.filter.result c.count.result c.count.ensures.ran
    (YieldsList-from_filter _ begins_char
    (YieldsList-at c.filter.ensures.source
    (YieldsList-from_take_while _ (λ b. not (b == 10))
    (YieldsList-at c.take_while.ensures.source (YieldsList-from_rev_slice (take c.args.at c.args.source.now) (grind arith)))
    c.take_while.ensures.closure c.take_while.ensures.done (λ x b q k. search (rules, tests))))
    c.filter.ensures.closure (λ x b q k. search (rules, tests))) in
    ap (λ n. n + 1) (counted ∙ length-filter begins_char (take_while (λ b. not (b == 10)) (reverse (take c.args.at c.args.source.now))))
