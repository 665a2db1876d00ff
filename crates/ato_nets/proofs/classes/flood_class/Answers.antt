use Rattle.std.proofs.Common.{◌≡◌, ◌+◌, ◌++◌, ◌∷◌, [], set, subst, sym, ap, ◌∙◌}
use Rattle.ato_nets.specs.Flooding.{IsFlooded}
use Rattle.ato_nets.proofs.FloodLemmas.{flood_begins}
use Rattle.ato_nets.proofs.classes.flood_class.Goals as goal

pub empty_stack-requires-clause-flooded : goal.empty_stack-requires-clause-flooded
empty_stack-requires-clause-flooded c =
    let stacked : c.push.new.self.items ≡ c.args.start ∷ [] = c.in_ok-push.ensures.items ∙ ap (λ s. s ++ c.args.start ∷ []) c.requires.empty in
    subst (IsFlooded c.args.rows.now (c.args.start + 1) c.args.start (set c.args.numbers.now c.args.start c.args.start)) (sym stacked)
    (flood_begins c.args.start c.requires.flooded c.requires.inside c.requires.new)
