use Rattle.std.proofs.Common.{◌∙◌, refl, sym, ap}
use Rattle.std.specs.Option.{option_copied}
use Rattle.ato_build.proofs.DecisionLemmas.{picked_value}
use Rattle.ato_build.proofs.decisions.comp_value.Goals as goal

pub returns-in-None : goal.returns-in-None
returns-in-None c = λ contents shows.
    c.as_str-in-None.ensures ∙ picked_value c.args.block.now c.args.catalog.now c.args.pick.now _ _ c.in-len1-up.len_at_least refl (ap option_copied (sym c.in-None.is) ∙ c.row_at.ensures) contents shows

pub returns-in-Some : goal.returns-in-Some
returns-in-Some c = λ contents shows.
    c.as_str-in-Some.ensures ∙ picked_value c.args.block.now c.args.catalog.now c.args.pick.now _ _ c.in-len1-up.len_at_least refl (ap option_copied (sym c.in-Some.is) ∙ c.row_at.ensures) contents shows
