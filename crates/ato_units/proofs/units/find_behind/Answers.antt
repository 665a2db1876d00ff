use Rattle.std.proofs.Common.{◌++◌, ap, sym, ◌∙◌, Some, None}
use Rattle.std.specs.Prelude.{option_map}
use Rattle.std.proofs.lemmas.Bool.Decides.{Decides-eqb}
use Rattle.std.proofs.lemmas.Slice.Eq.{strip_prefix_is}
use Rattle.ato_units.specs.Units.{scaled_by}
use Rattle.ato_units.specs.Tables.{listed_prefix}
use Rattle.ato_units.proofs.UnitTexts.{not_behind_prefix, behind_found}
use Rattle.ato_units.proofs.units.find_behind.Goals as goal

pub returns-in-None : goal.returns-in-None
returns-in-None c =
    sym (not_behind_prefix (listed_prefix c.args.prefix.now) _ _
    (λ rest e. strip_prefix_is Decides-eqb _ _ None c.in-None.ensures.cases rest (e ∙ ap (λ p. p ++ rest) (sym c.as_bytes.ensures.value))))

pub returns-in-None-entry_of : goal.returns-in-None-entry_of
returns-in-None-entry_of c =
    let split = strip_prefix_is Decides-eqb _ _ (Some c.in-Some.rest) c.in-Some.ensures.cases in
    behind_found (listed_prefix c.args.prefix.now) _ _ _ _ None split c.as_bytes.ensures.value (ap (option_map (scaled_by c.args.prefix.now.tens)) c.in-None-entry_of.ensures)

pub returns-in-Some-entry_of : goal.returns-in-Some-entry_of
returns-in-Some-entry_of c =
    let split = strip_prefix_is Decides-eqb _ _ (Some c.in-Some.rest) c.in-Some.ensures.cases in
    behind_found (listed_prefix c.args.prefix.now) _ _ _ _ _ split c.as_bytes.ensures.value
    (ap Some c.behind.ensures ∙ ap (option_map (scaled_by c.args.prefix.now.tens)) c.in-Some-entry_of.ensures)
