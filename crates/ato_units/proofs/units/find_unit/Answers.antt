use Rattle.std.proofs.Common.{◌∙◌, ap, Some}
use Rattle.ato_units.proofs.UnitTexts.{named_first, named_second, named_behind}
use Rattle.ato_units.proofs.units.find_unit.Goals as goal

pub returns-in-Some : goal.returns-in-Some
returns-in-Some c = named_first c.args.text.now c.units-table.ensures.prefixable c.units-table.ensures.whole_only (ap Some c.of.ensures ∙ c.in-Some.ensures)

pub returns-in-Some-entry_of : goal.returns-in-Some-entry_of
returns-in-Some-entry_of c =
    named_second c.args.text.now c.units-table.ensures.prefixable c.units-table.ensures.whole_only c.in-None.ensures (ap Some c.of-in-Some-entry_of.ensures ∙ c.in-Some-entry_of.ensures)

pub returns-in-None-entry_of : goal.returns-in-None-entry_of
returns-in-None-entry_of c = named_behind c.args.text.now c.units-table.ensures.prefixable c.units-table.ensures.whole_only c.prefixes.ensures c.in-None.ensures c.in-None-entry_of.ensures c.find_prefixed.ensures
