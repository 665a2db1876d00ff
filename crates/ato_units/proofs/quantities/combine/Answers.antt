use Rattle.std.proofs.Common.{Option, Bor, ap, sym, ◌∙◌, option_map, unwrap_or}
use Rattle.ato_units.specs.declared.quantities.Part.{Part}
use Rattle.ato_units.specs.Parts.{part_of}
use Rattle.ato_units.proofs.Values.{gives_same}
use Rattle.ato_units.proofs.quantities.combine.Goals as goal

pub returns-in-Some : goal.returns-in-Some
returns-in-Some c =
    gives_same c.as_written-own.ensures
    (c.as_written.ensures ∙ ap (λ (o : Option (Bor Part)). unwrap_or (option_map (λ p. part_of p.now) o) (part_of c.args.first.now)) (sym c.in-Some.is))
    c.from_parts.ensures

pub returns-in-None : goal.returns-in-None
returns-in-None c =
    gives_same c.as_written-own.ensures
    (c.as_written-own.ensures ∙ ap (λ (o : Option (Bor Part)). unwrap_or (option_map (λ p. part_of p.now) o) (part_of c.args.first.now)) (sym c.in-None.is))
    c.from_parts-in-None.ensures
