use Rattle.std.proofs.Common.{List, Some, sym, ap, ◌∙◌}
use Rattle.std.specs.Prelude.{map}
use Rattle.ato_base.specs.declared.name_table.Name.{Name}
use Rattle.ato_elab.proofs.ClimbLemmas.{turned_ok}
use Rattle.ato_elab.proofs.late_names.shown.Goals as goal

pub returns : goal.returns
returns c = turned_ok _ c.as_slice.result.now c.turned.result (c.in_ok-found.ensures ∙ ap (λ (xs : List Name). Some (map (λ n. n.0) xs)) (sym c.as_slice.ensures)) c.turned.ensures
