use Rattle.std.proofs.Common.{ℕ, List, Some, nat_eq, ◌&&◌, sym, ap, ◌∙◌}
use Rattle.std.specs.List.{list_any}
use Rattle.ato_instance_tree.specs.Members.{members}
use Rattle.ato_instance_tree.specs.Paths.{has_pin}
use Rattle.ato_elab.specs.Pins.{is_met}
use Rattle.ato_elab.proofs.gathering_pins.Gathering.new.Goals as goal

pub returns : goal.returns
unfolding is_met
returns c = λ files type text. c.new-2.ensures type text ∙ ap (λ (types : List ℕ). list_any (nat_eq type) types && has_pin (members files (Some type)) text) (sym c.new.ensures.empty)
