use Rattle.std.proofs.Common.{ℕ, Bor, List, nat_eq, ◌&&◌, ap, ◌∙◌}
use Rattle.std.specs.List.{list_any}
use Rattle.std.specs.Str.{bytes_eq}
use Rattle.ato_elab.specs.Pins.{holds}
use Rattle.ato_elab.proofs.PinLemmas.{with_pin}
use Rattle.ato_elab.proofs.finding_pins.Pins.put.Goals as goal

pub returns : goal.returns
unfolding holds
returns c = λ type other. ap (list_any (λ (key : ℕ × Bor (List ℕ)). nat_eq type key.0 && bytes_eq other key.1.now)) c.in_ok-insert.ensures.keys
    ∙ with_pin c.args.self.now.labels.keys (c.args.block, c.args.text) type other
