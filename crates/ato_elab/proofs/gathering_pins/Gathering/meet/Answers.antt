use Rattle.std.proofs.Common.{ℕ, Bool, List, Some, nat_eq, ap, ◌&&◌, ◌∙◌, sym}
use Rattle.std.specs.List.{list_any}
use Rattle.ato_instance_tree.specs.Members.{members}
use Rattle.ato_instance_tree.specs.Paths.{has_pin}
use Rattle.ato_elab.specs.Pins.{holds, is_met}
use Rattle.ato_elab.proofs.PinLemmas.{new_type, none_new, with_type}
use Rattle.ato_elab.proofs.gathering_pins.Gathering.meet.Goals as goal

pub returns-in_ok-put_type-clause-met : goal.returns-in_ok-put_type-clause-met
unfolding is_met
returns-in_ok-put_type-clause-met c = λ type. ap (λ (types : List ℕ). list_any (nat_eq type) types) c.in_ok-is_new.ensures.keys ∙ with_type c.args.self.now.types.keys c.args.block type

pub returns-in_ok-put_type-clause-held : goal.returns-in_ok-put_type-clause-held
unfolding is_met
returns-in_ok-put_type-clause-held c = λ blocks held type text.
    new_type c.args.program.now.files type c.args.block text (holds c.args.self.now.pins type text) (is_met c.args.self.now type) (list_any (nat_eq type) c.insert.new.self.keys)
    (holds c.put_type.new.self type text) (held type text)
    (ap (λ (types : List ℕ). list_any (nat_eq type) types) c.in_ok-is_new.ensures.keys ∙ with_type c.args.self.now.types.keys c.args.block type) (c.in_ok-put_type.ensures blocks type text)

pub returns-else-is_new-clause-met : goal.returns-else-is_new-clause-met
unfolding is_met
returns-else-is_new-clause-met c = λ type. ap (λ (types : List ℕ). list_any (nat_eq type) types) c.in_ok-is_new.ensures.keys ∙ with_type c.args.self.now.types.keys c.args.block type

pub returns-else-is_new-clause-held : goal.returns-else-is_new-clause-held
unfolding is_met
returns-else-is_new-clause-held c = λ blocks held type text. held type text
    ∙ ap (λ (met : Bool). met && has_pin (members c.args.program.now.files (Some type)) text)
    (none_new c.args.self.now.types.keys c.args.block type c.in_ok-is_new.is_new c.in_ok-is_new.ensures.added c.if-is_new.false
    ∙ ap (λ (types : List ℕ). list_any (nat_eq type) types) (sym c.in_ok-is_new.ensures.keys))
