use Rattle.std.proofs.Common.{ℕ, Bor, List, ap, ◌∙◌}
use Rattle.std.specs.List.{list_any}
use Rattle.std.specs.Str.{bytes_eq}
use Rattle.ato_instance_tree.proofs.LabelLaws.{with_text}
use Rattle.ato_instance_tree.proofs.label_set.LabelSet.insert.Goals as goal

pub returns-clause-holds : goal.returns-clause-holds
returns-clause-holds c = λ other.
    ap (list_any (λ (key : Bor (List ℕ)). bytes_eq other key.now)) c.in_ok-insert.ensures.keys ∙ with_text c.args.self.now.texts.keys c.args.text other
