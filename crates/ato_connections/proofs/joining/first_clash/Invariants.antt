use Rattle.ato_connections.specs.Linking.{Has}
use Rattle.ato_connections.specs.NodeLinks.{NodeLink}
use Rattle.ato_connections.specs.Outcome.{IsOf, JoinsFirst}
use Rattle.ato_connections.proofs.joining.first_clash.Given as goal

abbrev pub invariant-loop-number : goal.invariant-loop-number
invariant-loop-number l = IsOf l.given l.tree → ((link : NodeLink) → Has l.initial.links link → ⊥) → JoinsFirst l.given l.tree l.number l.links
