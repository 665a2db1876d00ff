use Rattle.std.proofs.Common.{◌≡◌, ◌∷◌, ◌-◌}
use Rattle.ato_base.specs.declared.keywords.Mark.TheVariants as marks
use Rattle.ato_parser.specs.Input.{ended, endings, one}
use Rattle.ato_parser.specs.Kinds.{integer_of}
use Rattle.ato_parser.specs.Reading as spec
use Rattle.ato_parser.proofs.TurnLemmas.{rest_of}
use Rattle.ato_parser.proofs.paths.steps.Given as goal

abbrev pub invariant-loop-turn : goal.invariant-loop-turn
invariant-loop-turn l = record {
  begins : l.steps ≡ l.fn.first ∷ rest_of l.steps;
  same : ended marks.Dot spec.is_name spec.name (one integer_of) l.fn.tokens ≡ endings marks.Dot spec.is_name spec.name (one integer_of) (l._turn-end - l._turn) (rest_of l.steps) l.tokens;
}
