-- Readers whose value has a place that begins where it is said.
use Rattle.std.specs.Prelude.{Ok}
use Rattle.ato_base.specs.declared.places.Span.{Span}
use Rattle.ato_parser.specs.Tokens.{cover}
use Rattle.ato_parser.specs.Input.{Reader, and_then}

-- with the place from this one to the last token that is read
abbrev pub placed_from : {A : Type 0} → Span → Reader (Span → A) → Reader A
placed_from start r = λ i. and_then (r i) (λ f j. Ok (f (cover start j.last), j))
