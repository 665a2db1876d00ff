use Rattle.std.proofs.Common.{◌≡◌, ◌∙◌, Bool, true, false, refl}
use Rattle.std.specs.Prelude.{◌||◌}
use Rattle.std.proofs.Common.{cond}
use Rattle.std.specs.Str.{bytes_eq}
use Rattle.ato_first_catalog.specs.Parts.{has_part}
use Rattle.ato_first_catalog.proofs.parts.note_part.Goals as goal

cond-true : (a b : Bool) → cond a true b ≡ (b || a)
cond-true true true = refl
cond-true true false = refl
cond-true false true = refl
cond-true false false = refl

pub returns-clause-parts : goal.returns-clause-parts
returns-clause-parts c = λ other. c.in_ok-insert.ensures.updates.0 (record { ref_ptr = (0, 0); now = other }) ∙ cond-true (bytes_eq c.args.part.now other) (has_part c.args.parts.now other)
