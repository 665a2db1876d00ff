use Rattle.std.proofs.Common.{◌≡◌, Bool, true, false, not, refl, sym, ◌∙◌, true≢false}
use Rattle.ato_files.proofs.ClimbLemmas.{some_lineage, no_lineage}
use Rattle.ato_files.proofs.lineages.lineage_if.Goals as goal

no_end : (b : Bool) → false ≡ not b → b ≡ true
no_end true e = refl
no_end false e = absurd (true≢false (sym e))

pub returns-in_ok-lineage : goal.returns-in_ok-lineage
returns-in_ok-lineage c = λ files are. some_lineage c.args.parents.now c.args.number c.in_ok-lineage.field-0 files are (c.in_ok-lineage.ensures files are)

pub returns-else-ends : goal.returns-else-ends
returns-else-ends c = λ files are. no_lineage c.args.parents.now c.args.number files are (no_end _ (sym c.if-ends.false ∙ c.requires.ends))
