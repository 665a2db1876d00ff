use Rattle.std.proofs.Common.{◌+◌, List, ℕ, Option, sym, subst}
use Rattle.ato_files.specs.ParentLists.{AreLineages}
use Rattle.ato_files.proofs.ClimbLemmas.{lineages_more}
use Rattle.ato_files.proofs.lineages.lineages.Goals as goal

pub loop-number-preserved : goal.loop-number-preserved
loop-number-preserved c = λ files are.
    subst (λ (ls : List (Option (List ℕ))). AreLineages files (c.loop-number.number + 1) ls) (sym c.in_ok-push.ensures.ok)
    (lineages_more files c.loop-number.number c.loop-number.lineages c.in_ok-lineage_if.field-0 (c.loop-number.invariant files are) (c.in_ok-lineage_if.ensures files are))
