use Rattle.std.proofs.Common.{◌≡◌, List, Option, Some, ℕ, ap, sym, subst, ◌∙◌, length, arith}
use Rattle.std.specs.Prelude.{slice_get, MatchOption}
use Rattle.std.proofs.lemmas.Option.{none-some}
use Rattle.ato_instance_tree.specs.declared.tree.Occurrence.{Occurrence}
use Rattle.ato_instance_tree.specs.Targets.{IsReached, ReachesNone}
use Rattle.ato_instance_tree.proofs.LedLaws.{target_is, some_within}
use Rattle.ato_instance_tree.proofs.WayLaws.{target_reached}
use Rattle.ato_instance_tree.proofs.tree.Tree.target.Goals as goal

pub returns-in-Some-clause-entries : goal.returns-in-Some-clause-entries
returns-in-Some-clause-entries c = λ few.
    let same = c.as_slice-in-Some.ensures in
    c.small.ensures (λ wanted e. some_within 4294967296 c.reached.result wanted
    (c.reached.ensures.within 4294967296 (omega (arith, ap length same)) c.node_of.ensures.small) e)
    ∙ c.reached.ensures.value
    ∙ target_is c.args.program.now c.args.self.now c.args.occurrence c.args.path.now c.in-Some.at c.as_slice-in-Some.result.now c.node_of.result
    (c.in-Some.ensures ∙ ap (λ (os : List Occurrence). slice_get os c.args.occurrence) c.as_slice.ensures) same c.node_of.ensures.same

pub returns-in-Some-clause-placed : goal.returns-in-Some-clause-placed
returns-in-Some-clause-placed c = λ loaded few most name is o e.
    let same = c.as_slice-in-Some.ensures in
    let entries = c.small.ensures (λ wanted h. some_within 4294967296 c.reached.result wanted
    (c.reached.ensures.within 4294967296 (omega (arith, ap length same)) c.node_of.ensures.small) h)
    ∙ c.reached.ensures.value
    ∙ target_is c.args.program.now c.args.self.now c.args.occurrence c.args.path.now c.in-Some.at c.as_slice-in-Some.result.now c.node_of.result
    (c.in-Some.ensures ∙ ap (λ (os : List Occurrence). slice_get os c.args.occurrence) c.as_slice.ensures) same c.node_of.ensures.same in
    subst (λ (x : Option ℕ). MatchOption x (ReachesNone c.args.program.now c.args.self.now o c.args.path.now) (IsReached c.args.program.now c.args.self.now o c.args.path.now))
    (sym entries) (target_reached most c.args.program.now name c.args.self.now loaded is c.args.occurrence o c.args.path.now e)

pub returns-in-None-clause-placed : goal.returns-in-None-clause-placed
returns-in-None-clause-placed c = λ loaded few most name is o e.
    absurd (none-some o (c.in-None.ensures ∙ ap (λ (os : List Occurrence). slice_get os c.args.occurrence) c.as_slice.ensures ∙ e))
