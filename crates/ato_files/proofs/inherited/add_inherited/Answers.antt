use Rattle.std.proofs.Common.{ap, ◌∙◌}
use Rattle.std.specs.Prelude.{[]}
use Rattle.std.proofs.lemmas.Result.{on_ok_weaker}
use Rattle.ato_files.specs.NumberSet.{has}
use Rattle.ato_files.proofs.InheritedLaws.{inherited_declared}
use Rattle.ato_files.proofs.inherited.add_inherited.Goals as goal

pub returns : goal.returns
returns c = on_ok_weaker c.add_others.result
    (λ h files are members none. inherited_declared files c.add_others.new.clashes c.args.members.now c.args.block c.as_slice.result.now members
    (λ b. ap (λ l. has l b) c.as_slice.ensures ∙ c.in_ok-family.ensures files are b) (h [] none))
    c.add_others.ensures
