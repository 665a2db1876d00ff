use Rattle.std.proofs.Common.{◌∙◌, ap, sym}
use Rattle.indexmap.specs.IndexMap.{get}
use Rattle.ato_elab.specs.Built.{same_key}
use Rattle.ato_elab.specs.Assigned.{chosen_of}
use Rattle.ato_elab.proofs.PickLemmas.{put_law}
use Rattle.ato_elab.proofs.assigned.Assigned.put.Goals as goal

pub returns : goal.returns
returns c = λ instance name.
    put_law (get same_key c.args.self.now.by) (get same_key c.insert.new.self) c.args.key c.args.new c.chosen_of-counts.result c.in_ok-insert.ensures.updates.0
    (c.chosen_of-counts.ensures ∙ ap (λ o. chosen_of o c.args.new) c.held.ensures) (instance, name)
