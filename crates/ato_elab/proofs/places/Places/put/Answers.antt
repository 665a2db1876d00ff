use Rattle.std.proofs.Common.{sym}
use Rattle.indexmap.specs.IndexMap.{get}
use Rattle.ato_elab.specs.Built.{same_key}
use Rattle.ato_elab.proofs.PlaceLemmas.{held_kept, held_put}
use Rattle.ato_elab.proofs.places.Places.put.Goals as goal

pub returns-then-contains_key : goal.returns-then-contains_key
returns-then-contains_key c = λ instance name.
    held_kept (get same_key c.args.self.now.numbers) (c.args.instance, c.args.name) c.args.node (sym c.if-contains_key.ensures) (instance, name)

pub returns : goal.returns
returns c = λ instance name.
    held_put (get same_key c.args.self.now.numbers) (c.args.instance, c.args.name) c.args.node (get same_key c.insert.new.self) (sym c.if-contains_key.ensures)
    c.in_ok-insert.ensures.updates.0 (instance, name)
