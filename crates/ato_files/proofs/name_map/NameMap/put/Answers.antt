use Rattle.std.proofs.Common.{sym}
use Rattle.indexmap.specs.IndexMap.{get}
use Rattle.ato_files.specs.NameMaps.{same_key}
use Rattle.ato_files.proofs.NameMapLemmas.{first_kept, first_put}
use Rattle.ato_files.proofs.name_map.NameMap.put.Goals as goal

pub returns-then-contains_key : goal.returns-then-contains_key
returns-then-contains_key c = λ pairs are file name.
    first_kept (get same_key c.args.self.now.meant) pairs (c.args.file, c.args.name) c.args.block (λ q. are q.0 q.1) (sym c.if-contains_key.ensures) (file, name)

pub returns : goal.returns
returns c = λ pairs are file name.
    first_put (get same_key c.args.self.now.meant) pairs (c.args.file, c.args.name) c.args.block (λ q. are q.0 q.1) (get same_key c.insert.new.self) (sym c.if-contains_key.ensures)
    c.in_ok-insert.ensures.updates.0 (file, name)
