use Rattle.ato_files.specs.Imports.{item_imports}
use Rattle.ato_files.specs.Finding.{is_of}
use Rattle.ato_files.proofs.FindLemmas.{found_here, found_later}
use Rattle.ato_files.proofs.first_import.in_items.Goals as goal

pub returns-in-Some : goal.returns-in-Some
returns-in-Some c = found_here (is_of c.args.name.0) item_imports c.args.items.now c.loop-item.item-index c.item-item.result c.loop-item-test.true c.item-item.is c.loop-item.invariant c.in-Some.import c.in-Some.ensures

pub loop-item-preserved : goal.loop-item-preserved
loop-item-preserved c = found_later (is_of c.args.name.0) item_imports c.args.items.now c.loop-item.item-index c.item-item.result c.loop-item-test.true c.item-item.is c.loop-item.invariant c.in_default.ensures
