use Rattle.ato_outside.specs.declared.shelf.ShelfError.TheVariants as errors
use Rattle.ato_files.proofs.FetchLaws.{missing_call, long_call, whole_call, error_call}
use Rattle.ato_files.proofs.fetching.ask.Goals as goal

pub returns-in-Missing-clause-asked : goal.returns-in-Missing-clause-asked
returns-in-Missing-clause-asked g c =
    missing_call g.S.Shelf.gets c.args.shelf.now c.get.new.self c.args.name.now c.get.new.into.items c.in-Ok.got c.in-Ok.ensures.room c.in-Ok.ensures.asked c.in-Missing.is

pub returns-in-TooLong-clause-asked : goal.returns-in-TooLong-clause-asked
returns-in-TooLong-clause-asked g c =
    long_call g.S.Shelf.gets c.args.shelf.now c.get.new.self c.args.name.now c.get.new.into.items c.in-Ok.got c.in-Ok.ensures.room c.in-Ok.ensures.asked c.in-TooLong.is

pub returns-in-Ok-clause-asked : goal.returns-in-Ok-clause-asked
returns-in-Ok-clause-asked g c =
    whole_call g.S.Shelf.gets c.args.shelf.now c.get.new.self c.args.name.now c.get.new.into.items c.in-Ok.got c.in-Ok.ensures.room c.in-Ok.ensures.asked c.from_vec.result c.in-Whole.is c.from_vec.ensures

pub returns-in-Failed-clause-asked : goal.returns-in-Failed-clause-asked
returns-in-Failed-clause-asked g c =
    error_call g.S.Shelf.gets c.args.shelf.now c.get.new.self c.args.name.now c.get.new.into.items c.in-Err.error errors.Failed c.in-Err.ensures.room c.in-Err.ensures.asked c.in-Failed.is

pub returns-clause-asked : goal.returns-clause-asked
returns-clause-asked g c =
    error_call g.S.Shelf.gets c.args.shelf.now c.get.new.self c.args.name.now c.get.new.into.items c.in-Err.error errors.NoMemory c.in-Err.ensures.room c.in-Err.ensures.asked c.in-NoMemory.is
