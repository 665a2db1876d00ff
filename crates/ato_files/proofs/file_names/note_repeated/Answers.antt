use Rattle.std.proofs.Common.{arith}
use Rattle.ato_files.proofs.FileNameLaws.{noting_more}
use Rattle.ato_files.proofs.file_names.note_repeated.Goals as goal

pub loop-name-preserved : goal.loop-name-preserved
loop-name-preserved c = noting_more c.args.least.now c.loop-name.seen c.insert.new.self c.loop-name.least c.note_if.new.self c.args.names.now c.loop-name.name-index _ _
    (omega arith) c.loop-name.invariant c.contains.ensures c.note_if.ensures c.in_ok-insert.ensures.holds
