use Rattle.std.proofs.Common.{take}
use Rattle.ato_files.proofs.FileNameLaws.{Noting}
use Rattle.ato_files.proofs.file_names.note_repeated.Given as goal

abbrev pub invariant-loop-name : goal.invariant-loop-name
invariant-loop-name l = Noting l.fn.least l.seen l.least (take l.name-index l.names)
