use Rattle.std.proofs.Common.{◌≡◌, drop}
use Rattle.ato_files.specs.Loading.{first_mention}
use Rattle.ato_files.proofs.places.first_mention.Given as goal

abbrev pub invariant-loop-file : goal.invariant-loop-file
invariant-loop-file l = first_mention l.name l.files ≡ first_mention l.name (drop l.file-index l.files)
