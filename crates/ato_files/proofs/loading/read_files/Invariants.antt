use Rattle.std.proofs.Common.{◌≡◌, map}
use Rattle.ato_files.specs.LoadSteps.{as_source}
use Rattle.ato_files.proofs.loading.read_files.Given as goal

abbrev pub invariant-loop-file : goal.invariant-loop-file
invariant-loop-file l = l.sources ≡ map as_source l.yielded
