use Rattle.std.proofs.Common.{◌≡◌, take, drop}
use Rattle.ato_files.specs.Loading.{most_files, overflow}
use Rattle.ato_files.specs.Walks.{known_then}
use Rattle.ato_files.proofs.mentions.note.Given as goal

abbrev pub invariant-loop-text : goal.invariant-loop-text
invariant-loop-text l = record {
  known_are : l.known ≡ known_then l.bytes l.fn.known (take l.text-index l.texts);
  rest : overflow most_files l.bytes l.fn.known l.texts ≡ overflow most_files l.bytes l.known (drop l.text-index l.texts);
}
