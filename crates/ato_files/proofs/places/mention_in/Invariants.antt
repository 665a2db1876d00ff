use Rattle.std.proofs.Common.{◌≡◌, drop}
use Rattle.ato_files.specs.Loading.{mention_in}
use Rattle.ato_files.proofs.places.mention_in.Given as goal

abbrev pub invariant-loop-text : goal.invariant-loop-text
invariant-loop-text l = mention_in l.name l.bytes l.texts ≡ mention_in l.name l.bytes (drop l.text-index l.texts)
