use Rattle.std.proofs.Common.{◌≡◌, drop, reverse}
use Rattle.ato_files.proofs.InfoLemmas.{AreInfos}
use Rattle.ato_files.proofs.infos.block_infos.Given as goal

abbrev pub invariant-loop-place : goal.invariant-loop-place
invariant-loop-place l = record {
  rest : l.rest.items ≡ reverse (drop l.place-index l.fn.lineages);
  blocks : AreInfos l.places l.fn.lineages l.place-index l.blocks;
}
