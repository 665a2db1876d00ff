use Rattle.std.proofs.Common.{subst, arith, ◌++◌, map, take}
use Rattle.std.specs.List.{flat_map}
use Rattle.ato_instance_tree.specs.Kept.{located_of}
use Rattle.ato_elab.specs.Changes.{AreChanges}
use Rattle.ato_elab.specs.Waiting.{waits_in}
use Rattle.ato_elab.specs.Ways.{AreNews}
use Rattle.ato_elab.proofs.WayLemmas.{flat_take, map_take}
use Rattle.ato_elab.proofs.ways.Ways.read_all.Goals as goal

pub loop-at-preserved : goal.loop-at-preserved
loop-at-preserved c =
    let files = c.args.program.now.files in
    let xs = c.args.statements.now in
    let i = c.loop-at.at-index in (
      λ are means ls was. subst (λ zs. AreNews files zs c.read.new.self.news) (map_take located_of ls xs i c.at-item.result (omega arith) c.at-item.is)
          (c.in_ok-read.ensures.news are means (ls ++ map located_of (take i xs)) (c.loop-at.invariant.0 are means ls was)),
      λ are means ws was. subst (λ zs. AreChanges zs c.read.new.self.changes) (flat_take (waits_in files) located_of ws xs i c.at-item.result (omega arith) c.at-item.is)
          (c.in_ok-read.ensures.changes are means (ws ++ flat_map (waits_in files) (map located_of (take i xs))) (c.loop-at.invariant.1 are means ws was)),
    )
