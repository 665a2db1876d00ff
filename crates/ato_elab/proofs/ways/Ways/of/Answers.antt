use Rattle.std.proofs.Common.{subst, sym, map, []}
use Rattle.std.specs.List.{flat_map}
use Rattle.ato_instance_tree.specs.Kept.{located_of}
use Rattle.ato_elab.specs.declared.news.News.{News}
use Rattle.ato_elab.specs.Waiting.{waits_in}
use Rattle.ato_elab.specs.Ways.{AreNews}
use Rattle.ato_elab.proofs.ways.Ways.of.Goals as goal

pub returns : goal.returns
returns c = λ are means.
    let files = c.args.program.now.files in
    let empty = c.new-ways.ensures files in
    record {
      news = subst (λ (n : News). AreNews files (map located_of c.args.statements.now) n) (sym c.in_ok-pass.ensures.news) (c.in_ok-read_all.ensures.news are means [] empty.news);
      changes = c.in_ok-pass.ensures.changes (flat_map (waits_in files) (map located_of c.args.statements.now)) (c.in_ok-read_all.ensures.changes are means [] empty.changes);
    }
