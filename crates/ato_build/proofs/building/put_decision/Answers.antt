use Rattle.std.specs.Prelude.{string_bytes}
use Rattle.ato_build.proofs.BuildLemmas.{all_put, put_stopped}
use Rattle.ato_build.proofs.building.put_decision.Goals as goal

pub returns-in-None-clause-means : goal.returns-in-None-clause-means
returns-in-None-clause-means g c = λ words held decides.
    all_put words held (g.T.Tray.files c.args.tray.now) (g.T.Tray.files c.put_all.new.tray) c.args.decision.status c.args.decision.outputs.items (string_bytes c.args.decision.summary) c.requires decides c.in-None.ensures.puts

pub returns-in-Some-clause-means : goal.returns-in-Some-clause-means
returns-in-Some-clause-means g c = λ words held decides.
    put_stopped words held (g.T.Tray.files c.args.tray.now) (g.T.Tray.files c.put_all.new.tray) c.args.decision.status c.args.decision.outputs.items (string_bytes c.args.decision.summary) c.in-Some.stop c.stopped.result decides
    c.in-Some.ensures.puts c.stopped.ensures
