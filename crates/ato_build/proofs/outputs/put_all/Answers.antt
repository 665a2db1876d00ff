use Rattle.std.proofs.Common.{◌∙◌}
use Rattle.std.proofs.lemmas.Iterator.Adapters.{YieldsList-from_vec}
use Rattle.std.proofs.lemmas.Iterator.Consumers.{YieldsList-so_far, YieldsList-turn}
use Rattle.ato_build.proofs.OutputLemmas.{puts_more, puts_stop, told_files, count_stays}
use Rattle.ato_build.proofs.outputs.put_all.Goals as goal

pub returns-in-Err-clause-puts : goal.returns-in-Err-clause-puts
returns-in-Err-clause-puts g c =
    let e = YieldsList-from_vec c.args.outputs.items c.into_iter-output-iterator.ensures.into_iter_gives.0 (c.into_iter-output-iterator.ensures.into_iter_gives.1 ∙ c.args.outputs.ok.0) in
    puts_stop _ _ _ c.args.outputs.items c.loop-output.yielded c.in-Some.output _ c.in-Err.error _ _ c.as_str.ensures c.as_slice.ensures
    (told_files c.args.outputs.items c.loop-output.yielded c.in-Some.output (YieldsList-so_far e c.loop-output.yielded c.loop-output.output-iterator c.loop-output.yielded_by)
    (YieldsList-turn e c.loop-output.yielded c.loop-output.output-iterator c.loop-output.yielded_by c.next.result c.next.new.self c.in-Some.output c.in-Some.is c.next.ensures.steps))
    c.loop-output.invariant.put c.in-Err.ensures.told

pub loop-output-preserved : goal.loop-output-preserved
loop-output-preserved g c = record {
  put = puts_more _ _ _ c.loop-output.yielded c.in-Some.output _ _ c.as_str.ensures c.as_slice.ensures c.loop-output.invariant.put c.in-Ok.ensures.told;
  count = count_stays _ _ _ c.in-Ok.ensures.faults (λ p. let bad : ⊥ = cc p in bad) ∙ c.loop-output.invariant.count;
}
