use Rattle.std.proofs.Common.{◌≡◌, ◌+◌, subst, sym, ap, ◌∙◌, arith, map, drop, [], List}
use Rattle.std.proofs.lemmas.List.{drop_all}
use Rattle.ato_ast.specs.declared.names.Named.{Named}
use Rattle.ato_elab.specs.declared.changes.Change.{Change}
use Rattle.ato_elab.specs.Changes.{seen}
use Rattle.ato_elab.specs.Waiting.{ends}
use Rattle.ato_elab.specs.Settling.{LeadsTo, StopsAt}
use Rattle.ato_elab.proofs.SettleLemmas.{ends_from, leads_end}
use Rattle.ato_elab.proofs.settling.settle.Goals as goal

pub returns-clause-leads : goal.returns-clause-leads
returns-clause-leads c = λ are.
    let files = c.args.program.now.files in
    let cs = c.args.changes.now in
    let none : drop c.loop-change.change-index cs ≡ [] = drop_all c.loop-change.change-index cs (omega arith) in
    c.loop-change.invariant.0 c.loop-change.so_far are
    (subst (λ (xs : List Change). LeadsTo files c.loop-change.so_far (ends (map seen xs)) c.loop-change.so_far) (sym none) (leads_end files c.loop-change.so_far))

pub returns-in-Err-clause-stray : goal.returns-in-Err-clause-stray
returns-in-Err-clause-stray c = λ are.
    let files = c.args.program.now.files in
    let cs = c.args.changes.now in
    let i = c.loop-change.change-index in
    c.loop-change.invariant.1 c.in-Err.at are
    (subst (λ rs. StopsAt files c.loop-change.so_far rs c.in-Err.at) (sym (ends_from cs i _ (omega arith)))
    (c.in-Err.ensures.strays are (ends (map seen (drop (i + 1) cs)))))

pub loop-change-preserved : goal.loop-change-preserved
loop-change-preserved c =
    let files = c.args.program.now.files in
    let cs = c.args.changes.now in
    let i = c.loop-change.change-index in
    let more = ends (map seen (drop (i + 1) cs)) in (
      λ to are leads. c.loop-change.invariant.0 to are
          (subst (λ rs. LeadsTo files c.loop-change.so_far rs to) (sym (ends_from cs i _ (omega arith))) ((c.in-Ok.ensures.passes are more).0 to leads)),
      λ at are stops. c.loop-change.invariant.1 at are
          (subst (λ rs. StopsAt files c.loop-change.so_far rs at) (sym (ends_from cs i _ (omega arith))) ((c.in-Ok.ensures.passes are more).1 at stops)),
    )
