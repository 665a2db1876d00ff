use Rattle.std.proofs.Common.{sym}
use Rattle.std.specs.Prelude.{codes}
use Rattle.ato_connections.proofs.OwnBlockLaws.{away, here_is, kept_at}
use Rattle.ato_connections.proofs.library.electrical.Goals as goal

pub returns-then-info-eq0 : goal.returns-then-info-eq0
returns-then-info-eq0 c = λ blocks.
    let p = c.args.program.now in
    let at = kept_at p.blocks c.as_slice.result.now c.in_ok-block.block c.in_ok-info.info.now c.as_slice.ensures c.in_ok-info.ensures.lookup.3 in
    here_is p 0 (codes "Electrical") blocks c.in_ok-block.block c.in_ok-info.info.now (sym (c.in_ok-block.ensures blocks)) at c.if-info-eq0.true

pub returns-else-info-eq0 : goal.returns-else-info-eq0
returns-else-info-eq0 c = λ blocks.
    let p = c.args.program.now in
    let at = kept_at p.blocks c.as_slice.result.now c.in_ok-block.block c.in_ok-info.info.now c.as_slice.ensures c.in_ok-info.ensures.lookup.3 in
    away p 0 (codes "Electrical") blocks c.in_ok-block.block c.in_ok-info.info.now (sym (c.in_ok-block.ensures blocks)) at c.if-info-eq0.false
