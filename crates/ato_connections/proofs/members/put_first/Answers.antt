use Rattle.std.proofs.Common.{sym}
use Rattle.indexmap.specs.IndexMap.{get_by}
use Rattle.ato_connections.specs.Members.{is_key}
use Rattle.ato_connections.proofs.MemberLemmas.{first_kept, first_put}
use Rattle.ato_connections.proofs.members.put_first.Goals as goal

pub returns-then-contains_key : goal.returns-then-contains_key
returns-then-contains_key c = first_kept (λ i t. get_by (is_key i t) c.args.nodes.now) c.args.key c.args.number (sym c.if-contains_key.ensures)

pub returns : goal.returns
returns c = first_put (λ i t. get_by (is_key i t) c.args.nodes.now) c.args.key c.args.number (λ i t. get_by (is_key i t) c.insert.new.self)
    (sym c.if-contains_key.ensures)
    (λ i t. c.in_ok-insert.ensures.updates.0 (i, record { ref_ptr = (0, 0); now = t }))
