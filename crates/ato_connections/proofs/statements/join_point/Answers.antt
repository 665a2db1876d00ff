use Rattle.ato_connections.specs.Given.{library_in}
use Rattle.ato_connections.proofs.LinkingLaws.{where_ok}
use Rattle.ato_connections.proofs.OutcomeLaws.{point_joins}
use Rattle.ato_connections.proofs.statements.join_point.Goals as goal

pub returns-in-Some : goal.returns-in-Some
returns-in-Some c =
    let g = c.args.given.now in
    where_ok c.join_ends.result (λ ends is link.
    point_joins g.program.now.files g.program.now.names g.nodes.now (library_in g) c.args.instance c.point_side.result c.end_side.result link
    c.args.point.now c.args.end.now c.in-Some.end c.in-Some.is (c.point_side.ensures is) (c.end_side.ensures is) (ends is link))
    c.join_ends.ensures
