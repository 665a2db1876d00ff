use Rattle.ato_connections.specs.Given.{library_in}
use Rattle.ato_connections.proofs.LinkingLaws.{where_ok}
use Rattle.ato_connections.proofs.OutcomeLaws.{connect_joins, declared_joins}
use Rattle.ato_connections.proofs.statements.join_stmt.Goals as goal

pub returns-in-Point : goal.returns-in-Point
returns-in-Point c =
    let g = c.args.given.now in
    where_ok c.join_point.result (λ joins is link.
    declared_joins g.program.now.files g.program.now.names g.nodes.now (library_in g) c.args.instance c.args.stmt.now link _ c.in-Point.point c.in-Point.end
    c.in-Point.is (joins is link))
    c.join_point.ensures

pub returns-in-Connect : goal.returns-in-Connect
returns-in-Connect c =
    let g = c.args.given.now in
    where_ok c.join_ends.result (λ ends is link.
    connect_joins g.program.now.files g.program.now.names g.nodes.now (library_in g) c.args.instance c.path_side.result c.end_side.result
    link c.args.stmt.now _ c.in-Connect.path c.in-Connect.end c.in-Connect.is (c.path_side.ensures is) (c.end_side.ensures is) (ends is link))
    c.join_ends.ensures
