use Rattle.ato_connections.specs.Given.{library_in}
use Rattle.ato_connections.proofs.LinkingLaws.{ends_joined, where_ok}
use Rattle.ato_connections.proofs.links.Links.join_ends.Goals as goal

pub returns : goal.returns
returns c = where_ok c.join_pairs.result (λ pairs is link.
    ends_joined c.args.given.now.program.now.files c.args.given.now.program.now.names c.args.given.now.nodes.now
    (library_in c.args.given.now) c.args.self.now c.join_sides.new.self c.join_pairs.new.self c.new-below.result c.join_sides.new.below c.args.one c.args.other
    c.beside.result c.beside-2.result _ link c.new-below.ensures is.blocks.count (c.beside.ensures is) (c.beside-2.ensures is)
    c.in_ok-join_sides.ensures (pairs is link))
    c.join_pairs.ensures
