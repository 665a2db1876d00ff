use Rattle.std.proofs.Common.{refl}
use Rattle.ato_netlists.proofs.RowLaws.{row_law}
use Rattle.ato_netlists.proofs.rows.part_row.Goals as goal

pub returns : goal.returns
returns c = λ tree entry path s same known is. row_law c.args.ground.now.program.now tree entry s c.args.ground.now.nodes.now same c.args.ground.now.strings.now known path c.args.part is
    c.args.designator c.in_ok-path.path c.in_ok-kind_name.kind_name c.in_ok-kind.kind c.in_ok-picked.picked c.in_ok-package.package c.in_ok-footprint.footprint c.new-price.result
    (c.in_ok-path.ensures c.args.ground.now.program.now tree entry path s refl same is.at) (c.in_ok-kind_name.ensures s.loaded.is.blocks)
    c.in_ok-kind.ensures c.in_ok-picked.ensures c.in_ok-package.ensures c.in_ok-footprint.ensures c.new-price.ensures
