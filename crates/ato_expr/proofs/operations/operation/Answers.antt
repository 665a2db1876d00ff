use Rattle.ato_expr.proofs.HeldLaws.{var_given, const_given, least_answers, greatest_answers}
use Rattle.ato_expr.proofs.operations.operation.Goals as goal

pub returns-in-Var : goal.returns-in-Var
returns-in-Var c =
    var_given c.args.ends.now c.args.nodes.now c.args.world.now c.args.op c.in-Var.variable c.index-world-variable.result c.in-Var.is c.requires.fits
    (c.requires.entry c.in-Var.variable c.in-Var.is) c.index-world-variable.is

pub returns-in-Const : goal.returns-in-Const
returns-in-Const c = const_given c.args.ends.now c.args.nodes.now c.args.world.now c.args.op c.in-Const.constant c.in-Const.is c.requires.fits

pub returns-in-Min : goal.returns-in-Min
returns-in-Min c = least_answers c.args.ends.now c.args.nodes.now c.args.world.now c.args.op c.chained-in-Min.result c.in-Min.is c.chained-in-Min.ensures

pub returns-in-Max : goal.returns-in-Max
returns-in-Max c = greatest_answers c.args.ends.now c.args.nodes.now c.args.world.now c.args.op c.chained-in-Max.result c.in-Max.is c.chained-in-Max.ensures
