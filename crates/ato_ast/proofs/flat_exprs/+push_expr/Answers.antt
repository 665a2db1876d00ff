use Rattle.std.proofs.Common.{arith, ap, ◌∙◌}
use Rattle.std.proofs.lemmas.Grind.{common_steps}
use Rattle.ato_ast.specs.ExprKinds.{expr_kinds}
use Rattle.ato_ast.proofs.ExprKindLaws.{sum_kinds, product_kinds, power_kinds, group_kinds, abs_kinds, choice_kinds}
use Rattle.ato_ast.proofs.flat_exprs.+push_expr.Goals as goal

pub push_expr-returns-in_ok-push_expr-in-Sum : goal.push_expr-returns-in_ok-push_expr-in-Sum
push_expr-returns-in_ok-push_expr-in-Sum t c =
    let s = c.in-Sum in
    let whole = ap expr_kinds s.is ∙ sum_kinds s.first s.more s.field-2 in
    grind (arith, common_steps, whole)

pub push_expr-returns-in_ok-push_expr-in-Product : goal.push_expr-returns-in_ok-push_expr-in-Product
push_expr-returns-in_ok-push_expr-in-Product t c =
    let s = c.in-Product in
    let whole = ap expr_kinds s.is ∙ product_kinds s.first s.more s.field-2 in
    grind (arith, common_steps, whole)

pub push_expr-returns-in_ok-push-in-Power : goal.push_expr-returns-in_ok-push-in-Power
push_expr-returns-in_ok-push-in-Power t c =
    let s = c.in-Power in
    let whole = ap expr_kinds s.is ∙ power_kinds s.base s.exponent s.field-2 in
    grind (arith, common_steps, whole)

pub push_expr-returns-in_ok-push_expr-in-Group : goal.push_expr-returns-in_ok-push_expr-in-Group
push_expr-returns-in_ok-push_expr-in-Group t c =
    let s = c.in-Group in
    let whole = ap expr_kinds s.is ∙ group_kinds s.inner s.field-1 in
    grind (arith, common_steps, whole)

pub push_expr-returns-in_ok-push_expr-in-Abs : goal.push_expr-returns-in_ok-push_expr-in-Abs
push_expr-returns-in_ok-push_expr-in-Abs t c =
    let s = c.in-Abs in
    let whole = ap expr_kinds s.is ∙ abs_kinds s.inner s.field-1 in
    grind (arith, common_steps, whole)

pub push_expr-returns-in_ok-push_listed-in-Choice : goal.push_expr-returns-in_ok-push_listed-in-Choice
push_expr-returns-in_ok-push_listed-in-Choice t c =
    let s = c.in-Choice in
    let whole = ap expr_kinds s.is ∙ choice_kinds s.choice s.first s.more s.field-3 in
    grind (arith, common_steps, whole)
