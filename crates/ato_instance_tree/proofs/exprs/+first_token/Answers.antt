use Rattle.std.proofs.Common.{arith, ap, ◌∙◌}
use Rattle.std.proofs.lemmas.Grind.{common_steps}
use Rattle.ato_instance_tree.specs.Exprs.{expr_front}
use Rattle.ato_instance_tree.proofs.ExprLaws.{sum_front, product_front, power_front, group_front, abs_front, choice_front, path_front, literal_expr_front}
use Rattle.ato_instance_tree.proofs.exprs.+first_token.Goals as goal

pub returns-in-Sum : goal.returns-in-Sum
returns-in-Sum t c = let s = c.in-Sum in let whole = ap expr_front s.is ∙ sum_front s.first s.field-1 s.field-2 in grind (arith, common_steps, whole)

pub returns-in-Product : goal.returns-in-Product
returns-in-Product t c = let s = c.in-Product in let whole = ap expr_front s.is ∙ product_front s.first s.field-1 s.field-2 in grind (arith, common_steps, whole)

pub returns-in-Power : goal.returns-in-Power
returns-in-Power t c = let s = c.in-Power in let whole = ap expr_front s.is ∙ power_front s.base s.field-1 s.field-2 in grind (arith, common_steps, whole)

pub returns-in-Group : goal.returns-in-Group
returns-in-Group t c = let s = c.in-Group in let whole = ap expr_front s.is ∙ group_front s.field-0 s.at in grind (arith, common_steps, whole)

pub returns-in-Abs : goal.returns-in-Abs
returns-in-Abs t c = let s = c.in-Abs in let whole = ap expr_front s.is ∙ abs_front s.field-0 s.at in grind (arith, common_steps, whole)

pub returns-in-Choice : goal.returns-in-Choice
returns-in-Choice t c = let s = c.in-Choice in let whole = ap expr_front s.is ∙ choice_front s.field-0 s.field-1 s.field-2 s.at in grind (arith, common_steps, whole)

pub returns-in-Path : goal.returns-in-Path
returns-in-Path t c = let s = c.in-Path in let whole = ap expr_front s.is ∙ path_front s.path in grind (arith, common_steps, whole)

pub returns-in-Literal : goal.returns-in-Literal
returns-in-Literal t c = let s = c.in-Literal in let whole = ap expr_front s.is ∙ literal_expr_front s.literal s.field-1 in grind (arith, common_steps, whole)
