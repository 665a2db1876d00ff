use Rattle.std.proofs.Common.{arith, ap, ◌∙◌}
use Rattle.std.proofs.lemmas.List.{map-append}
use Rattle.std.proofs.lemmas.Grind.{common_steps}
use Rattle.ato_instance_tree.specs.Exprs.{expr_paths}
use Rattle.ato_instance_tree.proofs.ExprLaws.{sum_paths, product_paths, power_paths, group_paths, abs_paths, choice_paths, path_paths, literal_paths}
use Rattle.ato_instance_tree.proofs.exprs.+paths.Goals as goal

pub paths-returns-in_ok-paths-in-Sum : goal.paths-returns-in_ok-paths-in-Sum
paths-returns-in_ok-paths-in-Sum t c =
    let s = c.in-Sum in
    let whole = ap expr_paths s.is ∙ sum_paths s.first s.more s.field-2 in
    grind (arith, common_steps, whole)

pub paths-returns-in_ok-paths-in-Product : goal.paths-returns-in_ok-paths-in-Product
paths-returns-in_ok-paths-in-Product t c =
    let s = c.in-Product in
    let whole = ap expr_paths s.is ∙ product_paths s.first s.more s.field-2 in
    grind (arith, common_steps, whole)

pub paths-returns-in-Power : goal.paths-returns-in-Power
paths-returns-in-Power t c =
    let s = c.in-Power in
    let whole = ap expr_paths s.is ∙ power_paths s.base s.field-1 s.field-2 in
    grind (arith, common_steps, whole)

pub paths-returns-in-Group : goal.paths-returns-in-Group
paths-returns-in-Group t c =
    let s = c.in-Group in
    let whole = ap expr_paths s.is ∙ group_paths s.inner s.field-1 in
    grind (arith, common_steps, whole)

pub paths-returns-in-Abs : goal.paths-returns-in-Abs
paths-returns-in-Abs t c =
    let s = c.in-Abs in
    let whole = ap expr_paths s.is ∙ abs_paths s.inner s.field-1 in
    grind (arith, common_steps, whole)

pub paths-returns-in_ok-paths-in-Choice : goal.paths-returns-in_ok-paths-in-Choice
paths-returns-in_ok-paths-in-Choice t c =
    let s = c.in-Choice in
    let whole = ap expr_paths s.is ∙ choice_paths s.field-0 s.first s.more s.field-3 in
    grind (arith, common_steps, whole)

pub paths-returns-in-Path : goal.paths-returns-in-Path
paths-returns-in-Path t c =
    let s = c.in-Path in
    let whole = ap expr_paths s.is ∙ path_paths s.path in
    grind (arith, common_steps, map-append, whole)

pub paths-returns-in-Literal : goal.paths-returns-in-Literal
paths-returns-in-Literal t c =
    let s = c.in-Literal in
    let whole = ap expr_paths s.is ∙ literal_paths s.field-0 s.field-1 in
    grind (arith, common_steps, whole)
