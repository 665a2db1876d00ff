use Rattle.ato_expr.proofs.ValueLaws.{valued_below}
use Rattle.ato_expr.proofs.laws.holds_with_values.Goals as goal

pub returns : goal.returns
returns c = λ table point relation h k b. valued_below table point h b
