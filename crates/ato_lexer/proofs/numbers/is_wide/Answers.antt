use Rattle.std.proofs.Common.{sym, subst}
use Rattle.ato_frac.specs.Decimals.{RefusesText}
use Rattle.ato_frac.specs.declared.faults.DecimalFault.{DecimalFault}
use Rattle.ato_lexer.proofs.NumberLemmas.{no_number_fits}
use Rattle.ato_lexer.proofs.numbers.is_wide.Goals as goal

pub returns-in-BadText : goal.returns-in-BadText
returns-in-BadText c =
    sym (no_number_fits c.args.text.now c.as_bytes.result.now c.utf8.text c.as_bytes.ensures.value
    (subst (λ (f : DecimalFault). RefusesText c.as_bytes.result.now f) c.in-BadText.is c.in-Err.ensures))
