use Rattle.std.proofs.Common.{◌≡◌, Some, None, sym, ◌∙◌, arith}
use Rattle.ato_frac.proofs.Readable.{answers}
use Rattle.ato_frac.proofs.Grammar.{read_sound, read_complete, fraction_digits, exponent_are_digits, number_length}
use Rattle.ato_frac.proofs.fraction.Frac.from_decimal.Goals as goal

some_not_none : {A : Type 0} {x : A} → Some x ≡ None → ⊥
some_not_none e = cc

pub returns-in_default : goal.returns-in_default
returns-in_default c =
    λ parts n.
    let read = read_complete c.args.text.now parts n in
    absurd (some_not_none (sym read ∙ c.in_default.ensures))

pub fraction_of-requires-clause-whole : goal.fraction_of-requires-clause-whole
fraction_of-requires-clause-whole c =
    let n = read_sound c.args.text.now _ c.in-Some.ensures in n.whole.all

pub fraction_of-requires-clause-fraction : goal.fraction_of-requires-clause-fraction
fraction_of-requires-clause-fraction c =
    let n = read_sound c.args.text.now _ c.in-Some.ensures in fraction_digits n.fraction_text _ n.fraction

pub fraction_of-requires-clause-exponent : goal.fraction_of-requires-clause-exponent
fraction_of-requires-clause-exponent c =
    let n = read_sound c.args.text.now _ c.in-Some.ensures in exponent_are_digits n.exponent_text _ _ n.exponent

pub fraction_of-requires-clause-length : goal.fraction_of-requires-clause-length
fraction_of-requires-clause-length c =
    let n = number_length c.args.text.now _ (read_sound c.args.text.now _ c.in-Some.ensures) in
    omega arith

pub returns : goal.returns
returns c =
    let n = read_sound c.args.text.now _ c.in-Some.ensures in
    rw c.ok_or.ensures.value (answers c.args.text.now _ c.fraction_of.result n c.fraction_of.ensures)
