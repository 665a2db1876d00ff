use Rattle.std.proofs.Common.{refl}
use Rattle.ato_units.proofs.literals.quantity_of.Goals as goal

pub returns-in-Ok : goal.returns-in-Ok
returns-in-Ok c = record {
  first = _;
  second = _;
  given = _;
  first_is = c.written_part-first.ensures;
  second_is = c.written_part-second.ensures;
  gives = c.in-Ok.ensures;
  answer_is = refl;
}

pub returns-in-Err : goal.returns-in-Err
returns-in-Err c = record {
  first = _;
  second = _;
  given = _;
  first_is = c.written_part-first.ensures;
  second_is = c.written_part-second.ensures;
  gives = c.in-Err.ensures;
  answer_is = refl;
}
