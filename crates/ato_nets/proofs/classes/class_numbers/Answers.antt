use Rattle.std.proofs.Common.{subst, sym}
use Rattle.ato_nets.specs.Flooding.{AreMutual}
use Rattle.ato_nets.proofs.RowLemmas.{mutual_rows}
use Rattle.ato_nets.proofs.FloodLemmas.{classes_written}
use Rattle.ato_nets.proofs.classes.class_numbers.Goals as goal

pub number_all-requires-clause-mutual : goal.number_all-requires-clause-mutual
number_all-requires-clause-mutual c = subst AreMutual (sym c.deref.ensures.value) (mutual_rows c.in_ok-rows.ensures.rows)

pub returns : goal.returns
returns c = classes_written c.args.count c.in_ok-numbers.numbers.len c.in_ok-numbers.numbers.items c.in_ok-rows.ensures.rows c.in_ok-rows.ensures.size c.deref.ensures.value c.in_ok-number_all.ensures c.in_ok-numbers.ensures.len
