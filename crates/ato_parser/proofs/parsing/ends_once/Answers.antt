use Rattle.std.proofs.Common.{rules, arith, ◌-◌, length, nat_eq, false}
use Rattle.std.proofs.lemmas.Grind.{common_steps}
use Rattle.ato_parser.proofs.EndLaws.{ends_as}
use Rattle.ato_parser.proofs.parsing.ends_once.Goals as goal

pub returns-then-is_end : goal.returns-then-is_end
returns-then-is_end c = ends_as (nat_eq (length c.args.tokens.now - c.loop-place.place) 1) c.args.tokens.now (first_of (search (rules, c.loop-place.invariant), grind (arith, common_steps, c.loop-place.invariant)))

pub returns : goal.returns
returns c = ends_as false c.args.tokens.now (first_of (search (rules, c.loop-place.invariant), grind (arith, common_steps, c.loop-place.invariant)))
