use Rattle.ato_build.proofs.EntryLemmas.{block_given, line_stands}
use Rattle.ato_build.proofs.entry.block_of.Goals as goal

pub returns-in-None-clause-gives : goal.returns-in-None-clause-gives
returns-in-None-clause-gives c =
    block_given c.args.project.now c.args.source.now c.in_ok-block.field-0 c.in-Some.block c.in_ok-block.ensures c.in-Some.is
    c.as_str.result.now c.as_str-2.result.now c.ne.result c.as_str.ensures c.as_str-2.ensures c.ne.ensures c.if-ne.false c.in_ok-first_fault.field-0 c.in-None.is c.in_ok-first_fault.ensures

pub returns-clause-refused : goal.returns-clause-refused
returns-clause-refused c =
    line_stands c.args.project.now c.args.source.now c.in_ok-block.field-0 c.in-Some.block c.in_ok-block.ensures c.in-Some.is
    c.as_str.result.now c.as_str-2.result.now c.ne.result c.as_str.ensures c.as_str-2.ensures c.ne.ensures c.if-ne.false c.in-Some-2.fault c.in_ok-first_fault.field-0 c.in-Some-2.is c.in_ok-first_fault.ensures
