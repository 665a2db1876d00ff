use Rattle.ato_parser.proofs.ParseLaws as laws
use Rattle.ato_parser.proofs.parsing.parse.Goals as goal

pub returns-clause-kinds : goal.returns-clause-kinds
returns-clause-kinds c = laws.kinds_given c.args.tokens.now c.answer.result c.answer.ensures.tree

pub returns-clause-tree_given : goal.returns-clause-tree_given
returns-clause-tree_given c = laws.tree_given c.args.tokens.now c.answer.result c.answer.ensures.tree c.answer.ensures.refused

pub returns-clause-fault_given : goal.returns-clause-fault_given
returns-clause-fault_given c = laws.fault_given c.args.tokens.now c.answer.result c.answer.ensures.tree c.answer.ensures.refused
