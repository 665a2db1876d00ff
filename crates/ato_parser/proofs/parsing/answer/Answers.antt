use Rattle.ato_parser.proofs.ParseLaws.{given_tree, bad_syntax, bad_depth, some_left, is_there, refused_syntax, refused_depth}
use Rattle.ato_parser.proofs.parsing.answer.Goals as goal

pub refusal-requires-clause-some : goal.refusal-requires-clause-some
refusal-requires-clause-some c = some_left _ _ (bad_syntax c.args.tokens.now c.in-Err-Syntax.left c.in-Err-Syntax.field-0 c.in-Err-Syntax.field-0-is c.requires c.in-Err-Syntax.ensures)

pub refusal-requires-clause-there : goal.refusal-requires-clause-there
refusal-requires-clause-there c = is_there _ _ (bad_syntax c.args.tokens.now c.in-Err-Syntax.left c.in-Err-Syntax.field-0 c.in-Err-Syntax.field-0-is c.requires c.in-Err-Syntax.ensures)

pub refusal-requires-in-Err-TooDeep-clause-some : goal.refusal-requires-in-Err-TooDeep-clause-some
refusal-requires-in-Err-TooDeep-clause-some c = some_left _ _ (bad_depth c.args.tokens.now c.in-Err-TooDeep.left c.in-Err-TooDeep.field-0 c.in-Err-TooDeep.field-0-is c.requires c.in-Err-TooDeep.ensures)

pub refusal-requires-in-Err-TooDeep-clause-there : goal.refusal-requires-in-Err-TooDeep-clause-there
refusal-requires-in-Err-TooDeep-clause-there c = is_there _ _ (bad_depth c.args.tokens.now c.in-Err-TooDeep.left c.in-Err-TooDeep.field-0 c.in-Err-TooDeep.field-0-is c.requires c.in-Err-TooDeep.ensures)

pub returns-in-Ok-clause-tree : goal.returns-in-Ok-clause-tree
returns-in-Ok-clause-tree c = given_tree c.args.tokens.now c.requires c.in-Ok.file c.in-Ok.ensures

pub returns-in-Err-Syntax-clause-refused : goal.returns-in-Err-Syntax-clause-refused
returns-in-Err-Syntax-clause-refused c =
    refused_syntax c.args.tokens.now c.in-Err-Syntax.left c.refusal.result (bad_syntax c.args.tokens.now c.in-Err-Syntax.left c.in-Err-Syntax.field-0 c.in-Err-Syntax.field-0-is c.requires c.in-Err-Syntax.ensures) c.refusal.ensures

pub returns-in-Err-TooDeep-clause-refused : goal.returns-in-Err-TooDeep-clause-refused
returns-in-Err-TooDeep-clause-refused c =
    refused_depth c.args.tokens.now c.in-Err-TooDeep.left c.refusal-in-Err-TooDeep.result (bad_depth c.args.tokens.now c.in-Err-TooDeep.left c.in-Err-TooDeep.field-0 c.in-Err-TooDeep.field-0-is c.requires c.in-Err-TooDeep.ensures) c.refusal-in-Err-TooDeep.ensures
