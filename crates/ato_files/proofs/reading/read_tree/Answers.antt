use Rattle.std.proofs.Common.{sym, subst}
use Rattle.ato_lexer.specs.Tokens.{AreTokens}
use Rattle.ato_parser.specs.Tokens.{EndsOnce}
use Rattle.ato_files.proofs.LexedEnds.{lexed_ends}
use Rattle.ato_files.proofs.ReadingLaws.{not_lexed, parsed_or_not}
use Rattle.ato_files.proofs.reading.read_tree.Goals as goal

pub parse-requires : goal.parse-requires
parse-requires c = subst EndsOnce (sym c.as_slice.ensures) (lexed_ends c.args.bytes.now c.args.file c.args.names.now c.lex.new.names c.in-Ok.tokens c.in-Ok.ensures.tokens)

pub returns-in-Err-clause-refused : goal.returns-in-Err-clause-refused
returns-in-Err-clause-refused c = not_lexed c.args.bytes.now c.args.file c.args.names.now c.in-Err.refusal c.in-Err.ensures.refused

pub returns-in-Ok-clause-refused : goal.returns-in-Ok-clause-refused
returns-in-Ok-clause-refused c =
    parsed_or_not c.args.bytes.now c.args.file c.args.names.now c.lex.new.names c.as_slice.result.now c.parse.result
    (subst (AreTokens c.args.bytes.now c.args.file c.args.names.now c.lex.new.names) (sym c.as_slice.ensures) c.in-Ok.ensures.tokens) c.parse.ensures.refused
