use Rattle.std.proofs.Common.{arith, ap, ◌∙◌, sym, subst, []}
use Rattle.std.specs.Prelude.{All}
use Rattle.ato_first.proofs.FirstFormLaws.{file_ascii}
use Rattle.ato_first.specs.FirstBlock.{IsPlaced, between, tokens_read}
use Rattle.ato_first.proofs.FirstBlockLemmas.{tokens_within, body_within, read_is}
use Rattle.ato_first.proofs.first_block.read_block.Goals as goal

pub spelled_text-requires-clause-ascii : goal.spelled_text-requires-clause-ascii
spelled_text-requires-clause-ascii c = file_ascii c.args.source.now c.requires.2 c.requires.3.is

pub spelled_text-requires-clause-within : goal.spelled_text-requires-clause-within
spelled_text-requires-clause-within c = (tokens_within c.args.source.now c.requires.0 c.requires.1 c.args.tokens.now c.requires.2 c.requires.3 1 _ (omega arith)).place

pub read_tokens-requires-clause-ascii : goal.read_tokens-requires-clause-ascii
read_tokens-requires-clause-ascii c = file_ascii c.args.source.now c.requires.2 c.requires.3.is

pub read_tokens-requires-clause-placed : goal.read_tokens-requires-clause-placed
read_tokens-requires-clause-placed c =
    subst (All (IsPlaced c.args.source.now)) (sym c.body_tokens.ensures) (body_within c.args.source.now c.requires.0 c.requires.1 c.args.tokens.now c.requires.2 c.requires.3)

pub returns : goal.returns
returns c =
    read_is c.args.source.now c.requires.0 c.requires.1 c.args.tokens.now c.requires.2 c.in_ok-name.name c.in_ok-lines.field-0 _
    c.requires.3 (omega arith) c.in_ok-name.ensures (c.in_ok-lines.ensures ∙ ap (tokens_read c.args.source.now (between [])) c.body_tokens.ensures)
