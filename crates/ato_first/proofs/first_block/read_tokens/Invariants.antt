use Rattle.std.proofs.Common.{◌≡◌, [], take}
use Rattle.ato_first.specs.FirstBlock.{between, tokens_read}
use Rattle.ato_first.proofs.first_block.read_tokens.Given as goal

abbrev pub invariant-loop-token : goal.invariant-loop-token
invariant-loop-token l = l.reading ≡ tokens_read l.source (between []) (take l.token-index l.tokens)
