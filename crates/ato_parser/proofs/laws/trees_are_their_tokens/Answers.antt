use Rattle.ato_parser.proofs.KindsOfFiles as laws
use Rattle.ato_parser.proofs.laws.trees_are_their_tokens.Goals as goal

pub returns : goal.returns
returns c = laws.file_kinds_of
