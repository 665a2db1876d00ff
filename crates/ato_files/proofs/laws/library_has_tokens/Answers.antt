use Rattle.ato_files.proofs.LexedLibrary as laws
use Rattle.ato_files.proofs.laws.library_has_tokens.Goals as goal

pub returns : goal.returns
returns c = laws.library_lexed
