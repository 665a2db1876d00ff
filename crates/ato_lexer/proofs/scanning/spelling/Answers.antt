use Rattle.ato_lexer.proofs.FirstPieces.{first_piece, drop_end}
use Rattle.ato_lexer.proofs.scanning.spelling.Goals as goal

pub before-requires : goal.before-requires
before-requires c = drop_end _ _ _ c.requires.behind

pub returns : goal.returns
returns c = first_piece _ _ _ _ c.utf8.text c.before-2.utf8 c.utf8.rest c.requires.kind c.requires.behind c.before-2.ensures c.requires.shorter
