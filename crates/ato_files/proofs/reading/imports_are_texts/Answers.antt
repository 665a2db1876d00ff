use Rattle.ato_files.proofs.MentionLaws.{mentions_are_texts}
use Rattle.ato_files.proofs.reading.imports_are_texts.Goals as goal

pub returns : goal.returns
returns c = λ bytes file old new tree has.
    mentions_are_texts (record { slices = c.pieces_are_slices.ensures; cut = c.pieces_are_longest.ensures.cut; tokens = c.tokens_are_pieces.ensures })
    bytes file old new has.tokens tree has.lexed has.parsed
