use Rattle.std.proofs.Common.{◌≡◌, take}
use Rattle.ato_words.specs.Words.{texts}
use Rattle.ato_words.specs.WordLines.{line_of}
use Rattle.ato_words.proofs.word_line.read_words.Given as goal

abbrev pub invariant-loop-word : goal.invariant-loop-word
invariant-loop-word l = l.line ≡ line_of (texts (take l.word-index l.words))
