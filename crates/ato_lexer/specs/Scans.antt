-- How far a scan over the pieces of a text has come.
use Rattle.std.specs.Prelude.{◌≡◌, ℕ, ◌+◌, List, [], ◌++◌, length}
use Rattle.std.specs.Str.{chars}
use Rattle.ato_base.specs.declared.places.FileId.{FileId}
use Rattle.ato_base.specs.declared.tokens.Token.{Token}
use Rattle.ato_lexer.specs.Layout.{Item}
use Rattle.ato_lexer.specs.Lines.{placed}
use Rattle.ato_lexer.specs.Pieces.{pieces_of}
use Rattle.ato_lexer.specs.Puts.{Puts}
use Rattle.ato_lexer.specs.Walks.{scan, HasRoom}
use Rattle.ato_lexer.specs.declared.scanning.Standing.{Standing}
use Rattle.ato_lexer.specs.declared.scanning.Standing.TheVariants.{Between}

-- what the pieces of a text put that begins at a byte
abbrev pub scanned : ℕ → List ℕ → List Item
scanned start text = scan (start + length text) [] (Between 0) (placed start (pieces_of (chars text)))

-- The pieces in front are put, and the others are left, which begin at this byte.
pub record IsScanned (file : FileId) (start : ℕ) (text : List ℕ) (old new : List (List ℕ)) (tokens : List Token) (levels : List ℕ) (standing : Standing) (at : ℕ) (rest : List ℕ) : Type 0 where
  pub done : List Item
  pub puts : Puts file old new [] tokens done
  pub split : scanned start text ≡ done ++ scan (start + length text) levels standing (placed at (pieces_of (chars rest)))
  pub bytes : at + length rest ≡ start + length text
  pub room : HasRoom standing at
