-- What putting items does to tokens and to the table of names, and why it stops.
use Rattle.std.specs.Prelude.{◌≡◌, ℕ, ◌+◌, ◌-◌, ◌≤◌, ◌<◌, List, ◌∷◌, ◌++◌, length, IsUtf8, Some, None}
use Rattle.std.specs.List.{filter_map}
use Rattle.std.specs.Str.{chars}
use Rattle.ato_base.specs.NameTable.{with_names, Extends}
use Rattle.ato_base.specs.declared.faults.Refusal.{Refusal}
use Rattle.ato_base.specs.declared.faults.Refusal.TheVariants as refusals
use Rattle.ato_base.specs.declared.places.FileId.{FileId}
use Rattle.ato_base.specs.declared.tokens.Token.{Token}
use Rattle.ato_lexer.specs.Layout.{Item}
use Rattle.ato_lexer.specs.Lines.{Placed, bytes_len}
use Rattle.ato_lexer.specs.Pieces.{pieces_of}
use Rattle.ato_lexer.specs.Shapes.{kind_of_shape}
use Rattle.ato_lexer.specs.Tokens.{item_token, item_name, first_of}
use Rattle.ato_lexer.specs.declared.pieces.Piece.{Piece}
use Rattle.ato_lexer.specs.declared.pieces.Shape.{Shape}
use Rattle.ato_lexer.specs.declared.pieces.Shape.TheVariants as shapes

-- Items were put: none of them is a fault, their tokens stand behind the others, over the table as it is now and over each later
-- one, and the table has got their names.
pub record Puts (file : FileId) (old new : List (List ℕ)) (before after : List Token) (items : List Item) : Type 0 where
  pub sound : first_of file items ≡ None
  pub names : new ≡ with_names old (filter_map item_name items)
  pub tokens : (later : List (List ℕ)) → Extends new later → after ≡ before ++ filter_map (item_token later file) items

-- Why items were not put: the first of them that is a fault, or want of memory.
abbrev pub StopsAt : FileId → List Item → Refusal → Type 0
StopsAt file items (refusals.Fault f) = first_of file items ≡ Some f
StopsAt file items refusals.NoMemory = Unit {0}

-- a piece of this shape and text at these bytes
abbrev pub placed_as : Shape → List ℕ → ℕ → ℕ → Placed
placed_as shape text start end = record { piece = record { kind = kind_of_shape shape; text = chars text }; start = start; end = end }

-- a piece of code
abbrev pub placed_of : Piece → Placed
placed_of p = placed_as p.shape p.text.now p.at.start p.at.end

-- A string's place has room for its quotes.
abbrev pub HasQuotes : Shape → ℕ → ℕ → Type 0
HasQuotes (shapes.Str quotes) start end = start + quotes ≤ end - quotes
HasQuotes shape start end = Unit {0}

-- The piece in front of a text has this shape and is spelled by these bytes, and this follows it.
pub record IsFirst (text : List ℕ) (shape : Shape) (front rest : List ℕ) : Type 0 where
  pub pieces : pieces_of (chars text) ≡ record { kind = kind_of_shape shape; text = chars front } ∷ pieces_of (chars rest)
  pub size : bytes_len (chars front) ≡ length front
  pub bytes : length front + length rest ≡ length text
  pub some : 0 < length front
  pub utf8 : IsUtf8 rest
  pub quotes : HasQuotes shape 0 (length front)
