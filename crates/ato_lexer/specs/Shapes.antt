-- What the shapes of code stand for.
use Rattle.std.specs.Prelude.{ℕ, List}
use denote.Ref.{Bor}
use Rattle.std.specs.Str.{chars}
use Rattle.ato_lexer.specs.declared.pieces.Shape.{Shape}
use Rattle.ato_lexer.specs.declared.pieces.Shape.TheVariants as shapes
use Rattle.ato_lexer.specs.Pieces.{Kind, blank, comment, line_end, name, keyword, number, string, mark, bad_char, open_string}

-- the kind that a shape is
abbrev pub kind_of_shape : Shape → Kind
kind_of_shape shapes.Blank = blank
kind_of_shape shapes.Comment = comment
kind_of_shape shapes.LineEnd = line_end
kind_of_shape shapes.Name = name
kind_of_shape (shapes.Keyword k) = keyword k
kind_of_shape shapes.Number = number
kind_of_shape (shapes.Str quotes) = string quotes
kind_of_shape (shapes.Mark m) = mark m
kind_of_shape shapes.BadChar = bad_char
kind_of_shape shapes.OpenString = open_string

-- the shape of a piece of code, and what follows it
abbrev pub cut_told : Shape × Bor (List ℕ) → Kind × List ℕ
cut_told cut = (kind_of_shape cut.0, chars cut.1.now)
