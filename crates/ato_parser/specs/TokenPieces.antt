-- The pieces of the grammar that are single tokens.
use Rattle.std.specs.Prelude.{Bool}
use Rattle.ato_base.specs.declared.name_table.Name.{Name}
use Rattle.ato_base.specs.declared.places.Span.{Span}
use Rattle.ato_base.specs.declared.keywords.Keyword.{Keyword}
use Rattle.ato_base.specs.declared.keywords.Mark.{Mark}
use Rattle.ato_base.specs.declared.tokens.TokenKind.{TokenKind}
use Rattle.ato_ast.specs.declared.names.Named.{Named}
use Rattle.ato_ast.specs.declared.names.Quoted.{Quoted}
use Rattle.ato_parser.specs.Tokens.{is_end}
use Rattle.ato_parser.specs.Kinds.{is_mark, is_keyword, just, name_of, text_of}
use Rattle.ato_parser.specs.Pieces.{Piece, one, pure, ◌>>=◌}

-- a token of a kind, without a value
abbrev pub of_kind : (TokenKind → Bool) → Piece (Unit × Span)
of_kind test = one (just test)

abbrev pub mark : Mark → Piece (Unit × Span)
mark m = of_kind (is_mark m)

abbrev pub keyword : Keyword → Piece (Unit × Span)
keyword w = of_kind (is_keyword w)

abbrev pub the_end : Piece (Unit × Span)
the_end = of_kind is_end

-- a value and a place as a name
abbrev pub named_at : Name × Span → Named
named_at n = record { name = n.0; at = n.1 }

-- NAME
abbrev pub name : Piece Named
name = one name_of >>= λ n. pure (named_at n)

-- STRING
abbrev pub text : Piece Quoted
text = one text_of >>= λ s. pure (record { contents = s.0; at = s.1 })
