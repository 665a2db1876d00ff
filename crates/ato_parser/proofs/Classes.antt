-- Classes of token kinds, and sets of them that compute.
use Rattle.std.proofs.Common.{◌≡◌, Bool, true, false, ◌||◌, ◌&&◌, not, List, [], ◌∷◌}
use Rattle.ato_base.specs.declared.keywords.Keyword.{Keyword}
use Rattle.ato_base.specs.declared.keywords.Mark.{Mark}
use Rattle.ato_base.specs.declared.tokens.TokenKind.{TokenKind}
use Rattle.ato_base.specs.declared.tokens.TokenKind.TheVariants as kinds
use Rattle.ato_parser.specs.Kinds.{same_mark, same_keyword}

pub data Class : Type 0 where
  a_name : Class
  an_integer : Class
  a_decimal : Class
  a_text : Class
  a_newline : Class
  an_indent : Class
  a_dedent : Class
  an_end : Class
  a_keyword : Keyword → Class
  a_mark : Mark → Class

abbrev pub class_of : TokenKind → Class
class_of (kinds.Name n) = a_name
class_of (kinds.Number true small at) = an_integer
class_of (kinds.Number false small at) = a_decimal
class_of (kinds.Str contents) = a_text
class_of (kinds.Keyword w) = a_keyword w
class_of (kinds.Mark m) = a_mark m
class_of kinds.Newline = a_newline
class_of kinds.Indent = an_indent
class_of kinds.Dedent = a_dedent
class_of kinds.End = an_end

abbrev pub same_class : Class → Class → Bool
same_class a_name a_name = true
same_class an_integer an_integer = true
same_class a_decimal a_decimal = true
same_class a_text a_text = true
same_class a_newline a_newline = true
same_class an_indent an_indent = true
same_class a_dedent a_dedent = true
same_class an_end an_end = true
same_class (a_keyword a) (a_keyword b) = same_keyword a b
same_class (a_mark a) (a_mark b) = same_mark a b
same_class _ _ = false

-- a set of classes
abbrev pub Classes : Type 0
Classes = List Class

-- the class is one of these
abbrev pub holds : Classes → Class → Bool
holds [] c = false
holds (d ∷ ds) c = same_class c d || holds ds c

-- the kind is of one of the classes
abbrev pub among : Classes → TokenKind → Bool
among cs kind = holds cs (class_of kind)

-- no class of the first is one of the second
abbrev pub apart : Classes → Classes → Bool
apart [] ds = true
apart (c ∷ cs) ds = not (holds ds c) && apart cs ds

-- each class of the first is one of the second
abbrev pub within : Classes → Classes → Bool
within [] ds = true
within (c ∷ cs) ds = holds ds c && within cs ds

-- the test tells whether a kind is of one of the classes
abbrev pub Tests : (TokenKind → Bool) → Classes → Type 0
Tests test cs = (kind : TokenKind) → test kind ≡ among cs kind
