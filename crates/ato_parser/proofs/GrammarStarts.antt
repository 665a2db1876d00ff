-- What expressions, statements and files may begin with.
use Rattle.std.proofs.Common.{◌≡◌, ℕ, zero, suc, ◌∷◌, Bool, true, false, ◌||◌, Option, Some, is_some, refl, ap}
use Rattle.ato_base.specs.declared.places.Span.{Span}
use Rattle.ato_base.specs.declared.keywords.Keyword.TheVariants as keywords
use Rattle.ato_base.specs.declared.keywords.Mark.TheVariants as marks
use Rattle.ato_base.specs.declared.name_table.Name.{Name}
use Rattle.ato_base.specs.declared.tokens.Token.{Token}
use Rattle.ato_base.specs.declared.tokens.TokenKind.{TokenKind}
use Rattle.ato_base.specs.declared.tokens.TokenKind.TheVariants as kinds
use Rattle.ato_ast.specs.declared.exprs.Expr.{Expr}
use Rattle.ato_parser.specs.Tokens.{Tokens, is_end}
use Rattle.ato_parser.specs.Kinds.{is_mark, is_keyword, just, named, name_of, text_of, number_of, block_of, abs_of, choice_of}
use Rattle.ato_parser.specs.Pieces.{Piece, never, one, many}
use Rattle.ato_parser.specs.TokenPieces.{of_kind, mark, keyword, name, text, the_end}
use Rattle.ato_parser.specs.Expressions.{path, measured, quantity, literal, group, atom, sum_over, sum}
use Rattle.ato_parser.specs.Statements.{point, stmt}
use Rattle.ato_parser.specs.Files.{head, item, file, FileFront}
use Rattle.ato_parser.specs.Reading.{has, is_name, starts_literal, starts_point, starts_stmt}
use Rattle.ato_parser.specs.FileReading.{starts_head, starts_item}
use Rattle.ato_parser.proofs.KindsOfTokens.{false_true, none_some, just_some}
use Rattle.ato_parser.proofs.FirstTokens.{Starts, opens, one_starts, pure_opens, never_starts, then_starts, then_after, or_starts, or_opens, many_opens, placed_starts, weaken, begins}

-- ---- tests

or_left : (b c : Bool) → b ≡ true → (b || c) ≡ true
or_left true c e = refl
or_left false c e = absurd (false_true e)

or_right : (b c : Bool) → c ≡ true → (b || c) ≡ true
or_right true c e = refl
or_right false c e = e

-- what one of the tests lets begin, one of them or the other does
left : {A : Type 0} (test other : TokenKind → Bool) (p : Piece A) → Starts test p → Starts (λ k. test k || other k) p
left test other p h = weaken test (λ k. test k || other k) p (λ k e. or_left (test k) (other k) e) h

right : {A : Type 0} (test other : TokenKind → Bool) (p : Piece A) → Starts other p → Starts (λ k. test k || other k) p
right test other p h = weaken other (λ k. test k || other k) p (λ k e. or_right (test k) (other k) e) h

-- ---- single tokens

has_starts : {A : Type 0} (value : TokenKind → Option A) → Starts (has value) (one value)
has_starts value = one_starts (has value) value (λ kind a e. ap is_some e)

kind_starts : (test : TokenKind → Bool) → Starts test (of_kind test)
kind_starts test = one_starts test (just test) (just_some test)

name_starts : Starts is_name name
name_starts = then_starts is_name _ _ (has_starts name_of)

text_starts : Starts (has text_of) text
text_starts = then_starts (has text_of) _ _ (has_starts text_of)

-- a name that has a value is a name
named_starts : {A : Type 0} (value : Name → Option A) → Starts is_name (one (named value))
named_starts {A} value = one_starts is_name (named value) law
  where
    law : (kind : TokenKind) (a : A) → named value kind ≡ Some a → is_name kind ≡ true
    law (kinds.Name n) a e = refl
    law _ a e = absurd (none_some e)

-- ---- expressions

path_starts : Starts is_name path
path_starts = placed_starts is_name _ (then_starts is_name _ _ name_starts)

quantity_starts : Starts starts_literal quantity
quantity_starts = placed_starts starts_literal _ (then_after starts_literal _ measured
    (or_opens starts_literal _ _ (opens starts_literal _ (then_starts starts_literal _ _ (right (has number_of) (is_mark marks.Minus) _ (kind_starts (is_mark marks.Minus))))) (pure_opens starts_literal false))
    (λ minus. then_starts starts_literal _ _ (left (has number_of) (is_mark marks.Minus) _ (has_starts number_of))))

literal_starts : Starts starts_literal literal
literal_starts = then_starts starts_literal _ _ quantity_starts

-- a name, a literal, or what the test says
abbrev pub starts_with : (TokenKind → Bool) → TokenKind → Bool
starts_with test kind = is_name kind || (starts_literal kind || test kind)

-- Over the open parenthesis and the expressions inside of it.
module _ (opening : Piece (Unit × Span)) (inner : Piece Expr) (test : TokenKind → Bool) (h : Starts test opening) where
  by_name : {A : Type 0} (p : Piece A) → Starts is_name p → Starts (starts_with test) p
  by_name p k = left is_name (λ kind. starts_literal kind || test kind) p k

  group_starts : Starts (starts_with test) (group opening inner)
  group_starts = then_starts (starts_with test) _ _ (right is_name (λ kind. starts_literal kind || test kind) opening (right starts_literal test opening h))

  literal_atom_starts : Starts (starts_with test) literal
  literal_atom_starts = right is_name (λ kind. starts_literal kind || test kind) literal (left starts_literal test literal literal_starts)

  atom_starts : Starts (starts_with test) (atom opening inner)
  atom_starts = placed_starts (starts_with test) _ (or_starts (starts_with test) _ _ (then_starts (starts_with test) _ _ (by_name path path_starts))
      (or_starts (starts_with test) _ _ (then_starts (starts_with test) _ _ literal_atom_starts)
      (or_starts (starts_with test) _ _ group_starts
      (or_starts (starts_with test) _ _ (then_starts (starts_with test) _ _ (by_name (one (named abs_of)) (named_starts abs_of)))
      (then_starts (starts_with test) _ _ (by_name (one (named choice_of)) (named_starts choice_of)))))))

  sum_over_starts : Starts (starts_with test) (sum_over opening inner)
  sum_over_starts = placed_starts (starts_with test) _ (then_starts (starts_with test) _ _ (placed_starts (starts_with test) _ (then_starts (starts_with test) _ _
      (placed_starts (starts_with test) _ (then_starts (starts_with test) _ _ atom_starts)))))

-- what may begin an expression where no parenthesis may stand, and where one may
abbrev pub starts_flat : TokenKind → Bool
starts_flat = starts_with (λ kind. false)

abbrev pub starts_expr : TokenKind → Bool
starts_expr = starts_with (is_mark marks.LeftParenthesis)

pub flat_starts : Starts starts_flat (sum 0)
unfolding sum
flat_starts = sum_over_starts never never (λ kind. false) (never_starts (λ kind. false))

pub sum_starts : (depth : ℕ) → Starts starts_expr (sum depth)
unfolding sum
sum_starts zero = sum_over_starts never never (is_mark marks.LeftParenthesis) (never_starts (is_mark marks.LeftParenthesis))
sum_starts (suc depth) = sum_over_starts (mark marks.LeftParenthesis) (sum depth) (is_mark marks.LeftParenthesis) (kind_starts (is_mark marks.LeftParenthesis))

-- ---- statements

-- a signal or a pin
point_starts : Starts starts_point point
point_starts = placed_starts starts_point _ (or_starts starts_point _ _
    (then_starts starts_point _ _ (left (is_keyword keywords.Signal) (is_keyword keywords.Pin) _ (kind_starts (is_keyword keywords.Signal))))
    (then_starts starts_point _ _ (right (is_keyword keywords.Signal) (is_keyword keywords.Pin) _ (kind_starts (is_keyword keywords.Pin)))))

-- a statement begins with
abbrev behind_name : TokenKind → Bool
behind_name kind = has text_of kind || (starts_point kind || (is_keyword keywords.Pass kind || is_keyword keywords.Assert kind))

by_path : {A : Type 0} (p : Piece A) → Starts is_name p → Starts starts_stmt p
by_path p h = left is_name behind_name p h

pass_starts : Starts starts_stmt (keyword keywords.Pass)
pass_starts = weaken (is_keyword keywords.Pass) starts_stmt (keyword keywords.Pass) law (kind_starts (is_keyword keywords.Pass))
  where
    law : (kind : TokenKind) → is_keyword keywords.Pass kind ≡ true → starts_stmt kind ≡ true
    law kind e = or_right (is_name kind) (behind_name kind) (or_right (has text_of kind) (starts_point kind || (is_keyword keywords.Pass kind || is_keyword keywords.Assert kind))
        (or_right (starts_point kind) (is_keyword keywords.Pass kind || is_keyword keywords.Assert kind) (or_left (is_keyword keywords.Pass kind) (is_keyword keywords.Assert kind) e)))

assert_starts : Starts starts_stmt (keyword keywords.Assert)
assert_starts = weaken (is_keyword keywords.Assert) starts_stmt (keyword keywords.Assert) law (kind_starts (is_keyword keywords.Assert))
  where
    law : (kind : TokenKind) → is_keyword keywords.Assert kind ≡ true → starts_stmt kind ≡ true
    law kind e = or_right (is_name kind) (behind_name kind) (or_right (has text_of kind) (starts_point kind || (is_keyword keywords.Pass kind || is_keyword keywords.Assert kind))
        (or_right (starts_point kind) (is_keyword keywords.Pass kind || is_keyword keywords.Assert kind) (or_right (is_keyword keywords.Pass kind) (is_keyword keywords.Assert kind) e)))

string_starts : Starts starts_stmt text
string_starts = weaken (has text_of) starts_stmt text law text_starts
  where
    law : (kind : TokenKind) → has text_of kind ≡ true → starts_stmt kind ≡ true
    law kind e = or_right (is_name kind) (behind_name kind) (or_left (has text_of kind) (starts_point kind || (is_keyword keywords.Pass kind || is_keyword keywords.Assert kind)) e)

declared_starts : Starts starts_stmt point
declared_starts = weaken starts_point starts_stmt point law point_starts
  where
    law : (kind : TokenKind) → starts_point kind ≡ true → starts_stmt kind ≡ true
    law kind e = or_right (is_name kind) (behind_name kind) (or_right (has text_of kind) (starts_point kind || (is_keyword keywords.Pass kind || is_keyword keywords.Assert kind))
        (or_left (starts_point kind) (is_keyword keywords.Pass kind || is_keyword keywords.Assert kind) e))

pub stmt_starts : (depth : ℕ) → Starts starts_stmt (stmt depth)
stmt_starts depth = placed_starts starts_stmt _ (or_starts starts_stmt _ _ (then_starts starts_stmt _ _ pass_starts)
    (or_starts starts_stmt _ _ (then_starts starts_stmt _ _ string_starts)
    (or_starts starts_stmt _ _ (then_starts starts_stmt _ _ declared_starts)
    (or_starts starts_stmt _ _ (then_starts starts_stmt _ _ (by_path path path_starts))
    (or_starts starts_stmt _ _ (then_starts starts_stmt _ _ (by_path path path_starts))
    (or_starts starts_stmt _ _ (then_starts starts_stmt _ _ (by_path path path_starts))
    (or_starts starts_stmt _ _ (then_starts starts_stmt _ _ (by_path name name_starts))
    (or_starts starts_stmt _ _ (then_starts starts_stmt _ _ (by_path name name_starts))
    (then_starts starts_stmt _ _ assert_starts)))))))))

-- ---- files

-- each test of an item's first token is one of an item's
module _ (kind : TokenKind) where
  abbrev pass_last : Bool
  pass_last = is_keyword keywords.Pass kind

  by_head : starts_head kind ≡ true → starts_item kind ≡ true
  by_head e = or_right (has block_of kind) (starts_head kind) e

  by_import : is_keyword keywords.Import kind ≡ true → starts_item kind ≡ true
  by_import e = by_head (or_left (is_keyword keywords.Import kind) (is_keyword keywords.From kind || (has text_of kind || pass_last)) e)

  by_from : is_keyword keywords.From kind ≡ true → starts_item kind ≡ true
  by_from e = by_head (or_right (is_keyword keywords.Import kind) (is_keyword keywords.From kind || (has text_of kind || pass_last))
      (or_left (is_keyword keywords.From kind) (has text_of kind || pass_last) e))

  by_text : has text_of kind ≡ true → starts_item kind ≡ true
  by_text e = by_head (or_right (is_keyword keywords.Import kind) (is_keyword keywords.From kind || (has text_of kind || pass_last))
      (or_right (is_keyword keywords.From kind) (has text_of kind || pass_last) (or_left (has text_of kind) pass_last e)))

  by_pass : pass_last ≡ true → starts_item kind ≡ true
  by_pass e = by_head (or_right (is_keyword keywords.Import kind) (is_keyword keywords.From kind || (has text_of kind || pass_last))
      (or_right (is_keyword keywords.From kind) (has text_of kind || pass_last) (or_right (has text_of kind) pass_last e)))

  by_block : has block_of kind ≡ true → starts_item kind ≡ true
  by_block e = or_left (has block_of kind) (starts_head kind) e

head_starts : Starts starts_item head
head_starts = placed_starts starts_item _ (or_starts starts_item _ _ (then_starts starts_item _ _ importing)
    (or_starts starts_item _ _ (then_starts starts_item _ _ importing)
    (or_starts starts_item _ _ (then_starts starts_item _ _ (weaken (is_keyword keywords.From) starts_item _ by_from (kind_starts (is_keyword keywords.From))))
    (or_starts starts_item _ _ (then_starts starts_item _ _ (weaken (has text_of) starts_item text by_text text_starts))
    (then_starts starts_item _ _ (weaken (is_keyword keywords.Pass) starts_item _ by_pass (kind_starts (is_keyword keywords.Pass))))))))
  where
    importing : Starts starts_item (keyword keywords.Import)
    importing = weaken (is_keyword keywords.Import) starts_item _ by_import (kind_starts (is_keyword keywords.Import))

item_starts : (depth : ℕ) → Starts starts_item (item depth)
item_starts depth = or_starts starts_item _ _ (then_starts starts_item _ _ (then_starts starts_item _ _ head_starts))
    (then_starts starts_item _ _ (then_starts starts_item _ _ (weaken (has block_of) starts_item _ by_block (has_starts block_of))))

-- an item, or END
abbrev pub starts_file : TokenKind → Bool
starts_file kind = starts_item kind || is_end kind

pub file_starts : (depth : ℕ) → Starts starts_file (file depth)
file_starts depth = then_after starts_file (many (item depth)) _ (many_opens starts_file (item depth) (left starts_item is_end (item depth) (item_starts depth)))
    (λ is. then_starts starts_file _ _ (right starts_item is_end the_end (kind_starts is_end)))

pub file_begins : (depth : ℕ) (t : Token) (ts : Tokens) → FileFront depth (t ∷ ts) → starts_file t.kind ≡ true
unfolding FileFront
file_begins depth t ts f = begins starts_file (file depth) (file_starts depth) t ts f
