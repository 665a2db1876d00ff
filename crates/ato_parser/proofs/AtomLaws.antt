-- The operands of expressions, over the open parenthesis and the expressions inside of it.
use Rattle.std.proofs.Common.{◌≡◌, ℕ, Bool, true, false, [], ◌∷◌, Option, Some, None, nat_eq, if◌then◌else◌, refl, ap, eqb-true}
use Rattle.ato_base.specs.declared.name_table.Name.{Name}
use Rattle.ato_base.specs.declared.places.Span.{Span}
use Rattle.ato_base.specs.declared.keywords.Mark.TheVariants as marks
use Rattle.ato_ast.specs.declared.names.Named.{Named}
use Rattle.ato_ast.specs.declared.paths.Path.{Path}
use Rattle.ato_ast.specs.declared.exprs.Choice.{Choice}
use Rattle.ato_ast.specs.declared.exprs.Expr.{Expr}
use Rattle.ato_ast.specs.declared.exprs.Expr.TheVariants as exprs
use Rattle.ato_parser.specs.Kinds.{same_mark, same_keyword, is_mark, number_of, abs_of, choice_of}
use Rattle.ato_parser.specs.Pieces.{Piece, pure, never, one, many, ◌>>=◌, ◌>>◌, ◌or◌}
use Rattle.ato_parser.specs.TokenPieces.{mark}
use Rattle.ato_parser.specs.Expressions as E
use Rattle.ato_parser.specs.Input.{Reader}
use Rattle.ato_parser.specs.Input as R
use Rattle.ato_parser.specs.Reading.{has, starts_literal, only_name, group, absolute, chosen, function_by, called_by, named_atom, atom}
use Rattle.ato_parser.proofs.Classes.{Classes, a_name, an_integer, a_decimal, a_mark, Tests}
use Rattle.ato_parser.proofs.ClassLaws.{mark_tests, number_tests, or_tests}
use Rattle.ato_parser.proofs.OneLaws.{pure_lawful, never_lawful, mark_lawful}
use Rattle.ato_parser.proofs.ThenLaws.{then_lawful, map_lawful, widen}
use Rattle.ato_parser.proofs.OrLaws.{or_lawful}
use Rattle.ato_parser.proofs.ManyLaws.{many_lawful}
use Rattle.ato_parser.proofs.PlacedLaws.{placed_lawful}
use Rattle.ato_parser.proofs.SameLaws.{same_refl, same_sym, same_trans, same_or, or_comm, or_assoc, or_second_first, or_same, or_never, never_or, lawful_same}
use Rattle.ato_parser.proofs.NamedSame.{value_by, as_name, named_same}
use Rattle.ato_parser.proofs.LiteralLaws.{number_starts, literal_starts, literal_more, path_lawful, literal_lawful}
use Rattle.ato_parser.proofs.Lawful.{Lawful, Same}

-- ---- what begins an expression, and what goes on with one

abbrev pub sum_starts : Classes
sum_starts = a_name ∷ an_integer ∷ a_decimal ∷ a_mark marks.Minus ∷ a_mark marks.LeftParenthesis ∷ []

abbrev pub atom_more : Classes
atom_more = a_mark marks.Dot ∷ a_mark marks.LeftParenthesis ∷ literal_more

abbrev pub power_more : Classes
power_more = a_mark marks.Power ∷ atom_more

abbrev pub product_more : Classes
product_more = a_mark marks.Star ∷ a_mark marks.Slash ∷ power_more

abbrev pub sum_more : Classes
sum_more = a_mark marks.Plus ∷ a_mark marks.Minus ∷ product_more

abbrev pub opening_starts : Classes
opening_starts = a_mark marks.LeftParenthesis ∷ []

pub literal_tests : Tests starts_literal literal_starts
literal_tests = or_tests (has number_of) (is_mark marks.Minus) number_starts (a_mark marks.Minus ∷ []) number_tests (mark_tests marks.Minus)

-- ---- a name is of one function at most

no_choice_zero : (k : ℕ) → k ≡ 0 → choice_of (record { 0 = k }) ≡ None
no_choice_zero k e = ap (λ (n : ℕ). choice_of (record { 0 = n })) e

abs_zero : (k : ℕ) (b : Bool) (u : Unit {0}) → nat_eq k 0 ≡ b → (if b then Some (tt {0}) else None) ≡ Some u → choice_of (record { 0 = k }) ≡ None
abs_zero k true u e h = no_choice_zero k (eqb-true k 0 e)
abs_zero k false u e h = cc

not_both : (n : Name) (u : Unit) → abs_of n ≡ Some u → choice_of n ≡ None
not_both n u e = abs_zero n.0 (nat_eq n.0 0) u refl e

-- ---- behind the names of functions

module _ (opening : Piece (Unit × Span)) (inner : Piece Expr) where
  abbrev absolute_behind : Piece (Span → Expr)
  absolute_behind = opening >>= (λ _. inner >>= (λ x. mark marks.RightParenthesis >>= (λ _. pure (exprs.Abs x))))

  abbrev chosen_behind : Choice → Piece (Span → Expr)
  chosen_behind which = opening >>= (λ _. inner >>= (λ first. many (mark marks.Comma >> inner) >>= (λ more. mark marks.RightParenthesis >>= (λ _. pure (exprs.Choice which first more)))))

  -- behind a path that is the name of a function
  abbrev called : Option Named → Piece (Span → Expr)
  called o = as_name abs_of o (λ _. absolute_behind) or as_name choice_of o (λ w. chosen_behind w.0)

  -- behind any path
  abbrev behind_path : Path → Piece (Span → Expr)
  behind_path p = as_name abs_of (only_name p) (λ _. absolute_behind) or (as_name choice_of (only_name p) (λ w. chosen_behind w.0) or pure (λ at. exprs.Path p))

  -- as it is read
  abbrev named_piece : Piece (Span → Expr)
  named_piece = E.path >>= behind_path

  abbrev path_alone : Piece (Span → Expr)
  path_alone = E.path >>= (λ p. pure (λ at. exprs.Path p))

  abbrev literal_alone : Piece (Span → Expr)
  literal_alone = E.literal >>= (λ l. pure (exprs.Literal l))

  named_is : Same (E.absolute opening inner or (E.chosen opening inner or path_alone)) named_piece
  named_is =
      same_trans
      (same_or (same_refl (E.absolute opening inner)) (named_same choice_of (λ w. chosen_behind w.0) (λ p. pure (λ at. exprs.Path p))))
      (named_same abs_of (λ _. absolute_behind) (λ p. as_name choice_of (only_name p) (λ w. chosen_behind w.0) or pure (λ at. exprs.Path p)))

  path_last : Same (path_alone or (E.absolute opening inner or E.chosen opening inner)) named_piece
  path_last =
      same_trans (or_comm path_alone (E.absolute opening inner or E.chosen opening inner))
      (same_trans (or_assoc (E.absolute opening inner) (E.chosen opening inner) path_alone) named_is)

  -- the written alternatives, in the order of the reader
  atom_is : Same (literal_alone or (E.group opening inner or named_piece)) (path_alone or (literal_alone or (E.group opening inner or (E.absolute opening inner or E.chosen opening inner))))
  atom_is =
      same_sym
      (same_trans (or_second_first path_alone literal_alone (E.group opening inner or (E.absolute opening inner or E.chosen opening inner)))
      (same_or (same_refl literal_alone)
      (same_trans (or_second_first path_alone (E.group opening inner) (E.absolute opening inner or E.chosen opening inner))
      (same_or (same_refl (E.group opening inner)) path_last))))

-- ---- the laws

module _ {o : Piece (Unit × Span)} {x : Piece Expr} {ro : Reader (Unit × Span)} {rx : Reader Expr}
    (opening : Lawful o ro opening_starts [] false) (inner : Lawful x rx sum_starts sum_more false) where
  pub group_lawful : Lawful (E.group o x) (group ro rx) opening_starts [] false
  unfolding group same_mark
  group_lawful = then_lawful opening (λ _. then_lawful inner (λ y. map_lawful (λ _. exprs.Group y) (mark_lawful marks.RightParenthesis)) refl) refl

  pub absolute_lawful : Lawful (absolute_behind o x) (absolute ro rx) opening_starts [] false
  unfolding absolute same_mark
  absolute_lawful = then_lawful opening (λ _. then_lawful inner (λ y. map_lawful (λ _. exprs.Abs y) (mark_lawful marks.RightParenthesis)) refl) refl

  -- the expressions behind a first one
  chosen_more_lawful : Lawful (many (mark marks.Comma >> x)) (R.many (is_mark marks.Comma) (R.◌>>◌ (R.mark marks.Comma) rx)) (a_mark marks.Comma ∷ []) (a_mark marks.Comma ∷ sum_more) true
  unfolding same_mark
  chosen_more_lawful = many_lawful (is_mark marks.Comma) (a_mark marks.Comma ∷ []) (mark_tests marks.Comma) (then_lawful (mark_lawful marks.Comma) (λ _. inner) refl) refl refl

  pub chosen_lawful : (which : Choice) → Lawful (chosen_behind o x which) (chosen ro rx which) opening_starts [] false
  unfolding chosen same_mark
  chosen_lawful which =
      then_lawful opening
      (λ _. then_lawful inner
      (λ first. then_lawful chosen_more_lawful
      (λ more. map_lawful (λ _. exprs.Choice which first more) (mark_lawful marks.RightParenthesis)) refl) refl) refl

  function_lawful : (n : Named) (u : Option Unit) (c : Option Choice) → ((v : Unit) → u ≡ Some v → c ≡ None) → Lawful (value_by u n.at (λ _. absolute_behind o x) or value_by c n.at (λ w. chosen_behind o x w.0)) (function_by ro rx u c) opening_starts [] false
  function_lawful n (Some v) (Some c) one = let wrong : ◌≡◌ {A = Option Choice} (Some c) None = one v refl in absurd (cc)
  function_lawful n (Some v) None one = lawful_same (same_sym (or_never (absolute_behind o x))) absolute_lawful
  function_lawful n None (Some c) one = lawful_same (same_sym (never_or (chosen_behind o x c))) (chosen_lawful c)
  function_lawful n None None one = lawful_same (same_sym (or_same never)) (never_lawful opening_starts)

  called_lawful : (n : Option Named) → Lawful (called o x n) (called_by ro rx n) opening_starts [] false
  called_lawful None = lawful_same (same_sym (or_same never)) (never_lawful opening_starts)
  called_lawful (Some n) = function_lawful n (abs_of n.name) (choice_of n.name) (λ v e. not_both n.name v e)

  behind_lawful : (p : Path) → Lawful (behind_path o x p) (R.choose (is_mark marks.LeftParenthesis) (called_by ro rx (only_name p)) (R.pure (λ at. exprs.Path p))) opening_starts opening_starts true
  unfolding same_mark
  behind_lawful p =
      lawful_same (or_assoc (as_name abs_of (only_name p) (λ _. absolute_behind o x)) (as_name choice_of (only_name p) (λ w. chosen_behind o x w.0)) (pure (λ at. exprs.Path p)))
      (or_lawful (is_mark marks.LeftParenthesis) opening_starts (mark_tests marks.LeftParenthesis) (called_lawful (only_name p)) (pure_lawful (λ at. exprs.Path p)) refl refl)

  named_atom_lawful : Lawful (named_piece o x) (named_atom ro rx) (a_name ∷ []) (a_mark marks.Dot ∷ a_mark marks.LeftParenthesis ∷ []) false
  unfolding named_atom same_mark
  named_atom_lawful = then_lawful path_lawful behind_lawful refl

  pub atom_lawful : Lawful (E.atom o x) (atom ro rx) sum_starts atom_more false
  unfolding atom same_mark same_keyword
  atom_lawful =
      widen
      (placed_lawful
      (lawful_same (atom_is o x)
      (or_lawful starts_literal literal_starts literal_tests (map_lawful (λ l. exprs.Literal l) literal_lawful)
      (or_lawful (is_mark marks.LeftParenthesis) opening_starts (mark_tests marks.LeftParenthesis) group_lawful named_atom_lawful refl refl) refl refl)))
      sum_starts atom_more refl refl
