-- No more parentheses stand open at once in a front than the grammar's depth.
use Rattle.std.proofs.Common.{◌≡◌, ℕ, zero, suc, Bool, true, false, Some, is_some, refl, subst, arith}
use Rattle.ato_base.specs.declared.places.Span.{Span}
use Rattle.ato_base.specs.declared.keywords.Keyword.TheVariants as keywords
use Rattle.ato_base.specs.declared.keywords.Mark.TheVariants as marks
use Rattle.ato_ast.specs.declared.exprs.Expr.{Expr}
use Rattle.ato_parser.specs.Tokens.{Tokens}
use Rattle.ato_parser.specs.Kinds.{is_newline, named, name_of, text_of, number_of, integer_of, exponent_of, sign_of, scale_of, unit_of, comparison_of, truth_of, block_of, abs_of, choice_of}
use Rattle.ato_parser.specs.Nesting.{left_to_open}
use Rattle.ato_parser.specs.Pieces.{Piece, ThenSpells, then_spells, ThenFront, in_first, in_second, pure, never, one, ◌>>=◌, ◌>>◌, ◌or◌}
use Rattle.ato_parser.specs.TokenPieces.{of_kind, mark, name, text}
use Rattle.ato_parser.specs.Expressions.{path, measured, quantity, literal, atom, power, product, sum_over, sum}
use Rattle.ato_parser.specs.Statements.{label, point, connected, value, compare, stmt}
use Rattle.ato_parser.specs.Files.{line, names, head, body, block, item, file, FileFront}
use Rattle.ato_parser.proofs.Nesting.{Moves, valued, mark_moves, keyword_moves, open_moves, close_moves, pure_moves, then_moves, or_moves, many_moves, placed_moves, optional_moves, ended_moves}

-- Where so many more parentheses may be open before and behind.
module _ (b : ℕ) where
  abbrev Keeps : {A : Type 0} → Piece A → Type 0
  Keeps p = Moves b b p

  then_keeps : {A B : Type 0} (p : Piece A) (q : A → Piece B) → Moves b b p → ((a : A) → Moves b b (q a)) → Moves b b (p >>= q)
  then_keeps p q h k = then_moves b b b p q h k

  or_keeps : {A : Type 0} (p q : Piece A) → Moves b b p → Moves b b q → Moves b b (p or q)
  or_keeps p q h k = or_moves b b p q h k

  -- ---- single tokens

  pub name_keeps : Moves b b name
  name_keeps = then_keeps _ _ (valued b name_of refl refl) (λ n. pure_moves b _)

  text_keeps : Moves b b text
  text_keeps = then_keeps _ _ (valued b text_of refl refl) (λ s. pure_moves b _)

  integer_keeps : Moves b b (one integer_of)
  integer_keeps = valued b integer_of refl refl

  -- ---- paths and literals

  pub path_keeps : Moves b b path
  path_keeps = placed_moves b b _ (then_keeps _ _ name_keeps λ first. then_keeps _ _ (ended_moves b _ _ _ (mark_moves b marks.Dot refl) name_keeps integer_keeps) λ rest. pure_moves b _)

  measured_keeps : (minus : Bool) → Moves b b (measured minus)
  measured_keeps minus = then_keeps _ _ (valued b number_of refl refl) λ n. then_keeps _ _ (optional_moves b _ (valued b unit_of refl refl)) λ u. pure_moves b _

  quantity_keeps : Moves b b quantity
  quantity_keeps = placed_moves b b _ (then_keeps _ _ (or_keeps _ _ (then_keeps _ _ (mark_moves b marks.Minus refl) (λ _. pure_moves b true)) (pure_moves b false)) measured_keeps)

  literal_keeps : Moves b b literal
  literal_keeps = then_keeps _ _ quantity_keeps λ a. or_keeps _ _
      (then_keeps _ _ (keyword_moves b keywords.To) λ _. then_keeps _ _ quantity_keeps λ c. pure_moves b _)
      (or_keeps _ _ (then_keeps _ _ (mark_moves b marks.PlusMinus refl) λ _. then_keeps _ _ (placed_moves b b _ (measured_keeps false)) λ c. pure_moves b _) (pure_moves b _))

  -- ---- expressions

  -- over the open parenthesis and the expressions inside of it
  module _ (opening : Piece (Unit × Span)) (inner : Piece Expr)
      (opened : (q : Unit × Span → Piece (Span → Expr)) → ((c : ℕ) → suc c ≡ b → (x : Unit × Span) → Moves c b (q x)) → Moves b b (opening >>= q))
      (inside : (c : ℕ) → suc c ≡ b → Moves c c inner) where
    closing : {A : Type 0} (c : ℕ) → suc c ≡ b → (a : A) → Moves c b (mark marks.RightParenthesis >> pure a)
    closing c e a = then_moves c b b _ _ (subst (λ d. Moves c d (mark marks.RightParenthesis)) e (close_moves c)) (λ _. pure_moves b a)

    atom_keeps : Moves b b (atom opening inner)
    atom_keeps = placed_moves b b _ (or_keeps _ _ (then_keeps _ _ path_keeps (λ p. pure_moves b _))
        (or_keeps _ _ (then_keeps _ _ literal_keeps (λ l. pure_moves b _))
        (or_keeps _ _ (opened _ λ c e _. then_moves c c b _ _ (inside c e) λ x. closing c e _)
        (or_keeps _ _ (then_keeps _ _ (valued b (named abs_of) refl refl) λ _. opened _ λ c e _. then_moves c c b _ _ (inside c e) λ x. closing c e _)
        (then_keeps _ _ (valued b (named choice_of) refl refl) λ which. opened _ λ c e _. then_moves c c b _ _ (inside c e)
        λ first. then_moves c c b _ _ (many_moves c _ (then_moves c c c _ _ (mark_moves c marks.Comma refl) (λ _. inside c e))) λ more. closing c e _)))))

  -- over what atoms do
  module _ (opening : Piece (Unit × Span)) (inner : Piece Expr) (atom_stays : Moves b b (atom opening inner)) where
    pub power_keeps : Moves b b (power opening inner)
    power_keeps = placed_moves b b _ (then_keeps _ _ atom_stays λ base. then_keeps _ _
        (optional_moves b _ (then_keeps _ _ (mark_moves b marks.Power refl) (λ _. valued b exponent_of refl refl))) λ n. pure_moves b _)

    pub product_keeps : Moves b b (product opening inner)
    product_keeps = placed_moves b b _ (then_keeps _ _ power_keeps λ first. then_keeps _ _
        (many_moves b _ (then_keeps _ _ (valued b scale_of refl refl) λ s. then_keeps _ _ power_keeps λ x. pure_moves b _)) λ more. pure_moves b _)

    pub sum_over_keeps : Moves b b (sum_over opening inner)
    sum_over_keeps = placed_moves b b _ (then_keeps _ _ product_keeps λ first. then_keeps _ _
        (many_moves b _ (then_keeps _ _ (valued b sign_of refl refl) λ s. then_keeps _ _ product_keeps λ x. pure_moves b _)) λ more. pure_moves b _)

never_opens : {A : Type 0} (b : ℕ) (q : Unit {0} × Span → Piece A) → Moves b b (never {A = Unit {0} × Span} >>= q)
never_opens {A} b q = record { spelling = spellings; front = fronts }
  where
    spellings : (x : A) (ts : Tokens) → ThenSpells (never {A = Unit {0} × Span}) q x ts → left_to_open (Some b) ts ≡ Some b
    spellings x ts (then_spells d e) = absurd d

    fronts : (ts : Tokens) → ThenFront (never {A = Unit {0} × Span}) q ts → is_some (left_to_open (Some b) ts) ≡ true
    fronts ts (in_first f) = absurd f
    fronts ts (in_second d f) = absurd d

never_moves : {A : Type 0} (b c : ℕ) → Moves {A = A} b c never
never_moves b c = record { spelling = λ a ts d. absurd d; front = λ ts f. absurd f }

same_below : {A : Type 0} (p : Piece A) (c d : ℕ) → Moves d d p → suc c ≡ suc d → Moves c c p
same_below p c d h e = subst (λ n. Moves n n p) same h
  where
    same : d ≡ c
    same = omega arith

-- atoms where no parentheses may stand
pub flat_keeps : Moves 0 0 (atom never never)
flat_keeps = atom_keeps 0 never never (λ q h. never_opens 0 q) (λ c e. never_moves c c)

-- atoms where they may stand around expressions
pub nested_keeps : (depth : ℕ) (inner : Piece Expr) → Moves depth depth inner → Moves (suc depth) (suc depth) (atom (mark marks.LeftParenthesis) inner)
nested_keeps depth inner within = atom_keeps (suc depth) (mark marks.LeftParenthesis) inner
    (λ q h. then_moves _ depth _ _ q (open_moves depth) (h depth refl)) (λ c e. same_below inner c depth within e)

pub sum_keeps : (depth : ℕ) → Moves depth depth (sum depth)
unfolding sum
sum_keeps zero = sum_over_keeps 0 never never flat_keeps
sum_keeps (suc depth) = sum_over_keeps (suc depth) (mark marks.LeftParenthesis) (sum depth) (nested_keeps depth (sum depth) (sum_keeps depth))

-- ---- statements and files, whose expressions have no more parentheses open at once

module _ (b depth : ℕ) (sum_fits : Moves b b (sum depth)) where
  or_stays : {A : Type 0} (p q : Piece A) → Moves b b p → Moves b b q → Moves b b (p or q)
  or_stays p q h k = or_moves b b p q h k

  then_stays : {A B : Type 0} (p : Piece A) (q : A → Piece B) → Moves b b p → ((a : A) → Moves b b (q a)) → Moves b b (p >>= q)
  then_stays p q h k = then_moves b b b p q h k

  label_stays : Moves b b label
  label_stays = or_stays _ _ (then_stays _ _ (name_keeps b) (λ n. pure_moves b _))
      (or_stays _ _ (then_stays _ _ (integer_keeps b) (λ n. pure_moves b _)) (then_stays _ _ (text_keeps b) (λ s. pure_moves b _)))

  point_stays : Moves b b point
  point_stays = placed_moves b b _ (or_stays _ _ (then_stays _ _ (keyword_moves b keywords.Signal) λ _. then_stays _ _ (name_keeps b) λ n. pure_moves b _)
      (then_stays _ _ (keyword_moves b keywords.Pin) λ _. then_stays _ _ label_stays λ l. pure_moves b _))

  connected_stays : Moves b b connected
  connected_stays = or_stays _ _ (then_stays _ _ point_stays (λ p. pure_moves b _)) (then_stays _ _ (path_keeps b) (λ p. pure_moves b _))

  value_stays : Moves b b (value depth)
  value_stays = or_stays _ _ (then_stays _ _ (text_keeps b) (λ s. pure_moves b _))
      (or_stays _ _ (then_stays _ _ (valued b truth_of refl refl) (λ t. pure_moves b _)) (then_stays _ _ sum_fits (λ x. pure_moves b _)))

  compare_stays : Moves b b (compare depth)
  compare_stays = or_stays _ _ (then_stays _ _ (valued b comparison_of refl refl) λ c. then_stays _ _ sum_fits λ x. pure_moves b _)
      (then_stays _ _ (keyword_moves b keywords.Within) λ _. then_stays _ _ (literal_keeps b)
      λ a. then_stays _ _ (many_moves b _ (then_stays _ _ (mark_moves b marks.Bar refl) (λ _. literal_keeps b))) λ more. pure_moves b _)

  pub stmt_stays : Moves b b (stmt depth)
  stmt_stays = placed_moves b b _ (or_stays _ _ (then_stays _ _ (keyword_moves b keywords.Pass) (λ _. pure_moves b _))
      (or_stays _ _ (then_stays _ _ (text_keeps b) (λ s. pure_moves b _))
      (or_stays _ _ (then_stays _ _ point_stays λ p. then_stays _ _ (optional_moves b _ (then_stays _ _ (mark_moves b marks.Tilde refl) (λ _. connected_stays))) λ e. pure_moves b _)
      (or_stays _ _ (then_stays _ _ (path_keeps b) λ p. then_stays _ _ (mark_moves b marks.Tilde refl) λ _. then_stays _ _ connected_stays λ e. pure_moves b _)
      (or_stays _ _ (then_stays _ _ (path_keeps b) λ p. then_stays _ _ (mark_moves b marks.Arrow refl) λ _. then_stays _ _ (name_keeps b) λ n. pure_moves b _)
      (or_stays _ _ (then_stays _ _ (path_keeps b) λ p. then_stays _ _ (mark_moves b marks.Equal refl) λ _. then_stays _ _ value_stays λ v. pure_moves b _)
      (or_stays _ _ (then_stays _ _ (name_keeps b) λ n. then_stays _ _ (mark_moves b marks.Equal refl) λ _. then_stays _ _ (keyword_moves b keywords.New) λ _. then_stays _ _ (name_keeps b) λ m. pure_moves b _)
      (or_stays _ _ (then_stays _ _ (name_keeps b) λ n. then_stays _ _ (mark_moves b marks.Colon refl) λ _. then_stays _ _ (name_keeps b)
      λ m. then_stays _ _ (optional_moves b _ (then_stays _ _ (mark_moves b marks.Equal refl) (λ _. value_stays))) λ v. pure_moves b _)
      (then_stays _ _ (keyword_moves b keywords.Assert) λ _. then_stays _ _ sum_fits λ x. then_stays _ _ compare_stays λ c. pure_moves b _)))))))))

  pub newline_stays : Moves b b (of_kind is_newline)
  newline_stays = valued b _ refl refl

  pub line_stays : {A : Type 0} (p : Piece A) → Moves b b p → Moves b b (line p)
  line_stays p h = then_stays _ _ h λ first. then_stays _ _ (ended_moves b _ _ _ (mark_moves b marks.Semicolon refl) h (pure_moves b (tt {0}))) λ rest. then_stays _ _ newline_stays λ _. pure_moves b _

  names_stay : Moves b b names
  names_stay = then_stays _ _ (name_keeps b) λ n. then_stays _ _ (many_moves b _ (then_stays _ _ (mark_moves b marks.Comma refl) (λ _. name_keeps b))) λ more. pure_moves b _

  head_stays : Moves b b head
  head_stays = placed_moves b b _ (or_stays _ _ (then_stays _ _ (keyword_moves b keywords.Import) λ _. then_stays _ _ (name_keeps b) λ n. then_stays _ _ (keyword_moves b keywords.From) λ _. then_stays _ _ (text_keeps b) λ s. pure_moves b _)
      (or_stays _ _ (then_stays _ _ (keyword_moves b keywords.Import) λ _. then_stays _ _ names_stay λ ns. pure_moves b _)
      (or_stays _ _ (then_stays _ _ (keyword_moves b keywords.From) λ _. then_stays _ _ (text_keeps b) λ s. then_stays _ _ (keyword_moves b keywords.Import) λ _. then_stays _ _ names_stay λ ns. pure_moves b _)
      (or_stays _ _ (then_stays _ _ (text_keeps b) (λ s. pure_moves b _)) (then_stays _ _ (keyword_moves b keywords.Pass) (λ _. pure_moves b _))))))

  body_stays : Moves b b (body depth)
  body_stays = or_stays _ _ (then_stays _ _ (line_stays (stmt depth) stmt_stays) (λ l. pure_moves b _))
      (then_stays _ _ newline_stays λ _. then_stays _ _ (valued b _ refl refl) λ _. then_stays _ _ (line_stays (stmt depth) stmt_stays)
      λ first. then_stays _ _ (many_moves b _ (line_stays (stmt depth) stmt_stays)) λ more. then_stays _ _ (valued b _ refl refl) λ _. pure_moves b _)

  block_stays : Moves b b (block depth)
  block_stays = then_stays _ _ (valued b block_of refl refl) λ k. then_stays _ _ (name_keeps b)
      λ n. then_stays _ _ (optional_moves b _ (then_stays _ _ (keyword_moves b keywords.From) (λ _. name_keeps b)))
      λ parent. then_stays _ _ (mark_moves b marks.Colon refl) λ _. then_stays _ _ body_stays λ x. pure_moves b _

  pub item_stays : Moves b b (item depth)
  item_stays = or_stays _ _ (then_stays _ _ (line_stays head head_stays) (λ l. pure_moves b _)) (then_stays _ _ block_stays (λ x. pure_moves b _))

  file_stays : Moves b b (file depth)
  file_stays = then_stays _ _ (many_moves b _ item_stays) λ xs. then_stays _ _ (valued b _ refl refl) λ _. pure_moves b _

-- In a front of a file no more parentheses are open at once than its depth.
pub fronts_fit : (depth : ℕ) (ts : Tokens) → FileFront depth ts → is_some (left_to_open (Some depth) ts) ≡ true
unfolding FileFront
fronts_fit depth ts f = (file_stays depth depth (sum_keeps depth)).front ts f
