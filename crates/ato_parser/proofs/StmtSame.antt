-- The alternatives of a statement, brought into the order in which they are read.
use Rattle.std.proofs.Common.{ℕ, [], Option, Some, None}
use Rattle.ato_base.specs.declared.places.Span.{Span}
use Rattle.ato_base.specs.declared.keywords.Keyword.TheVariants as keywords
use Rattle.ato_base.specs.declared.keywords.Mark.TheVariants as marks
use Rattle.ato_ast.specs.declared.names.Named.{Named}
use Rattle.ato_ast.specs.declared.paths.Path.{Path}
use Rattle.ato_ast.specs.declared.stmts.Stmt.{Stmt}
use Rattle.ato_ast.specs.declared.stmts.Stmt.TheVariants as stmts
use Rattle.ato_parser.specs.Kinds.{name_of}
use Rattle.ato_parser.specs.Pieces.{Piece, in_first, before_one, one, pure, never, ◌>>=◌, ◌>>◌, ◌or◌, optional, placed}
use Rattle.ato_parser.specs.TokenPieces.{mark, keyword, name, named_at}
use Rattle.ato_parser.specs.Expressions.{path}
use Rattle.ato_parser.specs.Statements as S
use Rattle.ato_parser.specs.Reading.{only_name}
use Rattle.ato_parser.proofs.Lawful.{Same}
use Rattle.ato_parser.proofs.SameLaws.{never_or, same_refl, same_sym, same_or, or_comm, or_assoc, or_second_first, same_second, or_joined, same_placed}
use Rattle.ato_parser.proofs.NamedSame.{as_name, named_same}
use Rattle.ato_parser.proofs.SameSteps.{◌then◌, nested, carried, known}

-- what goes on behind a path that is one name
abbrev pub only : {A : Type 0} → Option Named → (Named → Piece A) → Piece A
only None g = never
only (Some n) g = g n

-- ---- a name or a path

only_is : {A : Type 0} (o : Option Named) (g : Named → Piece A) → Same (as_name Some o (λ x. g (named_at x))) (only o g)
only_is None g = same_refl _
only_is (Some n) g = same_refl _

-- a name and a path are read as a path
name_or_path : {A : Type 0} (g : Named → Piece A) (h : Path → Piece A) → ((n : Named) → (g n).Front []) → Same ((name >>= g) or (path >>= h)) (path >>= λ p. only (only_name p) g or h p)
name_or_path g h empty =
    same_or (carried (one name_of) (λ x. known (named_at x) g (empty (named_at x)))) (same_refl (path >>= h))
    then named_same Some (λ x. g (named_at x)) h
    then same_second path (λ p. same_or (only_is (only_name p) g) (same_refl (h p)))

-- ---- statements

module _ (depth : ℕ) where
  -- "new" NAME, behind a name
  abbrev pub made : Named → Piece (Span → Stmt)
  made n = keyword keywords.New >> name >>= λ of. pure (stmts.Make n of)

  -- what goes on behind a path and `=`
  abbrev pub assigned : Path → Piece (Span → Stmt)
  assigned p = only (only_name p) made or (S.value depth >>= λ v. pure (stmts.Assign p v))

  -- ":" NAME [ "=" value ], behind a name
  abbrev pub declared : Named → Piece (Span → Stmt)
  declared n = do
    _ ← mark marks.Colon
    of ← name
    v ← optional (mark marks.Equal >> S.value depth)
    pure (stmts.Declare n of v)

  abbrev pub connects : Path → Piece (Span → Stmt)
  connects p = mark marks.Tilde >> S.connected >>= λ e. pure (stmts.Connect p e)

  abbrev pub replaces : Path → Piece (Span → Stmt)
  replaces p = mark marks.Arrow >> name >>= λ n. pure (stmts.Replace p n)

  -- what goes on behind a path
  abbrev pub goes_on : Path → Piece (Span → Stmt)
  goes_on p = connects p or replaces p or (mark marks.Equal >> assigned p) or only (only_name p) declared

  -- a statement in the order in which it is read
  abbrev pub in_order : Piece (Span → Stmt)
  in_order = S.passed depth or S.documented depth or S.declared_point depth or S.assertion depth or (path >>= goes_on)

  -- `=` stands before both
  equal_first : (p : Path) (o : Option Named)
      → Same (only o (λ n. mark marks.Equal >>= λ _. keyword keywords.New >>= λ _. name >>= λ of. pure (stmts.Make n of)) or (mark marks.Equal >>= λ _. S.value depth >>= λ v. pure (stmts.Assign p v)))
      (mark marks.Equal >> (only o made or (S.value depth >>= λ v. pure (stmts.Assign p v))))
  equal_first p None = never_or _ then same_second (mark marks.Equal) (λ _. same_sym (never_or _))
  equal_first p (Some n) = same_or (same_second (mark marks.Equal) (λ _. nested (keyword keywords.New) (λ _. name) (λ of. pure (stmts.Make n of)))) (same_refl _) then or_joined (mark marks.Equal) (λ _. made n) (λ _. S.value depth >>= λ v. pure (stmts.Assign p v))

  assignments : Same (S.instance_made depth or S.assignment depth) (path >>= λ p. mark marks.Equal >> assigned p)
  assignments = name_or_path _ _ (λ n. in_first before_one) then same_second path (λ p. equal_first p (only_name p))

  by_names : Same (S.assignment depth or S.instance_made depth or S.declaration depth) (path >>= λ p. (mark marks.Equal >> assigned p) or only (only_name p) declared)
  by_names = same_sym (or_assoc _ _ _) then same_or (or_comm _ _ then assignments) (same_refl _) then or_comm _ _ then name_or_path _ _ (λ n. in_first before_one) then same_second path (λ p. or_comm _ _)

  by_paths : Same (S.connection depth or S.replacement depth or S.assignment depth or S.instance_made depth or S.declaration depth) (path >>= goes_on)
  by_paths = same_or (same_second path (λ p. nested _ _ _)) (same_or (same_second path (λ p. nested _ _ _)) by_names then or_joined path replaces _) then or_joined path connects _

  later : {p q r s : Piece (Span → Stmt)} → Same q (s or r) → Same (p or q) (s or (p or r))
  later e = same_or (same_refl _) e then or_second_first _ _ _

  assertion_first : Same (S.connection depth or S.replacement depth or S.assignment depth or S.instance_made depth or S.declaration depth or S.assertion depth) (S.assertion depth or (path >>= goes_on))
  assertion_first = later (later (later (later (or_comm _ _)))) then same_or (same_refl _) by_paths

  pub stmt_same : Same (S.stmt depth) (placed in_order)
  stmt_same = same_placed (same_or (same_refl _) (same_or (same_refl _) (same_or (same_refl _) assertion_first)))
