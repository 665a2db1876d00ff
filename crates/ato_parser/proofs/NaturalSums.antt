-- Expressions of each depth: their fronts begin and go on.
use Rattle.std.proofs.Common.{◌≡◌, ℕ, zero, suc, [], ◌∷◌, ◌++◌, Option, Some, refl}
use Rattle.ato_base.specs.declared.name_table.Name.{Name}
use Rattle.ato_base.specs.declared.places.Span.{Span}
use Rattle.ato_base.specs.declared.keywords.Mark.TheVariants as marks
use Rattle.ato_base.specs.declared.tokens.TokenKind.{TokenKind}
use Rattle.ato_base.specs.declared.tokens.TokenKind.TheVariants as kinds
use Rattle.ato_ast.specs.declared.exprs.Expr.{Expr}
use Rattle.ato_ast.specs.declared.exprs.Expr.TheVariants as exprs
use Rattle.ato_parser.specs.Tokens.{Tokens, token}
use Rattle.ato_parser.specs.Kinds.{named, name_of, abs_of, choice_of}
use Rattle.ato_parser.specs.Pieces.{Piece, pure, never, one, ◌>>=◌, ◌or◌, OneFront, before_one, whole_one, ThenSpells, then_spells, ThenFront, in_first, in_second, OrSpells, the_one, the_other, OrFront, in_one, in_other}
use Rattle.ato_parser.specs.TokenPieces.{mark}
use Rattle.ato_parser.specs.Expressions.{path, literal, group, absolute, chosen, atom, sum}
use Rattle.ato_parser.proofs.Natural.{Natural, Completed, one_begins, placed_natural}
use Rattle.ato_parser.proofs.NaturalPieces.{mark_natural, path_atom_natural, literal_atom_natural, atom_natural, sum_over_natural}

-- ---- where no parenthesis may stand

-- A piece with no spelling, each of whose fronts is one of another piece.
record Shadowed {A : Type 0} (p q : Piece A) : Type 0 where
  silent : (a : A) (ts : Tokens) → q.Spells a ts → ⊥
  begins : (ts us : Tokens) → q.Front (ts ++ us) → q.Front ts
  covered : (ts : Tokens) → q.Front ts → p.Front ts

module _ {A : Type 0} (p l q : Piece A) (pn : Natural p) (ln : Natural l) (shadow : Shadowed p q) where
  beside_whole : (a : A) (ts : Tokens) → OrSpells p (l or q) a ts → OrFront p (l or q) ts
  beside_whole a ts (the_one s) = in_one (pn.whole a ts s)
  beside_whole a ts (the_other (the_one s)) = in_other (in_one (ln.whole a ts s))
  beside_whole a ts (the_other (the_other s)) = absurd (shadow.silent a ts s)

  beside_begins : (ts us : Tokens) → OrFront p (l or q) (ts ++ us) → OrFront p (l or q) ts
  beside_begins ts us (in_one f) = in_one (pn.begins ts us f)
  beside_begins ts us (in_other (in_one f)) = in_other (in_one (ln.begins ts us f))
  beside_begins ts us (in_other (in_other f)) = in_other (in_other (shadow.begins ts us f))

  one_completed : (ts : Tokens) → Completed p ts → Completed (p or (l or q)) ts
  one_completed ts c = record { value = c.value; rest = c.rest; spells = the_one c.spells }

  other_completed : (ts : Tokens) → Completed l ts → Completed (p or (l or q)) ts
  other_completed ts c = record { value = c.value; rest = c.rest; spells = the_other (the_one c.spells) }

  beside_goes_on : (ts : Tokens) → OrFront p (l or q) ts → Completed (p or (l or q)) ts
  beside_goes_on ts (in_one f) = one_completed ts (pn.goes_on ts f)
  beside_goes_on ts (in_other (in_one f)) = other_completed ts (ln.goes_on ts f)
  beside_goes_on ts (in_other (in_other f)) = one_completed ts (pn.goes_on ts (shadow.covered ts f))

  beside_natural : Natural (p or (l or q))
  beside_natural = record { opens = in_one pn.opens; whole = beside_whole; begins = beside_begins; goes_on = beside_goes_on }

module _ {A : Type 0} (p q r : Piece A) (first : Shadowed p q) (second : Shadowed p r) where
  both_silent : (a : A) (ts : Tokens) → OrSpells q r a ts → ⊥
  both_silent a ts (the_one s) = first.silent a ts s
  both_silent a ts (the_other s) = second.silent a ts s

  both_begins : (ts us : Tokens) → OrFront q r (ts ++ us) → OrFront q r ts
  both_begins ts us (in_one f) = in_one (first.begins ts us f)
  both_begins ts us (in_other f) = in_other (second.begins ts us f)

  both_covered : (ts : Tokens) → OrFront q r ts → p.Front ts
  both_covered ts (in_one f) = first.covered ts f
  both_covered ts (in_other f) = second.covered ts f

  both_shadowed : Shadowed p (q or r)
  both_shadowed = record { silent = both_silent; begins = both_begins; covered = both_covered }

-- a piece that begins with nothing at all
module _ {A C : Type 0} (p : Piece A) (q : C → Piece A) where
  never_spells : (a : A) (ts : Tokens) → ThenSpells never q a ts → ⊥
  never_spells a ts (then_spells s t) = s

  never_fronts : (ts : Tokens) → ThenFront never q ts → ⊥
  never_fronts ts (in_first f) = f
  never_fronts ts (in_second s f) = s

  never_shadowed : Shadowed p (never >>= q)
  never_shadowed = record { silent = never_spells; begins = λ ts us f. absurd (never_fronts (ts ++ us) f); covered = λ ts f. absurd (never_fronts ts f) }

-- a token that goes on with nothing at all
module _ {A B C : Type 0} (p : Piece A) (value : TokenKind → Option B) (q : B × Span → C → Piece A) (covers : (ts : Tokens) → OneFront value ts → p.Front ts) where
  abbrev stuck : Piece A
  stuck = one value >>= λ b. never >>= q b

  stuck_spells : (a : A) (ts : Tokens) → stuck.Spells a ts → ⊥
  stuck_spells a ts (then_spells {a = b} {us} s t) = never_spells p (q b) a us t

  stuck_front : (ts : Tokens) → stuck.Front ts → OneFront value ts
  stuck_front ts (in_first f) = f
  stuck_front ts (in_second {a = b} {us} s f) = absurd (never_fronts p (q b) us f)

  stuck_shadowed : Shadowed p stuck
  stuck_shadowed = record {
    silent = stuck_spells;
    begins = λ ts us f. in_first (one_begins value (ts ++ us) ts us refl (stuck_front (ts ++ us) f));
    covered = λ ts f. covers ts (stuck_front ts f);
  }

-- a name begins a path
named_front : {A : Type 0} (value : Name → Option A) (a : A) (kind : TokenKind) (at : Span) → named value kind ≡ Some a → OneFront name_of (token kind at ∷ [])
named_front value a (kinds.Name n) at e = whole_one (kinds.Name n) at refl
named_front value a _ at e = cc

begins_path : {A : Type 0} (value : Name → Option A) (ts : Tokens) → OneFront (named value) ts → OneFront name_of ts
begins_path value ts before_one = before_one
begins_path value ts (whole_one {a} kind at e) = named_front value a kind at e

abbrev paths : Piece (Span → Expr)
paths = path >>= λ p. pure (λ at. exprs.Path p)

abbrev literals_alone : Piece (Span → Expr)
literals_alone = literal >>= λ l. pure (exprs.Literal l)

absolute_shadowed : Shadowed paths (absolute never never)
absolute_shadowed = stuck_shadowed _ _ _ (λ ts f. in_first (in_first (in_first (begins_path abs_of ts f))))

chosen_shadowed : Shadowed paths (chosen never never)
chosen_shadowed = stuck_shadowed _ _ _ (λ ts f. in_first (in_first (in_first (begins_path choice_of ts f))))

group_shadowed : Shadowed paths (group never never)
group_shadowed = never_shadowed _ _

atom_alone_natural : Natural (atom never never)
atom_alone_natural = placed_natural _ (beside_natural paths literals_alone _ path_atom_natural literal_atom_natural
    (both_shadowed paths _ _ group_shadowed (both_shadowed paths _ _ absolute_shadowed chosen_shadowed)))

-- ---- every depth

pub sum_natural : (depth : ℕ) → Natural (sum depth)
unfolding sum
sum_natural zero = sum_over_natural never never atom_alone_natural
sum_natural (suc depth) = sum_over_natural (mark marks.LeftParenthesis) (sum depth) (atom_natural (mark marks.LeftParenthesis) (sum depth) (mark_natural marks.LeftParenthesis) (sum_natural depth))
