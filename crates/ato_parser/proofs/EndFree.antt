-- Nothing in a file is END but its last token.
use Rattle.std.proofs.Common.{◌≡◌, ℕ, zero, suc, Bool, true, false, ◌||◌, List, [], ◌∷◌, ◌++◌, Option, Some, None, if◌then◌else◌, refl}
use Rattle.ato_base.specs.declared.places.Span.{Span}
use Rattle.ato_base.specs.declared.keywords.Keyword.{Keyword}
use Rattle.ato_base.specs.declared.keywords.Mark.{Mark}
use Rattle.ato_base.specs.declared.keywords.Mark.TheVariants as marks
use Rattle.ato_ast.specs.declared.exprs.Expr.{Expr}
use Rattle.ato_base.specs.declared.tokens.TokenKind.{TokenKind}
use Rattle.ato_base.specs.declared.tokens.TokenKind.TheVariants as kinds
use Rattle.ato_parser.specs.Tokens.{Tokens, is_end}
use Rattle.ato_parser.specs.Kinds.{is_mark, is_keyword, just}
use Rattle.ato_parser.specs.Pieces.{Piece, NothingSpells, nothing, NothingFront, before_nothing, OneSpells, one_token, OneFront, before_one, whole_one, ThenSpells, then_spells, ThenFront, in_first, in_second, OrSpells, the_one, the_other, OrFront, in_one, in_other, ManySpells, no_more, one_more, ManyFront, before_many, in_next, after_next, PlacedSpells, placed_spells, one, pure, never, ◌>>=◌, ◌or◌, many, placed, optional, ended, flag}
use Rattle.ato_parser.specs.TokenPieces as T
use Rattle.ato_parser.specs.Expressions as E
use Rattle.ato_parser.specs.Statements as S
use Rattle.ato_parser.specs.Files as F

-- END is one of the tokens
abbrev pub has_end : Tokens → Bool
has_end [] = false
has_end (t ∷ ts) = is_end t.kind || has_end ts

-- No token of the piece is END.
pub record EndFree {A : Type 0} (p : Piece A) : Type 0 where
  pub spells : (a : A) (ts : Tokens) → p.Spells a ts → has_end ts ≡ false
  pub front : (ts : Tokens) → p.Front ts → has_end ts ≡ false

behind_end : (b c : Bool) → b ≡ false → c ≡ false → (b || c) ≡ false
behind_end false c e h = h
behind_end true c e h = cc

first_free : (b c : Bool) → (b || c) ≡ false → b ≡ false
first_free false c h = refl
first_free true c h = cc

others_free : (b c : Bool) → (b || c) ≡ false → c ≡ false
others_free false c h = h
others_free true c h = cc

pub both_free : (ts us : Tokens) → has_end ts ≡ false → has_end us ≡ false → has_end (ts ++ us) ≡ false
both_free [] us e h = h
both_free (t ∷ ts) us e h = behind_end (is_end t.kind) (has_end (ts ++ us)) (first_free (is_end t.kind) (has_end ts) e) (both_free ts us (others_free (is_end t.kind) (has_end ts) e) h)

-- ---- how pieces are put together

pure_spells : {A : Type 0} {a b : A} {ts : Tokens} → NothingSpells a b ts → has_end ts ≡ false
pure_spells nothing = refl

pure_front : {ts : Tokens} → NothingFront ts → has_end ts ≡ false
pure_front before_nothing = refl

pure_free : {A : Type 0} {a : A} → EndFree (pure a)
pure_free = record { spells = λ b ts s. pure_spells s; front = λ ts f. pure_front f }

never_free : {A : Type 0} → EndFree (never {A = A})
never_free = record { spells = λ a ts s. absurd s; front = λ ts f. absurd f }

not_end : {A : Type 0} (value : TokenKind → Option A) → value kinds.End ≡ None → (kind : TokenKind) (a : A) → value kind ≡ Some a → (is_end kind || false) ≡ false
not_end value e kinds.End a h = cc
not_end value e _ a h = refl

one_spells : {A : Type 0} (value : TokenKind → Option A) → value kinds.End ≡ None → (a : A × Span) (ts : Tokens) → OneSpells value a ts → has_end ts ≡ false
one_spells value e a ts (one_token {a = b} kind at h) = not_end value e kind b h

one_front : {A : Type 0} (value : TokenKind → Option A) → value kinds.End ≡ None → (ts : Tokens) → OneFront value ts → has_end ts ≡ false
one_front value e ts before_one = refl
one_front value e ts (whole_one {a = b} kind at h) = not_end value e kind b h

one_free : {A : Type 0} (value : TokenKind → Option A) → value kinds.End ≡ None → EndFree (one value)
one_free value e = record { spells = one_spells value e; front = one_front value e }

then_s : {A B : Type 0} {p : Piece A} {f : A → Piece B} → EndFree p → ((a : A) → EndFree (f a)) → (b : B) (ts : Tokens) → ThenSpells p f b ts → has_end ts ≡ false
then_s e h b ts (then_spells {a = a} {ts = us} {us = vs} s t) = both_free us vs (e.spells a us s) ((h a).spells b vs t)

then_f : {A B : Type 0} {p : Piece A} {f : A → Piece B} → EndFree p → ((a : A) → EndFree (f a)) → (ts : Tokens) → ThenFront p f ts → has_end ts ≡ false
then_f e h ts (in_first s) = e.front ts s
then_f e h ts (in_second {a = a} {ts = us} {us = vs} s t) = both_free us vs (e.spells a us s) ((h a).front vs t)

infixr 8 ◌before◌
◌before◌ : {A B : Type 0} {p : Piece A} {f : A → Piece B} → EndFree p → ((a : A) → EndFree (f a)) → EndFree (p >>= f)
e before h = record { spells = then_s e h; front = then_f e h }

or_s : {A : Type 0} {p q : Piece A} → EndFree p → EndFree q → (a : A) (ts : Tokens) → OrSpells p q a ts → has_end ts ≡ false
or_s e h a ts (the_one s) = e.spells a ts s
or_s e h a ts (the_other s) = h.spells a ts s

or_f : {A : Type 0} {p q : Piece A} → EndFree p → EndFree q → (ts : Tokens) → OrFront p q ts → has_end ts ≡ false
or_f e h ts (in_one s) = e.front ts s
or_f e h ts (in_other s) = h.front ts s

infixr 5 ◌else◌
◌else◌ : {A : Type 0} {p q : Piece A} → EndFree p → EndFree q → EndFree (p or q)
e else h = record { spells = or_s e h; front = or_f e h }

many_s : {A : Type 0} {p : Piece A} → EndFree p → (xs : List A) (ts : Tokens) → ManySpells p xs ts → has_end ts ≡ false
many_s e xs ts no_more = refl
many_s e xs ts (one_more {a = a} {more = more} {ts = us} {us = vs} s m) = both_free us vs (e.spells a us s) (many_s e more vs m)

many_f : {A : Type 0} {p : Piece A} → EndFree p → (ts : Tokens) → ManyFront p ts → has_end ts ≡ false
many_f e ts before_many = refl
many_f e ts (in_next s) = e.front ts s
many_f e ts (after_next {a = a} {ts = us} {us = vs} s m) = both_free us vs (e.spells a us s) (many_f e vs m)

many_free : {A : Type 0} {p : Piece A} → EndFree p → EndFree (many p)
many_free e = record { spells = many_s e; front = many_f e }

placed_s : {A : Type 0} {p : Piece (Span → A)} → EndFree p → (a : A) (ts : Tokens) → PlacedSpells p a ts → has_end ts ≡ false
placed_s e a ts (placed_spells {f = f} s) = e.spells f ts s

placed_free : {A : Type 0} {p : Piece (Span → A)} → EndFree p → EndFree (placed p)
placed_free e = record { spells = placed_s e; front = e.front }

optional_free : {A : Type 0} {p : Piece A} → EndFree p → EndFree (optional p)
optional_free e = e before (λ _. pure_free) else pure_free

ended_free : {C A B : Type 0} {sep : Piece C} {p : Piece A} {q : Piece B} → EndFree sep → EndFree p → EndFree q → EndFree (ended sep p q)
ended_free c e h = many_free (c before (λ _. e)) before (λ _. optional_free (c before (λ _. h)) before (λ _. pure_free))

flag_free : {A : Type 0} {p : Piece A} → EndFree p → EndFree (flag p)
flag_free e = e before (λ _. pure_free) else pure_free

-- ---- tokens

mark_free : (m : Mark) → EndFree (T.mark m)
mark_free m = one_free (just (is_mark m)) refl

keyword_free : (w : Keyword) → EndFree (T.keyword w)
keyword_free w = one_free (just (is_keyword w)) refl

name_free : EndFree T.name
name_free = one_free _ refl before (λ n. pure_free)

text_free : EndFree T.text
text_free = one_free _ refl before (λ s. pure_free)

-- ---- expressions

path_free : EndFree E.path
path_free = placed_free (name_free before (λ first. ended_free (mark_free _) name_free (one_free _ refl) before (λ rest. pure_free)))

measured_free : (minus : Bool) → EndFree (E.measured minus)
measured_free minus = one_free _ refl before (λ n. optional_free (one_free _ refl) before (λ u. pure_free))

quantity_free : EndFree E.quantity
quantity_free = placed_free (flag_free (mark_free _) before (λ minus. measured_free minus))

literal_free : EndFree E.literal
literal_free = quantity_free before (λ a.
    keyword_free _ before (λ _. quantity_free before (λ b. pure_free))
    else mark_free _ before (λ _. placed_free (measured_free false) before (λ b. pure_free))
    else pure_free)

module _ (opening : Piece (Unit × Span)) (inner : Piece Expr) (o : EndFree opening) (i : EndFree inner) where
  atom_free : EndFree (E.atom opening inner)
  atom_free = placed_free (path_free before (λ p. pure_free)
      else literal_free before (λ l. pure_free)
      else o before (λ _. i before (λ x. mark_free _ before (λ _. pure_free)))
      else one_free _ refl before (λ _. o before (λ _. i before (λ x. mark_free _ before (λ _. pure_free))))
      else one_free _ refl before (λ which. o before (λ _. i before (λ x. many_free (mark_free _ before (λ _. i)) before (λ more. mark_free _ before (λ _. pure_free))))))

  power_free : EndFree (E.power opening inner)
  power_free = placed_free (atom_free before (λ b. optional_free (mark_free _ before (λ _. one_free _ refl)) before (λ e. pure_free)))

  product_free : EndFree (E.product opening inner)
  product_free = placed_free (power_free before (λ first. many_free (one_free _ refl before (λ s. power_free before (λ x. pure_free))) before (λ more. pure_free)))

  sum_over_free : EndFree (E.sum_over opening inner)
  sum_over_free = placed_free (product_free before (λ first. many_free (one_free _ refl before (λ s. product_free before (λ x. pure_free))) before (λ more. pure_free)))

sum_free : (depth : ℕ) → EndFree (E.sum depth)
unfolding E.sum
sum_free zero = sum_over_free never never never_free never_free
sum_free (suc depth) = sum_over_free (T.mark marks.LeftParenthesis) (E.sum depth) (mark_free _) (sum_free depth)

-- ---- statements

label_free : EndFree S.label
label_free = name_free before (λ n. pure_free) else one_free _ refl before (λ n. pure_free) else text_free before (λ s. pure_free)

point_free : EndFree S.point
point_free = placed_free (keyword_free _ before (λ _. name_free before (λ n. pure_free)) else keyword_free _ before (λ _. label_free before (λ l. pure_free)))

connected_free : EndFree S.connected
connected_free = point_free before (λ p. pure_free) else path_free before (λ p. pure_free)

module _ (depth : ℕ) where
  value_free : EndFree (S.value depth)
  value_free = text_free before (λ s. pure_free) else one_free _ refl before (λ t. pure_free) else sum_free depth before (λ x. pure_free)

  compare_free : EndFree (S.compare depth)
  compare_free = one_free _ refl before (λ c. sum_free depth before (λ x. pure_free))
      else keyword_free _ before (λ _. literal_free before (λ first. many_free (mark_free _ before (λ _. literal_free)) before (λ more. pure_free)))

  stmt_free : EndFree (S.stmt depth)
  stmt_free = placed_free (keyword_free _ before (λ _. pure_free)
      else text_free before (λ s. pure_free)
      else point_free before (λ p. optional_free (mark_free _ before (λ _. connected_free)) before (λ e. pure_free))
      else path_free before (λ p. mark_free _ before (λ _. connected_free before (λ e. pure_free)))
      else path_free before (λ p. mark_free _ before (λ _. name_free before (λ n. pure_free)))
      else path_free before (λ p. mark_free _ before (λ _. value_free before (λ v. pure_free)))
      else name_free before (λ n. mark_free _ before (λ _. keyword_free _ before (λ _. name_free before (λ m. pure_free))))
      else name_free before (λ n. mark_free _ before (λ _. name_free before (λ m. optional_free (mark_free _ before (λ _. value_free)) before (λ v. pure_free))))
      else keyword_free _ before (λ _. sum_free depth before (λ x. compare_free before (λ c. pure_free))))

-- ---- files

line_free : {A : Type 0} {part : Piece A} → EndFree part → EndFree (F.line part)
line_free e = e before (λ first. ended_free (mark_free _) e pure_free before (λ rest. one_free _ refl before (λ _. pure_free)))

names_free : EndFree F.names
names_free = name_free before (λ first. many_free (mark_free _ before (λ _. name_free)) before (λ more. pure_free))

head_free : EndFree F.head
head_free = placed_free (keyword_free _ before (λ _. name_free before (λ n. keyword_free _ before (λ _. text_free before (λ s. pure_free))))
    else keyword_free _ before (λ _. names_free before (λ ns. pure_free))
    else keyword_free _ before (λ _. text_free before (λ s. keyword_free _ before (λ _. names_free before (λ ns. pure_free))))
    else text_free before (λ s. pure_free)
    else keyword_free _ before (λ _. pure_free))

body_free : (depth : ℕ) → EndFree (F.body depth)
body_free depth = line_free (stmt_free depth) before (λ l. pure_free)
    else one_free _ refl before (λ _. one_free _ refl before (λ _. line_free (stmt_free depth) before (λ first. many_free (line_free (stmt_free depth)) before (λ more. one_free _ refl before (λ _. pure_free)))))

block_free : (depth : ℕ) → EndFree (F.block depth)
block_free depth = one_free _ refl before (λ kind. name_free before (λ n. optional_free (keyword_free _ before (λ _. name_free)) before (λ p. mark_free _ before (λ _. body_free depth before (λ b. pure_free)))))

-- an item has no END
pub item_free : (depth : ℕ) → EndFree (F.item depth)
item_free depth = line_free head_free before (λ l. pure_free) else block_free depth before (λ b. pure_free)

-- nor have many
pub items_free : (depth : ℕ) → EndFree (many (F.item depth))
items_free depth = many_free (item_free depth)
