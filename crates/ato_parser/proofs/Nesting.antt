-- How many parentheses of tokens are open at once, in each way to put pieces together.
use Rattle.std.proofs.Common.{◌≡◌, ℕ, zero, suc, List, [], ◌∷◌, ◌++◌, Bool, true, false, Option, Some, None, is_some, refl, sym, ap, ◌∙◌, true≢false}
use Rattle.ato_base.specs.declared.places.Span.{Span}
use Rattle.ato_base.specs.declared.keywords.Keyword.{Keyword}
use Rattle.ato_base.specs.declared.keywords.Mark.{Mark}
use Rattle.ato_base.specs.declared.keywords.Mark.TheVariants as marks
use Rattle.ato_base.specs.declared.tokens.TokenKind.{TokenKind}
use Rattle.ato_base.specs.declared.tokens.TokenKind.TheVariants as kinds
use Rattle.ato_parser.specs.Tokens.{Tokens}
use Rattle.ato_parser.specs.Kinds.{is_mark, is_keyword, just}
use Rattle.ato_parser.specs.Nesting.{after_one, after, left_to_open}
use Rattle.ato_parser.specs.Pieces.{Piece, OneSpells, one_token, OneFront, before_one, whole_one, NothingSpells, nothing, NothingFront, before_nothing, ThenSpells, then_spells, ThenFront, in_first, in_second, OrSpells, the_one, the_other, OrFront, in_one, in_other, ManySpells, no_more, one_more, ManyFront, before_many, in_next, after_next, PlacedSpells, placed_spells, pure, one, ◌>>=◌, ◌or◌, many, placed, optional, ended}
use Rattle.ato_parser.specs.TokenPieces.{mark, keyword}
use Rattle.ato_parser.proofs.KindsOfTokens.{none_some, just_some, mark_is, keyword_is}

-- Where b more parentheses may be open before a piece, c more may be behind it, and within it never one too many is.
pub record Moves {A : Type 0} (b c : ℕ) (p : Piece A) : Type 0 where
  pub spelling : (a : A) (ts : Tokens) → p.Spells a ts → left_to_open (Some b) ts ≡ Some c
  pub front : (ts : Tokens) → p.Front ts → is_some (left_to_open (Some b) ts) ≡ true

pub left_both : (s : Option ℕ) (ts us : Tokens) → left_to_open s (ts ++ us) ≡ left_to_open (left_to_open s ts) us
left_both s [] us = refl
left_both s (t ∷ ts) us = left_both (after s t.kind) ts us

both : (b c d : ℕ) (ts us : Tokens) → left_to_open (Some b) ts ≡ Some c → left_to_open (Some c) us ≡ Some d → left_to_open (Some b) (ts ++ us) ≡ Some d
both b c d ts us e f = left_both (Some b) ts us ∙ ap (λ s. left_to_open s us) e ∙ f

both_some : (b c : ℕ) (ts us : Tokens) → left_to_open (Some b) ts ≡ Some c → is_some (left_to_open (Some c) us) ≡ true → is_some (left_to_open (Some b) (ts ++ us)) ≡ true
both_some b c ts us e f = ap is_some (left_both (Some b) ts us ∙ ap (λ s. left_to_open s us) e) ∙ f

-- ---- single pieces

-- neither parenthesis
abbrev pub is_parenthesis : TokenKind → Bool
is_parenthesis (kinds.Mark marks.LeftParenthesis) = true
is_parenthesis (kinds.Mark marks.RightParenthesis) = true
is_parenthesis _ = false

stays : (b : ℕ) (kind : TokenKind) → is_parenthesis kind ≡ false → after_one b kind ≡ Some b
stays zero (kinds.Mark marks.LeftParenthesis) e = absurd (true≢false e)
stays (suc b) (kinds.Mark marks.LeftParenthesis) e = absurd (true≢false e)
stays zero (kinds.Mark marks.RightParenthesis) e = absurd (true≢false e)
stays (suc b) (kinds.Mark marks.RightParenthesis) e = absurd (true≢false e)
stays zero (kinds.Mark _) e = refl
stays (suc b) (kinds.Mark _) e = refl
stays zero _ e = refl
stays (suc b) _ e = refl

pub one_moves : {A : Type 0} (b c : ℕ) (value : TokenKind → Option A) → ((kind : TokenKind) (a : A) → value kind ≡ Some a → after_one b kind ≡ Some c) → Moves b c (one value)
one_moves {A} b c value law = record { spelling = spellings; front = fronts }
  where
    spellings : (x : A × Span) (ts : Tokens) → OneSpells value x ts → left_to_open (Some b) ts ≡ Some c
    spellings x ts (one_token {a} kind at e) = law kind a e

    fronts : (ts : Tokens) → OneFront value ts → is_some (left_to_open (Some b) ts) ≡ true
    fronts ts before_one = refl
    fronts ts (whole_one {a} kind at e) = ap is_some (law kind a e)

-- a value that no parenthesis has
pub valued : {A : Type 0} (b : ℕ) (value : TokenKind → Option A) → value (kinds.Mark marks.LeftParenthesis) ≡ None → value (kinds.Mark marks.RightParenthesis) ≡ None → Moves b b (one value)
valued {A} b value e f = one_moves b b value (λ kind a g. stays b kind (law kind a g))
  where
    law : (kind : TokenKind) (a : A) → value kind ≡ Some a → is_parenthesis kind ≡ false
    law (kinds.Mark marks.LeftParenthesis) a g = absurd (none_some (sym e ∙ g))
    law (kinds.Mark marks.RightParenthesis) a g = absurd (none_some (sym f ∙ g))
    law (kinds.Mark _) a g = refl
    law _ a g = refl

pub mark_moves : (b : ℕ) (m : Mark) → is_parenthesis (kinds.Mark m) ≡ false → Moves b b (mark m)
mark_moves b m e = one_moves b b (just (is_mark m)) (λ kind a f. stays b kind (ap is_parenthesis (mark_is m kind (just_some (is_mark m) kind a f)) ∙ e))

pub keyword_moves : (b : ℕ) (w : Keyword) → Moves b b (keyword w)
keyword_moves b w = one_moves b b (just (is_keyword w)) (λ kind a f. stays b kind (ap is_parenthesis (keyword_is w kind (just_some (is_keyword w) kind a f))))

pub open_moves : (c : ℕ) → Moves (suc c) c (mark marks.LeftParenthesis)
open_moves c = one_moves (suc c) c (just (is_mark marks.LeftParenthesis)) (λ kind a f. ap (after_one (suc c)) (mark_is marks.LeftParenthesis kind (just_some (is_mark marks.LeftParenthesis) kind a f)))

closes : (c : ℕ) → after_one c (kinds.Mark marks.RightParenthesis) ≡ Some (suc c)
closes zero = refl
closes (suc c) = refl

pub close_moves : (c : ℕ) → Moves c (suc c) (mark marks.RightParenthesis)
close_moves c = one_moves c (suc c) (just (is_mark marks.RightParenthesis))
    (λ kind a f. ap (after_one c) (mark_is marks.RightParenthesis kind (just_some (is_mark marks.RightParenthesis) kind a f)) ∙ closes c)

pub pure_moves : {A : Type 0} (b : ℕ) (a : A) → Moves b b (pure a)
pure_moves {A} b a = record { spelling = spellings; front = fronts }
  where
    spellings : (x : A) (ts : Tokens) → NothingSpells a x ts → left_to_open (Some b) ts ≡ Some b
    spellings x ts nothing = refl

    fronts : (ts : Tokens) → NothingFront ts → is_some (left_to_open (Some b) ts) ≡ true
    fronts ts before_nothing = refl

-- ---- pieces put together

pub then_moves : {A B : Type 0} (b c d : ℕ) (p : Piece A) (q : A → Piece B) → Moves b c p → ((a : A) → Moves c d (q a)) → Moves b d (p >>= q)
then_moves {A} {B} b c d p q h k = record { spelling = spellings; front = fronts }
  where
    spellings : (x : B) (ts : Tokens) → ThenSpells p q x ts → left_to_open (Some b) ts ≡ Some d
    spellings x ts (then_spells {a} {ts = us} {us = vs} e f) = both b c d us vs (h.spelling a us e) ((k a).spelling x vs f)

    fronts : (ts : Tokens) → ThenFront p q ts → is_some (left_to_open (Some b) ts) ≡ true
    fronts ts (in_first f) = h.front ts f
    fronts ts (in_second {a} {ts = us} {us = vs} e f) = both_some b c us vs (h.spelling a us e) ((k a).front vs f)

pub or_moves : {A : Type 0} (b c : ℕ) (p q : Piece A) → Moves b c p → Moves b c q → Moves b c (p or q)
or_moves {A} b c p q h k = record { spelling = spellings; front = fronts }
  where
    spellings : (a : A) (ts : Tokens) → OrSpells p q a ts → left_to_open (Some b) ts ≡ Some c
    spellings a ts (the_one d) = h.spelling a ts d
    spellings a ts (the_other d) = k.spelling a ts d

    fronts : (ts : Tokens) → OrFront p q ts → is_some (left_to_open (Some b) ts) ≡ true
    fronts ts (in_one f) = h.front ts f
    fronts ts (in_other f) = k.front ts f

module _ {A : Type 0} (b : ℕ) (p : Piece A) (h : Moves b b p) where
  many_spellings : (xs : List A) (ts : Tokens) → ManySpells p xs ts → left_to_open (Some b) ts ≡ Some b
  many_spellings xs ts no_more = refl
  many_spellings xs ts (one_more {a} {more} {ts = us} {us = vs} d e) = both b b b us vs (h.spelling a us d) (many_spellings more vs e)

  many_fronts : (ts : Tokens) → ManyFront p ts → is_some (left_to_open (Some b) ts) ≡ true
  many_fronts ts before_many = refl
  many_fronts ts (in_next f) = h.front ts f
  many_fronts ts (after_next {a} {ts = us} {us = vs} d f) = both_some b b us vs (h.spelling a us d) (many_fronts vs f)

  pub many_moves : Moves b b (many p)
  many_moves = record { spelling = many_spellings; front = many_fronts }

pub placed_moves : {A : Type 0} (b c : ℕ) (p : Piece (Span → A)) → Moves b c p → Moves b c (placed p)
placed_moves {A} b c p h = record { spelling = spellings; front = h.front }
  where
    spellings : (a : A) (ts : Tokens) → PlacedSpells p a ts → left_to_open (Some b) ts ≡ Some c
    spellings a ts (placed_spells {f} d) = h.spelling f ts d

pub optional_moves : {A : Type 0} (b : ℕ) (p : Piece A) → Moves b b p → Moves b b (optional p)
optional_moves b p h = or_moves b b _ _ (then_moves b b b p (λ a. pure (Some a)) h (λ a. pure_moves b (Some a))) (pure_moves b None)

-- a separator before each, and maybe another at the end
pub ended_moves : {S A B : Type 0} (b : ℕ) (s : Piece S) (p : Piece A) (q : Piece B) → Moves b b s → Moves b b p → Moves b b q → Moves b b (ended s p q)
ended_moves b s p q hs hp hq = then_moves b b b _ _ (many_moves b _ (then_moves b b b s _ hs (λ _. hp)))
    λ more. then_moves b b b _ _ (optional_moves b _ (then_moves b b b s _ hs (λ _. hq))) λ last. pure_moves b _
