-- A piece whose values are written out as the tokens that spell them.
use Rattle.std.proofs.Common.{◌≡◌, List, [], ◌∷◌, ◌++◌, map, flat_map, Bool, true, false, Option, Some, None, refl, sym, ap, ◌∙◌, append-nil}
use Rattle.std.proofs.lemmas.List.{map-append}
use Rattle.ato_base.specs.declared.places.Span.{Span}
use Rattle.ato_base.specs.declared.tokens.Token.{Token}
use Rattle.ato_base.specs.declared.tokens.TokenKind.{TokenKind}
use Rattle.ato_ast.specs.PathKinds.{Kinds}
use Rattle.ato_parser.specs.Tokens.{Tokens, extent}
use Rattle.ato_parser.specs.Pieces.{Piece, then_spells, the_one, the_other, no_more, one_more, placed_spells, one_token, nothing, pure, never, one, ◌>>=◌, ◌>>◌, ◌or◌, many, placed, optional, ended, flag}

-- the kinds of tokens
abbrev pub kinds_in : Tokens → Kinds
kinds_in ts = map (λ (t : Token). t.kind) ts

-- Each value is written out as the tokens that spell it, with what the function puts before them and behind.
abbrev pub HasKindsIn : {A : Type 0} → (Kinds → Kinds) → Piece A → (A → Kinds) → Type 0
HasKindsIn {A} around p kinds_of = (a : A) (ts : Tokens) → p.Spells a ts → kinds_of a ≡ around (kinds_in ts)

-- Each value is written out as the tokens that spell it.
abbrev pub HasKinds : {A : Type 0} → Piece A → (A → Kinds) → Type 0
HasKinds {A} p kinds_of = (a : A) (ts : Tokens) → p.Spells a ts → kinds_of a ≡ kinds_in ts

-- of a value that waits for its place: at every place
abbrev pub HasKindsAt : {A : Type 0} → Piece (Span → A) → (A → Kinds) → Type 0
HasKindsAt {A} p kinds_of = (at : Span) → HasKinds p (λ f. kinds_of (f at))

-- ---- the combinators

pub pure_has : {A : Type 0} (around : Kinds → Kinds) (a : A) (kinds_of : A → Kinds) → kinds_of a ≡ around [] → HasKindsIn around (pure a) kinds_of
pure_has around a kinds_of e b ts nothing = e

pub one_has : {A : Type 0} (value : TokenKind → Option A) (kinds_of : A → TokenKind)
    → ((kind : TokenKind) (a : A) → value kind ≡ Some a → kinds_of a ≡ kind) → HasKinds (one value) (λ x. kinds_of x.0 ∷ [])
one_has value kinds_of law x ts (one_token {a} kind at e) = ap (λ k. k ∷ []) (law kind a e)

pub then_has : {A B : Type 0} (around : Kinds → Kinds) (p : Piece A) (q : A → Piece B) (first : A → Kinds) (kinds_of : B → Kinds)
    → HasKinds p first → ((a : A) → HasKindsIn (λ rest. around (first a ++ rest)) (q a) kinds_of) → HasKindsIn around (p >>= q) kinds_of
then_has around p q first kinds_of hp hq b vs (then_spells {a} {ts} {us} d e) =
    hq a b us e ∙ ap (λ l. around (l ++ kinds_in us)) (hp a ts d) ∙ ap around (sym (map-append (λ (t : Token). t.kind) ts us))

pub or_has : {A : Type 0} (around : Kinds → Kinds) (p q : Piece A) (kinds_of : A → Kinds)
    → HasKindsIn around p kinds_of → HasKindsIn around q kinds_of → HasKindsIn around (p or q) kinds_of
or_has around p q kinds_of hp hq a ts (the_one d) = hp a ts d
or_has around p q kinds_of hp hq a ts (the_other d) = hq a ts d

pub many_has : {A : Type 0} (p : Piece A) (kinds_of : A → Kinds) → HasKinds p kinds_of → HasKinds (many p) (flat_map kinds_of)
many_has p kinds_of hp xs vs no_more = refl
many_has p kinds_of hp xs vs (one_more {a} {more} {ts} {us} d e) =
    ap (λ l. l ++ flat_map kinds_of more) (hp a ts d) ∙ ap (λ l. kinds_in ts ++ l) (many_has p kinds_of hp more us e) ∙ sym (map-append (λ (t : Token). t.kind) ts us)

pub placed_has : {A : Type 0} (p : Piece (Span → A)) (kinds_of : A → Kinds) → HasKindsAt p kinds_of → HasKinds (placed p) kinds_of
placed_has p kinds_of hp a ts (placed_spells {f} d) = hp (extent ts) f ts d

-- nothing, or the kinds of a value
abbrev pub maybe : {A : Type 0} → (A → Kinds) → Option A → Kinds
maybe kinds_of None = []
maybe kinds_of (Some a) = kinds_of a

pub optional_has : {A : Type 0} (p : Piece A) (kinds_of : A → Kinds) → HasKinds p kinds_of → HasKinds (optional p) (maybe kinds_of)
optional_has p kinds_of hp =
    or_has (λ l. l) (p >>= λ a. pure (Some a)) (pure None) (maybe kinds_of)
    (then_has (λ l. l) p (λ a. pure (Some a)) kinds_of (maybe kinds_of) hp
    (λ a. pure_has (λ rest. kinds_of a ++ rest) (Some a) (maybe kinds_of) (sym (append-nil (kinds_of a)))))
    (pure_has (λ l. l) None (maybe kinds_of) refl)

-- one thing's kinds, or none
pub flag_has : {A : Type 0} (p : Piece A) (sep : Kinds) (kinds_of : Bool → Kinds) → kinds_of true ≡ sep → kinds_of false ≡ [] → HasKinds p (λ _. sep) → HasKinds (flag p) kinds_of
flag_has p sep kinds_of yes_is no_is hp =
    or_has (λ l. l) (p >> pure true) (pure false) kinds_of
    (then_has (λ l. l) p (λ _. pure true) (λ _. sep) kinds_of hp (λ _. pure_has (λ rest. sep ++ rest) true kinds_of (yes_is ∙ sym (append-nil sep))))
    (pure_has (λ l. l) false kinds_of no_is)

-- the kinds of a separator, and of what stands behind it
abbrev pub behind : {A : Type 0} → Kinds → (A → Kinds) → A → Kinds
behind sep kinds_of a = sep ++ kinds_of a

pub behind_has : {S A : Type 0} (s : Piece S) (p : Piece A) (sep : Kinds) (kinds_of : A → Kinds)
    → HasKinds s (λ _. sep) → HasKinds p kinds_of → HasKinds (s >> p) (behind sep kinds_of)
behind_has s p sep kinds_of hs hp a vs (then_spells {a = b} {ts} {us} d e) =
    ap (λ l. l ++ kinds_of a) (hs b ts d) ∙ ap (λ l. kinds_in ts ++ l) (hp a us e) ∙ sym (map-append (λ (t : Token). t.kind) ts us)

-- the kinds of what stands behind separators, and of a last thing
abbrev pub ended_kinds : {A B : Type 0} → Kinds → (A → Kinds) → (B → Kinds) → List A × Option B → Kinds
ended_kinds sep more last r = flat_map (behind sep more) r.0 ++ maybe (behind sep last) r.1

pub ended_has : {S A B : Type 0} (s : Piece S) (p : Piece A) (q : Piece B) (sep : Kinds) (more : A → Kinds) (last : B → Kinds)
    → HasKinds s (λ _. sep) → HasKinds p more → HasKinds q last → HasKinds (ended s p q) (ended_kinds sep more last)
ended_has s p q sep more last hs hp hq =
    then_has (λ l. l) (many (s >> p)) (λ xs. optional (s >> q) >>= λ y. pure (xs, y)) (flat_map (behind sep more)) (ended_kinds sep more last)
    (many_has (s >> p) (behind sep more) (behind_has s p sep more hs hp))
    (λ xs. then_has (λ rest. flat_map (behind sep more) xs ++ rest) (optional (s >> q)) (λ y. pure (xs, y)) (maybe (behind sep last)) (ended_kinds sep more last)
    (optional_has (s >> q) (behind sep last) (behind_has s q sep last hs hq))
    (λ y. pure_has (λ rest. flat_map (behind sep more) xs ++ (maybe (behind sep last) y ++ rest)) (xs, y) (ended_kinds sep more last)
    (ap (λ l. flat_map (behind sep more) xs ++ l) (sym (append-nil (maybe (behind sep last) y))))))

-- no tokens are nothing
pub never_has : {A : Type 0} (kinds_of : A → Kinds) → HasKinds never kinds_of
never_has kinds_of a ts d = absurd d

-- written out in another way
pub same_has : {A : Type 0} (p : Piece A) (kinds_of others : A → Kinds) → ((a : A) → others a ≡ kinds_of a) → HasKinds p kinds_of → HasKinds p others
same_has p kinds_of others e hp a ts d = e a ∙ hp a ts d
