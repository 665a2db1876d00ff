-- A name that something begins with, or a path that something begins with: both are read as a path first.
use Rattle.std.proofs.Common.{◌≡◌, List, [], ◌∷◌, ◌++◌, Option, Some, None, refl, ap, sym, ◌∙◌, subst, append-nil}
use Rattle.ato_base.specs.declared.name_table.Name.{Name}
use Rattle.ato_base.specs.declared.places.Span.{Span}
use Rattle.ato_base.specs.declared.keywords.Mark.TheVariants as marks
use Rattle.ato_base.specs.declared.tokens.Token.{Token}
use Rattle.ato_base.specs.declared.tokens.TokenKind.{TokenKind}
use Rattle.ato_base.specs.declared.tokens.TokenKind.TheVariants as kinds
use Rattle.ato_ast.specs.declared.names.Named.{Named}
use Rattle.ato_ast.specs.declared.names.Number.{Number}
use Rattle.ato_ast.specs.declared.paths.Path.{Path}
use Rattle.ato_parser.specs.Tokens.{Tokens, token, extent}
use Rattle.ato_parser.specs.Kinds.{named, integer_of}
use Rattle.ato_parser.specs.Pieces.{Piece, pure, never, one, optional, ◌>>=◌, ◌>>◌, ◌or◌, ended, NothingSpells, nothing, OneSpells, one_token, before_one, whole_one, ThenSpells, then_spells, ThenFront, in_first, in_second, OrSpells, the_one, the_other, OrFront, in_one, in_other, ManySpells, no_more, placed_spells}
use Rattle.ato_parser.specs.TokenPieces.{name, mark, named_at}
use Rattle.ato_parser.specs.Expressions.{path, path_of}
use Rattle.ato_parser.specs.Reading.{only_name}
use Rattle.ato_parser.proofs.Lawful.{Same}

-- ---- what a path that is a name alone begins

abbrev pub value_by : {B C : Type 0} → Option B → Span → (B × Span → Piece C) → Piece C
value_by None at g = never
value_by (Some b) at g = g (b, at)

-- what goes on behind a name that has a value
abbrev pub as_name : {B C : Type 0} → (Name → Option B) → Option Named → (B × Span → Piece C) → Piece C
as_name value None g = never
as_name value (Some n) g = value_by (value n.name) n.at g

-- ---- paths that are a name alone

-- the token of a name
abbrev pub name_token : Named → Token
name_token n = token (kinds.Name n.name) n.at

abbrev pub lone : Name → Span → Path
lone n at = record { steps = record { name = n; at = at } ∷ []; pin = None; at = at }

lone_spells : (n : Name) (at : Span) → path.Spells (lone n at) (token (kinds.Name n) at ∷ [])
lone_spells n at =
    placed_spells {ts = token (kinds.Name n) at ∷ []}
    (then_spells (then_spells (one_token (kinds.Name n) at refl) nothing) (then_spells (then_spells no_more (then_spells (the_other nothing) nothing)) nothing))

name_is : (n : Named) (ts : Tokens) → name.Spells n ts → ts ≡ name_token n ∷ []
name_is n all (then_spells {a = x} (one_token {a = m} (kinds.Name k) at e) none) = named_is k m at n none (let same : k ≡ m = cc in same)
  where
    named_is : (k m : Name) (at : Span) (n : Named) {us : Tokens} → NothingSpells (named_at (m, at)) n us → k ≡ m → token (kinds.Name k) at ∷ us ≡ name_token n ∷ []
    named_is k m at n nothing e = ap (λ (x : Name). token (kinds.Name x) at ∷ []) e
name_is n all (then_spells {a = x} (one_token _ at e) none) = cc

no_names : (ts : Tokens) → ManySpells (mark marks.Dot >> name) [] ts → ts ≡ []
no_names ts no_more = refl

no_end : {A : Type 0} (p : Piece A) (ts : Tokens) → (optional p).Spells None ts → ts ≡ []
no_end p all (the_one (then_spells {a = a} {ts = ts} {us = us} one none)) = absurd (never_none a None us none refl)
  where
    never_none : {A : Type 0} (a : A) (o : Option A) (us : Tokens) → NothingSpells (Some a) o us → o ≡ None → ⊥
    never_none a o us nothing e = cc
no_end p all (the_other nothing) = refl

lone_rest : (n first : Named) (more : List Named) (last : Option (Number × Span)) (ts us : Tokens) → ManySpells (mark marks.Dot >> name) more ts → (optional (mark marks.Dot >> one integer_of)).Spells last us → only_name (path_of first (more, last) (extent [])) ≡ Some n → (first ≡ n) × (ts ++ (us ++ []) ≡ [])
lone_rest n first [] None ts us names end e =
    let same : first ≡ n = cc in
    let front = no_names ts names in
    let back = no_end (mark marks.Dot >> one integer_of) us end in
    (same, ap (λ (vs : Tokens). vs ++ (us ++ [])) front ∙ append-nil us ∙ back)
lone_rest n first [] (Some x) ts us names end e = cc
lone_rest n first (y ∷ ys) None ts us names end e = cc
lone_rest n first (y ∷ ys) (Some x) ts us names end e = cc

lone_ended : (n first : Named) (more : List Named) (last : Option (Number × Span)) (rest : List Named × Option (Number × Span)) (ts us vs : Tokens) → ManySpells (mark marks.Dot >> name) more ts → (optional (mark marks.Dot >> one integer_of)).Spells last us → NothingSpells (more, last) rest vs → only_name (path_of first rest (extent [])) ≡ Some n → (first ≡ n) × (ts ++ (us ++ vs) ≡ [])
lone_ended n first more last rest ts us vs names end nothing e = lone_rest n first more last ts us names end e

lone_behind : (n first : Named) (rest : List Named × Option (Number × Span)) (all : Tokens) → (ended (mark marks.Dot) name (one integer_of)).Spells rest all → only_name (path_of first rest (extent [])) ≡ Some n → (first ≡ n) × (all ≡ [])
lone_behind n first rest all (then_spells {a = more} {ts = ts} names (then_spells {a = last} {ts = us} {us = vs} end none)) e = lone_ended n first more last rest ts us vs names end none e

lone_made : (n first : Named) (rest : List Named × Option (Number × Span)) (f : Span → Path) (at : Span) (ts us vs : Tokens) → name.Spells first ts → (ended (mark marks.Dot) name (one integer_of)).Spells rest us → NothingSpells (path_of first rest) f vs → only_name (f at) ≡ Some n → ts ++ (us ++ vs) ≡ name_token n ∷ []
lone_made n first rest f at ts us vs one behind nothing e =
    let parts = lone_behind n first rest us behind e in
    ap (λ (ws : Tokens). ts ++ ws) (append-nil us ∙ parts.1) ∙ append-nil ts ∙ name_is first ts one ∙ ap (λ (m : Named). name_token m ∷ []) parts.0

lone_of : (n : Named) (f : Span → Path) (at : Span) (all : Tokens) → ThenSpells name (λ first. ended (mark marks.Dot) name (one integer_of) >>= (λ rest. pure (path_of first rest))) f all → only_name (f at) ≡ Some n → all ≡ name_token n ∷ []
lone_of n f at all (then_spells {a = first} {ts = ts} one (then_spells {a = rest} {ts = us} {us = vs} behind none)) e = lone_made n first rest f at ts us vs one behind none e

-- a path that is a name alone is spelled by the name
lone_is : (n : Named) (p : Path) (ts : Tokens) → path.Spells p ts → only_name p ≡ Some n → ts ≡ name_token n ∷ []
lone_is n p ts (placed_spells {f = f} spelled) e = lone_of n f (extent ts) ts spelled e

-- ---- the same piece

module _ {B C : Type 0} (value : Name → Option B) (g : B × Span → Piece C) (h : Path → Piece C) where
  -- what goes on behind a path
  abbrev behind : Path → Piece C
  behind p = as_name value (only_name p) g or h p

  name_value : (kind : TokenKind) (at : Span) (b : B) (c : C) (us : Tokens) → named value kind ≡ Some b → (g (b, at)).Spells c us → ThenSpells path behind c (token kind at ∷ us)
  name_value (kinds.Name n) at b c us e more = then_spells {ts = token (kinds.Name n) at ∷ []} (lone_spells n at) (the_one (subst (λ (o : Option B). (value_by o at g).Spells c us) (sym e) more))
  name_value _ at b c us e more = cc

  named_one : (x : B × Span) (c : C) (ts us : Tokens) → OneSpells (named value) x ts → (g x).Spells c us → ThenSpells path behind c (ts ++ us)
  named_one x c ts us (one_token {a = b} kind at e) more = name_value kind at b c us e more

  named_spells : (c : C) (ts : Tokens) → OrSpells (one (named value) >>= g) (path >>= h) c ts → ThenSpells path behind c ts
  named_spells c all (the_one (then_spells {a = x} {ts = ts} {us = us} first more)) = named_one x c ts us first more
  named_spells c all (the_other (then_spells first more)) = then_spells first (the_other more)

  name_front : (kind : TokenKind) (at : Span) (b : B) (us : Tokens) → named value kind ≡ Some b → (g (b, at)).Front us → ThenFront path behind (token kind at ∷ us)
  name_front (kinds.Name n) at b us e more = in_second {ts = token (kinds.Name n) at ∷ []} (lone_spells n at) (in_one (subst (λ (o : Option B). (value_by o at g).Front us) (sym e) more))
  name_front _ at b us e more = cc

  named_begun : (x : B × Span) (ts us : Tokens) → OneSpells (named value) x ts → (g x).Front us → ThenFront path behind (ts ++ us)
  named_begun x ts us (one_token {a = b} kind at e) more = name_front kind at b us e more

  name_alone : (kind : TokenKind) (at : Span) (b : B) → named value kind ≡ Some b → path.Front (token kind at ∷ [])
  name_alone (kinds.Name n) at b e = in_first (in_first (whole_one (kinds.Name n) at refl))
  name_alone _ at b e = cc

  named_fronts : (ts : Tokens) → OrFront (one (named value) >>= g) (path >>= h) ts → ThenFront path behind ts
  named_fronts ts (in_one (in_first before_one)) = in_first (in_first (in_first before_one))
  named_fronts ts (in_one (in_first (whole_one {a = b} kind at e))) = in_first (name_alone kind at b e)
  named_fronts all (in_one (in_second {a = x} {ts = ts} {us = us} first more)) = named_begun x ts us first more
  named_fronts ts (in_other (in_first front)) = in_first front
  named_fronts all (in_other (in_second first more)) = in_second first (in_other more)

  -- and back

  value_back : (n : Named) (o : Option B) (c : C) (us : Tokens) → value n.name ≡ o → (value_by o n.at g).Spells c us → OrSpells (one (named value) >>= g) (path >>= h) c (name_token n ∷ us)
  value_back n None c us e more = absurd more
  value_back n (Some b) c us e more = the_one (then_spells {ts = name_token n ∷ []} (one_token (kinds.Name n.name) n.at e) more)

  name_back : (o : Option Named) (p : Path) (c : C) (ts us : Tokens) → only_name p ≡ o → path.Spells p ts → (as_name value o g).Spells c us → OrSpells (one (named value) >>= g) (path >>= h) c (ts ++ us)
  name_back None p c ts us e first more = absurd more
  name_back (Some n) p c ts us e first more = subst (λ (vs : Tokens). OrSpells (one (named value) >>= g) (path >>= h) c (vs ++ us)) (sym (lone_is n p ts first e)) (value_back n (value n.name) c us refl more)

  named_spelled : (c : C) (ts : Tokens) → ThenSpells path behind c ts → OrSpells (one (named value) >>= g) (path >>= h) c ts
  named_spelled c all (then_spells {a = p} {ts = ts} {us = us} first (the_one more)) = name_back (only_name p) p c ts us refl first more
  named_spelled c all (then_spells first (the_other more)) = the_other (then_spells first more)

  value_front : (n : Named) (o : Option B) (us : Tokens) → value n.name ≡ o → (value_by o n.at g).Front us → OrFront (one (named value) >>= g) (path >>= h) (name_token n ∷ us)
  value_front n None us e more = absurd more
  value_front n (Some b) us e more = in_one (in_second {ts = name_token n ∷ []} (one_token (kinds.Name n.name) n.at e) more)

  front_back : (o : Option Named) (p : Path) (ts us : Tokens) → only_name p ≡ o → path.Spells p ts → (as_name value o g).Front us → OrFront (one (named value) >>= g) (path >>= h) (ts ++ us)
  front_back None p ts us e first more = absurd more
  front_back (Some n) p ts us e first more = subst (λ (vs : Tokens). OrFront (one (named value) >>= g) (path >>= h) (vs ++ us)) (sym (lone_is n p ts first e)) (value_front n (value n.name) us refl more)

  named_front : (ts : Tokens) → ThenFront path behind ts → OrFront (one (named value) >>= g) (path >>= h) ts
  named_front ts (in_first front) = in_other (in_first front)
  named_front all (in_second {a = p} {ts = ts} {us = us} first (in_one more)) = front_back (only_name p) p ts us refl first more
  named_front all (in_second first (in_other more)) = in_other (in_second first more)

  pub named_same : Same ((one (named value) >>= g) or (path >>= h)) (path >>= (λ p. as_name value (only_name p) g or h p))
  named_same = record { spells = named_spells; spelled = named_spelled; fronts = named_fronts; front = named_front }
