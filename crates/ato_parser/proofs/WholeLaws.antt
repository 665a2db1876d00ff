-- What the reading of a whole file gives.
use Rattle.std.proofs.Common.{◌≡◌, ℕ, ◌≤◌, true, [], ◌∷◌, ◌++◌, length, Some, Ok, Err, refl, sym, ap, ◌∙◌, subst, append_assoc, append-nil, arith, ◌⊎◌, inl, inr}
use Rattle.ato_base.specs.declared.tokens.Token.{Token}
use Rattle.ato_base.specs.declared.tokens.TokenKind.{TokenKind}
use Rattle.ato_base.specs.declared.tokens.TokenKind.TheVariants as kinds
use Rattle.ato_ast.specs.declared.blocks.File.{File}
use Rattle.ato_parser.specs.declared.stop.Stop.{Stop}
use Rattle.ato_parser.specs.declared.stop.Stop.TheVariants as stops
use Rattle.ato_parser.specs.Tokens.{Tokens, token, extent, is_end, EndsOnce, just_end, before_end}
use Rattle.ato_parser.specs.Kinds.{just}
use Rattle.ato_parser.specs.Pieces.{nothing, before_nothing, one_token, before_one, whole_one, then_spells, in_first, in_second, before_many}
use Rattle.ato_parser.specs.Files.{IsFile, FileFront}
use Rattle.ato_parser.specs.Files as F
use Rattle.ato_parser.specs.Input.{Input, Outcome}
use Rattle.ato_parser.specs.FileReading.{start, value_of, whole}
use Rattle.ato_parser.specs.FileReading as R
use Rattle.ato_parser.proofs.Lawful.{left_of, StopsBefore, Spelled}
use Rattle.ato_parser.proofs.EndFree.{has_end, both_free, items_free}
use Rattle.ato_parser.proofs.BlockLaws.{file_lawful}

-- ---- the end

not_nil : (us left : Tokens) (t : Token) → [] ≡ (us ++ t ∷ []) ++ left → ⊥
not_nil [] left t h = cc
not_nil (u ∷ us) left t h = cc

-- nothing stands behind END
nothing_behind : (us left : Tokens) (t : Token) → is_end t.kind ≡ true → (ws : Tokens) → ws ≡ (us ++ t ∷ []) ++ left → EndsOnce ws → left ≡ []
nothing_behind [] left t e ws h (just_end at) = cc
nothing_behind [] left t e ws h (before_end {t = x} other more) = let same : x ≡ t = cc in absurd (cc)
nothing_behind (u ∷ us) left t e ws h (just_end at) = absurd (not_nil us left t (cc))
nothing_behind (u ∷ us) left t e ws h (before_end {ts = ts} other more) = nothing_behind us left t e ts (cc) more

has_its_end : (ts : Tokens) → EndsOnce ts → has_end ts ≡ true
has_its_end ts (just_end at) = refl
has_its_end ts (before_end other more) = rw other (has_its_end _ more)

just_end_is : (kind : TokenKind) (u : Unit) → just is_end kind ≡ Some u → is_end kind ≡ true
just_end_is kinds.End u e = refl
just_end_is _ u e = cc

module _ (depth : ℕ) where
  -- the last token of a file is END
  end_behind : (f : File) (taken left : Tokens) → (F.file depth).Spells f taken → EndsOnce (taken ++ left) → left ≡ []
  end_behind f taken left (then_spells {ts = us} s (then_spells (one_token {a = u} kind at e) nothing)) ends =
      nothing_behind us left (token kind at) (just_end_is kind u e) ((us ++ token kind at ∷ []) ++ left) refl ends

  -- a front with END is the whole
  front_whole : (ts : Tokens) → (F.file depth).Front ts → has_end ts ≡ true → ((f : File) → (F.file depth).Spells f ts → ⊥) → ⊥
  front_whole ts (in_first s) e give = let free = (items_free depth).front ts s in absurd (cc)
  front_whole ts (in_second {a = xs} {ts = us} s (in_first before_one)) e give = let free = both_free us [] ((items_free depth).spells xs us s) refl in absurd (cc)
  front_whole ts (in_second s (in_first (whole_one kind at e))) ends give = give _ (then_spells s (then_spells (one_token kind at e) nothing))
  front_whole ts (in_second s (in_second (one_token kind at e) before_nothing)) ends give = give _ (then_spells s (then_spells (one_token kind at e) nothing))

  -- ---- a tree

  -- a file is read
  pub tree_whole : (f : File) (ts : Tokens) → IsFile depth f ts → whole depth ts ≡ Ok f
  unfolding IsFile whole
  tree_whole f ts d = ap value_of (ap (λ us. R.file depth (start us)) (sym (append-nil ts)) ∙ (file_lawful depth).complete f ts [] (extent []) d refl)

  all_read : (f : File) (ts : Tokens) (j : Input) → EndsOnce ts → Spelled (F.file depth) (start ts) f j → (F.file depth).Spells f ts
  all_read f ts j ends s =
      let over = end_behind f s.taken j.ahead s.spells (subst EndsOnce s.split ends) in
      let same : s.taken ≡ ts = sym (append-nil s.taken) ∙ ap (λ us. s.taken ++ us) (sym over) ∙ sym s.split in
      subst (λ us. (F.file depth).Spells f us) same s.spells

  tree_by : (f : File) (ts : Tokens) (r : Outcome File) → EndsOnce ts → R.file depth (start ts) ≡ r → value_of r ≡ Ok f → (F.file depth).Spells f ts
  tree_by f ts (Ok p) ends read h =
      let same : p.0 ≡ f = cc in
      subst (λ g. (F.file depth).Spells g ts) same (all_read p.0 ts p.1 ends ((file_lawful depth).sound (start ts) p.1 p.0 read))
  tree_by f ts (Err e) ends read h = cc

  -- what is read is a file
  pub whole_tree : (f : File) (ts : Tokens) → EndsOnce ts → whole depth ts ≡ Ok f → IsFile depth f ts
  unfolding IsFile whole
  whole_tree f ts ends h = tree_by f ts (R.file depth (start ts)) ends refl h

  -- ---- a stop

  -- a stop at the first token that does not fit
  pub record FirstStop (ts : Tokens) (e : Stop) : Type 0 where
    pub front : Tokens
    pub bad : Token
    pub rest : Tokens
    pub split : ts ≡ front ++ bad ∷ rest
    pub left : StopsBefore (length (bad ∷ rest)) e
    pub fits : FileFront depth front
    pub no_longer : FileFront depth (front ++ bad ∷ []) → ⊥

  before_left : (n : ℕ) (e : Stop) → StopsBefore n e → left_of {A = File} (Err e) ≡ n
  before_left n stops.NoMemory h = absurd h
  before_left n (stops.Syntax k) h = h
  before_left n (stops.TooDeep k) h = h

  stop_is : (r : Outcome File) (e : Stop) → value_of r ≡ Err e → r ≡ Err e
  stop_is (Ok p) e h = cc
  stop_is (Err d) e h = let same : d ≡ e = cc in ap (λ s. Err s) same

  pub stopped_read : (ts : Tokens) (e : Stop) → whole depth ts ≡ Err e → R.file depth (start ts) ≡ Err e
  unfolding whole
  stopped_read ts e h = stop_is (R.file depth (start ts)) e h

  -- no front reaches past the stop
  pub no_sooner : (front rest : Tokens) (e : Stop) (k : ℕ) → FileFront depth front → whole depth (front ++ rest) ≡ Err e → StopsBefore k e → k ≤ length rest
  unfolding FileFront
  no_sooner front rest e k fits h left =
      let past = (file_lawful depth).passes front rest (extent []) fits in
      let there : left_of {A = File} (Err e) ≤ length rest = subst (λ r. left_of r ≤ length rest) (stopped_read (front ++ rest) e h) past in
      let same = before_left k e left in
      omega arith

  longer : (front rest : Tokens) (bad : Token) (e : Stop) → whole depth (front ++ bad ∷ rest) ≡ Err e → StopsBefore (length (bad ∷ rest)) e → FileFront depth (front ++ bad ∷ []) → ⊥
  longer front rest bad e h left fits =
      let below = no_sooner (front ++ bad ∷ []) rest e (length (bad ∷ rest)) fits (ap (λ us. whole depth us) (append_assoc front (bad ∷ []) rest) ∙ h) left in
      absurd (omega arith)

  no_stop_at_end : (ts : Tokens) (e : Stop) → EndsOnce ts → whole depth ts ≡ Err e → FileFront depth ts → ⊥
  unfolding FileFront IsFile
  no_stop_at_end ts e ends h fits = front_whole ts fits (has_its_end ts ends) (λ f d. let read = tree_whole f ts d in absurd (cc))

  stop_by : (ts front rest : Tokens) (e : Stop) → EndsOnce ts → whole depth ts ≡ Err e → ts ≡ front ++ rest → StopsBefore (length rest) e → FileFront depth front → FirstStop ts e
  stop_by ts front [] e ends h split left fits = absurd (no_stop_at_end ts e ends h (subst (FileFront depth) (sym (append-nil front) ∙ sym split) fits))
  stop_by ts front (bad ∷ rest) e ends h split left fits = record {
    front = front;
    bad = bad;
    rest = rest;
    split = split;
    left = left;
    fits = fits;
    no_longer = longer front rest bad e (ap (λ us. whole depth us) (sym split) ∙ h) left;
  }

  or_nothing : (front : Tokens) → (front ≡ []) ⊎ (F.file depth).Front front → FileFront depth front
  unfolding FileFront
  or_nothing front (inl none) = subst (λ us. (F.file depth).Front us) (sym none) (in_first before_many)
  or_nothing front (inr fits) = fits

  pub whole_stops : (ts : Tokens) (e : Stop) → EndsOnce ts → whole depth ts ≡ Err e → FirstStop ts e
  whole_stops ts e ends h =
      let at = (file_lawful depth).stops (start ts) e (stopped_read ts e h) in
      stop_by ts at.front at.rest e ends h at.split at.left (or_nothing at.front at.fits)
