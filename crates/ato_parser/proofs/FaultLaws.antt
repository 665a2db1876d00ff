-- Which fault each stop of the reading is, and that tokens have one tree or one fault.
use Rattle.std.proofs.Common.{◌≡◌, ℕ, suc, ◌+◌, ◌<◌, List, [], ◌∷◌, ◌++◌, length, Result, Ok, Err, refl, sym, ap, ◌∙◌, subst, append_assoc, append-nil, arith, ◌⊎◌, inl, inr}
use Rattle.std.proofs.lemmas.List.{length-append}
use Rattle.ato_base.specs.declared.keywords.Mark.TheVariants as marks
use Rattle.ato_base.specs.declared.tokens.Token.{Token}
use Rattle.ato_base.specs.declared.tokens.TokenKind.TheVariants as kinds
use Rattle.ato_base.specs.declared.faults.Fault.{Fault}
use Rattle.ato_base.specs.declared.faults.FaultKind.TheVariants as faults
use Rattle.ato_ast.specs.declared.blocks.File.{File}
use Rattle.ato_parser.specs.declared.stop.Stop.{Stop}
use Rattle.ato_parser.specs.declared.stop.Stop.TheVariants as stops
use Rattle.ato_parser.specs.Tokens.{Tokens, token, EndsOnce}
use Rattle.ato_parser.specs.Files.{IsFile, FileFront}
use Rattle.ato_parser.specs.Faults.{deepest, FirstBad, IsSyntax, IsTooDeep, IsFault, a_syntax, a_depth, fault_at, IsTree}
use Rattle.ato_parser.specs.FileReading.{whole}
use Rattle.ato_parser.proofs.Splits.{Cuts, first_in, second_in, cuts}
use Rattle.ato_parser.proofs.NaturalFiles.{file_natural}
use Rattle.ato_parser.proofs.GrowsFiles.{front_upwards}
use Rattle.ato_parser.proofs.DeeperReadings.{fault_upwards, deeper_stop}
use Rattle.ato_parser.proofs.OpensLaws.{whole_opens, whole_sure}
use Rattle.ato_parser.proofs.WholeLaws.{FirstStop, tree_whole, whole_tree, whole_stops, no_sooner}

-- ---- fronts

pub front_begins : (depth : ℕ) (ts us : Tokens) → FileFront depth (ts ++ us) → FileFront depth ts
unfolding FileFront
front_begins depth ts us fits = (file_natural depth).begins ts us fits

pub file_is_front : (depth : ℕ) (f : File) (ts : Tokens) → IsFile depth f ts → FileFront depth ts
unfolding FileFront IsFile
file_is_front depth f ts d = (file_natural depth).whole f ts d

-- the first tokens up to one of them are a front where more of them are
up_to : (depth : ℕ) (front rest : Tokens) (bad : Token) → FileFront depth (front ++ bad ∷ rest) → FileFront depth (front ++ bad ∷ [])
up_to depth front rest bad fits = front_begins depth (front ++ bad ∷ []) rest (subst (FileFront depth) (sym (append_assoc front (bad ∷ []) rest)) fits)

-- ---- the token of a stop

-- the token from which on so many are left
pub record BadToken (Is : Token → Type 0) (ts : Tokens) (k : ℕ) : Type 0 where
  pub front : Tokens
  pub bad : Token
  pub rest : Tokens
  pub split : ts ≡ front ++ bad ∷ rest
  pub left : k ≡ length (bad ∷ rest)
  pub is : Is bad

-- items with as many items behind them are one
same_place : {A : Type 0} (xs ys us vs : List A) (x y : A) → xs ++ x ∷ us ≡ ys ++ y ∷ vs → length us ≡ length vs → x ≡ y
same_place [] [] us vs x y e n = cc
same_place [] (z ∷ ys) us vs x y e n =
    let more : us ≡ ys ++ y ∷ vs = cc in
    let long : length us ≡ length ys + length (y ∷ vs) = ap length more ∙ length-append ys (y ∷ vs) in
    absurd (omega arith)
same_place (z ∷ xs) [] us vs x y e n =
    let more : xs ++ x ∷ us ≡ vs = cc in
    let long : length xs + length (x ∷ us) ≡ length vs = sym (length-append xs (x ∷ us)) ∙ ap length more in
    absurd (omega arith)
same_place (z ∷ xs) (w ∷ ys) us vs x y e n = same_place xs ys us vs x y (cc) n

-- ---- a syntax fault

first_of : (ts : Tokens) (e : Stop) (s : FirstStop deepest ts e) → FirstBad (FileFront deepest) ts s.bad
first_of ts e s = record { front = s.front; rest = s.rest; split = s.split; fits = s.fits; no_longer = s.no_longer }

never_fits : (ts front rest : Tokens) (bad : Token) (k : ℕ) → whole deepest ts ≡ Err (stops.Syntax k) → ts ≡ front ++ bad ∷ rest → k ≡ length (bad ∷ rest)
    → (depth : ℕ) → FileFront depth (front ++ bad ∷ []) → ⊥
never_fits ts front rest bad k h split left depth fits =
    let deep = fault_upwards deepest (depth + deepest) ts k (omega arith) h in
    let still = front_upwards depth (depth + deepest) (front ++ bad ∷ []) (omega arith) fits in
    let same : ts ≡ (front ++ bad ∷ []) ++ rest = split ∙ sym (append_assoc front (bad ∷ []) rest) in
    let below = no_sooner (depth + deepest) (front ++ bad ∷ []) rest (stops.Syntax k) k still (ap (whole (depth + deepest)) (sym same) ∙ deep) refl in
    absurd (omega arith)

pub syntax_stop : (ts : Tokens) (k : ℕ) → EndsOnce ts → whole deepest ts ≡ Err (stops.Syntax k) → BadToken (IsSyntax ts) ts k
unfolding first_of
syntax_stop ts k ends h =
    let s = whole_stops deepest ts (stops.Syntax k) ends h in
    record {
      front = s.front;
      bad = s.bad;
      rest = s.rest;
      split = s.split;
      left = s.left;
      is = record { first = first_of ts (stops.Syntax k) s; never = never_fits ts s.front s.rest s.bad k h s.split s.left };
    }

-- ---- too many parentheses

fits_by : (ts front rest : Tokens) (bad : Token) (k : ℕ) → EndsOnce ts → whole deepest ts ≡ Err (stops.TooDeep k) → ts ≡ front ++ bad ∷ rest → k ≡ length (bad ∷ rest)
    → (r : Result File Stop) → whole (suc deepest) ts ≡ r → FileFront (suc deepest) (front ++ bad ∷ [])
fits_by ts front rest bad k ends h split left (Ok f) read =
    up_to (suc deepest) front rest bad (subst (FileFront (suc deepest)) split (file_is_front (suc deepest) f ts (whole_tree (suc deepest) f ts ends read)))
fits_by ts front rest bad k ends h split left (Err e) read =
    let s = whole_stops (suc deepest) ts e ends read in
    let sooner = deeper_stop deepest ts k (length (s.bad ∷ s.rest)) e h read s.left in
    let same : (front ++ bad ∷ []) ++ rest ≡ s.front ++ s.bad ∷ s.rest = append_assoc front (bad ∷ []) rest ∙ sym split ∙ s.split in
    by s sooner (cuts (front ++ bad ∷ []) rest s.front (s.bad ∷ s.rest) same)
  where
    by : (s : FirstStop (suc deepest) ts e) → length (s.bad ∷ s.rest) < k → Cuts (front ++ bad ∷ []) rest s.front (s.bad ∷ s.rest) → FileFront (suc deepest) (front ++ bad ∷ [])
    by s sooner (first_in between longer behind) = front_begins (suc deepest) (front ++ bad ∷ []) between (subst (FileFront (suc deepest)) longer s.fits)
    by s sooner (second_in [] shorter behind) = subst (FileFront (suc deepest)) (sym (shorter ∙ append-nil s.front)) s.fits
    by s sooner (second_in (b ∷ between) shorter behind) =
        let long : length (s.bad ∷ s.rest) ≡ length (b ∷ between) + length rest = ap length behind ∙ length-append (b ∷ between) rest in
        absurd (omega arith)

pub deep_stop : (ts : Tokens) (k : ℕ) → EndsOnce ts → whole deepest ts ≡ Err (stops.TooDeep k) → BadToken (IsTooDeep ts) ts k
unfolding first_of
deep_stop ts k ends h =
    let s = whole_stops deepest ts (stops.TooDeep k) ends h in
    let o = whole_opens deepest ts k h in
    let left : k ≡ length (s.bad ∷ s.rest) = s.left in
    let as_many : length s.rest ≡ length o.rest = omega (arith, left, o.left) in
    let bad : s.bad ≡ token (kinds.Mark marks.LeftParenthesis) o.place = same_place s.front o.before s.rest o.rest s.bad (token (kinds.Mark marks.LeftParenthesis) o.place) (sym s.split ∙ o.split) as_many in
    record {
      front = s.front;
      bad = s.bad;
      rest = s.rest;
      split = s.split;
      left = left;
      is = record {
        first = first_of ts (stops.TooDeep k) s;
        opens = ap (λ t. t.kind) bad;
        deeper = fits_by ts s.front s.rest s.bad k ends h s.split left (whole (suc deepest) ts) refl;
      };
    }

-- ---- one tree or one fault

same_tree : (f g : File) (r : Result File Stop) → r ≡ Ok f → r ≡ Ok g → f ≡ g
same_tree f g r e d = cc

pub one_tree : (ts : Tokens) (f g : File) → IsTree ts f → IsTree ts g → f ≡ g
one_tree ts f g d e = same_tree f g (whole deepest ts) (tree_whole deepest f ts d) (tree_whole deepest g ts e)

-- first tokens that do not fit are one
pub record SameBad (front other : Tokens) (bad worse : Token) : Type 0 where
  pub fronts : front ≡ other
  pub bads : bad ≡ worse

front_to : (depth : ℕ) (front other between : Tokens) (bad : Token) → other ≡ front ++ bad ∷ between → FileFront depth other → FileFront depth (front ++ bad ∷ [])
front_to depth front other between bad e fits = up_to depth front between bad (subst (FileFront depth) e fits)

same_bad : (depth : ℕ) (ts : Tokens) (bad worse : Token) (a : FirstBad (FileFront depth) ts bad) (b : FirstBad (FileFront depth) ts worse) → SameBad a.front b.front bad worse
same_bad depth ts bad worse a b = by (cuts a.front (bad ∷ a.rest) b.front (worse ∷ b.rest) (sym a.split ∙ b.split))
  where
    by : Cuts a.front (bad ∷ a.rest) b.front (worse ∷ b.rest) → SameBad a.front b.front bad worse
    by (first_in [] longer behind) = record { fronts = sym (longer ∙ append-nil a.front); bads = cc }
    by (first_in (c ∷ between) longer behind) =
        let same : c ≡ bad = cc in
        absurd (a.no_longer (front_to depth a.front b.front between bad (longer ∙ ap (λ t. a.front ++ t ∷ between) same) b.fits))
    by (second_in [] shorter behind) = record { fronts = shorter ∙ append-nil b.front; bads = cc }
    by (second_in (c ∷ between) shorter behind) =
        let same : c ≡ worse = cc in
        absurd (b.no_longer (front_to depth b.front a.front between worse (shorter ∙ ap (λ t. b.front ++ t ∷ between) same) a.fits))

not_both : (ts : Tokens) (bad worse : Token) → IsSyntax ts bad → IsTooDeep ts worse → ⊥
not_both ts bad worse s d =
    let same = same_bad deepest ts bad worse s.first d.first in
    let there : d.first.front ++ worse ∷ [] ≡ s.first.front ++ bad ∷ [] = cc in
    s.never (suc deepest) (subst (FileFront (suc deepest)) there d.deeper)

pub one_fault : (ts : Tokens) (f g : Fault) → IsFault ts f → IsFault ts g → f ≡ g
one_fault ts f g (a_syntax {bad = a} s) (a_syntax {bad = b} t) = ap (fault_at faults.Syntax) (same_bad deepest ts a b s.first t.first).bads
one_fault ts f g (a_syntax {bad = a} s) (a_depth {bad = b} t) = absurd (not_both ts a b s t)
one_fault ts f g (a_depth {bad = a} s) (a_syntax {bad = b} t) = absurd (not_both ts b a t s)
one_fault ts f g (a_depth {bad = a} s) (a_depth {bad = b} t) = ap (fault_at faults.TooDeep) (same_bad deepest ts a b s.first t.first).bads

tree_fits : (ts : Tokens) (f : File) (bad : Token) → IsTree ts f → FirstBad (FileFront deepest) ts bad → ⊥
tree_fits ts f bad d a = a.no_longer (up_to deepest a.front a.rest bad (subst (FileFront deepest) a.split (file_is_front deepest f ts d)))

pub never_both : (ts : Tokens) (f : File) (g : Fault) → IsTree ts f → IsFault ts g → ⊥
never_both ts f g d (a_syntax {bad = bad} s) = tree_fits ts f bad d s.first
never_both ts f g d (a_depth {bad = bad} s) = tree_fits ts f bad d s.first

one_by : (ts : Tokens) → EndsOnce ts → (r : Result File Stop) → whole deepest ts ≡ r → ((f : File) × IsTree ts f) ⊎ ((f : Fault) × IsFault ts f)
one_by ts ends (Ok f) h = inl (f, whole_tree deepest f ts ends h)
one_by ts ends (Err stops.NoMemory) h = absurd (whole_sure deepest ts h)
one_by ts ends (Err (stops.Syntax k)) h = let b = syntax_stop ts k ends h in inr (fault_at faults.Syntax b.bad, a_syntax b.is)
one_by ts ends (Err (stops.TooDeep k)) h = let b = deep_stop ts k ends h in inr (fault_at faults.TooDeep b.bad, a_depth b.is)

pub has_one : (ts : Tokens) → EndsOnce ts → ((f : File) × IsTree ts f) ⊎ ((f : Fault) × IsFault ts f)
has_one ts ends = one_by ts ends (whole deepest ts) refl
