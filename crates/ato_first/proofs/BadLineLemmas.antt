-- Where the first bad line is, and that a file of the form has none.
use Rattle.std.proofs.Common.{◌≡◌, ℕ, ◌+◌, ◌-◌, ◌<◌, ◌≤◌, ◌==◌, take, List, [], ◌∷◌, ◌++◌, length, Bool, true, false, ◌||◌, ◌&&◌, not, ap, sym, ◌∙◌, refl, arith, subst, inl, inr, length-append, cond, if◌then◌else◌}
use Rattle.std.specs.Prelude.{Option, Some, None, is_some, is_none, ◌⊎◌}
use Rattle.std.specs.List.{list_any, slice_get, take_while}
use Rattle.std.proofs.lemmas.Bool.{ne_eqb}
use Rattle.std.proofs.lemmas.List.Sums.{take_while-cons}
use Rattle.std.proofs.Math.Seq.{take-append_seam}
use Rattle.ato_first.specs.FirstForm.{lined, head_text, line_text, lines_text, block_text, IsFront, attribute_place, is_cut, bad_line}
use Rattle.ato_first.specs.PartLines.{attribute_in, attributes_of, kind_of, attribute_of, assertion_of, before_attribute, is_signal, is_attribute_signal, is_partial, HasPart, IsPartless, AreOnce}
use Rattle.ato_first.specs.declared.first_form.Assertion.{Assertion}
use Rattle.ato_first.specs.declared.first_form.Block.{Block}
use Rattle.ato_first.specs.declared.first_form.Line.{Line}
use Rattle.ato_first.proofs.Bools.{or_false}
use Rattle.ato_first.proofs.OnceLemmas.{no_first}

-- a list and its first element

first_fails : {Y : Type 0} (p : Y → Bool) (ys : List Y) (y : Y) → slice_get ys 0 ≡ Some y → list_any p ys ≡ false → p y ≡ false
first_fails p [] y e h = let bad : ⊥ = cc in absurd bad
first_fails p (x ∷ xs) y e h = let same : x ≡ y = cc in ap p (sym same) ∙ (or_false (p x) (list_any p xs) h).0

or_nothing : (b : Bool) → (b || false) ≡ b
or_nothing true = refl
or_nothing false = refl

pub only_first : {Y : Type 0} (p : Y → Bool) (ys : List Y) (y : Y) → length ys ≤ 1 → slice_get ys 0 ≡ Some y → list_any p ys ≡ p y
only_first p [] y few e = let bad : ⊥ = cc in absurd bad
only_first p (x ∷ []) y few e = let same : x ≡ y = cc in ap (λ z. p z || false) same ∙ or_nothing (p y)
only_first p (x ∷ z ∷ zs) y few e = absurd (omega arith)

-- A file has no bad line.

nothing_left : (n : ℕ) → 0 < n → (not (0 == 0) || (n == 0)) ≡ false
nothing_left n h = ne_eqb n 0 (λ e. let z : 0 < 0 = subst (λ m. 0 < m) e h in omega arith)

no_signal : (block : Block) → AreOnce block.lines → HasPart block ⊎ IsPartless block → is_attribute_signal block.lines ≡ false
no_signal block once (inl (kind, attribute, assertion, k, a, s, clear)) = only_first (is_signal block.lines) (attributes_of block.lines) attribute once.attributes a ∙ clear
no_signal block once (inr (k, a, s)) = ap (list_any (is_signal block.lines)) (no_first (attributes_of block.lines) (ap is_some a))

all_or_none : (block : Block) → HasPart block ⊎ IsPartless block → is_partial block.lines ≡ false
all_or_none block (inl (kind, attribute, assertion, k, a, s, clear)) = rw k (rw a (rw s refl))
all_or_none block (inr (k, a, s)) = rw k (rw a (rw s refl))

pub no_bad_line : (block : Block) → IsFront block → 0 < length block.lines → HasPart block ⊎ IsPartless block → bad_line block [] ≡ None
no_bad_line block h some part = rw (no_signal block h.once part) (rw (nothing_left (length block.lines) some) (rw (all_or_none block part) refl))

-- A front without a bad line is a file.

tests : {A : Type 0} (a b c : Bool) (x y z : A) → (if a then Some x else (if b then Some y else (if c then Some z else None))) ≡ None → (a ≡ false) × (b ≡ false) × (c ≡ false)
tests true b c x y z e = let bad : ⊥ = cc in absurd bad
tests false true c x y z e = let bad : ⊥ = cc in absurd bad
tests false false true x y z e = let bad : ⊥ = cc in absurd bad
tests false false false x y z e = (refl, refl, refl)

empty : (bytes : List ℕ) → not (length bytes == 0) ≡ false → bytes ≡ []
empty [] h = refl
empty (b ∷ bs) h = let bad : ⊥ = by (ne_eqb (length (b ∷ bs)) 0 (λ e. omega arith)) h in absurd bad
  where
    by : (length (b ∷ bs) == 0) ≡ false → not (length (b ∷ bs) == 0) ≡ false → ⊥
    by e h = let z : true ≡ false = ap not (sym e) ∙ h in cc

filled : {A : Type 0} (xs : List A) → (length xs == 0) ≡ false → 0 < length xs
filled [] h = let bad : ⊥ = cc in absurd bad
filled (x ∷ xs) h = omega arith

whole : (block : Block) (k a : Option (List ℕ)) (s : Option Assertion) → kind_of block.lines ≡ k → attribute_of block.lines ≡ a → assertion_of block.lines ≡ s → is_attribute_signal block.lines ≡ false
    → ((is_some k || is_some a || is_some s) && not (is_some k && is_some a && is_some s)) ≡ false → HasPart block ⊎ IsPartless block
whole block (Some k) (Some a) (Some s) p q r clear h = inl (k, a, s, p, q, r, first_fails (is_signal block.lines) (attributes_of block.lines) a q clear)
whole block None None None p q r clear h = inr (p, q, r)
whole block (Some k) (Some a) None p q r clear h = let bad : ⊥ = cc in absurd bad
whole block (Some k) None s p q r clear h = let bad : ⊥ = cc in absurd bad
whole block None (Some a) s p q r clear h = let bad : ⊥ = cc in absurd bad
whole block None None (Some s) p q r clear h = let bad : ⊥ = cc in absurd bad

pub whole_file : (block : Block) (rest : List ℕ) → bad_line block rest ≡ None → (rest ≡ []) × (0 < length block.lines) × (HasPart block ⊎ IsPartless block)
whole_file block rest none =
    let fails = tests (is_attribute_signal block.lines) (is_cut block rest) (is_partial block.lines) (attribute_place block) (length (block_text block)) 0 none in
    let all = or_false (not (length rest == 0)) (length block.lines == 0) fails.1 in
    (empty rest all.0, filled block.lines all.1, whole block (kind_of block.lines) (attribute_of block.lines) (assertion_of block.lines) refl refl refl fails.0 fails.2)

-- A bad line begins within the text, or at its end.

within : (p : Line → Bool) (lines : List Line) → length (lines_text (take_while p lines)) ≤ length (lines_text lines)
within p [] = omega arith
within p (l ∷ ls) = subst (λ front. length (lines_text front) ≤ length (lines_text (l ∷ ls))) (sym (take_while-cons p l ls)) (by (p l) (within p ls))
  where
    by : (b : Bool) → length (lines_text (take_while p ls)) ≤ length (lines_text ls) → length (lines_text (cond b (l ∷ take_while p ls) [])) ≤ length (lines_text (l ∷ ls))
    by true h = omega (arith, length-append (lined (line_text l)) (lines_text (take_while p ls)), length-append (lined (line_text l)) (lines_text ls))
    by false h = omega arith

place_within : (block : Block) → attribute_place block ≤ length (block_text block)
place_within block =
    omega (
      arith,
      within (λ line. is_none (attribute_in line)) block.lines,
      length-append (lined (head_text block.name)) (lines_text (before_attribute block.lines)),
      length-append (lined (head_text block.name)) (lines_text block.lines),
    )

one_of : (a b c : Bool) (x y z at n : ℕ) → (if a then Some x else (if b then Some y else (if c then Some z else None))) ≡ Some at → x ≤ n → y ≤ n → z ≤ n → at ≤ n
one_of true b c x y z at n e p q r = let same : x ≡ at = cc in subst (λ m. m ≤ n) same p
one_of false true c x y z at n e p q r = let same : y ≡ at = cc in subst (λ m. m ≤ n) same q
one_of false false true x y z at n e p q r = let same : z ≡ at = cc in subst (λ m. m ≤ n) same r
one_of false false false x y z at n e p q r = let bad : ⊥ = cc in absurd bad

pub bad_line_within : (block : Block) (rest : List ℕ) (at : ℕ) → bad_line block rest ≡ Some at → at ≤ length (block_text block)
bad_line_within block rest at e =
    one_of (is_attribute_signal block.lines) (is_cut block rest) (is_partial block.lines) (attribute_place block) (length (block_text block)) 0 at (length (block_text block)) e
    (place_within block) (omega arith) (omega arith)

-- What the front of lines that was read says of the first bad line.

-- the attribute that was found is the only one
pub one_attribute : (lines : List Line) (name : List ℕ) → AreOnce lines → attribute_of lines ≡ Some name → is_attribute_signal lines ≡ is_signal lines name
one_attribute lines name once is = only_first (is_signal lines) (attributes_of lines) name once.attributes is

pub no_attribute : (lines : List Line) → attribute_of lines ≡ None → is_attribute_signal lines ≡ false
no_attribute lines none = ap (list_any (is_signal lines)) (no_first (attributes_of lines) (ap is_some none))

-- the lines are the bytes before the rest
pub lines_slice : (bytes rest : List ℕ) (lines : List Line) → bytes ≡ lines_text lines ++ rest → take (length bytes - length rest) bytes ≡ lines_text lines
lines_slice bytes rest lines e =
    let size : length bytes - length rest ≡ length (lines_text lines) = omega (arith, ap length e, length-append (lines_text lines) rest) in
    ap (λ n. take n bytes) size ∙ ap (take (length (lines_text lines))) e ∙ take-append_seam (lines_text lines) rest

head_size : (name text : List ℕ) → length (lined (head_text name) ++ text) ≡ 12 + length name + length text
head_size name text = simp length-append (omega arith)

pub bad_at_signal : (name : List ℕ) (lines : List Line) (rest : List ℕ) (place at : ℕ) → place ≡ 12 + length name → is_attribute_signal lines ≡ true
    → at ≡ place + length (lines_text (before_attribute lines)) → Some at ≡ bad_line (record { name = name; lines = lines }) rest
bad_at_signal name lines rest place at is some e =
    let same : at ≡ attribute_place (record { name = name; lines = lines }) = omega (arith, is, e, head_size name (lines_text (before_attribute lines))) in
    rw some (ap Some same)

no_size : (lines : List Line) → (length (lines_text lines) == 0) ≡ (length lines == 0)
no_size [] = refl
no_size (l ∷ ls) =
    let text : (length (lines_text (l ∷ ls)) == 0) ≡ false =
    ne_eqb (length (lines_text (l ∷ ls))) 0 (λ e. omega (arith, e, length-append (lined (line_text l)) (lines_text ls), length-append (line_text l) (10 ∷ []))) in
    let line : (length (l ∷ ls) == 0) ≡ false = ne_eqb (length (l ∷ ls)) 0 (λ e. omega (arith, e)) in
    text ∙ sym line

-- whether the front is cut, told by the size of its lines
pub cut_by_size : (name : List ℕ) (lines : List Line) (bytes rest : List ℕ) → bytes ≡ lines_text lines ++ rest
    → (not (length rest == 0) || (length bytes - length rest == 0)) ≡ is_cut (record { name = name; lines = lines }) rest
cut_by_size name lines bytes rest e =
    let size : length bytes - length rest ≡ length (lines_text lines) = omega (arith, ap length e, length-append (lines_text lines) rest) in
    ap (λ b. not (length rest == 0) || b) (ap (λ n. n == 0) size ∙ no_size lines)

pub bad_at_end : (name : List ℕ) (lines : List Line) (bytes rest : List ℕ) (place : ℕ) → place ≡ 12 + length name → bytes ≡ lines_text lines ++ rest → is_attribute_signal lines ≡ false
    → is_cut (record { name = name; lines = lines }) rest ≡ true → Some (place + (length bytes - length rest)) ≡ bad_line (record { name = name; lines = lines }) rest
bad_at_end name lines bytes rest place is e none cut =
    let same : place + (length bytes - length rest) ≡ length (block_text (record { name = name; lines = lines })) =
    omega (arith, is, ap length e, length-append (lines_text lines) rest, head_size name (lines_text lines)) in
    rw none (rw cut (ap Some same))

pub bad_at_start : (name : List ℕ) (lines : List Line) (rest : List ℕ) → is_attribute_signal lines ≡ false → is_cut (record { name = name; lines = lines }) rest ≡ false → is_partial lines ≡ true
    → Some 0 ≡ bad_line (record { name = name; lines = lines }) rest
bad_at_start name lines rest none uncut some = rw none (rw uncut (rw some refl))

pub not_bad : (name : List ℕ) (lines : List Line) (rest : List ℕ) → is_attribute_signal lines ≡ false → is_cut (record { name = name; lines = lines }) rest ≡ false → is_partial lines ≡ false
    → None ≡ bad_line (record { name = name; lines = lines }) rest
not_bad name lines rest none uncut all = rw none (rw uncut (rw all refl))
