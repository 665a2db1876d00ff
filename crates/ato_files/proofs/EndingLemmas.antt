-- Walks up from blocks.
use Rattle.std.proofs.Common.{◌≡◌, ◌<◌, ℕ, zero, suc, ◌+◌, Bool, true, false, not, nat_eq, List, [], ◌∷◌, ◌++◌, Option, Some, None, refl, sym, ap, ◌∙◌, arith, length, set, get_or, replicate}
use Rattle.std.specs.Prelude.{slice_get, is_some}
use Rattle.std.proofs.lemmas.List.{length-set, get_or-set_same, get_or-set_other, length_push, length-replicate}
use Rattle.std.proofs.lemmas.Option.{slice_get_within, slice_get-get_or, get_or_from_slice_get}
use Rattle.std.proofs.lemmas.Bool.{eqb-true, eqb-false}
use Rattle.ato_files.specs.Meant.{joined}
use Rattle.ato_files.specs.ParentLists.{AreMade, parent_in, ancestor_in, endless, AreMarks, AreEnds}
use Rattle.ato_files.proofs.PushLemmas.{slice_get_push_first, slice_get_push_last}
use Rattle.ato_files.proofs.AncestorLemmas.{endless_above, no_parent_ends, above_within, ancestor_more, ancestor_one, round_endless}

-- The mark of a block in the course of a walk that has come to a block: it is of an earlier walk, or of this one.
pub data IsMark (parents : List (Option ℕ)) (start block number walk : ℕ) : Type 0 where
  earlier : walk < start → endless parents number ≡ endless parents walk → IsMark parents start block number walk
  passed : (k : ℕ) → walk ≡ start → ancestor_in parents (suc k) number ≡ Some block → IsMark parents start block number walk

-- A walk has come so many steps up, to a block.
pub record IsWalk (parents : List (Option ℕ)) (start steps block : ℕ) (walks : List ℕ) : Type 0 where
  pub count : length walks ≡ length parents
  pub up : ancestor_in parents steps start ≡ Some block
  pub within : block < length parents
  pub marks : (number walk : ℕ) → slice_get walks number ≡ Some walk → walk < length parents → IsMark parents start block number walk

pub walk_begins : (parents : List (Option ℕ)) (start : ℕ) (walks : List ℕ) → start < length parents → AreMarks parents start walks → IsWalk parents start 0 start walks
walk_begins parents start walks h are = record {
  count = are.count;
  up = refl;
  within = h;
  marks = λ number walk at w. let m = are.each number walk at w in earlier m.0 m.1;
}

-- after a write another place is as it was, and the place has what was written
data Written (xs : List ℕ) (i y k x : ℕ) : Type 0 where
  there : k ≡ i → x ≡ y → Written xs i y k x
  other : slice_get xs k ≡ Some x → Written xs i y k x

written : (xs : List ℕ) (i y k x : ℕ) → slice_get (set xs i y) k ≡ Some x → Written xs i y k x
written xs i y k x e =
    let within = slice_get_within (set xs i y) k x e in
    let long = length-set xs i y in
    let value = get_or_from_slice_get (set xs i y) k x x e in
    by (nat_eq k i) refl within long value
  where
    by : (b : Bool) → nat_eq k i ≡ b → k < length (set xs i y) → length (set xs i y) ≡ length xs → get_or (set xs i y) k x ≡ x → Written xs i y k x
    by true same within long value = let here = eqb-true k i same in
        there here (sym value ∙ ap (λ (n : ℕ). get_or (set xs i y) n x) here ∙ get_or-set_same xs i y x (omega arith))
    by false apart within long value = other (slice_get-get_or xs k x (omega arith) ∙ ap Some (sym (get_or-set_other xs i k y x (eqb-false k i apart)) ∙ value))

pub parent_read : (parents : List (Option ℕ)) (block : ℕ) (d o : Option ℕ) → block < length parents → get_or parents block d ≡ o → parent_in parents block ≡ o
parent_read parents block d o h e = ap joined (slice_get-get_or parents block d h) ∙ e

-- a mark one block further up
mark_more : (parents : List (Option ℕ)) (start block above number walk : ℕ) → parent_in parents block ≡ Some above → IsMark parents start block number walk → IsMark parents start above number walk
mark_more parents start block above number walk p (earlier h e) = earlier h e
mark_more parents start block above number walk p (passed k s e) = passed (suc k) s
    (let more : suc (suc k) ≡ suc k + 1 = omega arith in ap (λ (n : ℕ). ancestor_in parents n number) more ∙ ancestor_more parents (suc k) number block above e p)

mark_here : (parents : List (Option ℕ)) (start block above number walk : ℕ) → parent_in parents block ≡ Some above → number ≡ block → walk ≡ start → IsMark parents start above number walk
mark_here parents start block above number walk p same s = passed 0 s (ap (λ (n : ℕ). ancestor_in parents (suc 0) n) same ∙ ancestor_one parents block above p)

-- what a mark says of the ends
known_by : (parents : List (Option ℕ)) → AreMade parents → (start steps block number walk : ℕ) → ancestor_in parents steps start ≡ Some block → IsMark parents start block number walk
    → (walk < start + 1) × (endless parents number ≡ endless parents walk)
known_by parents made start steps block number walk up (earlier h e) = (omega arith, e)
known_by parents made start steps block number walk up (passed k s e) =
    (omega arith, endless_above parents made (suc k) number block e ∙ sym (endless_above parents made steps start block up) ∙ ap (endless parents) (sym s))

module _ (parents : List (Option ℕ)) (made : AreMade parents) (start steps block : ℕ) (walks : List ℕ) (w : IsWalk parents start steps block walks) where
  -- one step more
  pub walk_on : (above : ℕ) → parent_in parents block ≡ Some above → IsWalk parents start (steps + 1) above (set walks block start)
  walk_on above p = record {
    count = length-set walks block start ∙ w.count;
    up = ancestor_more parents steps start block above w.up p;
    within = above_within parents made block above p;
    marks = λ number walk at h. by number walk h (written walks block start number walk at);
  }
    where
      by : (number walk : ℕ) → walk < length parents → Written walks block start number walk → IsMark parents start above number walk
      by number walk h (there same s) = mark_here parents start block above number walk p same s
      by number walk h (other at) = mark_more parents start block above number walk p (w.marks number walk at h)

  -- the marks of a walk that is over
  pub walk_marks : AreMarks parents (start + 1) walks
  walk_marks = record { count = w.count; each = λ number walk at h. known_by parents made start steps block number walk w.up (w.marks number walk at h) }

  -- with the mark of a block that has no parent
  pub last_marks : AreMarks parents (start + 1) (set walks block start)
  last_marks = record { count = length-set walks block start ∙ w.count; each = λ number walk at h. by number walk h (written walks block start number walk at) }
    where
      by : (number walk : ℕ) → walk < length parents → Written walks block start number walk → (walk < start + 1) × (endless parents number ≡ endless parents walk)
      by number walk h (there same s) = (omega arith, ap (endless parents) same ∙ sym (endless_above parents made steps start block w.up) ∙ ap (endless parents) (sym s))
      by number walk h (other at) = known_by parents made start steps block number walk w.up (w.marks number walk at h)

  -- ---- what a walk finds

  pub top_ends : parent_in parents block ≡ None → endless parents start ≡ false
  top_ends p = endless_above parents made steps start block w.up ∙ no_parent_ends parents block p

  pub round_found : (walk : ℕ) → start < length parents → slice_get walks block ≡ Some walk → walk ≡ start → endless parents start ≡ true
  round_found walk h at same = endless_above parents made steps start block w.up ∙ by (w.marks block walk at (omega arith))
    where
      by : IsMark parents start block block walk → endless parents block ≡ true
      by (earlier less e) = absurd (omega arith)
      by (passed k s e) = round_endless parents k block e

  pub met_found : (walk : ℕ) → start < length parents → slice_get walks block ≡ Some walk → walk < start → endless parents start ≡ endless parents walk
  met_found walk h at less = endless_above parents made steps start block w.up ∙ by (w.marks block walk at (omega arith))
    where
      by : IsMark parents start block block walk → endless parents block ≡ endless parents walk
      by (earlier _ e) = e
      by (passed k s e) = absurd (omega arith)

  pub long_found : steps ≡ length parents + 1 → endless parents start ≡ true
  long_found e = let more : suc (length parents) ≡ steps = omega arith in ap is_some (ap (λ (n : ℕ). ancestor_in parents n start) more ∙ w.up)

-- what is known of a block that was read
pub ends_read : (parents : List (Option ℕ)) (known number : ℕ) (ends : List Bool) (d r : Bool) → AreEnds parents known ends → number < known → r ≡ get_or ends number d → r ≡ not (endless parents number)
ends_read parents known number ends d r are h e = e ∙ get_or_from_slice_get ends number (not (endless parents number)) d (are.each number h)

-- ---- block after block

pub marks_more : (parents : List (Option ℕ)) (start : ℕ) (walks : List ℕ) → AreMarks parents start walks → AreMarks parents (start + 1) walks
marks_more parents start walks are = record { count = are.count; each = λ number walk at h. let m = are.each number walk at h in let less : walk < start + 1 = (let l = m.0 in omega arith) in (less, m.1) }

all_same : (n y k x : ℕ) → slice_get (replicate n y) k ≡ Some x → x ≡ y
all_same zero y k x e = cc
all_same (suc n) y zero x e = cc
all_same (suc n) y (suc k) x e = all_same n y k x e

pub no_marks : (parents : List (Option ℕ)) → AreMarks parents 0 (replicate (length parents) (length parents))
no_marks parents = record {
  count = length-replicate (length parents) (length parents);
  each = λ number walk at h. let same = all_same (length parents) (length parents) number walk at in absurd (omega arith);
}

pub no_ends : (parents : List (Option ℕ)) → AreEnds parents 0 []
no_ends parents = record { count = refl; each = λ number h. absurd (omega arith) }

pub ends_more : (parents : List (Option ℕ)) (known : ℕ) (ends : List Bool) (r : Bool) → AreEnds parents known ends → r ≡ not (endless parents known) → AreEnds parents (known + 1) (ends ++ r ∷ [])
ends_more parents known ends r are e = record {
  count = length_push ends r ∙ ap (λ (n : ℕ). n + 1) are.count;
  each = λ number h. by number (nat_eq number known) refl h;
}
  where
    by : (number : ℕ) (b : Bool) → nat_eq number known ≡ b → number < known + 1 → slice_get (ends ++ r ∷ []) number ≡ Some (not (endless parents number))
    by number true same h = let here = eqb-true number known same in
        slice_get_push_last ends r number (are.count ∙ sym here) ∙ ap Some (e ∙ ap (λ (n : ℕ). not (endless parents n)) (sym here))
    by number false apart h = let other = eqb-false number known apart in let n = are.count in
        slice_get_push_first ends r number (omega arith) ∙ are.each number (omega arith)
