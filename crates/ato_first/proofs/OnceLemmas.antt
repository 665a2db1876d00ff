-- Lines of which each of the part's three stands at most once, and the fronts of a text that they are.
use Rattle.std.proofs.Common.{◌≡◌, ℕ, ◌≤◌, List, [], ◌∷◌, ◌++◌, length, true, false, ap, sym, ◌∙◌, refl, arith, append_assoc, append-nil, length-append, subst, cond}
use Rattle.std.specs.Prelude.{Option, Some, None, is_some, is_none}
use Rattle.std.specs.List.{list_all, filter_map, cons_option, slice_get, take_while}
use Rattle.std.proofs.lemmas.List.Elements.{filter_map-append}
use Rattle.std.proofs.lemmas.List.Sums.{take_while-cons}
use Rattle.ato_first.specs.FirstForm.{lined, line_text, lines_text, is_line, NoLine, NoNext}
use Rattle.ato_first.specs.PartLines.{kind_in, attribute_in, assertion_in, AreOnce}
use Rattle.ato_first.specs.declared.first_form.Line.{Line}
use Rattle.ato_first.proofs.Bools.{and_true}
use Rattle.ato_first.proofs.FirstFormLemmas.{one_line, line_and_more, first_text, line_no_lf}

-- What lines say, with one more.

pub said_more : {Y : Type 0} (f : Line → Option Y) (lines : List Line) (line : Line) (y : Y) → f line ≡ Some y → filter_map f (lines ++ line ∷ []) ≡ filter_map f lines ++ y ∷ []
said_more f lines line y e = filter_map-append f lines (line ∷ []) ∙ ap (λ o. filter_map f lines ++ cons_option o []) e

pub said_same : {Y : Type 0} (f : Line → Option Y) (lines : List Line) (line : Line) → f line ≡ None → filter_map f (lines ++ line ∷ []) ≡ filter_map f lines
said_same f lines line e = filter_map-append f lines (line ∷ []) ∙ ap (λ o. filter_map f lines ++ cons_option o []) e ∙ append-nil (filter_map f lines)

pub some_first : {Y : Type 0} (ys : List Y) → is_some (slice_get ys 0) ≡ true → 1 ≤ length ys
some_first [] h = let bad : ⊥ = cc in absurd bad
some_first (y ∷ ys) h = omega arith

pub no_first : {Y : Type 0} (ys : List Y) → is_some (slice_get ys 0) ≡ false → ys ≡ []
no_first [] h = refl
no_first (y ∷ ys) h = let bad : ⊥ = cc in absurd bad

-- A second one is one too many.
pub said_twice : {Y : Type 0} (f : Line → Option Y) (lines : List Line) (line : Line) (y : Y) → f line ≡ Some y → is_some (slice_get (filter_map f lines) 0) ≡ true
    → length (filter_map f (lines ++ line ∷ [])) ≤ 1 → ⊥
said_twice f lines line y e some few =
    omega (arith, some_first (filter_map f lines) some, ap length (said_more f lines line y e), length-append (filter_map f lines) (y ∷ []))

-- The first one is the only one.
pub said_first : {Y : Type 0} (f : Line → Option Y) (lines : List Line) (line : Line) (y : Y) → f line ≡ Some y → is_some (slice_get (filter_map f lines) 0) ≡ false
    → filter_map f (lines ++ line ∷ []) ≡ y ∷ []
said_first f lines line y e none = said_more f lines line y e ∙ ap (λ ys. ys ++ y ∷ []) (no_first (filter_map f lines) none)

-- The lines before the first that says something.

pub before_kept : {Y : Type 0} (f : Line → Option Y) (ls more : List Line) → is_some (slice_get (filter_map f ls) 0) ≡ true
    → take_while (λ l. is_none (f l)) (ls ++ more) ≡ take_while (λ l. is_none (f l)) ls
before_kept f [] more h = let bad : ⊥ = cc in absurd bad
before_kept {Y} f (l ∷ ls) more h =
    take_while-cons (λ l. is_none (f l)) l (ls ++ more) ∙ by (f l) h (before_kept f ls more) ∙ sym (take_while-cons (λ l. is_none (f l)) l ls)
  where
    by : (o : Option Y) → is_some (slice_get (cons_option o (filter_map f ls)) 0) ≡ true → (is_some (slice_get (filter_map f ls) 0) ≡ true → take_while (λ l. is_none (f l)) (ls ++ more) ≡ take_while (λ l. is_none (f l)) ls)
        → cond (is_none o) (l ∷ take_while (λ l. is_none (f l)) (ls ++ more)) [] ≡ cond (is_none o) (l ∷ take_while (λ l. is_none (f l)) ls) []
    by None h more = ap (λ t. l ∷ t) (more h)
    by (Some y) h more = refl

pub before_first : {Y : Type 0} (f : Line → Option Y) (ls : List Line) (line : Line) (y : Y) → f line ≡ Some y → is_some (slice_get (filter_map f ls) 0) ≡ false
    → take_while (λ l. is_none (f l)) (ls ++ line ∷ []) ≡ ls
before_first f [] line y e h = take_while-cons (λ l. is_none (f l)) line [] ∙ ap (λ o. cond (is_none o) (line ∷ []) []) e
before_first {Y} f (l ∷ ls) line y e h = take_while-cons (λ l. is_none (f l)) l (ls ++ line ∷ []) ∙ by (f l) h (before_first f ls line y e)
  where
    by : (o : Option Y) → is_some (slice_get (cons_option o (filter_map f ls)) 0) ≡ false → (is_some (slice_get (filter_map f ls) 0) ≡ false → take_while (λ l. is_none (f l)) (ls ++ line ∷ []) ≡ ls)
        → cond (is_none o) (l ∷ take_while (λ l. is_none (f l)) (ls ++ line ∷ [])) [] ≡ l ∷ ls
    by None h more = ap (λ t. l ∷ t) (more h)
    by (Some y) h more = let bad : ⊥ = cc in absurd bad

-- Of lines that stand at most once, the first ones do too.

fewer : {Y : Type 0} (f : Line → Option Y) (a b : List Line) → length (filter_map f (a ++ b)) ≤ 1 → length (filter_map f a) ≤ 1
fewer f a b h = omega (arith, h, ap length (filter_map-append f a b), length-append (filter_map f a) (filter_map f b))

pub once_front : (a b : List Line) → AreOnce (a ++ b) → AreOnce a
once_front a b h = record { kinds = fewer kind_in a b h.kinds; attributes = fewer attribute_in a b h.attributes; assertions = fewer assertion_in a b h.assertions }

once_first : (done : List Line) (line : Line) (lines : List Line) → AreOnce (done ++ line ∷ lines) → AreOnce ((done ++ []) ++ line ∷ [])
once_first done line lines h =
    subst (λ ls. AreOnce (ls ++ line ∷ [])) (sym (append-nil done)) (once_front (done ++ line ∷ []) lines (subst AreOnce (sym (append_assoc done (line ∷ []) lines)) h))

-- The first lines of two such lists are one.
one_step : (l o : Line) (ls os : List Line) (r s : List ℕ) → is_line l ≡ true → is_line o ≡ true → lines_text (l ∷ ls) ++ r ≡ lines_text (o ∷ os) ++ s → (l ≡ o) × (lines_text ls ++ r ≡ lines_text os ++ s)
one_step l o ls os r s h k e =
    let cut = first_text (line_text l) (lines_text ls ++ r) (line_text o) (lines_text os ++ s) (sym (line_and_more l ls r) ∙ e ∙ line_and_more o os s) (line_no_lf l h) (line_no_lf o k) in
    (one_line l o h k cut.0, cut.1)

-- Two lists of lines of one text, each followed by no line, are one.
pub one_lines : (ls os : List Line) (r s : List ℕ) → list_all is_line ls ≡ true → list_all is_line os ≡ true → lines_text ls ++ r ≡ lines_text os ++ s → NoLine r → NoLine s → (ls ≡ os) × (r ≡ s)
one_lines [] [] r s h k e p q = (refl, e)
one_lines [] (o ∷ os) r s h k e p q = absurd (p o (lines_text os ++ s) (and_true (is_line o) (list_all is_line os) k).0 (e ∙ line_and_more o os s))
one_lines (l ∷ ls) [] r s h k e p q = absurd (q l (lines_text ls ++ r) (and_true (is_line l) (list_all is_line ls) h).0 (sym e ∙ line_and_more l ls r))
one_lines (l ∷ ls) (o ∷ os) r s h k e p q =
    let ls_are = and_true (is_line l) (list_all is_line ls) h in
    let os_are = and_true (is_line o) (list_all is_line os) k in
    let cut = one_step l o ls os r s ls_are.0 os_are.0 e in
    let more = one_lines ls os r s ls_are.1 os_are.1 cut.1 p q in
    (ap (λ x. x ∷ ls) cut.0 ∙ ap (λ xs. o ∷ xs) more.0, more.1)

-- Two fronts of lines of one text, each followed by no line that may come next, are one.
pub one_front : (done ls os : List Line) (r s : List ℕ) → list_all is_line ls ≡ true → list_all is_line os ≡ true → AreOnce (done ++ ls) → AreOnce (done ++ os)
    → lines_text ls ++ r ≡ lines_text os ++ s → NoNext (done ++ ls) r → NoNext (done ++ os) s → (ls ≡ os) × (r ≡ s)
one_front done [] [] r s h k a b e p q = (refl, e)
one_front done [] (o ∷ os) r s h k a b e p q = absurd (p o (lines_text os ++ s) (and_true (is_line o) (list_all is_line os) k).0 (once_first done o os b) (e ∙ line_and_more o os s))
one_front done (l ∷ ls) [] r s h k a b e p q = absurd (q l (lines_text ls ++ r) (and_true (is_line l) (list_all is_line ls) h).0 (once_first done l ls a) (sym e ∙ line_and_more l ls r))
one_front done (l ∷ ls) (o ∷ os) r s h k a b e p q =
    let ls_are = and_true (is_line l) (list_all is_line ls) h in
    let os_are = and_true (is_line o) (list_all is_line os) k in
    let cut = one_step l o ls os r s ls_are.0 os_are.0 e in
    let mine : done ++ l ∷ ls ≡ (done ++ l ∷ []) ++ ls = sym (append_assoc done (l ∷ []) ls) in
    let other : done ++ o ∷ os ≡ (done ++ l ∷ []) ++ os = ap (λ x. done ++ x ∷ os) (sym cut.0) ∙ sym (append_assoc done (l ∷ []) os) in
    let more = one_front (done ++ l ∷ []) ls os r s ls_are.1 os_are.1 (subst AreOnce mine a) (subst AreOnce other b) cut.1
    (subst (λ lines. NoNext lines r) mine p) (subst (λ lines. NoNext lines s) other q) in
    (ap (λ x. x ∷ ls) cut.0 ∙ ap (λ xs. o ∷ xs) more.0, more.1)

-- A line that may not come next is in the way of all others.
pub second_next : (lines : List Line) (line : Line) (bytes rest : List ℕ) → is_line line ≡ true → bytes ≡ lined (line_text line) ++ rest → (AreOnce (lines ++ line ∷ []) → ⊥) → NoNext lines bytes
second_next lines line bytes rest ok is twice other more h once e =
    let cut = first_text (line_text line) rest (line_text other) more (sym is ∙ e) (line_no_lf line ok) (line_no_lf other h) in
    twice (subst (λ l. AreOnce (lines ++ l ∷ [])) (sym (one_line line other ok h cut.0)) once)
