use Rattle.std.proofs.Common.{◌≡◌, ℕ, ◌<◌, ◌≤◌, ◌+◌, ◌==◌, zero, suc, List, [], ◌∷◌, ◌++◌, length, get_or, true, false, ◌||◌, ◌&&◌, ap, sym, ◌∙◌, refl, arith, Bool, append_assoc, append-nil, lit<, length-append}
use Rattle.std.specs.Prelude.{codes, nat_le, if◌then◌else◌}
use Rattle.std.specs.List.{list_any, list_all}
use Rattle.std.specs.Str.{IsAscii}
use Rattle.std.proofs.lemmas.Bool.{leb-true, eqb-true}
use Rattle.std.proofs.lemmas.List.{append_cancel_left, append_cancel_right}
use Rattle.std.proofs.lemmas.List.Folds.{list_any-append, list_all-append}
use Rattle.ato_first.specs.FirstForm.{is_ascii_name, is_kind_text, is_label, is_short_number, is_digit, is_letter, is_name_byte, is_kind_byte, lined, point_text, end_text, line_text, is_point, is_end, is_line, head_text, lines_text, NoLine, NoNext, NoHead}
use Rattle.ato_first.specs.Statements.{with_tilde, words_text}
use Rattle.ato_first.specs.declared.first_form.Point.{Point}
use Rattle.ato_first.specs.declared.first_form.Point.TheVariants.{Signal, Pin}
use Rattle.ato_first.specs.declared.first_form.End.{End}
use Rattle.ato_first.specs.declared.first_form.End.TheVariants.{Name, Declared}
use Rattle.ato_first.specs.declared.first_form.Line.{Line}
use Rattle.ato_first.specs.declared.first_form.Line.TheVariants.{Pass, Declaration, Join, Kind, Attribute, Assertion}
use Rattle.ato_first.proofs.Bools.{and_true, or_true}
use Rattle.ato_first.proofs.Bytes.{has, first_cut, no_byte, neither, name_without, differ}
use Rattle.ato_first.proofs.PartLineLemmas.{one_assertion, kind_line_without, attribute_line_without, assertion_line_without}

-- names and labels are ASCII

digit_ascii : (b : ℕ) → is_digit b ≡ true → b < 128
digit_ascii b h = let le : b ≤ 57 = leb-true b 57 (and_true (nat_le 48 b) (nat_le b 57) h).1 in omega arith

letter_ascii : (b : ℕ) → is_letter b ≡ true → b < 128
letter_ascii b h = or_true ((nat_le 65 b && nat_le b 90) || (nat_le 97 b && nat_le b 122)) (b == 95) h (b < 128)
    (λ k. or_true (nat_le 65 b && nat_le b 90) (nat_le 97 b && nat_le b 122) k (b < 128)
    (λ u. let le : b ≤ 90 = leb-true b 90 (and_true (nat_le 65 b) (nat_le b 90) u).1 in omega arith)
    (λ l. let le : b ≤ 122 = leb-true b 122 (and_true (nat_le 97 b) (nat_le b 122) l).1 in omega arith))
    (λ e. let is : b ≡ 95 = eqb-true b 95 e in omega arith)

name_byte_ascii : (b : ℕ) → is_name_byte b ≡ true → b < 128
name_byte_ascii b h = or_true (is_letter b) (is_digit b) h (b < 128) (letter_ascii b) (digit_ascii b)

pub all_ascii : (p : ℕ → Bool) → ((b : ℕ) → p b ≡ true → b < 128) → (xs : List ℕ) → list_all p xs ≡ true → IsAscii xs
all_ascii p f [] h i = lit< tt
all_ascii p f (x ∷ xs) h zero = f x (and_true _ _ h).0
all_ascii p f (x ∷ xs) h (suc i) = all_ascii p f xs (and_true _ _ h).1 i

pub name_ascii : (xs : List ℕ) → is_ascii_name xs ≡ true → IsAscii xs
name_ascii xs h = all_ascii is_name_byte name_byte_ascii xs (and_true _ _ (and_true _ _ h).0).1

pub kind_ascii : (xs : List ℕ) → is_kind_text xs ≡ true → IsAscii xs
kind_ascii xs h = all_ascii is_kind_byte (λ b k. name_byte_ascii b (and_true _ _ k).0) xs (and_true _ _ h).1

pub number_ascii : (xs : List ℕ) → is_short_number xs ≡ true → IsAscii xs
number_ascii xs h = all_ascii is_digit digit_ascii xs (and_true _ _ h).1

pub label_ascii : (xs : List ℕ) → is_label xs ≡ true → IsAscii xs
label_ascii xs h = or_true (is_ascii_name xs) (is_short_number xs) h (IsAscii xs) (name_ascii xs) (number_ascii xs)

-- no name, label or line of the form has a byte within it that stands for something else

-- a byte that no point has
record IsOther (c : ℕ) : Type 0 where
  no_name : is_name_byte c ≡ false
  no_digit : is_digit c ≡ false
  no_signal : list_any (λ b. b == c) (codes "signal ") ≡ false
  no_pin : list_any (λ b. b == c) (codes "pin ") ≡ false

line_end : IsOther 10
line_end = record { no_name = refl; no_digit = refl; no_signal = refl; no_pin = refl }

tilde : IsOther 126
tilde = record { no_name = refl; no_digit = refl; no_signal = refl; no_pin = refl }

label_without : (c : ℕ) → IsOther c → (xs : List ℕ) → is_label xs ≡ true → list_any (λ b. b == c) xs ≡ false
label_without c o xs h =
    or_true (is_ascii_name xs) (is_short_number xs) h (list_any (λ b. b == c) xs ≡ false) (name_without c o.no_name xs) (λ n. no_byte is_digit c o.no_digit xs (and_true _ _ n).1)

point_without : (c : ℕ) → IsOther c → (point : Point) → is_point point ≡ true → list_any (λ b. b == c) (point_text point) ≡ false
point_without c o (Signal name) h = neither (λ b. b == c) (codes "signal ") name o.no_signal (name_without c o.no_name name h)
point_without c o (Pin label) h = neither (λ b. b == c) (codes "pin ") label o.no_pin (label_without c o label h)

end_without : (c : ℕ) → IsOther c → (end : End) → is_end end ≡ true → list_any (λ b. b == c) (end_text end) ≡ false
end_without c o (Name name) h = name_without c o.no_name name h
end_without c o (Declared point) h = point_without c o point h

pub end_no_tilde : (end : End) → is_end end ≡ true → list_any (λ b. b == 126) (end_text end) ≡ false
end_no_tilde = end_without 126 tilde

pub line_no_lf : (line : Line) → is_line line ≡ true → list_any (λ b. b == 10) (line_text line) ≡ false
line_no_lf Pass h = refl
line_no_lf (Declaration point) h = point_without 10 line_end point h
line_no_lf (Join left right) h =
    let ends = and_true (is_end left) (is_end right) h in
    neither (λ b. b == 10) (end_text left) (codes " ~ " ++ end_text right) (end_without 10 line_end left ends.0) (end_without 10 line_end right ends.1)
line_no_lf (Kind text) h = kind_line_without 10 refl refl refl text h
line_no_lf (Attribute name) h = attribute_line_without 10 refl refl name h
line_no_lf (Assertion a) h = assertion_line_without 10 refl refl refl refl a h

pub head_no_lf : (name : List ℕ) → is_ascii_name name ≡ true → list_any (λ b. b == 10) (head_text name) ≡ false
head_no_lf name h = rw (list_any-append (λ b. b == 10) name (codes ":")) (rw (name_without 10 refl name h) refl)

-- the first line of a text is one
pub first_text : (a b x y : List ℕ) → lined a ++ b ≡ lined x ++ y → list_any (λ n. n == 10) a ≡ false → list_any (λ n. n == 10) x ≡ false → (a ≡ x) × (b ≡ y)
first_text a b x y e p q = first_cut 10 a b x y (sym (append_assoc a (10 ∷ []) b) ∙ e ∙ append_assoc x (10 ∷ []) y) p q

pub no_line_end : (bytes : List ℕ) → list_any (λ b. b == 10) bytes ≡ false → NoLine bytes
no_line_end bytes none line rest h e =
    let yes : list_any (λ b. b == 10) bytes ≡ true = ap (list_any (λ b. b == 10)) (e ∙ append_assoc (line_text line) (10 ∷ []) rest) ∙ has 10 (line_text line) rest in cc

pub no_head_end : (bytes : List ℕ) → list_any (λ b. b == 10) bytes ≡ false → NoHead bytes
no_head_end bytes none name rest h e =
    let yes : list_any (λ b. b == 10) bytes ≡ true = ap (list_any (λ b. b == 10)) (e ∙ append_assoc (head_text name) (10 ∷ []) rest) ∙ has 10 (head_text name) rest in cc

pub other_line : (bytes text rest : List ℕ) → bytes ≡ lined text ++ rest → list_any (λ b. b == 10) text ≡ false → ((line : Line) → is_line line ≡ true → text ≡ line_text line → ⊥) → NoLine bytes
other_line bytes text rest is none other line more h e = other line h (first_text text rest (line_text line) more (sym is ∙ e) none (line_no_lf line h)).0

pub other_head : (bytes text rest : List ℕ) → bytes ≡ lined text ++ rest → list_any (λ b. b == 10) text ≡ false → ((name : List ℕ) → is_ascii_name name ≡ true → text ≡ head_text name → ⊥) → NoHead bytes
other_head bytes text rest is none other name more h e = other name h (first_text text rest (head_text name) more (sym is ∙ e) none (head_no_lf name h)).0

pub nonempty : (text rest : List ℕ) → lined text ++ rest ≡ [] → ⊥
nonempty text rest e = let z : length text + 1 + length rest ≡ 0 = sym (simp length-append) ∙ ap length e in absurd (omega arith)

pub no_line_here : NoLine []
no_line_here line rest h e = nonempty (line_text line) rest (sym e)

pub no_next : (lines : List Line) (bytes : List ℕ) → NoLine bytes → NoNext lines bytes
no_next lines bytes none line rest h once e = none line rest h e

-- the texts are one-to-one

pub one_name : (a b : List ℕ) → head_text a ≡ head_text b → a ≡ b
one_name a b e = append_cancel_right a b (codes ":") (append_cancel_left (codes "component ") (a ++ codes ":") (b ++ codes ":") e)

one_point : (a b : Point) → point_text a ≡ point_text b → a ≡ b
one_point (Signal a) (Signal b) e = ap Signal (append_cancel_left (codes "signal ") a b e)
one_point (Signal a) (Pin b) e = absurd (differ (point_text (Signal a)) (point_text (Pin b)) 0 115 e refl refl)
one_point (Pin a) (Signal b) e = absurd (differ (point_text (Pin a)) (point_text (Signal b)) 0 112 e refl refl)
one_point (Pin a) (Pin b) e = ap Pin (append_cancel_left (codes "pin ") a b e)

-- a point has a blank, and a name has none
point_blank : (point : Point) → list_any (λ b. b == 32) (point_text point) ≡ true
point_blank (Signal name) = refl
point_blank (Pin label) = refl

no_point : (name : List ℕ) (point : Point) → is_ascii_name name ≡ true → name ≡ point_text point → ⊥
no_point name point h e =
    let none : list_any (λ b. b == 32) name ≡ false = name_without 32 refl name h in
    let some : list_any (λ b. b == 32) name ≡ true = ap (list_any (λ b. b == 32)) e ∙ point_blank point in
    cc

one_end : (a b : End) → is_end a ≡ true → is_end b ≡ true → end_text a ≡ end_text b → a ≡ b
one_end (Name a) (Name b) h k e = ap Name e
one_end (Name a) (Declared b) h k e = absurd (no_point a b h e)
one_end (Declared a) (Name b) h k e = absurd (no_point b a k (sym e))
one_end (Declared a) (Declared b) h k e = ap Declared (one_point a b e)

-- the first tilde of a join is one, and the others have none

-- the sign of a join, cut at its tilde
at_tilde : (left right : List ℕ) → with_tilde left right ≡ (left ++ codes " ") ++ 126 ∷ (codes " " ++ right)
at_tilde left right = sym (append_assoc left (codes " ") (126 ∷ (codes " " ++ right)))

blank_no_tilde : (left : List ℕ) → list_any (λ b. b == 126) left ≡ false → list_any (λ b. b == 126) (left ++ codes " ") ≡ false
blank_no_tilde left h = neither (λ b. b == 126) left (codes " ") h refl

-- The sides of a cut at the first tilde are those of the join.
one_cut : (text front back left right : List ℕ) → text ≡ (front ++ 126 ∷ []) ++ back → list_any (λ b. b == 126) front ≡ false
    → list_any (λ b. b == 126) left ≡ false → text ≡ with_tilde left right → (front ≡ left ++ codes " ") × (back ≡ codes " " ++ right)
one_cut text front back left right is none clear e =
    first_cut 126 front back (left ++ codes " ") (codes " " ++ right) (sym (append_assoc front (126 ∷ []) back) ∙ sym is ∙ e ∙ at_tilde left right) none (blank_no_tilde left clear)

pub no_left : (text front back : List ℕ) → text ≡ (front ++ 126 ∷ []) ++ back → list_any (λ b. b == 126) front ≡ false → ((left : List ℕ) → front ≡ left ++ codes " " → ⊥)
    → (left right : List ℕ) → list_any (λ b. b == 126) left ≡ false → text ≡ with_tilde left right → ⊥
no_left text front back is none other left right clear e = other left (one_cut text front back left right is none clear e).0

pub no_right : (text front back : List ℕ) → text ≡ (front ++ 126 ∷ []) ++ back → list_any (λ b. b == 126) front ≡ false → ((right : List ℕ) → back ≡ codes " " ++ right → ⊥)
    → (left right : List ℕ) → list_any (λ b. b == 126) left ≡ false → text ≡ with_tilde left right → ⊥
no_right text front back is none other left right clear e = other right (one_cut text front back left right is none clear e).1

no_sides : (text left right : List ℕ) → list_any (λ b. b == 126) text ≡ false → text ≡ with_tilde left right → ⊥
no_sides text left right none e =
    let yes : list_any (λ b. b == 126) text ≡ true = ap (list_any (λ b. b == 126)) (e ∙ at_tilde left right) ∙ has 126 (left ++ codes " ") (codes " " ++ right) in cc

-- Two joins of one text have the same sides.
pub one_join : (a b x y : List ℕ) → list_any (λ n. n == 126) a ≡ false → list_any (λ n. n == 126) x ≡ false → with_tilde a b ≡ with_tilde x y → (a ≡ x) × (b ≡ y)
one_join a b x y h k e =
    let cut = first_cut 126 (a ++ codes " ") (codes " " ++ b) (x ++ codes " ") (codes " " ++ y) (sym (at_tilde a b) ∙ e ∙ at_tilde x y) (blank_no_tilde a h) (blank_no_tilde x k) in
    (append_cancel_right a x (codes " ") cut.0, append_cancel_left (codes " ") b y cut.1)

pub no_left_end : (text left right : List ℕ) → text ≡ with_tilde left right → list_any (λ b. b == 126) left ≡ false → ((end : End) → is_end end ≡ true → left ≡ end_text end → ⊥)
    → (a b : End) → is_end a ≡ true → is_end b ≡ true → text ≡ with_tilde (end_text a) (end_text b) → ⊥
no_left_end text left right is none other a b h k e = other a h (one_join left right (end_text a) (end_text b) none (end_no_tilde a h) (sym is ∙ e)).0

pub no_right_end : (text left right : List ℕ) → text ≡ with_tilde left right → list_any (λ b. b == 126) left ≡ false → ((end : End) → is_end end ≡ true → right ≡ end_text end → ⊥)
    → (a b : End) → is_end a ≡ true → is_end b ≡ true → text ≡ with_tilde (end_text a) (end_text b) → ⊥
no_right_end text left right is none other a b h k e = other b k (one_join left right (end_text a) (end_text b) none (end_no_tilde a h) (sym is ∙ e)).1

-- a line behind its indentation
pub indented : (line : Line) → line_text line ≡ codes "    " ++ words_text line
indented Pass = refl
indented (Declaration point) = refl
indented (Join left right) = refl
indented (Kind text) = refl
indented (Attribute name) = refl
indented (Assertion a) = refl

-- Which of the six lines a text is, told by a byte that only this one has.

sort : List ℕ → ℕ
sort text =
    if list_any (λ b. b == 126) text then 0
    else (if list_any (λ b. b == 34) text then 1
    else (if list_any (λ b. b == 58) text then 2
    else (if get_or text 0 0 == 97 then 3
    else (if list_any (λ b. b == 32) text then 4 else 5))))

-- the same of a line
sort_of : Line → ℕ
sort_of Pass = 5
sort_of (Declaration point) = 4
sort_of (Join left right) = 0
sort_of (Kind text) = 1
sort_of (Attribute name) = 2
sort_of (Assertion a) = 3

first_not_a : (point : Point) → (get_or (point_text point) 0 0 == 97) ≡ false
first_not_a (Signal name) = refl
first_not_a (Pin label) = refl

quote : IsOther 34
quote = record { no_name = refl; no_digit = refl; no_signal = refl; no_pin = refl }

colon : IsOther 58
colon = record { no_name = refl; no_digit = refl; no_signal = refl; no_pin = refl }

join_tilde : (left right : List ℕ) → list_any (λ b. b == 126) (with_tilde left right) ≡ true
join_tilde left right = ap (list_any (λ b. b == 126)) (at_tilde left right) ∙ has 126 (left ++ codes " ") (codes " " ++ right)

attribute_colon : (name : List ℕ) → list_any (λ b. b == 58) (name ++ codes ": dimensionless") ≡ true
attribute_colon name = has 58 name (codes " dimensionless")

sort_is : (line : Line) → is_line line ≡ true → sort (words_text line) ≡ sort_of line
unfolding sort sort_of
sort_is Pass h = refl
sort_is (Declaration point) h =
    rw (point_without 126 tilde point h) (rw (point_without 34 quote point h) (rw (point_without 58 colon point h) (rw (first_not_a point) (rw (point_blank point) refl))))
sort_is (Join left right) h = rw (join_tilde (end_text left) (end_text right)) refl
sort_is (Kind text) h = rw (kind_line_without 126 refl refl refl text h) refl
sort_is (Attribute name) h = rw (attribute_line_without 126 refl refl name h) (rw (attribute_line_without 34 refl refl name h) (rw (attribute_colon name) refl))
sort_is (Assertion a) h =
    rw (assertion_line_without 126 refl refl refl refl a h) (rw (assertion_line_without 34 refl refl refl refl a h) (rw (assertion_line_without 58 refl refl refl refl a h) refl))

one_words : (a b : Line) → is_line a ≡ true → is_line b ≡ true → words_text a ≡ words_text b → a ≡ b
unfolding sort_of
one_words a b h k e = by a b h k (sym (sort_is a h) ∙ ap sort e ∙ sort_is b k) e
  where
    by : (a b : Line) → is_line a ≡ true → is_line b ≡ true → sort_of a ≡ sort_of b → words_text a ≡ words_text b → a ≡ b
    by Pass Pass h k s e = refl
    by (Declaration a) (Declaration b) h k s e = ap Declaration (one_point a b e)
    by (Join a b) (Join x y) h k s e =
        let ends = and_true (is_end a) (is_end b) h in
        let others = and_true (is_end x) (is_end y) k in
        let same = one_join (end_text a) (end_text b) (end_text x) (end_text y) (end_no_tilde a ends.0) (end_no_tilde x others.0) e in
        ap (λ l. Join l b) (one_end a x ends.0 others.0 same.0) ∙ ap (λ r. Join x r) (one_end b y ends.1 others.1 same.1)
    by (Kind a) (Kind b) h k s e = ap Kind (append_cancel_right a b (codes "\"") (append_cancel_left (codes "kind = \"") (a ++ codes "\"") (b ++ codes "\"") e))
    by (Attribute a) (Attribute b) h k s e = ap Attribute (append_cancel_right a b (codes ": dimensionless") e)
    by (Assertion a) (Assertion b) h k s e = ap Assertion (one_assertion a b h k e)
    by a b h k s e = absurd (omega (arith, s))

pub one_line : (a b : Line) → is_line a ≡ true → is_line b ≡ true → line_text a ≡ line_text b → a ≡ b
one_line a b h k e = one_words a b h k (append_cancel_left (codes "    ") (words_text a) (words_text b) (sym (indented a) ∙ e ∙ indented b))

pub line_and_more : (line : Line) (lines : List Line) (rest : List ℕ) → lines_text (line ∷ lines) ++ rest ≡ lined (line_text line) ++ (lines_text lines ++ rest)
line_and_more line lines rest = append_assoc (lined (line_text line)) (lines_text lines) rest

-- One more line, behind those before.

pub text_push : (lines : List Line) (line : Line) → lines_text (lines ++ line ∷ []) ≡ lines_text lines ++ lined (line_text line)
text_push [] line = append-nil (lined (line_text line))
text_push (l ∷ ls) line = ap (λ t. lined (line_text l) ++ t) (text_push ls line) ∙ sym (append_assoc (lined (line_text l)) (lines_text ls) (lined (line_text line)))

pub text_more : (bytes rest more : List ℕ) (lines : List Line) (line : Line) → bytes ≡ lines_text lines ++ rest → rest ≡ lined (line_text line) ++ more → bytes ≡ lines_text (lines ++ line ∷ []) ++ more
text_more bytes rest more lines line text is =
    text ∙ ap (λ r. lines_text lines ++ r) is ∙ sym (append_assoc (lines_text lines) (lined (line_text line)) more) ∙ ap (λ t. t ++ more) (sym (text_push lines line))

pub are_more : (lines : List Line) (line : Line) → list_all is_line lines ≡ true → is_line line ≡ true → list_all is_line (lines ++ line ∷ []) ≡ true
are_more lines line are ok = list_all-append is_line lines (line ∷ []) ∙ ap (λ b. b && (is_line line && true)) are ∙ ap (λ b. b && true) ok

-- The heads of two fronts of one text are one, and so is what comes after them.
pub one_head : (a b : List ℕ) (r s : List ℕ) → is_ascii_name a ≡ true → is_ascii_name b ≡ true → lined (head_text a) ++ r ≡ lined (head_text b) ++ s → (a ≡ b) × (r ≡ s)
one_head a b r s h k e =
    let cut = first_text (head_text a) r (head_text b) s e (head_no_lf a h) (head_no_lf b k) in (one_name a b cut.0, cut.1)
