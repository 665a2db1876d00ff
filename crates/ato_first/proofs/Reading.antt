-- Lines that are read one by one, with their tokens.
use Rattle.std.proofs.Common.{◌≡◌, ℕ, ◌+◌, ◌-◌, ◌<◌, ◌==◌, Bool, true, false, ◌&&◌, ◌||◌, not, List, [], ◌∷◌, ◌++◌, length, ap, sym, ◌∙◌, refl, arith, append_assoc, append-nil, length-append, subst, inl, inr}
use Rattle.std.specs.Prelude.{if◌then◌else◌, All, codes, Option, Some, None, Result, Ok, Err, OnOk}
use Rattle.std.proofs.lemmas.List.Elements.{All-nil, All-cons, All-head, All-tail, All-push, All-append, All-take, All-drop, All-weaker}
use Rattle.std.proofs.Math.Seq.{take-append_seam, drop-append_seam}
use Rattle.ato_base.specs.declared.keywords.Keyword.TheVariants as words
use Rattle.ato_base.specs.declared.keywords.Mark.TheVariants as marks
use Rattle.ato_base.specs.declared.tokens.TokenKind.TheVariants as kinds
use Rattle.ato_base.specs.declared.places.FileId.{FileId}
use Rattle.ato_base.specs.declared.tokens.Token.{Token}
use Rattle.ato_base.specs.declared.faults.Refusal.{Refusal}
use Rattle.ato_base.specs.declared.faults.Refusal.TheVariants as refusals
use Rattle.ato_first.specs.FirstForm.{lined, end_text, line_text, lines_text, head_text, block_text, is_point, is_end, is_line, is_ascii_name, is_short_number, NoLine, NoHead, IsFile, bad_line}
use Rattle.ato_first.specs.FirstTokens.{point_names, end_names, line_names, file_names, point_tokens, end_tokens, words_tokens, line_tokens, lines_tokens, label_token, name_token, number_token, range_tokens, token, head_tokens, last_tokens, AreTokens, IsRefused, syntax_fault}
use Rattle.ato_base.specs.NameTable.{with_names, IsHeld, Extends}
use Rattle.ato_first.specs.Statements.{read_point, read_end, read_line, IsPointText, IsEndText, IsStatement, words_text, AreRead, IsWholeFront}
use Rattle.ato_first.specs.declared.first_form.Point.{Point}
use Rattle.ato_first.specs.declared.first_form.Point.TheVariants.{Signal, Pin}
use Rattle.ato_first.specs.declared.first_form.End.{End}
use Rattle.ato_first.specs.declared.first_form.End.TheVariants.{Name, Declared}
use Rattle.ato_first.specs.declared.first_form.Line.{Line}
use Rattle.ato_first.specs.declared.first_form.Line.TheVariants.{Pass, Declaration, Join, Kind, Attribute}
use Rattle.ato_first.specs.declared.first_form.Line.TheVariants as forms
use Rattle.ato_first.specs.declared.first_form.Assertion.{Assertion}
use Rattle.ato_first.specs.declared.first_form.Block.{Block}
use Rattle.ato_first.specs.declared.fronts.Found.{Found}
use Rattle.ato_first.specs.declared.statements.PointText.{PointText}
use Rattle.ato_first.specs.declared.statements.PointText.TheVariants as points
use Rattle.ato_first.specs.declared.statements.EndText.{EndText}
use Rattle.ato_first.specs.declared.statements.EndText.TheVariants as ends
use Rattle.ato_first.specs.declared.statements.Statement.{Statement}
use Rattle.ato_first.specs.declared.statements.Statement.TheVariants as statements
use Rattle.ato_base.proofs.NameTableLaws.{held_number, held_more, with_names-append}
use Rattle.std.specs.List.{flat_map}
use Rattle.std.proofs.lemmas.Grind.{flat_map-append}
use Rattle.ato_first.proofs.FirstFormLaws.{one_file}
use Rattle.ato_first.proofs.FirstFormLemmas.{indented, no_next, text_more, are_more}
use Rattle.ato_first.proofs.BadLineLemmas.{whole_file, bad_line_within}

-- A statement is a line of the form.

point_is : (p : PointText) → IsPointText p → is_point (read_point p) ≡ true
point_is (points.Signal name) h = h
point_is (points.NamedPin label) h = rw h refl
point_is (points.NumberedPin digits) h = rw h.0 h.1

end_is : (e : EndText) → IsEndText e → is_end (read_end e) ≡ true
end_is (ends.Name name) h = h
end_is (ends.Declared point) h = point_is point h

pub statement_line : (s : Statement) → IsStatement s → is_line (read_line s) ≡ true
statement_line statements.Pass h = refl
statement_line (statements.Declaration point) h = point_is point h
statement_line (statements.Join left right) h = ap (λ b. b && is_end (read_end right)) (end_is left h.0) ∙ end_is right h.1
statement_line (statements.Kind text) h = h
statement_line (statements.Attribute name) h = h
statement_line (statements.Assertion a) h =
    ap (λ b. b && is_short_number a.low.now && is_short_number a.high.now) h.name ∙ ap (λ b. b && is_short_number a.high.now) h.low ∙ h.high

-- A table that grows keeps the tokens of lines whose names it holds.

label_more : (names more : List (List ℕ)) (file : FileId) (at : ℕ) (label : List ℕ) → All (IsHeld names) (point_names (Pin label)) → label_token (names ++ more) file at label ≡ label_token names file at label
label_more names more file at label h = by (is_ascii_name label) h
  where
    by : (b : Bool) → All (IsHeld names) (if b then label ∷ [] else []) → (if b then name_token (names ++ more) file at label else number_token file at label) ≡ (if b then name_token names file at label else number_token file at label)
    by true k = rw (held_number names more label (All-head (IsHeld names) label [] k)) refl
    by false k = refl

point_more : (names more : List (List ℕ)) (file : FileId) (at : ℕ) (point : Point) → All (IsHeld names) (point_names point) → point_tokens (names ++ more) file at point ≡ point_tokens names file at point
point_more names more file at (Signal name) h = rw (held_number names more name (All-head (IsHeld names) name [] h)) refl
point_more names more file at (Pin label) h = ap (λ t. token file (kinds.Keyword words.Pin) at (at + 3) ∷ t ∷ []) (label_more names more file (at + 4) label h)

end_more : (names more : List (List ℕ)) (file : FileId) (at : ℕ) (end : End) → All (IsHeld names) (end_names end) → end_tokens (names ++ more) file at end ≡ end_tokens names file at end
end_more names more file at (Name name) h = rw (held_number names more name (All-head (IsHeld names) name [] h)) refl
end_more names more file at (Declared point) h = point_more names more file at point h

All-front : (P : List ℕ → Type 0) (xs ys : List (List ℕ)) → All P (xs ++ ys) → All P xs
All-front P xs ys h = subst (All P) (take-append_seam xs ys) (All-take P (length xs) (xs ++ ys) h)

All-back : (P : List ℕ → Type 0) (xs ys : List (List ℕ)) → All P (xs ++ ys) → All P ys
All-back P xs ys h = subst (All P) (drop-append_seam xs ys) (All-drop P (length xs) (xs ++ ys) h)

words_more : (names more : List (List ℕ)) (file : FileId) (at : ℕ) (line : Line) → All (IsHeld names) (line_names line) → words_tokens (names ++ more) file at line ≡ words_tokens names file at line
words_more names more file at Pass h = refl
words_more names more file at (Declaration point) h = point_more names more file (at + 4) point h
words_more names more file at (Join left right) h =
    let size : ℕ = length (end_text left) in
    let mark : Token = token file (kinds.Mark marks.Tilde) (at + 5 + size) (at + 6 + size) in
    ap (λ ts. ts ++ mark ∷ end_tokens (names ++ more) file (at + 7 + size) right) (end_more names more file (at + 4) left (All-front (IsHeld names) (end_names left) (end_names right) h))
    ∙ ap (λ ts. end_tokens names file (at + 4) left ++ mark ∷ ts) (end_more names more file (at + 7 + size) right (All-back (IsHeld names) (end_names left) (end_names right) h))
words_more names more file at (Kind text) h = rw (held_number names more (codes "kind") (All-head (IsHeld names) (codes "kind") [] h)) refl
words_more names more file at (Attribute name) h =
    let dimensionless : IsHeld names (codes "dimensionless") = All-head (IsHeld names) (codes "dimensionless") [] (All-tail (IsHeld names) name (codes "dimensionless" ∷ []) h) in
    rw (held_number names more name (All-head (IsHeld names) name (codes "dimensionless" ∷ []) h)) (rw (held_number names more (codes "dimensionless") dimensionless) refl)
words_more names more file at (forms.Assertion a) h = rw (held_number names more a.name (All-head (IsHeld names) a.name [] h)) refl

line_more : (names more : List (List ℕ)) (file : FileId) (at : ℕ) (line : Line) → All (IsHeld names) (line_names line) → line_tokens (names ++ more) file at line ≡ line_tokens names file at line
line_more names more file at line h =
    ap (λ ts. ts ++ token file kinds.Newline (at + length (line_text line)) (at + length (line_text line)) ∷ []) (words_more names more file at line h)

lines_more : (names more : List (List ℕ)) (file : FileId) (at : ℕ) (lines : List Line) → All (λ line. All (IsHeld names) (line_names line)) lines → lines_tokens (names ++ more) file at lines ≡ lines_tokens names file at lines
lines_more names more file at [] h = refl
lines_more names more file at (l ∷ ls) h =
    let first = line_more names more file at l (All-head (λ line. All (IsHeld names) (line_names line)) l ls h) in
    let others = lines_more names more file (at + length (lined (line_text l))) ls (All-tail (λ line. All (IsHeld names) (line_names line)) l ls h) in
    ap (λ x. x ++ lines_tokens (names ++ more) file (at + length (lined (line_text l))) ls) first ∙ ap (λ x. line_tokens names file at l ++ x) others

pub head_more : (names more : List (List ℕ)) (file : FileId) (name : List ℕ) → IsHeld names name → head_tokens (names ++ more) file name ≡ head_tokens names file name
head_more names more file name h = rw (held_number names more name h) refl

all_more : (names more ts : List (List ℕ)) → All (IsHeld names) ts → All (IsHeld (names ++ more)) ts
all_more names more ts h = All-weaker (IsHeld names) (IsHeld (names ++ more)) (held_more names more) ts h

all_grown : (names new ts : List (List ℕ)) → Extends names new → All (IsHeld names) ts → All (IsHeld new) ts
all_grown names new ts (extra, grown) h = subst (λ table. All (IsHeld table) ts) (sym grown) (all_more names extra ts h)

end_grown : (names new : List (List ℕ)) (file : FileId) (at : ℕ) (end : End) → Extends names new → All (IsHeld names) (end_names end) → end_tokens names file at end ≡ end_tokens new file at end
end_grown names new file at end (extra, grown) h = sym (ap (λ table. end_tokens table file at end) grown ∙ end_more names extra file at end h)

-- The tokens of a join, whose ends are put one after the other into a table that grows.

in_place : (at size stop : ℕ) → stop ≡ at + 4 + size → (stop + 1 ≡ at + 5 + size) × (stop + 2 ≡ at + 6 + size) × (stop + 3 ≡ at + 7 + size)
in_place at size stop e = (omega arith, omega arith, omega arith)

in_order : (before one mark two : List Token) → ((before ++ one) ++ mark) ++ two ≡ before ++ (one ++ (mark ++ two))
in_order before one mark two = simp append_assoc

pub join_pushed : (file : FileId) (at stop : ℕ) (left right : End) (names new : List (List ℕ)) (before one two after : List Token)
    → stop ≡ at + 4 + length (end_text left) → Extends names new → All (IsHeld names) (end_names left)
    → one ≡ before ++ end_tokens names file (at + 4) left → two ≡ one ++ token file (kinds.Mark marks.Tilde) (stop + 1) (stop + 2) ∷ []
    → after ≡ two ++ end_tokens new file (stop + 3) right → after ≡ before ++ words_tokens new file at (Join left right)
join_pushed file at stop left right names new before one two after place grown held first second third =
    let size : ℕ = length (end_text left) in
    let places = in_place at size stop place in
    let mark : ℕ → ℕ → List Token = λ (a b : ℕ). token file (kinds.Mark marks.Tilde) a b ∷ [] in
    let left_new : one ≡ before ++ end_tokens new file (at + 4) left = first ∙ ap (λ ts. before ++ ts) (end_grown names new file (at + 4) left grown held) in
    let marks_are : two ≡ (before ++ end_tokens new file (at + 4) left) ++ mark (at + 5 + size) (at + 6 + size) =
    second ∙ ap (λ ts. ts ++ mark (stop + 1) (stop + 2)) left_new
    ∙ ap (λ a. (before ++ end_tokens new file (at + 4) left) ++ mark a (stop + 2)) places.0
    ∙ ap (λ b. (before ++ end_tokens new file (at + 4) left) ++ mark (at + 5 + size) b) places.1 in
    third ∙ ap (λ ts. ts ++ end_tokens new file (stop + 3) right) marks_are
    ∙ ap (λ n. ((before ++ end_tokens new file (at + 4) left) ++ mark (at + 5 + size) (at + 6 + size)) ++ end_tokens new file n right) places.2
    ∙ in_order before (end_tokens new file (at + 4) left) (mark (at + 5 + size) (at + 6 + size)) (end_tokens new file (at + 7 + size) right)

pub join_held : (left right : End) (names new : List (List ℕ)) → Extends names new → All (IsHeld names) (end_names left) → All (IsHeld new) (end_names right) → All (IsHeld new) (line_names (Join left right))
join_held left right names new grown one two = All-append (IsHeld new) (end_names left) (end_names right) (all_grown names new (end_names left) grown one) two

-- The same of an attribute, whose table grows between its name and the word behind the colon.

attribute_place : (at size stop : ℕ) → stop ≡ at + 4 + size → (stop + 1 ≡ at + 5 + size) × (stop + 2 ≡ at + 6 + size)
attribute_place at size stop e = (omega arith, omega arith)

pub attribute_pushed : (file : FileId) (at stop : ℕ) (name : List ℕ) (names new : List (List ℕ)) (before one two after : List Token)
    → stop ≡ at + 4 + length name → Extends names new → IsHeld names name
    → one ≡ before ++ name_token names file (at + 4) name ∷ [] → two ≡ one ++ token file (kinds.Mark marks.Colon) stop (stop + 1) ∷ []
    → after ≡ two ++ name_token new file (stop + 2) (codes "dimensionless") ∷ [] → after ≡ before ++ words_tokens new file at (Attribute name)
attribute_pushed file at stop name names new before one two after place (extra, grown) held first second third =
    let size : ℕ = length name in
    let places = attribute_place at size stop place in
    let first_now : name_token names file (at + 4) name ≡ name_token new file (at + 4) name =
    sym (ap (λ table. name_token table file (at + 4) name) grown ∙ rw (held_number names extra name held) refl) in
    let tokens : Token → ℕ → ℕ → ℕ → List Token =
    λ (t : Token) (a b c : ℕ). ((before ++ t ∷ []) ++ token file (kinds.Mark marks.Colon) a b ∷ []) ++ name_token new file c (codes "dimensionless") ∷ [] in
    third ∙ ap (λ ts. ts ++ name_token new file (stop + 2) (codes "dimensionless") ∷ []) (second ∙ ap (λ ts. ts ++ token file (kinds.Mark marks.Colon) stop (stop + 1) ∷ []) first)
    ∙ ap (λ t. tokens t stop (stop + 1) (stop + 2)) first_now
    ∙ ap (λ a. tokens (name_token new file (at + 4) name) a (stop + 1) (stop + 2)) place
    ∙ ap (λ b. tokens (name_token new file (at + 4) name) (at + 4 + size) b (stop + 2)) places.0
    ∙ ap (λ c. tokens (name_token new file (at + 4) name) (at + 4 + size) (at + 5 + size) c) places.1
    ∙ in_order before (name_token new file (at + 4) name ∷ []) (token file (kinds.Mark marks.Colon) (at + 4 + size) (at + 5 + size) ∷ []) (name_token new file (at + 6 + size) (codes "dimensionless") ∷ [])

pub attribute_held : (name : List ℕ) (names new : List (List ℕ)) → Extends names new → IsHeld names name → IsHeld new (codes "dimensionless") → All (IsHeld new) (line_names (Attribute name))
attribute_held name names new (extra, grown) one two =
    All-cons (IsHeld new) name (codes "dimensionless" ∷ []) (subst (λ table. IsHeld table name) (sym grown) (held_more names extra name one)) (All-cons (IsHeld new) (codes "dimensionless") [] two (All-nil (IsHeld new)))

-- The tokens of an assertion.

assertion_places : (at size stop : ℕ) → stop ≡ at + 11 + size → (stop + 1 ≡ at + 12 + size) × (stop + 7 ≡ at + 18 + size) × (stop + 8 ≡ at + 19 + size)
assertion_places at size stop e = (omega arith, omega arith, omega arith)

four_in_order : (before one two three four : List Token) → (((before ++ one) ++ two) ++ three) ++ four ≡ before ++ (one ++ (two ++ (three ++ four)))
four_in_order before one two three four = simp append_assoc

pub assertion_pushed : (file : FileId) (at stop : ℕ) (a : Assertion) (names : List (List ℕ)) (before one two three after : List Token) → stop ≡ at + 11 + length a.name
    → one ≡ before ++ token file (kinds.Keyword words.Assert) (at + 4) (at + 10) ∷ [] → two ≡ one ++ name_token names file (at + 11) a.name ∷ []
    → three ≡ two ++ token file (kinds.Keyword words.Within) (stop + 1) (stop + 7) ∷ [] → after ≡ three ++ range_tokens file (stop + 8) a.low a.high
    → after ≡ before ++ words_tokens names file at (forms.Assertion a)
assertion_pushed file at stop a names before one two three after place first second third fourth =
    let size : ℕ = length a.name in
    let places = assertion_places at size stop place in
    let assert : List Token = token file (kinds.Keyword words.Assert) (at + 4) (at + 10) ∷ [] in
    let name : List Token = name_token names file (at + 11) a.name ∷ [] in
    let within : ℕ → ℕ → List Token = λ (x y : ℕ). token file (kinds.Keyword words.Within) x y ∷ [] in
    fourth
    ∙ ap (λ ts. ts ++ range_tokens file (stop + 8) a.low a.high) (third ∙ ap (λ ts. ts ++ within (stop + 1) (stop + 7)) (second ∙ ap (λ ts. ts ++ name) first))
    ∙ ap (λ x. (((before ++ assert) ++ name) ++ within x (stop + 7)) ++ range_tokens file (stop + 8) a.low a.high) places.0
    ∙ ap (λ y. (((before ++ assert) ++ name) ++ within (at + 12 + size) y) ++ range_tokens file (stop + 8) a.low a.high) places.1
    ∙ ap (λ z. (((before ++ assert) ++ name) ++ within (at + 12 + size) (at + 18 + size)) ++ range_tokens file z a.low a.high) places.2
    ∙ four_in_order before assert name (within (at + 12 + size) (at + 18 + size)) (range_tokens file (at + 19 + size) a.low a.high)

-- One more line, behind those before.

tokens_push : (names : List (List ℕ)) (file : FileId) (at : ℕ) (lines : List Line) (line : Line) → lines_tokens names file at (lines ++ line ∷ []) ≡ lines_tokens names file at lines ++ line_tokens names file (at + length (lines_text lines)) line
tokens_push names file at [] line =
    let same : at ≡ at + 0 = omega arith in
    append-nil (line_tokens names file at line) ∙ ap (λ n. line_tokens names file n line) same
tokens_push names file at (l ∷ ls) line =
    let place : at + length (lined (line_text l)) + length (lines_text ls) ≡ at + length (lines_text (l ∷ ls)) = omega (arith, length-append (lined (line_text l)) (lines_text ls)) in
    ap (λ x. line_tokens names file at l ++ x) (tokens_push names file (at + length (lined (line_text l))) ls line)
    ∙ sym (append_assoc (line_tokens names file at l) (lines_tokens names file (at + length (lined (line_text l))) ls) (line_tokens names file (at + length (lined (line_text l)) + length (lines_text ls)) line))
    ∙ ap (λ n. lines_tokens names file at (l ∷ ls) ++ line_tokens names file n line) place

-- where the rest begins
pub rest_place : (at : ℕ) (bytes rest : List ℕ) (lines : List Line) → bytes ≡ lines_text lines ++ rest → at + (length bytes - length rest) ≡ at + length (lines_text lines)
rest_place at bytes rest lines e = omega (arith, ap length e, length-append (lines_text lines) rest)

pub read_none : (file : FileId) (at : ℕ) (bytes rest : List ℕ) (names : List (List ℕ)) (tokens : List Token) → rest ≡ bytes → AreRead file at bytes rest names tokens tokens []
read_none file at bytes rest names tokens e =
    record { text = sym e; are_lines = refl; tokens_are = sym (append-nil tokens); held = All-nil (λ line. All (IsHeld names) (line_names line)) }

pub read_more : (file : FileId) (at : ℕ) (bytes rest more : List ℕ) (names new : List (List ℕ)) (before tokens after : List Token) (lines : List Line) (line : Line)
    → AreRead file at bytes rest names before tokens lines → rest ≡ lined (line_text line) ++ more → is_line line ≡ true → Extends names new
    → after ≡ tokens ++ line_tokens new file (at + (length bytes - length rest)) line → All (IsHeld new) (line_names line)
    → AreRead file at bytes more new before after (lines ++ line ∷ [])
read_more file at bytes rest more names new before tokens after lines line read is ok (extra, grown) pushed held =
    let all : List (List ℕ) → Line → Type 0 = λ table line. All (IsHeld table) (line_names line) in
    let kept : All (all new) lines = subst (λ table. All (all table) lines) (sym grown) (All-weaker (all names) (all (names ++ extra)) (λ line h. all_more names extra (line_names line) h) lines read.held) in
    let old_tokens : lines_tokens names file at lines ≡ lines_tokens new file at lines = sym (ap (λ table. lines_tokens table file at lines) grown ∙ lines_more names extra file at lines read.held) in
    record {
      text = text_more bytes rest more lines line read.text is;
      are_lines = are_more lines line read.are_lines ok;
      tokens_are = pushed ∙ ap (λ t. t ++ line_tokens new file (at + (length bytes - length rest)) line) (read.tokens_are ∙ ap (λ t. before ++ t) old_tokens)
          ∙ append_assoc before (lines_tokens new file at lines) (line_tokens new file (at + (length bytes - length rest)) line)
          ∙ ap (λ n. before ++ (lines_tokens new file at lines ++ line_tokens new file n line)) (rest_place at bytes rest lines read.text)
          ∙ ap (λ t. before ++ t) (sym (tokens_push new file at lines line));
      held = All-push (all new) lines line kept held;
    }

-- the names that lines mention, with one more line
pub mentioned_more : (old names new : List (List ℕ)) (lines : List Line) (line : Line) → names ≡ with_names old (flat_map line_names lines) → new ≡ with_names names (line_names line)
    → new ≡ with_names old (flat_map line_names (lines ++ line ∷ []))
mentioned_more old names new lines line before more =
    more ∙ ap (λ t. with_names t (line_names line)) before ∙ sym (with_names-append old (flat_map line_names lines) (line_names line))
    ∙ ap (with_names old) (sym (flat_map-append line_names lines (line ∷ []) ∙ ap (λ l. flat_map line_names lines ++ l) (append-nil (line_names line))))

-- the names of a whole file, which a text is at most one of
pub file_mentioned : (old head new : List (List ℕ)) (name bytes : List ℕ) (lines : List Line) (block : Option Block) → IsFile bytes (Some (record { name = name; lines = lines })) → head ≡ with_names old (name ∷ [])
    → new ≡ with_names head (flat_map line_names lines) → IsFile bytes block → new ≡ with_names old (file_names block)
file_mentioned old head new name bytes lines block is first rest other =
    rest ∙ ap (λ t. with_names t (flat_map line_names lines)) first ∙ ap (λ b. with_names old (file_names b)) (one_file bytes (Some (record { name = name; lines = lines })) block is other)

-- what holds anyway holds where there is an answer
pub on_ok : {A E : Type 0} (P : Type 0) (result : Result A E) → P → OnOk result P
on_ok P (Ok value) h = h
on_ok P (Err error) h = tt

-- an empty file mentions none
pub none_mentioned : (old : List (List ℕ)) (bytes : List ℕ) (block : Option Block) → bytes ≡ [] → IsFile bytes block → old ≡ with_names old (file_names block)
none_mentioned old bytes block none other = ap (λ b. with_names old (file_names b)) (one_file bytes None block none other)

-- the whole file

front_place : (name bytes : List ℕ) → length (lined (head_text name) ++ bytes) ≡ 12 + length name + length bytes
front_place name bytes = simp length-append (omega arith)

pub file_read : (file : FileId) (at : ℕ) (name bytes rest : List ℕ) (found : Found) (names new : List (List ℕ)) (none front tokens all : List Token) (lines : List Line)
    → is_ascii_name name ≡ true → at ≡ 12 + length name
    → none ≡ [] → front ≡ none ++ head_tokens names file name → IsHeld names name → Extends names new
    → AreRead file at bytes rest new front tokens lines → IsWholeFront at found rest lines → bad_line (record { name = name; lines = lines }) rest ≡ None
    → all ≡ tokens ++ last_tokens file (at + length bytes)
    → AreTokens (lined (head_text name) ++ bytes) file new all (Some (record { name = name; lines = lines }))
file_read file at name bytes rest found names new none front tokens all lines ok place empty head held (extra, grown) read whole good last =
    let block : Block = record { name = name; lines = lines } in
    let (no_rest, some, part) = whole_file block rest good in
    let text : bytes ≡ lines_text lines = read.text ∙ ap (λ r. lines_text lines ++ r) no_rest ∙ append-nil (lines_text lines) in
    let is : lined (head_text name) ++ bytes ≡ block_text block = ap (λ b. lined (head_text name) ++ b) text in
    let size : at + length bytes ≡ length (block_text block) = omega (arith, front_place name bytes, ap length is) in
    let head_now : front ≡ head_tokens new file name = head ∙ ap (λ t. t ++ head_tokens names file name) empty ∙ sym (ap (λ table. head_tokens table file name) grown ∙ head_more names extra file name held) in
    record {
      is = (is, record { name = ok; lines = read.are_lines; once = whole.once }, some, part);
      tokens_are = last ∙ ap (λ t. t ++ last_tokens file (at + length bytes)) read.tokens_are
          ∙ append_assoc front (lines_tokens new file at lines) (last_tokens file (at + length bytes))
          ∙ ap (λ t. t ++ (lines_tokens new file at lines ++ last_tokens file (at + length bytes))) head_now
          ∙ ap (λ n. head_tokens new file name ++ (lines_tokens new file n lines ++ last_tokens file (at + length bytes))) place
          ∙ ap (λ n. head_tokens new file name ++ (lines_tokens new file (12 + length name) lines ++ last_tokens file n)) size;
      held = (subst (λ table. IsHeld table name) (sym grown) (held_more names extra name held), read.held);
    }

pub empty_text : (bytes : List ℕ) → length bytes ≡ 0 → bytes ≡ []
empty_text [] e = refl
empty_text (b ∷ bs) e = absurd (omega arith)

-- the faults

no_indent : (bytes : List ℕ) → ((after : List ℕ) → bytes ≡ codes "    " ++ after → ⊥) → NoLine bytes
no_indent bytes none line rest h e =
    none ((words_text line ++ 10 ∷ []) ++ rest) (e ∙ ap (λ t. lined t ++ rest) (indented line))

or_right : (b : Bool) → (b || true) ≡ true
or_right true = refl
or_right false = refl

pub bad_indent : (file : FileId) (at : ℕ) (name bytes : List ℕ) (r : Refusal) → is_ascii_name name ≡ true → at ≡ 12 + length name → ((after : List ℕ) → bytes ≡ codes "    " ++ after → ⊥)
    → r ≡ refusals.Fault (syntax_fault file at) → IsRefused (lined (head_text name) ++ bytes) file r
bad_indent file at name bytes r ok place none e =
    let block : Block = record { name = name; lines = [] } in
    let size : length (block_text block) ≡ at = sym (place ∙ omega (arith, front_place name [])) in
    let bad : bad_line block bytes ≡ Some at = rw (or_right (not (length bytes == 0))) (ap Some size) in
    subst (IsRefused (lined (head_text name) ++ bytes) file) (sym e) (
      at,
      inr (
        block,
        bytes,
        ap (λ t. t ++ bytes) (sym (append-nil (lined (head_text name)))),
        record { name = ok; lines = refl; once = record { kinds = omega arith; attributes = omega arith; assertions = omega arith } },
        no_next [] bytes (no_indent bytes none),
        bad,
      ),
      refl,
    )

pub bad_first : (file : FileId) (bytes : List ℕ) (r : Refusal) → 0 < length bytes → NoHead bytes → r ≡ refusals.Fault (syntax_fault file 0) → IsRefused bytes file r
bad_first file bytes r some none e = subst (IsRefused bytes file) (sym e) (0, inl (refl, some, none), refl)

pub bad_block : (file : FileId) (at place : ℕ) (name bytes rest : List ℕ) (found : Found) (names : List (List ℕ)) (before tokens : List Token) (lines : List Line) (r : Refusal)
    → is_ascii_name name ≡ true → AreRead file place bytes rest names before tokens lines → IsWholeFront place found rest lines
    → bad_line (record { name = name; lines = lines }) rest ≡ Some at → r ≡ refusals.Fault (syntax_fault file at) → IsRefused (lined (head_text name) ++ bytes) file r
bad_block file at place name bytes rest found names before tokens lines r ok read whole bad e =
    let block : Block = record { name = name; lines = lines } in
    subst (IsRefused (lined (head_text name) ++ bytes) file) (sym e) (
      at,
      inr (
        block,
        rest,
        ap (λ t. lined (head_text name) ++ t) read.text ∙ sym (append_assoc (lined (head_text name)) (lines_text lines) rest),
        record { name = ok; lines = read.are_lines; once = whole.once },
        whole.none,
        bad,
      ),
      refl,
    )

-- the places and sizes of a front

pub bad_within_file : (place size at : ℕ) (name bytes rest : List ℕ) (lines : List Line) → place ≡ 12 + length name → bytes ≡ lines_text lines ++ rest → place + length bytes < size
    → bad_line (record { name = name; lines = lines }) rest ≡ Some at → at < size
bad_within_file place size at name bytes rest lines is text small bad =
    let block : Block = record { name = name; lines = lines } in
    omega (arith, bad_line_within block rest at bad, front_place name (lines_text lines), ap length text, length-append (lines_text lines) rest)
