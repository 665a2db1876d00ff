-- What is read of the tokens of a file of the first form.
use Rattle.std.proofs.Common.{◌≡◌, ℕ, ◌<◌, ◌≤◌, ◌+◌, ◌-◌, true, false, List, [], ◌∷◌, ◌++◌, length, take, drop, get_or, ap, sym, ◌∙◌, refl, arith, append_assoc, append-nil, subst, length-append}
use Rattle.std.specs.Prelude.{Option, Some, None, slice_range, All, codes, if◌then◌else◌}
use Rattle.std.proofs.Math.Seq.{take-append_seam, drop-append_seam}
use Rattle.std.proofs.lemmas.List.Elements.{All-append, All-cons, All-drop, All-nil}
use Rattle.ato_base.specs.NameTable.{number_of}
use Rattle.ato_base.specs.declared.places.FileId.{FileId}
use Rattle.ato_base.specs.declared.tokens.Token.{Token}
use Rattle.ato_base.specs.declared.tokens.TokenKind.{TokenKind}
use Rattle.ato_base.specs.declared.tokens.TokenKind.TheVariants as kinds
use Rattle.ato_base.specs.declared.keywords.Keyword.TheVariants as words
use Rattle.ato_base.specs.declared.keywords.Mark.TheVariants as marks
use Rattle.ato_first.specs.declared.first_form.Point.TheVariants as points
use Rattle.ato_first.specs.declared.first_form.End.{End}
use Rattle.ato_first.specs.declared.first_form.End.TheVariants.{Name, Declared}
use Rattle.ato_first.specs.declared.first_form.Line.{Line}
use Rattle.ato_first.specs.declared.first_form.Line.TheVariants.{Pass, Declaration, Join, Kind, Attribute}
use Rattle.ato_first.specs.declared.first_form.Line.TheVariants as lines
use Rattle.ato_first.specs.declared.first_form.Assertion.{Assertion}
use Rattle.ato_first.specs.declared.first_form.Block.{Block}
use Rattle.ato_first.specs.FirstForm.{is_ascii_name, lined, point_text, end_text, line_text, lines_text, head_text, block_text, IsFile}
use Rattle.ato_first.specs.FirstTokens.{token, label_token, name_token, number_token, point_tokens, end_tokens, words_tokens, line_tokens, lines_tokens, head_tokens, last_tokens, file_tokens, AreTokens}
use Rattle.ato_first.specs.FirstBlock.{AreContentsWithin, IsPlaced, spelled_text, between, body_tokens, closed, text_step, kind_step, tokens_read}
use Rattle.ato_first.specs.declared.first_block.Opening.TheVariants as openings
use Rattle.ato_first.specs.declared.first_block.Reading.{Reading}

-- ---- what stands at a place

slice_at : (source front text back : List ℕ) (start end : ℕ) → source ≡ front ++ (text ++ back) → start ≡ length front → end ≡ start + length text → slice_range source start end ≡ text
slice_at source front text back start end is from to =
    let size : end - start ≡ length text = omega arith in
    ap (λ n. take n (drop start source)) size
    ∙ ap (λ l. take (length text) (drop start l)) is
    ∙ ap (λ n. take (length text) (drop n (front ++ (text ++ back)))) from
    ∙ ap (take (length text)) (drop-append_seam front (text ++ back))
    ∙ take-append_seam text back

-- ---- what is read of an end

-- one more token
step : List ℕ → Reading → Token → Reading
step source reading t = kind_step source reading t.kind t.at

-- tokens one after another
read-append : (source : List ℕ) (reading : Reading) (xs ys : List Token) → tokens_read source reading (xs ++ ys) ≡ tokens_read source (tokens_read source reading xs) ys
read-append source reading [] ys = refl
read-append source reading (x ∷ xs) ys = read-append source (kind_step source reading x.kind x.at) xs ys

-- a label is a text, be it a name or a number
label_step : (source : List ℕ) (names : List (List ℕ)) (file : FileId) (at : ℕ) (label : List ℕ) (reading : Reading)
    → kind_step source reading (label_token names file at label).kind (label_token names file at label).at ≡ text_step reading (slice_range source at (at + length label))
label_step source names file at label reading =
    elim (is_ascii_name label) as (λ b. kind_step source reading (if b then name_token names file at label else number_token file at label).kind (if b then name_token names file at label else number_token file at label).at ≡ text_step reading (slice_range source at (at + length label))) [ true ↦ refl | false ↦ refl ]

-- what is read once an end stands on the right
pub ended : Option End → End → List Line → Reading
ended left right lines = record { opening = openings.Bare; left = left; right = Some right; lines = lines }

text_read : (source front word text back : List ℕ) (at n : ℕ) → source ≡ front ++ ((word ++ text) ++ back) → at ≡ length front → length word ≡ n → slice_range source (at + n) (at + n + length text) ≡ text
text_read source front word text back at n is from size =
    slice_at source (front ++ word) text back (at + n) (at + n + length text) (is ∙ regroup) (omega (arith, length-append front word)) refl
  where
    regroup : front ++ ((word ++ text) ++ back) ≡ (front ++ word) ++ (text ++ back)
    regroup = simp append_assoc

end_read : (source : List ℕ) (names : List (List ℕ)) (file : FileId) (end : End) (front back : List ℕ) (at : ℕ) (left right : Option End) (lines : List Line)
    → source ≡ front ++ (end_text end ++ back) → at ≡ length front
    → tokens_read source (record { opening = openings.Bare; left = left; right = right; lines = lines }) (end_tokens names file at end) ≡ ended left end lines
unfolding ended
end_read source names file (Name name) front back at left right lines is from =
    ap (λ text. record { opening = openings.Bare; left = left; right = Some (Name text); lines = lines }) (slice_at source front name back at (at + length name) is from refl)
end_read source names file (Declared (points.Signal name)) front back at left right lines is from =
    ap (λ text. record { opening = openings.Bare; left = left; right = Some (Declared (points.Signal text)); lines = lines }) (text_read source front (codes "signal ") name back at 7 is from refl)
end_read source names file (Declared (points.Pin label)) front back at left right lines is from =
    label_step source names file (at + 4) label (record { opening = openings.Pin; left = left; right = None; lines = lines })
    ∙ ap (λ text. record { opening = openings.Bare; left = left; right = Some (Declared (points.Pin text)); lines = lines }) (text_read source front (codes "pin ") label back at 4 is from refl)

-- ---- what is read of lines

into_line : (front indent text back : List ℕ) → front ++ (((indent ++ text) ++ 10 ∷ []) ++ back) ≡ (front ++ indent) ++ (text ++ (10 ∷ [] ++ back))
into_line front indent text back = simp append_assoc

into_left : (front indent left tilde right back : List ℕ) → front ++ (((indent ++ (left ++ (tilde ++ right))) ++ 10 ∷ []) ++ back) ≡ (front ++ indent) ++ (left ++ ((tilde ++ right) ++ (10 ∷ [] ++ back)))
into_left front indent left tilde right back = simp append_assoc

into_right : (front indent left tilde right back : List ℕ) → front ++ (((indent ++ (left ++ (tilde ++ right))) ++ 10 ∷ []) ++ back) ≡ (((front ++ indent) ++ left) ++ tilde) ++ (right ++ (10 ∷ [] ++ back))
into_right front indent left tilde right back = simp append_assoc

-- what stands in a line behind its first bytes
kind_regroup : (front a text b back : List ℕ) → front ++ (((a ++ (text ++ b)) ++ 10 ∷ []) ++ back) ≡ (front ++ a) ++ (text ++ (b ++ (10 ∷ [] ++ back)))
kind_regroup front a text b back = simp append_assoc

low_regroup : (front a name b low c high back : List ℕ)
    → front ++ (((a ++ (name ++ (b ++ (low ++ (c ++ high))))) ++ 10 ∷ []) ++ back) ≡ (((front ++ a) ++ name) ++ b) ++ (low ++ (c ++ (high ++ (10 ∷ [] ++ back))))
low_regroup front a name b low c high back = simp append_assoc

high_regroup : (front a name b low c high back : List ℕ)
    → front ++ (((a ++ (name ++ (b ++ (low ++ (c ++ high))))) ++ 10 ∷ []) ++ back) ≡ (((((front ++ a) ++ name) ++ b) ++ low) ++ c) ++ (high ++ (10 ∷ [] ++ back))
high_regroup front a name b low c high back = simp append_assoc

kind_read : (source : List ℕ) (names : List (List ℕ)) (file : FileId) (text front back : List ℕ) (at : ℕ) (before : List Line) → source ≡ front ++ (lined (line_text (Kind text)) ++ back) → at ≡ length front
    → tokens_read source (between before) (line_tokens names file at (Kind text)) ≡ between (before ++ Kind text ∷ [])
kind_read source names file text front back at before is from =
    ap (λ t. between (before ++ Kind t ∷ []))
    (slice_at source (front ++ codes "    kind = \"") text (codes "\"" ++ (10 ∷ [] ++ back)) (at + 11 + 1) (at + 11 + 1 + length text)
    (is ∙ kind_regroup front (codes "    kind = \"") text (codes "\"") back) (omega (arith, length-append front (codes "    kind = \""))) refl)

attribute_read : (source : List ℕ) (names : List (List ℕ)) (file : FileId) (name front back : List ℕ) (at : ℕ) (before : List Line) → source ≡ front ++ (lined (line_text (Attribute name)) ++ back) → at ≡ length front
    → tokens_read source (between before) (line_tokens names file at (Attribute name)) ≡ between (before ++ Attribute name ∷ [])
attribute_read source names file name front back at before is from =
    ap (λ t. between (before ++ Attribute t ∷ []))
    (slice_at source (front ++ codes "    ") name (codes ": dimensionless" ++ (10 ∷ [] ++ back)) (at + 4) (at + 4 + length name)
    (is ∙ kind_regroup front (codes "    ") name (codes ": dimensionless") back) (omega (arith, length-append front (codes "    "))) refl)

asserted : List ℕ → List ℕ → List ℕ → Line
asserted name low high = lines.Assertion (record { name = name; low = low; high = high })

assertion_read : (source : List ℕ) (names : List (List ℕ)) (file : FileId) (a : Assertion) (front back : List ℕ) (at : ℕ) (before : List Line) → source ≡ front ++ (lined (line_text (lines.Assertion a)) ++ back) → at ≡ length front
    → tokens_read source (between before) (line_tokens names file at (lines.Assertion a)) ≡ between (before ++ lines.Assertion a ∷ [])
unfolding asserted
assertion_read source names file a front back at before is from =
    ap (λ t. between (before ++ asserted t (slice_range source (at + 19 + length a.name) (at + 19 + length a.name + length a.low)) (slice_range source (at + 19 + length a.name + 4 + length a.low) (at + 19 + length a.name + 4 + length a.low + length a.high)) ∷ [])) name
    ∙ ap (λ t. between (before ++ asserted a.name t (slice_range source (at + 19 + length a.name + 4 + length a.low) (at + 19 + length a.name + 4 + length a.low + length a.high)) ∷ [])) low
    ∙ ap (λ t. between (before ++ asserted a.name a.low t ∷ [])) high
  where
    name : slice_range source (at + 11) (at + 11 + length a.name) ≡ a.name
    name = slice_at source (front ++ codes "    assert ") a.name ((codes " within " ++ (a.low ++ (codes " to " ++ a.high))) ++ (10 ∷ [] ++ back)) (at + 11) (at + 11 + length a.name)
        (is ∙ kind_regroup front (codes "    assert ") a.name (codes " within " ++ (a.low ++ (codes " to " ++ a.high))) back) (omega (arith, length-append front (codes "    assert "))) refl

    low : slice_range source (at + 19 + length a.name) (at + 19 + length a.name + length a.low) ≡ a.low
    low = slice_at source (((front ++ codes "    assert ") ++ a.name) ++ codes " within ") a.low (codes " to " ++ (a.high ++ (10 ∷ [] ++ back))) (at + 19 + length a.name) (at + 19 + length a.name + length a.low)
        (is ∙ low_regroup front (codes "    assert ") a.name (codes " within ") a.low (codes " to ") a.high back)
        (omega (arith, length-append front (codes "    assert "), length-append (front ++ codes "    assert ") a.name, length-append ((front ++ codes "    assert ") ++ a.name) (codes " within "))) refl

    high : slice_range source (at + 19 + length a.name + 4 + length a.low) (at + 19 + length a.name + 4 + length a.low + length a.high) ≡ a.high
    high = slice_at source (((((front ++ codes "    assert ") ++ a.name) ++ codes " within ") ++ a.low) ++ codes " to ") a.high (10 ∷ [] ++ back) (at + 19 + length a.name + 4 + length a.low) (at + 19 + length a.name + 4 + length a.low + length a.high)
        (is ∙ high_regroup front (codes "    assert ") a.name (codes " within ") a.low (codes " to ") a.high back)
        (omega (
          arith,
          length-append front (codes "    assert "),
          length-append (front ++ codes "    assert ") a.name,
          length-append ((front ++ codes "    assert ") ++ a.name) (codes " within "),
          length-append (((front ++ codes "    assert ") ++ a.name) ++ codes " within ") a.low,
          length-append ((((front ++ codes "    assert ") ++ a.name) ++ codes " within ") ++ a.low) (codes " to "),
        )) refl

line_read : (source : List ℕ) (names : List (List ℕ)) (file : FileId) (line : Line) (front back : List ℕ) (at : ℕ) (before : List Line) → source ≡ front ++ (lined (line_text line) ++ back) → at ≡ length front
    → tokens_read source (between before) (line_tokens names file at line) ≡ between (before ++ line ∷ [])
unfolding ended
line_read source names file Pass front back at before is from = refl
line_read source names file (Declaration point) front back at before is from =
    read-append source (between before) (point_tokens names file (at + 4) point) (token file kinds.Newline (at + length (line_text (Declaration point))) (at + length (line_text (Declaration point))) ∷ [])
    ∙ ap (λ r. between (closed r.left r.right r.lines))
    (end_read source names file (Declared point) (front ++ codes "    ") (10 ∷ [] ++ back) (at + 4) None None before (is ∙ into_line front (codes "    ") (point_text point) back) (omega (arith, length-append front (codes "    "))))
line_read source names file (Join left right) front back at before is from =
    let newline : List Token = token file kinds.Newline (at + length (line_text (Join left right))) (at + length (line_text (Join left right))) ∷ [] in
    let tilde : Token = token file (kinds.Mark marks.Tilde) (at + 5 + length (end_text left)) (at + 6 + length (end_text left)) in
    read-append source (between before) (words_tokens names file at (Join left right)) newline
    ∙ ap (λ r. between (closed r.left r.right r.lines))
    (read-append source (between before) (end_tokens names file (at + 4) left) (tilde ∷ end_tokens names file (at + 7 + length (end_text left)) right)
    ∙ ap (λ r. tokens_read source r (tilde ∷ end_tokens names file (at + 7 + length (end_text left)) right))
    (end_read source names file left (front ++ codes "    ") ((codes " ~ " ++ end_text right) ++ (10 ∷ [] ++ back)) (at + 4) None None before
    (is ∙ into_left front (codes "    ") (end_text left) (codes " ~ ") (end_text right) back) (omega (arith, length-append front (codes "    "))))
    ∙ end_read source names file right (((front ++ codes "    ") ++ end_text left) ++ codes " ~ ") (10 ∷ [] ++ back) (at + 7 + length (end_text left)) (Some left) None before
    (is ∙ into_right front (codes "    ") (end_text left) (codes " ~ ") (end_text right) back)
    (omega (arith, length-append front (codes "    "), length-append (front ++ codes "    ") (end_text left), length-append ((front ++ codes "    ") ++ end_text left) (codes " ~ "))))
line_read source names file (Kind text) front back at before is from = kind_read source names file text front back at before is from
line_read source names file (Attribute name) front back at before is from = attribute_read source names file name front back at before is from
line_read source names file (lines.Assertion a) front back at before is from = assertion_read source names file a front back at before is from

lines_regroup : (front line more back : List ℕ) → front ++ ((line ++ more) ++ back) ≡ front ++ (line ++ (more ++ back))
lines_regroup front line more back = simp append_assoc

next_regroup : (front line more back : List ℕ) → front ++ ((line ++ more) ++ back) ≡ (front ++ line) ++ (more ++ back)
next_regroup front line more back = simp append_assoc

lines_read : (source : List ℕ) (names : List (List ℕ)) (file : FileId) (size : ℕ) (lines : List Line) (front back : List ℕ) (at : ℕ) (before : List Line) → source ≡ front ++ (lines_text lines ++ back) → at ≡ length front
    → tokens_read source (between before) (lines_tokens names file at lines ++ last_tokens file size) ≡ between (before ++ lines)
lines_read source names file size [] front back at before is from = ap between (sym (append-nil before))
lines_read source names file size (line ∷ lines) front back at before is from =
    let next : ℕ = at + length (lined (line_text line)) in
    ap (tokens_read source (between before)) (append_assoc (line_tokens names file at line) (lines_tokens names file next lines) (last_tokens file size))
    ∙ read-append source (between before) (line_tokens names file at line) (lines_tokens names file next lines ++ last_tokens file size)
    ∙ ap (λ r. tokens_read source r (lines_tokens names file next lines ++ last_tokens file size))
    (line_read source names file line front (lines_text lines ++ back) at before (is ∙ lines_regroup front (lined (line_text line)) (lines_text lines) back) from)
    ∙ lines_read source names file size lines (front ++ lined (line_text line)) back next (before ++ line ∷ []) (is ∙ next_regroup front (lined (line_text line)) (lines_text lines) back) (omega (arith, length-append front (lined (line_text line))))
    ∙ ap between (append_assoc before (line ∷ []) lines)

-- The lines that are read of a block's tokens are the block's.
lines_of_block : (source : List ℕ) (names : List (List ℕ)) (file : FileId) (block : Block) → source ≡ block_text block → tokens_read source (between []) (body_tokens (file_tokens names file (Some block))) ≡ between block.lines
lines_of_block source names file block is =
    lines_read source names file (length (block_text block)) block.lines (lined (head_text block.name)) [] (12 + length block.name) []
    (is ∙ ap (λ l. lined (head_text block.name) ++ l) (sym (append-nil (lines_text block.lines)))) (omega (arith, length-append block.name (codes ":"), length-append (block.name ++ codes ":") (10 ∷ [])))

head_regroup : (name lines a b : List ℕ) → ((a ++ (name ++ b)) ++ 10 ∷ []) ++ lines ≡ a ++ (name ++ (b ++ (10 ∷ [] ++ lines)))
head_regroup name lines a b = simp append_assoc

-- The name behind `component` is the block's.
name_of_block : (source : List ℕ) (block : Block) → source ≡ block_text block → slice_range source 10 (10 + length block.name) ≡ block.name
name_of_block source block is =
    slice_at source (codes "component ") block.name (codes ":" ++ (10 ∷ [] ++ lines_text block.lines)) 10 (10 + length block.name) (is ∙ head_regroup block.name (lines_text block.lines) (codes "component ") (codes ":")) refl refl

-- The block that is read from a file's tokens is the file's.
pub read_is : (source : List ℕ) (file : FileId) (names : List (List ℕ)) (tokens : List Token) (block : Option Block) (name : List ℕ) (reading : Reading) (t : Token)
    → AreTokens source file names tokens block → 5 ≤ length tokens → name ≡ spelled_text source (get_or tokens 1 t).at → reading ≡ tokens_read source (between []) (body_tokens tokens)
    → IsFile source (Some (record { name = name; lines = reading.lines }))
read_is source file names tokens None name reading t h long name_is read = absurd (omega (arith, ap length h.tokens_are))
read_is source file names tokens (Some block) name reading t h long name_is read =
    let same_name : name ≡ block.name = name_is ∙ ap (λ ts. spelled_text source (get_or ts 1 t).at) h.tokens_are ∙ name_of_block source block h.is.0 in
    let same_lines : reading.lines ≡ block.lines = ap (λ r. r.lines) (read ∙ ap (λ ts. tokens_read source (between []) (body_tokens ts)) h.tokens_are ∙ lines_of_block source names file block h.is.0) in
    let same : record { name = name; lines = reading.lines } ≡ block = ap (λ n. record { name = n; lines = reading.lines }) same_name ∙ ap (λ ls. record { name = block.name; lines = ls }) same_lines in
    subst (λ b. IsFile source (Some b)) (sym same) h.is

-- ---- the places lie in the source

-- The places of the tokens lie in the source.
record AreWithin (source : List ℕ) (tokens : List Token) : Type 0 where
  pub all : All (IsPlaced source) tokens

none : (source : List ℕ) → AreWithin source []
none source = record { all = All-nil {X = Token} (IsPlaced source) }

and_place : (source : List ℕ) (t : Token) (tokens : List Token) → IsPlaced source t → AreWithin source tokens → AreWithin source (t ∷ tokens)
and_place source t tokens here rest = record { all = All-cons (IsPlaced source) t tokens here rest.all }

both : (source : List ℕ) (xs ys : List Token) → AreWithin source xs → AreWithin source ys → AreWithin source (xs ++ ys)
both source xs ys left right = record { all = All-append (IsPlaced source) xs ys left.all right.all }

and_token : (source : List ℕ) (file : FileId) (kind : TokenKind) (start end : ℕ) (tokens : List Token) → AreContentsWithin source kind → start ≤ end → end ≤ length source → AreWithin source tokens → AreWithin source (token file kind start end ∷ tokens)
and_token source file kind start end tokens contents order within rest =
    and_place source (token file kind start end) tokens (record { place = record { order = order; within = within }; contents = contents }) rest

name_within : (source : List ℕ) (names : List (List ℕ)) (file : FileId) (at : ℕ) (name : List ℕ) (tokens : List Token) → at + length name ≤ length source → AreWithin source tokens → AreWithin source (name_token names file at name ∷ tokens)
name_within source names file at name tokens h rest = and_token source file (kinds.Name (record { 0 = number_of names name })) at (at + length name) tokens tt (omega arith) h rest

number_within : (source : List ℕ) (file : FileId) (at : ℕ) (digits : List ℕ) (tokens : List Token) → at + length digits ≤ length source → AreWithin source tokens → AreWithin source (number_token file at digits ∷ tokens)
number_within source file at digits tokens h rest = and_place source (number_token file at digits) tokens (record { place = record { order = omega arith; within = h }; contents = tt }) rest

label_within : (source : List ℕ) (names : List (List ℕ)) (file : FileId) (at : ℕ) (label : List ℕ) → at + length label ≤ length source → IsPlaced source (label_token names file at label)
label_within source names file at label h =
    elim (is_ascii_name label) as (λ b. IsPlaced source (if b then name_token names file at label else number_token file at label)) [
      | true ↦ record { place = record { order = omega arith; within = h }; contents = tt }
      | false ↦ record { place = record { order = omega arith; within = h }; contents = tt }
    ]

end_within : (source : List ℕ) (names : List (List ℕ)) (file : FileId) (end : End) (at : ℕ) → at + length (end_text end) ≤ length source → AreWithin source (end_tokens names file at end)
end_within source names file (Name name) at h = name_within source names file at name [] h (none source)
end_within source names file (Declared (points.Signal name)) at h =
    and_token source file (kinds.Keyword words.Signal) at (at + 6) _ tt (omega arith) (omega arith) (name_within source names file (at + 7) name [] (omega arith) (none source))
end_within source names file (Declared (points.Pin label)) at h =
    and_token source file (kinds.Keyword words.Pin) at (at + 3) _ tt (omega arith) (omega arith) (and_place source (label_token names file (at + 4) label) [] (label_within source names file (at + 4) label (omega arith)) (none source))

words_within : (source : List ℕ) (names : List (List ℕ)) (file : FileId) (line : Line) (at : ℕ) → at + length (line_text line) ≤ length source → AreWithin source (words_tokens names file at line)
words_within source names file Pass at h = and_token source file (kinds.Keyword words.Pass) (at + 4) (at + 8) [] tt (omega arith) (omega arith) (none source)
words_within source names file (Declaration point) at h = end_within source names file (Declared point) (at + 4) (omega arith)
words_within source names file (Join left right) at h =
    let size = length-append (end_text left) (codes " ~ " ++ end_text right) in
    both source (end_tokens names file (at + 4) left) _ (end_within source names file left (at + 4) (omega (arith, size)))
    (and_token source file (kinds.Mark marks.Tilde) (at + 5 + length (end_text left)) (at + 6 + length (end_text left)) _ tt (omega arith) (omega (arith, size))
    (end_within source names file right (at + 7 + length (end_text left)) (omega (arith, size))))
words_within source names file (Kind text) at h =
    name_within source names file (at + 4) (codes "kind") _ (omega (arith, size))
    (and_token source file (kinds.Mark marks.Equal) (at + 9) (at + 10) _ tt (omega arith) (omega (arith, size))
    (and_token source file (kinds.Str (record { file = file; start = at + 11 + 1; end = at + 11 + 1 + length text })) (at + 11) (at + 11 + 2 + length text) []
    (record { order = omega arith; within = omega (arith, size) }) (omega arith) (omega (arith, size)) (none source)))
  where
    size : length (line_text (Kind text)) ≡ 13 + length text
    size = omega (arith, length-append text (codes "\""))
words_within source names file (Attribute name) at h =
    name_within source names file (at + 4) name _ (omega (arith, size))
    (and_token source file (kinds.Mark marks.Colon) (at + 4 + length name) (at + 5 + length name) _ tt (omega arith) (omega (arith, size))
    (name_within source names file (at + 6 + length name) (codes "dimensionless") [] (omega (arith, size)) (none source)))
  where
    size : length (line_text (Attribute name)) ≡ 19 + length name
    size = omega (arith, length-append name (codes ": dimensionless"))
words_within source names file (lines.Assertion a) at h =
    and_token source file (kinds.Keyword words.Assert) (at + 4) (at + 10) _ tt (omega arith) (omega (arith, size))
    (name_within source names file (at + 11) a.name _ (omega (arith, size))
    (and_token source file (kinds.Keyword words.Within) (at + 12 + length a.name) (at + 18 + length a.name) _ tt (omega arith) (omega (arith, size))
    (number_within source file (at + 19 + length a.name) a.low _ (omega (arith, size))
    (and_token source file (kinds.Keyword words.To) (at + 19 + length a.name + 1 + length a.low) (at + 19 + length a.name + 3 + length a.low) _ tt (omega arith) (omega (arith, size))
    (number_within source file (at + 19 + length a.name + 4 + length a.low) a.high [] (omega (arith, size)) (none source))))))
  where
    size : length (line_text (lines.Assertion a)) ≡ 23 + length a.name + length a.low + length a.high
    size = omega (arith, length-append a.name (codes " within " ++ (a.low ++ (codes " to " ++ a.high))), length-append a.low (codes " to " ++ a.high))

lines_within : (source : List ℕ) (names : List (List ℕ)) (file : FileId) (lines : List Line) (front back : List ℕ) (at : ℕ) → source ≡ front ++ (lines_text lines ++ back) → at ≡ length front → AreWithin source (lines_tokens names file at lines)
lines_within source names file [] front back at is from = none source
lines_within source names file (line ∷ lines) front back at is from =
    both source (line_tokens names file at line) (lines_tokens names file (at + length (lined (line_text line))) lines)
    (both source (words_tokens names file at line) (token file kinds.Newline (at + length (line_text line)) (at + length (line_text line)) ∷ []) (words_within source names file line at room)
    (and_token source file kinds.Newline (at + length (line_text line)) (at + length (line_text line)) [] tt (omega arith) room (none source)))
    (lines_within source names file lines (front ++ lined (line_text line)) back (at + length (lined (line_text line)))
    (is ∙ next_regroup front (lined (line_text line)) (lines_text lines) back) (omega (arith, length-append front (lined (line_text line)))))
  where
    room : at + length (line_text line) ≤ length source
    room = omega (arith, ap length is, length-append front ((lined (line_text line) ++ lines_text lines) ++ back), length-append (lined (line_text line) ++ lines_text lines) back, length-append (lined (line_text line)) (lines_text lines), length-append (line_text line) (10 ∷ []))

-- a line has at least as many bytes as its indentation
long_line : (line : Line) → 4 ≤ length (lined (line_text line))
long_line Pass = omega arith
long_line (Declaration point) = omega (arith, length-append (point_text point) (10 ∷ []))
long_line (Kind text) = omega (arith, length-append (text ++ codes "\"") (10 ∷ []))
long_line (Attribute name) = omega (arith, length-append (name ++ codes ": dimensionless") (10 ∷ []))
long_line (lines.Assertion a) = omega (arith, length-append (a.name ++ (codes " within " ++ (a.low ++ (codes " to " ++ a.high)))) (10 ∷ []))
long_line (Join left right) = omega (arith, length-append (end_text left ++ (codes " ~ " ++ end_text right)) (10 ∷ []))

long_lines : (lines : List Line) → 0 < length lines → 4 ≤ length (lines_text lines)
long_lines [] h = absurd (omega arith)
long_lines (line ∷ lines) h = omega (arith, long_line line, length-append (lined (line_text line)) (lines_text lines))

head_size : (name lines : List ℕ) → length (lined (head_text name) ++ lines) ≡ 12 + length name + length lines
head_size name lines = omega (arith, length-append (lined (head_text name)) lines, length-append name (codes ":"), length-append (name ++ codes ":") (10 ∷ []))

block_within : (source : List ℕ) (names : List (List ℕ)) (file : FileId) (block : Block) → source ≡ block_text block → 0 < length block.lines → AreWithin source (file_tokens names file (Some block))
block_within source names file block is some =
    both source (head_tokens names file block.name) (lines_tokens names file (12 + length block.name) block.lines ++ last_tokens file (length (block_text block))) head
    (both source (lines_tokens names file (12 + length block.name) block.lines) (last_tokens file (length (block_text block))) lines last)
  where
    room : 16 + length block.name ≤ length source
    room = omega (arith, ap length is, head_size block.name (lines_text block.lines), long_lines block.lines some)

    head : AreWithin source (head_tokens names file block.name)
    head =
        and_token source file (kinds.Keyword words.Component) 0 9 _ tt (omega arith) (omega (arith, room))
        (name_within source names file 10 block.name _ (omega (arith, room))
        (and_token source file (kinds.Mark marks.Colon) (10 + length block.name) (11 + length block.name) _ tt (omega arith) (omega (arith, room))
        (and_token source file kinds.Newline (11 + length block.name) (11 + length block.name) _ tt (omega arith) (omega (arith, room))
        (and_token source file kinds.Indent (16 + length block.name) (16 + length block.name) _ tt (omega arith) room (none source)))))

    lines : AreWithin source (lines_tokens names file (12 + length block.name) block.lines)
    lines = lines_within source names file block.lines (lined (head_text block.name)) [] (12 + length block.name)
        (is ∙ ap (λ l. lined (head_text block.name) ++ l) (sym (append-nil (lines_text block.lines)))) (omega (arith, length-append block.name (codes ":"), length-append (block.name ++ codes ":") (10 ∷ [])))

    last : AreWithin source (last_tokens file (length (block_text block)))
    last =
        let whole : length (block_text block) ≤ length source = omega (arith, ap length is) in
        and_token source file kinds.Dedent (length (block_text block)) (length (block_text block)) _ tt (omega arith) whole
        (and_token source file kinds.End (length (block_text block)) (length (block_text block)) _ tt (omega arith) whole (none source))

file_within : (source : List ℕ) (file : FileId) (names : List (List ℕ)) (tokens : List Token) (block : Option Block) → AreTokens source file names tokens block → AreWithin source tokens
file_within source file names tokens None h = subst (AreWithin source) (sym h.tokens_are) (and_token source file kinds.End 0 0 [] tt (omega arith) (omega arith) (none source))
file_within source file names tokens (Some block) h = subst (AreWithin source) (sym h.tokens_are) (block_within source names file block h.is.0 h.is.2)

-- The places of a file's tokens lie in it.
pub tokens_within : (source : List ℕ) (file : FileId) (names : List (List ℕ)) (tokens : List Token) (block : Option Block) → AreTokens source file names tokens block → All (IsPlaced source) tokens
tokens_within source file names tokens block h = (file_within source file names tokens block h).all

-- Those behind the first ones do, too.
pub body_within : (source : List ℕ) (file : FileId) (names : List (List ℕ)) (tokens : List Token) (block : Option Block) → AreTokens source file names tokens block → All (IsPlaced source) (body_tokens tokens)
body_within source file names tokens block h = All-drop (IsPlaced source) 5 tokens (tokens_within source file names tokens block h)
