-- Laws of the first form: a text is at most one file, it is no file where a line is bad, and at most
-- one line is its first bad one, which begins within the text. A file is ASCII.
use Rattle.std.proofs.Common.{◌≡◌, ℕ, ◌≤◌, List, [], ◌++◌, length, ap, sym, ◌∙◌, refl, arith, append_assoc, append-nil, length-append, subst, inl, inr}
use Rattle.std.specs.Prelude.{Option, None, Some}
use Rattle.std.specs.Str.{IsAscii}
use Rattle.std.proofs.lemmas.Str.Ascii.{IsAscii-nil}
use Rattle.ato_first.specs.FirstForm.{lined, head_text, lines_text, block_text, IsFile, IsBad, IsFront, NoNext, bad_line}
use Rattle.ato_first.specs.declared.first_form.Block.{Block}
use Rattle.ato_first.specs.declared.first_form.Line.{Line}
use Rattle.ato_first.proofs.FirstFormLemmas.{one_head, no_line_here, no_next, nonempty}
use Rattle.ato_first.proofs.OnceLemmas.{one_front}
use Rattle.ato_first.proofs.BadLineLemmas.{no_bad_line, bad_line_within}
use Rattle.ato_first.proofs.FirstFormAscii.{block_ascii}

block_and_more : (block : Block) (rest : List ℕ) → block_text block ++ rest ≡ lined (head_text block.name) ++ (lines_text block.lines ++ rest)
block_and_more block rest = append_assoc (lined (head_text block.name)) (lines_text block.lines) rest

same_block : (a b : Block) → a.name ≡ b.name → a.lines ≡ b.lines → a ≡ b
same_block a b p q =
    let with_name : List ℕ → Block = λ n. record { name = n; lines = a.lines } in
    let with_lines : List Line → Block = λ ls. record { name = b.name; lines = ls } in
    ap with_name p ∙ ap with_lines q

-- Two fronts of one text, each followed by no line that may come next, are one.
one_block : (a b : Block) (r s : List ℕ) → IsFront a → IsFront b → block_text a ++ r ≡ block_text b ++ s → NoNext a.lines r → NoNext b.lines s → (a ≡ b) × (r ≡ s)
one_block a b r s h k e p q =
    let heads = one_head a.name b.name (lines_text a.lines ++ r) (lines_text b.lines ++ s) h.name k.name (sym (block_and_more a r) ∙ e ∙ block_and_more b s) in
    let lines = one_front [] a.lines b.lines r s h.lines k.lines h.once k.once heads.1 p q in
    (same_block a b heads.0 lines.0, lines.1)

nothing_next : (block : Block) → NoNext block.lines []
nothing_next block = no_next block.lines [] no_line_here

whole : (bytes : List ℕ) (block : Block) → bytes ≡ block_text block → bytes ≡ block_text block ++ []
whole bytes block e = e ∙ sym (append-nil (block_text block))

filled : (block : Block) (rest : List ℕ) → block_text block ++ rest ≡ [] → ⊥
filled block rest e = nonempty (head_text block.name) (lines_text block.lines ++ rest) (sym (block_and_more block rest) ∙ e)

-- A text is at most one file.
pub one_file : (bytes : List ℕ) (a b : Option Block) → IsFile bytes a → IsFile bytes b → a ≡ b
one_file bytes None None h k = refl
one_file bytes None (Some b) h k = absurd (filled b [] (sym (whole bytes b k.0) ∙ h))
one_file bytes (Some a) None h k = absurd (filled a [] (sym (whole bytes a h.0) ∙ k))
one_file bytes (Some a) (Some b) h k = ap Some (one_block a b [] [] h.1 k.1 (sym (whole bytes a h.0) ∙ whole bytes b k.0) (nothing_next a) (nothing_next b)).0

-- A text with a bad line is no file.
pub bad_no_file : (bytes : List ℕ) (at : ℕ) (file : Option Block) → IsBad bytes at → IsFile bytes file → ⊥
bad_no_file bytes at None (inl (first, some, none)) is = let z : length bytes ≡ 0 = ap length is in absurd (omega arith)
bad_no_file bytes at (Some block) (inl (first, some, none)) is = none block.name (lines_text block.lines) is.1.name is.0
bad_no_file bytes at None (inr (front, rest, text, is_front, none, bad)) is = filled front rest (sym text ∙ is)
bad_no_file bytes at (Some block) (inr (front, rest, text, is_front, none, bad)) is =
    let same = one_block front block rest [] is_front is.1 (sym text ∙ whole bytes block is.0) none (nothing_next block) in
    let e : Some at ≡ None = sym bad ∙ ap (λ b. bad_line b rest) same.0 ∙ ap (bad_line block) same.1 ∙ no_bad_line block is.1 is.2 is.3 in
    let contrary : ⊥ = cc in contrary

-- One line is the first bad one.
pub one_bad : (bytes : List ℕ) (a b : ℕ) → IsBad bytes a → IsBad bytes b → a ≡ b
one_bad bytes a b (inl h) (inl k) = h.0 ∙ sym k.0
one_bad bytes a b (inl h) (inr (front, rest, text, is_front, none, bad)) = absurd (h.2 front.name (lines_text front.lines ++ rest) is_front.name (text ∙ block_and_more front rest))
one_bad bytes a b (inr (front, rest, text, is_front, none, bad)) (inl k) = absurd (k.2 front.name (lines_text front.lines ++ rest) is_front.name (text ∙ block_and_more front rest))
one_bad bytes a b (inr (f, r, text, is_f, none, bad)) (inr (g, s, text2, is_g, none2, bad2)) =
    let same = one_block f g r s is_f is_g (sym text ∙ text2) none none2 in
    let e : Some a ≡ Some b = sym bad ∙ ap (λ x. bad_line x r) same.0 ∙ ap (bad_line g) same.1 ∙ bad2 in cc

-- A bad line begins within the text, or at its end.
pub bad_within : (bytes : List ℕ) (at : ℕ) → IsBad bytes at → at ≤ length bytes
bad_within bytes at (inl h) = omega (arith, h.0)
bad_within bytes at (inr (block, rest, text, is_front, none, bad)) =
    omega (arith, bad_line_within block rest at bad, ap length text, length-append (block_text block) rest)

-- A file is ASCII.
pub file_ascii : (source : List ℕ) (file : Option Block) → IsFile source file → IsAscii source
file_ascii source None h = subst IsAscii (sym h) IsAscii-nil
file_ascii source (Some block) h = subst IsAscii (sym h.0) (block_ascii block h.1)
