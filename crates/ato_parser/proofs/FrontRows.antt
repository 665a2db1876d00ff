-- Worked rows of fronts and faults: how spellings may begin, and how not.
use Rattle.std.proofs.Common.{◌≡◌, ℕ, [], ◌∷◌, ◌++◌, Bool, true, false, true≢false, suc, refl, ap, ◌∙◌}
use Rattle.ato_base.specs.declared.keywords.Keyword.TheVariants as keywords
use Rattle.ato_base.specs.declared.keywords.Mark.TheVariants as marks
use Rattle.ato_base.specs.declared.faults.FaultKind.TheVariants as faults
use Rattle.ato_base.specs.declared.tokens.Token.{Token}
use Rattle.ato_base.specs.declared.tokens.TokenKind.TheVariants as kinds
use Rattle.ato_parser.specs.Tokens.{Tokens, token, is_end}
use Rattle.ato_parser.specs.Kinds.{same_mark, same_keyword}
use Rattle.ato_parser.specs.Pieces.{one_token, no_more, in_first, in_second, in_one, in_other, before_one, whole_one, before_many, in_next, after_next, then_spells, nothing}
use Rattle.ato_parser.specs.Expressions.{sum}
use Rattle.ato_parser.specs.Statements.{stmt}
use Rattle.ato_parser.specs.Files.{FileFront}
use Rattle.ato_parser.specs.Input.{kind_of}
use Rattle.ato_parser.specs.Faults.{FirstBad, IsTooDeep, IsFault, a_syntax, fault_at, deepest}
use Rattle.ato_parser.proofs.RowTokens.{byte, from, row, word, digits, sign, key, a_keyword}
use Rattle.ato_parser.proofs.ExpressionRows.{name_atom, name_product}
use Rattle.ato_parser.proofs.KindsOfTokens.{false_true}
use Rattle.ato_parser.proofs.FirstTokens.{begins}
use Rattle.ato_parser.proofs.GrammarStarts.{flat_starts, sum_starts, stmt_starts, starts_file, file_begins}

-- ---- fronts

-- no token is a front of everything
no_tokens : (sum 0).Front []
unfolding sum
no_tokens = in_first (in_first (in_first (in_one (in_first (in_first (in_first before_one))))))

-- a +
an_operand_and_a_sign : (sum 0).Front (row (word 5 ∷ sign marks.Plus ∷ []))
unfolding sum
an_operand_and_a_sign = in_second (name_product _ _ 5 0) (in_first (in_next (in_first (whole_one (sign marks.Plus) (byte 1) refl))))

-- a + b * c, up to each token
an_operand : (sum 0).Front (row (word 5 ∷ []))
unfolding sum
an_operand = in_first (in_first (in_first (in_one (in_first (in_first (in_first (whole_one (word 5) (byte 0) refl)))))))

two_operands : (sum 0).Front (row (word 5 ∷ sign marks.Plus ∷ word 6 ∷ []))
unfolding sum
two_operands = in_second (name_product _ _ 5 0) (in_first (in_next (in_second (one_token (sign marks.Plus) (byte 1) refl)
    (in_first (in_first (in_first (in_one (in_first (in_first (in_first (whole_one (word 6) (byte 2) refl)))))))))))

-- a + b +
two_operands_and_a_sign : (sum 0).Front (row (word 5 ∷ sign marks.Plus ∷ word 6 ∷ sign marks.Plus ∷ []))
unfolding sum
two_operands_and_a_sign = in_second (name_product _ _ 5 0) (in_first (after_next (then_spells (one_token (sign marks.Plus) (byte 1) refl) (then_spells (name_product _ _ 6 2) nothing))
    (in_next (in_first (whole_one (sign marks.Plus) (byte 3) refl)))))

-- ( begins an expression where a parenthesis may stand
an_open_parenthesis : (sum 1).Front (row (sign marks.LeftParenthesis ∷ []))
unfolding sum same_mark
an_open_parenthesis = in_first (in_first (in_first (in_other (in_other (in_one (in_first (whole_one (sign marks.LeftParenthesis) (byte 0) refl)))))))

-- x ** waits for its exponent
a_power_sign : (sum 0).Front (row (word 5 ∷ sign marks.Power ∷ []))
unfolding sum same_mark
a_power_sign = in_first (in_first (in_second (name_atom _ _ 5 0) (in_first (in_one (in_first (in_first (whole_one (sign marks.Power) (byte 1) refl)))))))

-- assert a
an_assertion : (stmt 0).Front (row (key keywords.Assert ∷ word 5 ∷ []))
unfolding sum
an_assertion = in_other (in_other (in_other (in_other (in_other (in_other (in_other (in_other (in_second (a_keyword keywords.Assert 0)
    (in_first (in_first (in_first (in_first (in_one (in_first (in_first (in_first (whole_one (word 5) (byte 1) refl)))))))))))))))))

-- a file begins with nothing
begins_with_nothing : (depth : ℕ) → FileFront depth []
unfolding FileFront
begins_with_nothing depth = in_first before_many

-- ---- no fronts

-- no expression begins with one of these
no_plus : (depth : ℕ) (ts : Tokens) → (sum depth).Front (token (sign marks.Plus) (byte 0) ∷ ts) → ⊥
unfolding same_mark
no_plus depth ts f = false_true (begins _ _ (sum_starts depth) _ ts f)

no_star : (depth : ℕ) (ts : Tokens) → (sum depth).Front (token (sign marks.Star) (byte 0) ∷ ts) → ⊥
unfolding same_mark
no_star depth ts f = false_true (begins _ _ (sum_starts depth) _ ts f)

no_right_parenthesis : (depth : ℕ) (ts : Tokens) → (sum depth).Front (token (sign marks.RightParenthesis) (byte 0) ∷ ts) → ⊥
unfolding same_mark
no_right_parenthesis depth ts f = false_true (begins _ _ (sum_starts depth) _ ts f)

no_string : (depth : ℕ) (ts : Tokens) → (sum depth).Front (token (kinds.Str (byte 7)) (byte 0) ∷ ts) → ⊥
unfolding same_mark
no_string depth ts f = false_true (begins _ _ (sum_starts depth) _ ts f)

-- nor with a parenthesis, where none may stand
no_open_parenthesis : (ts : Tokens) → (sum 0).Front (token (sign marks.LeftParenthesis) (byte 0) ∷ ts) → ⊥
unfolding same_mark
no_open_parenthesis ts f = false_true (begins _ _ flat_starts _ ts f)

-- no statement
no_number : (depth : ℕ) (ts : Tokens) → (stmt depth).Front (token (digits 1) (byte 0) ∷ ts) → ⊥
unfolding same_keyword
no_number depth ts f = false_true (begins _ _ (stmt_starts depth) _ ts f)

no_import : (depth : ℕ) (ts : Tokens) → (stmt depth).Front (token (key keywords.Import) (byte 0) ∷ ts) → ⊥
unfolding same_keyword
no_import depth ts f = false_true (begins _ _ (stmt_starts depth) _ ts f)

-- no file
no_indent : (depth : ℕ) (ts : Tokens) → FileFront depth (token kinds.Indent (byte 0) ∷ ts) → ⊥
unfolding same_keyword
no_indent depth ts f = false_true (file_begins depth _ ts f)

no_line_end : (depth : ℕ) (ts : Tokens) → FileFront depth (token kinds.Newline (byte 0) ∷ ts) → ⊥
unfolding same_keyword
no_line_end depth ts f = false_true (file_begins depth _ ts f)

no_name : (depth : ℕ) (ts : Tokens) → FileFront depth (token (word 5) (byte 0) ∷ ts) → ⊥
unfolding same_keyword
no_name depth ts f = false_true (file_begins depth _ ts f)

-- ---- faults

-- an indent and END: the indent is the fault
a_fault : IsFault (row (kinds.Indent ∷ kinds.End ∷ [])) (fault_at faults.Syntax (token kinds.Indent (byte 0)))
a_fault = a_syntax (record {
  first = record { front = []; rest = row_end; split = refl; fits = begins_with_nothing deepest; no_longer = no_indent deepest [] };
  never = λ depth. no_indent depth [];
})
  where
    row_end : Tokens
    row_end = from 1 (kinds.End ∷ [])

-- END behind it is not: the indent before it is no front
end_is_no_fault : FirstBad (FileFront deepest) (row (kinds.Indent ∷ kinds.End ∷ [])) (token kinds.End (byte 1)) → ⊥
unfolding same_keyword
end_is_no_fault h = by h.front h.rest h.split h.fits
  where
    by : (front rest : Tokens) → row (kinds.Indent ∷ kinds.End ∷ []) ≡ front ++ token kinds.End (byte 1) ∷ rest → FileFront deepest front → ⊥
    by [] rest e f = false_true (ap (λ l. is_end (kind_of l)) e)
    by (t ∷ ts) rest e f = false_true (ap (λ l. starts_file (kind_of l)) e ∙ file_begins deepest t ts f)

-- an open parenthesis first is no parenthesis too many: where more may be open it does not fit either
no_deeper : IsTooDeep (row (sign marks.LeftParenthesis ∷ kinds.End ∷ [])) (token (sign marks.LeftParenthesis) (byte 0)) → ⊥
unfolding same_keyword
no_deeper h = by h.first.front h.first.rest h.first.split h.first.fits h.deeper
  where
    by : (front rest : Tokens) → row (sign marks.LeftParenthesis ∷ kinds.End ∷ []) ≡ front ++ token (sign marks.LeftParenthesis) (byte 0) ∷ rest
        → FileFront deepest front → FileFront (suc deepest) (front ++ token (sign marks.LeftParenthesis) (byte 0) ∷ []) → ⊥
    by [] rest e f g = false_true (file_begins (suc deepest) _ [] g)
    by (t ∷ ts) rest e f g = false_true (ap (λ l. starts_file (kind_of l)) e ∙ file_begins deepest t ts f)

-- END alone is a whole file, and no fault
whole_front : FileFront deepest (row (kinds.End ∷ []))
unfolding FileFront
whole_front = in_second no_more (in_first (whole_one kinds.End (byte 0) refl))

no_fault_of_a_file : FirstBad (FileFront deepest) (row (kinds.End ∷ [])) (token kinds.End (byte 0)) → ⊥
no_fault_of_a_file h = by h.front h.rest h.split h.no_longer
  where
    is_nil : Tokens → Bool
    is_nil [] = true
    is_nil (t ∷ ts) = false

    behind : Tokens → Tokens
    behind [] = []
    behind (t ∷ ts) = ts

    nothing_has_none : (f g : Tokens) (t : Token) → [] ≡ f ++ t ∷ g → ⊥
    nothing_has_none [] g t e = true≢false (ap is_nil e)
    nothing_has_none (u ∷ us) g t e = true≢false (ap is_nil e)

    by : (front rest : Tokens) → row (kinds.End ∷ []) ≡ front ++ token kinds.End (byte 0) ∷ rest → (FileFront deepest (front ++ token kinds.End (byte 0) ∷ []) → ⊥) → ⊥
    by [] rest e g = g whole_front
    by (t ∷ ts) rest e g = nothing_has_none ts rest _ (ap behind e)
