-- Worked rows of parentheses inside each other: 64 may be open at once, and the next is a fault.
use Rattle.std.proofs.Common.{◌≡◌, sym, Bool, true, false, ap, ap₂, subst, true≢false, arith, ◌+◌, ℕ, zero, suc, List, [], ◌∷◌, ◌++◌, replicate, refl}
use Rattle.ato_base.specs.declared.keywords.Keyword.TheVariants as keywords
use Rattle.ato_base.specs.declared.keywords.Mark.TheVariants as marks
use Rattle.ato_base.specs.declared.faults.FaultKind.TheVariants as faults
use Rattle.ato_base.specs.declared.tokens.Token.{Token}
use Rattle.ato_base.specs.declared.tokens.TokenKind.{TokenKind}
use Rattle.ato_base.specs.declared.tokens.TokenKind.TheVariants as kinds
use Rattle.ato_parser.specs.Tokens.{Tokens, token}
use Rattle.ato_parser.specs.Pieces.{the_other, one_token, nothing, in_first, in_second, in_one, in_other, before_one, in_next}
use Rattle.ato_parser.specs.Expressions.{sum}
use Rattle.ato_parser.specs.Files.{FileFront}
use Rattle.ato_parser.specs.Faults.{IsSyntax, IsFault, a_depth, fault_at, deepest}
use Rattle.ato_parser.proofs.RowTokens.{byte, from, row, word, sign, key, a_name, a_mark}
use Rattle.ato_parser.proofs.ExpressionRows.{a_path}
use Rattle.ato_parser.proofs.KindsOfTokens.{false_true}
use Rattle.ato_parser.proofs.NestingLaws.{fronts_fit}

-- so many open parentheses
abbrev opened : ℕ → List TokenKind
opened n = replicate n (sign marks.LeftParenthesis)

-- as many open parentheses as an expression's depth
open_front : (n at : ℕ) → (sum n).Front (from at (opened n))
unfolding sum
open_front zero at = in_first (in_first (in_first (in_one (in_first (in_first (in_first before_one))))))
open_front (suc n) at = in_first (in_first (in_first (in_other (in_other (in_one (in_second (a_mark marks.LeftParenthesis at) (in_first (open_front n (suc at)))))))))

-- module A: a = (((..
abbrev kinds_opened : ℕ → List TokenKind
kinds_opened n = key keywords.Module ∷ word 5 ∷ sign marks.Colon ∷ word 6 ∷ sign marks.Equal ∷ opened n

file_front : (n : ℕ) → FileFront n (row (kinds_opened n))
unfolding FileFront
file_front n = in_first (in_next (in_other (in_first (in_second (one_token (key keywords.Module) (byte 0) refl) (in_second (a_name 5 1) (in_second (the_other nothing) (in_second (a_mark marks.Colon 2)
    (in_first (in_one (in_first (in_first (in_other (in_other (in_other (in_other (in_other (in_one (in_second (a_path 6 3) (in_second (a_mark marks.Equal 4)
    (in_first (in_other (in_other (in_first (open_front n 5))))))))))))))))))))))))

-- 65 are no front where 64 may be open
no_sixty_five : FileFront 64 (row (kinds_opened 65)) → ⊥
no_sixty_five f = false_true (fronts_fit 64 _ f)

-- the 65th is a fault of its own
too_deep : IsFault (row (kinds_opened 65 ++ kinds.End ∷ [])) (fault_at faults.TooDeep (token (sign marks.LeftParenthesis) (byte 69)))
too_deep = a_depth (record {
  first = record { front = row (kinds_opened 64); rest = from 70 (kinds.End ∷ []); split = refl; fits = file_front deepest; no_longer = no_sixty_five };
  opens = refl;
  deeper = file_front (suc deepest);
})

-- ---- it is no fault of the other kind

tail_of : Tokens → Tokens
tail_of [] = []
tail_of (t ∷ ts) = ts

head_or : Token → Tokens → Token
head_or d [] = d
head_or d (t ∷ ts) = t

-- where the first token stands
start_of : Tokens → ℕ
start_of [] = 0
start_of (t ∷ ts) = t.at.start

is_nil : Tokens → Bool
is_nil [] = true
is_nil (t ∷ ts) = false

count : List TokenKind → ℕ
count [] = 0
count (k ∷ ks) = suc (count ks)

not_same : (n m k : ℕ) → n + suc k ≡ m → n ≡ m → ⊥
not_same n m k e f = omega arith

one_on : (n m k : ℕ) → n + suc k ≡ m → suc n + k ≡ m
one_on n m k e = omega arith

-- A token at byte m, which none behind it stands at, is found once: before it stand the ones that stood there.
cut_at : (ks : List TokenKind) (n m : ℕ) (kind : TokenKind) (us front rest : Tokens) → n + count ks ≡ m
    → ((f g : Tokens) → us ≡ f ++ token kind (byte m) ∷ g → ⊥)
    → from n ks ++ token kind (byte m) ∷ us ≡ front ++ token kind (byte m) ∷ rest → front ≡ from n ks
unfolding tail_of head_or start_of count
cut_at [] n m kind us [] rest e once same = refl
cut_at [] n m kind us (t ∷ ts) rest e once same = absurd (once ts rest (ap tail_of same))
cut_at (k ∷ ks) n m kind us [] rest e once same = absurd (not_same n m (count ks) e (ap start_of same))
cut_at (k ∷ ks) n m kind us (t ∷ ts) rest e once same =
    ap₂ (λ x xs. x ∷ xs) (sym (ap (head_or t) same)) (cut_at ks (suc n) m kind us ts rest (one_on n m (count ks) e) once (ap tail_of same))

nothing_has_none : (f g : Tokens) (t : Token) → [] ≡ f ++ t ∷ g → ⊥
unfolding is_nil
nothing_has_none [] g t e = true≢false (ap is_nil e)
nothing_has_none (u ∷ us) g t e = true≢false (ap is_nil e)

-- END is no open parenthesis, and nothing stands behind it
only_end : (f g : Tokens) → from 70 (kinds.End ∷ []) ≡ f ++ token (sign marks.LeftParenthesis) (byte 69) ∷ g → ⊥
unfolding tail_of start_of
only_end [] g e = not_same 69 70 0 refl (sym (ap start_of e))
only_end (t ∷ ts) g e = nothing_has_none ts g _ (ap tail_of e)

no_syntax_fault : IsSyntax (row (kinds_opened 65 ++ kinds.End ∷ [])) (token (sign marks.LeftParenthesis) (byte 69)) → ⊥
unfolding count
no_syntax_fault h = h.never (suc deepest) (subst (λ f. FileFront (suc deepest) (f ++ token (sign marks.LeftParenthesis) (byte 69) ∷ [])) (sym same) (file_front (suc deepest)))
  where
    same : h.first.front ≡ row (kinds_opened 64)
    same = cut_at (kinds_opened 64) 0 69 (sign marks.LeftParenthesis) (from 70 (kinds.End ∷ [])) h.first.front h.first.rest refl only_end h.first.split
