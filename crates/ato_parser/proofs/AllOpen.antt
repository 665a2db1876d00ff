-- In front of a parenthesis that is too deep as many are open as may stand inside each other.
use Rattle.std.proofs.Common.{◌≡◌, ℕ, zero, suc, [], ◌∷◌, ◌++◌, Option, Some, None, is_some, true, refl, sym, ap, ◌∙◌}
use Rattle.ato_base.specs.declared.tokens.Token.{Token}
use Rattle.ato_base.specs.declared.keywords.Mark.TheVariants as marks
use Rattle.ato_base.specs.declared.tokens.TokenKind.TheVariants as kinds
use Rattle.ato_parser.specs.Tokens.{Tokens}
use Rattle.ato_parser.specs.Nesting.{after, left_to_open}
use Rattle.ato_parser.specs.Files.{FileFront}
use Rattle.ato_parser.specs.Faults.{deepest, FirstBad, IsTooDeep}
use Rattle.ato_parser.proofs.KindsOfTokens.{false_true}
use Rattle.ato_parser.proofs.Nesting.{left_both}
use Rattle.ato_parser.proofs.NestingLaws.{fronts_fit}
use Rattle.ato_parser.proofs.FewerFiles.{few_open}

-- where more could be opened the front with one more would still be one
one_more_fits : (depth n : ℕ) (front : Tokens) (bad : Token) → left_to_open (Some depth) front ≡ Some (suc n) → bad.kind ≡ kinds.Mark marks.LeftParenthesis
    → left_to_open (Some depth) (front ++ bad ∷ []) ≡ Some n
one_more_fits depth n front bad e opens = left_both (Some depth) front (bad ∷ []) ∙ ap (λ s. after s bad.kind) e ∙ ap (after (Some (suc n))) opens

none_left_to_open : (depth : ℕ) (tokens : Tokens) (bad : Token) (first : FirstBad (FileFront depth) tokens bad) → bad.kind ≡ kinds.Mark marks.LeftParenthesis
    → FileFront (suc depth) (first.front ++ bad ∷ []) → left_to_open (Some depth) first.front ≡ Some 0
none_left_to_open depth tokens bad first opens deeper = by (left_to_open (Some depth) first.front) refl (fronts_fit depth first.front first.fits)
  where
    by : (s : Option ℕ) → left_to_open (Some depth) first.front ≡ s → is_some (left_to_open (Some depth) first.front) ≡ true → left_to_open (Some depth) first.front ≡ Some 0
    by None e fits = absurd (false_true (sym (ap is_some e) ∙ fits))
    by (Some zero) e fits = e
    by (Some (suc n)) e fits =
        absurd (first.no_longer (few_open depth (suc depth) (first.front ++ bad ∷ []) deeper (ap is_some (one_more_fits depth n first.front bad e opens))))

pub all_open : (tokens : Tokens) (bad : Token) (f : IsTooDeep tokens bad) → left_to_open (Some deepest) f.first.front ≡ Some 0
all_open tokens bad f = none_left_to_open deepest tokens bad f.first f.opens f.deeper
