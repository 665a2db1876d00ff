use Rattle.std.proofs.Common.{suc, ◌<◌, ◌∷◌, [], ◌++◌, reverse, ap, ◌∙◌, subst, append_assoc, arith}
use Rattle.std.specs.List.{repeat}
use Rattle.ato_base.specs.declared.tokens.TokenKind.TheVariants as kinds
use Rattle.ato_lexer.specs.Layout.{top}
use Rattle.ato_lexer.specs.Tokens.{token_at}
use Rattle.ato_lexer.proofs.LevelPuts.{popped, deep_filled, repeat-last}
use Rattle.ato_lexer.proofs.putting.leave.Goals as goal

pub levels-preserved : goal.levels-preserved
levels-preserved c =
    let t = token_at c.args.file c.args.at c.args.at kinds.Dedent in
    let (n, tokens, left, kept) = c.levels.invariant in
    let deep : c.args.depth < top (reverse c.as_slice.result.now) = subst (λ n. c.args.depth < n) c.top_of-level.ensures c.if-level-depth.false in
    let one = popped c.args.depth c.levels.levels.items c.pop.new.self.items c.pop.result c.pop.ensures.items
    (c.pop.ensures.variant.1 (omega (arith, deep_filled c.args.depth c.as_slice.result.now deep, c.as_slice.ensures.len)))
    (subst (λ l. c.args.depth < top (reverse l)) c.as_slice.ensures.value deep) in (
      suc n,
      c.in_ok-push_empty.ensures ∙ ap (λ l. l ++ t ∷ []) tokens ∙ append_assoc c.args.tokens.now (repeat n (t ∷ [])) (t ∷ []) ∙ ap (λ l. c.args.tokens.now ++ l) (repeat-last n t),
      omega (arith, left, one.left_is),
      kept ∙ one.kept_is,
    )
