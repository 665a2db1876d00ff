use Rattle.std.proofs.Common.{reverse, ap, ◌∙◌, subst, sym}
use Rattle.std.specs.Prelude.{◌++◌, ◌≡◌, ◌≤◌, ◌∷◌, []}
use Rattle.std.specs.List.{repeat}
use Rattle.ato_base.specs.declared.tokens.TokenKind.TheVariants as kinds
use Rattle.ato_lexer.specs.Layout.{top, left, is_open}
use Rattle.ato_lexer.specs.Puts.{Puts}
use Rattle.ato_lexer.specs.Tokens.{token_at}
use Rattle.ato_lexer.proofs.LevelPuts.{left_steps, dedents_put}
use Rattle.ato_lexer.proofs.putting.begin_line.Goals as goal

pub returns-clause-puts : goal.returns-clause-puts
returns-clause-puts c first names start end =
    let levels = reverse c.args.levels.now.items in
    let deep = subst (λ n. c.args.depth ≤ n) (c.top_of.ensures ∙ ap (λ l. top (reverse l)) c.as_slice.ensures.value) c.if-top_of-depth.false in
    let open_now = sym (c.is_open.ensures ∙ ap (λ l. is_open c.args.depth (reverse l)) c.as_slice-2.ensures.value) in
    let put = dedents_put c.args.at.file names c.args.tokens.now c.leave.new.tokens (left c.args.depth levels) first.start
    (subst (λ n. c.leave.new.tokens ≡ c.args.tokens.now ++ repeat (left c.args.depth levels) (token_at c.args.at.file n n kinds.Dedent ∷ [])) (sym start) c.in_ok-leave.ensures.tokens) in
    subst (λ is. Puts c.args.at.file names names c.args.tokens.now c.leave.new.tokens is) (sym (left_steps c.args.depth first levels deep (open_now ∙ c.if-not-is_open.false))) put
