use Rattle.std.proofs.Common.{arith, sym, subst, ◌≡◌, ℕ, List, [], None, Option}
use Rattle.std.proofs.lemmas.Result.{IfOk-weaker}
use Rattle.ato_base.specs.NameTable.{with_names}
use Rattle.ato_first.specs.FirstForm.{IsFile}
use Rattle.ato_first.specs.FirstTokens.{file_names, AreTokens}
use Rattle.ato_first.specs.declared.first_form.Block.{Block}
use Rattle.ato_first.proofs.FirstFormLemmas.{no_head_end, other_head}
use Rattle.ato_first.proofs.Reading.{bad_first, empty_text, none_mentioned, on_ok}
use Rattle.ato_first.proofs.lexing.lex.Goals as goal

pub returns-in_default-clause-refused : goal.returns-in_default-clause-refused
returns-in_default-clause-refused c = bad_first c.args.file c.args.text.now c.bad_line.result (omega arith) (no_head_end c.args.text.now c.in_default.ensures) c.bad_line.ensures

pub returns-in_default-head_of-clause-refused : goal.returns-in_default-head_of-clause-refused
returns-in_default-head_of-clause-refused c = bad_first c.args.file c.args.text.now c.bad_line-in_default-head_of.result (omega arith)
    (other_head c.args.text.now c.in-Some.line.now c.in-Some.rest.now c.in-Some.ensures.0 c.in-Some.ensures.1 c.in_default-head_of.ensures) c.bad_line-in_default-head_of.ensures

pub returns-then-text-eq0-clause-tokens : goal.returns-then-text-eq0-clause-tokens
returns-then-text-eq0-clause-tokens c =
    let none : c.args.text.now ≡ [] = empty_text c.args.text.now c.if-text-eq0.true in
    IfOk-weaker c.lex_nothing.result (λ tokens. (names : List (List ℕ)) → AreTokens [] c.args.file names tokens None)
    (λ tokens. (block : Option Block) × AreTokens c.args.text.now c.args.file c.args.names.now tokens block)
    (λ tokens are. (None, subst (λ bytes. AreTokens bytes c.args.file c.args.names.now tokens None) (sym none) (are c.args.names.now)))
    c.lex_nothing.ensures.tokens

pub returns-then-text-eq0-clause-mentioned : goal.returns-then-text-eq0-clause-mentioned
returns-then-text-eq0-clause-mentioned c =
    on_ok ((block : Option Block) → IsFile c.args.text.now block → c.args.names.now ≡ with_names c.args.names.now (file_names block)) c.lex_nothing.result
    (λ block is. none_mentioned c.args.names.now c.args.text.now block (empty_text c.args.text.now c.if-text-eq0.true) is)
