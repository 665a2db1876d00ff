-- Why a file has no tree, from why it has no tokens or why these have no tree.
use Rattle.std.proofs.Common.{sym, subst}
use Rattle.std.specs.Prelude.{ℕ, List, Result, IfErr, Ok, Err}
use Rattle.ato_base.specs.declared.places.FileId.{FileId}
use Rattle.ato_base.specs.declared.tokens.Token.{Token}
use Rattle.ato_base.specs.declared.faults.Refusal.{Refusal}
use Rattle.ato_base.specs.declared.faults.Refusal.TheVariants as refusals
use Rattle.ato_ast.specs.declared.blocks.File.{File}
use Rattle.ato_lexer.specs.Tokens as lexer
use Rattle.ato_parser.specs.Faults as parser
use Rattle.ato_files.specs.Walks.{HasTree, IsUnreadable, no_tokens, no_tree, tree_mentions, IsTooMany, HasNoNext, has_none, has_many, IsStopped}

pub not_lexed : (bytes : List ℕ) (file : FileId) (old : List (List ℕ)) (r : Refusal) → lexer.IsRefused bytes file r → IsUnreadable bytes file old r
not_lexed bytes file old refusals.NoMemory refused = tt
not_lexed bytes file old (refusals.Fault f) refused = no_tokens refused

not_parsed : (bytes : List ℕ) (file : FileId) (old new : List (List ℕ)) (tokens : List Token) (r : Refusal) → lexer.AreTokens bytes file old new tokens
    → parser.IsRefused tokens r → IsUnreadable bytes file old r
not_parsed bytes file old new tokens refusals.NoMemory are refused = tt
not_parsed bytes file old new tokens (refusals.Fault f) are refused = no_tree are refused

pub parsed_or_not : (bytes : List ℕ) (file : FileId) (old new : List (List ℕ)) (tokens : List Token) (r : Result File Refusal) → lexer.AreTokens bytes file old new tokens
    → IfErr r (parser.IsRefused tokens) → IfErr r (IsUnreadable bytes file old)
parsed_or_not bytes file old new tokens (Ok tree) are refused = tt
parsed_or_not bytes file old new tokens (Err r) are refused = not_parsed bytes file old new tokens r are refused

-- ---- why there is no next file

pub not_read : (bytes : List ℕ) (file : FileId) (old before : List (List ℕ)) (r : Refusal) → IsUnreadable bytes file old r → IsStopped bytes file old before r
not_read bytes file old before refusals.NoMemory none = tt
not_read bytes file old before (refusals.Fault f) none = has_none none

pub not_noted : (bytes : List ℕ) (file : FileId) (old new before : List (List ℕ)) (tree : File) (r : Refusal) → HasTree bytes file old new tree → IsTooMany bytes before (tree_mentions tree) r
    → IsStopped bytes file old before r
not_noted bytes file old new before tree refusals.NoMemory has many = tt
not_noted bytes file old new before tree (refusals.Fault f) has many = subst (HasNoNext bytes file old before) (sym many.2) (has_many has many.1)
