-- What is read of the library's text is the start of loading.
use Rattle.std.proofs.Common.{◌≡◌, ℕ, ◌<◌, ◌^◌, List, length, codes, refl, subst, arith}
use Rattle.ato_base.specs.declared.places.FileId.{FileId}
use Rattle.ato_base.specs.declared.faults.Fault.{Fault}
use Rattle.ato_ast.specs.declared.blocks.File.{File}
use Rattle.ato_lexer.specs.Tokens.{AreTokens}
use Rattle.ato_lexer.proofs.TokenLaws as lexing
use Rattle.ato_parser.specs.Faults.{IsTree, IsFault}
use Rattle.ato_parser.proofs.FaultLaws as parsing
use Rattle.ato_files.specs.Library.{library_names, library_tokens, library_text}
use Rattle.ato_files.specs.Loading.{IsStart}
use Rattle.ato_files.specs.Walks.{started, HasTree, HasNone, no_tokens, no_tree}
use Rattle.ato_files.proofs.LexedLibrary.{first_names, library_lexed}
use Rattle.ato_files.proofs.LibraryLaws.{library_tree}

abbrev pub library_file : FileId
library_file = record { 0 = 0 }

pub text_is_short : length library_text < 2 ^ 32
unfolding library_text
text_is_short = omega arith

pub library_sound : (bytes : List ℕ) (old : List (List ℕ)) (f : Fault) → bytes ≡ library_text → old ≡ first_names → HasNone bytes library_file old f → ⊥
library_sound bytes old f b o none = by (subst (λ ns. HasNone library_text library_file ns f) o (subst (λ bs. HasNone bs library_file old f) b none))
  where
    by : HasNone library_text library_file first_names f → ⊥
    by (no_tokens refused) = lexing.never_both library_text library_file first_names library_names library_tokens f library_lexed refused
    by (no_tree {new = new} {tokens = ts} are refused) =
        let same = lexing.one_list library_text library_file first_names library_names new library_tokens ts library_lexed are in
        parsing.never_both library_tokens library_tree.0 f library_tree.1 (subst (λ us. IsFault us f) same.1 refused)

pub library_started : (name bytes : List ℕ) (tree : File) (old new : List (List ℕ)) → name ≡ codes "<library>" → bytes ≡ library_text → old ≡ first_names
    → HasTree bytes library_file old new tree → IsStart (started new (record { name = name; bytes = bytes; tree = tree }))
library_started name bytes tree old new n b o has =
    let are : AreTokens library_text library_file first_names new has.tokens = subst (λ ns. AreTokens library_text library_file ns new has.tokens) o (subst (λ bs. AreTokens bs library_file old new has.tokens) b has.lexed) in
    let same = lexing.one_list library_text library_file first_names library_names new library_tokens has.tokens library_lexed are in
    record { names = same.0; name = n; bytes = b; tree = subst (λ ts. IsTree ts tree) same.1 has.parsed; files = refl }
