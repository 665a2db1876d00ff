-- The library's text has its tokens.
use Rattle.std.proofs.Common.{◌≡◌, List, ℕ, [], ◌∷◌, None, codes, refl}
use Rattle.ato_base.specs.declared.places.FileId.{FileId}
use Rattle.ato_lexer.specs.Tokens.{AreTokens, first_fault, names_in, tokens_of}
use Rattle.ato_lexer.proofs.Computing.{on_literals}
use Rattle.ato_base.specs.NameTable.{with_names}
use Rattle.ato_files.specs.Library.{library_names, library_tokens, library_text}

abbrev library_file : FileId
library_file = record { 0 = 0 }

no_fault : first_fault library_file library_text ≡ None
unfolding on_literals library_text
no_fault = refl

-- the names that each table begins with
abbrev pub first_names : List (List ℕ)
first_names = codes "abs" ∷ codes "max" ∷ codes "min" ∷ []

names : library_names ≡ with_names first_names (names_in library_text)
unfolding on_literals library_text library_names
names = refl

tokens : library_tokens ≡ tokens_of library_names library_file library_text
unfolding on_literals library_text library_names library_tokens
tokens = refl

pub library_lexed : AreTokens library_text library_file first_names library_names library_tokens
library_lexed = record { no_fault = no_fault; names_are = names; tokens_are = tokens }
