-- How the files of a project are loaded, one after another: what each one leads to, and its first fault.
use Rattle.std.specs.Prelude.{◌≡◌, ℕ, suc, true, false, ◌&&◌, List, [], ◌∷◌, ◌++◌, length, Option, Some, None, is_some, nat_lt, if◌then◌else◌, codes}
use Rattle.std.specs.Str.{bytes_eq}
use Rattle.ato_base.specs.NameTable.{with_name}
use Rattle.ato_base.specs.declared.places.FileId.{FileId}
use Rattle.ato_base.specs.declared.places.Place.{Place}
use Rattle.ato_base.specs.declared.places.Place.TheVariants as places
use Rattle.ato_base.specs.declared.tokens.Token.{Token}
use Rattle.ato_base.specs.declared.faults.Fault.{Fault}
use Rattle.ato_base.specs.declared.faults.FaultKind.{FaultKind}
use Rattle.ato_base.specs.declared.faults.FaultKind.TheVariants as kinds
use Rattle.ato_base.specs.declared.faults.Refusal.TheVariants as refusals
use Rattle.ato_ast.specs.declared.names.Quoted.{Quoted}
use Rattle.ato_lexer.specs.Tokens as lexer
use Rattle.ato_parser.specs.Faults as parser
use Rattle.ato_words.specs.PlainNames.{is_plain}
use Rattle.ato_files.specs.declared.program.SourceFile.{SourceFile}
use Rattle.ato_files.specs.declared.program.Source.{Source}
use Rattle.ato_files.specs.Lists.{text_at}
use Rattle.ato_files.specs.Library.{library_names, library_tokens, library_text}
use Rattle.ato_files.specs.Files.{mentions, known, next_name}
use Rattle.ato_files.specs.Faults.{fault}

-- what a shelf holds under each name
abbrev pub Held : Type 0
Held = List ℕ → Option (List ℕ)

-- how many files a project may have, the library not counted
abbrev pub most_files : ℕ
most_files = 256

-- how many bytes a file may have
abbrev pub most_bytes : ℕ
most_bytes = 262144

-- The files that are loaded so far, the library and those behind it, and the table of names then.
pub record Loaded : Type 0 where
  pub names : List (List ℕ)
  pub library : SourceFile
  pub files : List SourceFile

-- all files, by their numbers
abbrev pub all_files : Loaded → List SourceFile
all_files l = l.library ∷ l.files

-- the number of the file that is loaded next
abbrev pub next_id : Loaded → FileId
next_id l = record { 0 = suc (length l.files) }

-- The library is loaded, and no other file.
pub record IsStart (l : Loaded) : Type 0 where
  pub names : l.names ≡ library_names
  pub name : l.library.name ≡ codes "<library>"
  pub bytes : l.library.bytes ≡ library_text
  pub tree : parser.IsTree library_tokens l.library.tree
  pub files : l.files ≡ []

-- ---- places of mentions

abbrev pub first_or : Option Place → Place → Place
first_or None other = other
first_or (Some at) other = at

-- where a name is first mentioned in a file
abbrev pub mention_in : List ℕ → List ℕ → List Quoted → Option Place
mention_in name bytes [] = None
mention_in name bytes (text ∷ more) = if bytes_eq (text_at bytes text.contents) name then Some (places.Source text.at) else mention_in name bytes more

-- where a name is first mentioned in these files; the entry's at word 1
abbrev pub first_mention : List ℕ → List SourceFile → Place
first_mention name [] = places.Word 1
first_mention name (file ∷ more) = first_or (mention_in name file.bytes (mentions file)) (first_mention name more)

-- a fault of the file of a name
abbrev pub file_fault : FaultKind → List ℕ → List SourceFile → Fault
file_fault kind name before = record { kind = kind; at = first_mention name before; other = None; path = [] }

-- the first mention with which more names are known than there may be files
abbrev pub overflow : ℕ → List ℕ → List (List ℕ) → List Quoted → Option Quoted
overflow most bytes names [] = None
overflow most bytes names (text ∷ more) =
    if nat_lt most (length (with_name names (text_at bytes text.contents))) then Some text
    else overflow most bytes (with_name names (text_at bytes text.contents)) more

-- ---- what is found at the next name

-- The shelf's files and the name of the entry.
module _ (held : Held) (entry : List ℕ) where
  -- The next name has a file: it is plain, and the shelf holds these bytes, not too many.
  pub record IsRead (l : Loaded) (name bytes : List ℕ) : Type 0 where
    pub next : next_name entry l.files ≡ Some name
    pub plain : is_plain name ≡ true
    pub holds : held name ≡ Some bytes
    pub short : nat_lt most_bytes (length bytes) ≡ false

  -- The bytes of the next file are these tokens, with the names of the table behind them.
  pub record AreNext (l : Loaded) (name bytes : List ℕ) (names : List (List ℕ)) (tokens : List Token) : Type 0 where
    pub read : IsRead l name bytes
    pub lexed : lexer.AreTokens bytes (next_id l) l.names names tokens

  -- The tokens of the next file are its tree.
  pub record IsNextFile (l : Loaded) (names : List (List ℕ)) (tokens : List Token) (file : SourceFile) : Type 0 where
    pub are : AreNext l file.name file.bytes names tokens
    pub tree : parser.IsTree tokens file.tree

  -- The next file is loaded without a fault.
  pub record LeadsOn (l m : Loaded) : Type 0 where
    pub tokens : List Token
    pub file : SourceFile
    pub next : IsNextFile l m.names tokens file
    pub few : overflow most_files file.bytes (known entry l.files) (mentions file) ≡ None
    pub library : m.library ≡ l.library
    pub files : m.files ≡ l.files ++ file ∷ []

  -- The first fault of the next file.
  pub data FileFault (l : Loaded) : Fault → Type 0 where
    missing : {name : List ℕ} → next_name entry l.files ≡ Some name → (is_plain name && is_some (held name)) ≡ false → FileFault l (file_fault kinds.FileMissing name l.files)
    too_long : {name bytes : List ℕ} → next_name entry l.files ≡ Some name → is_plain name ≡ true → held name ≡ Some bytes → nat_lt most_bytes (length bytes) ≡ true
        → FileFault l (file_fault kinds.FileTooLong name l.files)
    no_tokens : {name bytes : List ℕ} {f : Fault} → IsRead l name bytes → lexer.IsRefused bytes (next_id l) (refusals.Fault f) → FileFault l f
    no_tree : {name bytes : List ℕ} {names : List (List ℕ)} {tokens : List Token} {f : Fault} → AreNext l name bytes names tokens → parser.IsFault tokens f → FileFault l f
    too_many : {names : List (List ℕ)} {tokens : List Token} {file : SourceFile} {at : Quoted} → IsNextFile l names tokens file
        → overflow most_files file.bytes (known entry l.files) (mentions file) ≡ Some at → FileFault l (fault kinds.TooManyFiles at.at)

  -- ---- the files that are read

  abbrev pub source_of : SourceFile → Source
  source_of file = record { name = file.name; bytes = file.bytes }

  abbrev pub with_bytes : List ℕ → Option (List ℕ) → List Source
  with_bytes name None = []
  with_bytes name (Some bytes) = if nat_lt most_bytes (length bytes) then [] else record { name = name; bytes = bytes } ∷ []

  -- the file of a name, where it is plain, on the shelf and not too long
  abbrev pub readable : Option (List ℕ) → List Source
  readable None = []
  readable (Some name) = if is_plain name then with_bytes name (held name) else []
