-- What is known of a project while its files are loaded. Only private functions have clauses in these words.
use Rattle.std.specs.Prelude.{◌≡◌, ℕ, List, [], fold, map, Option, Some, None, IsUtf8}
use Rattle.std.specs.List.{flat_map}
use Rattle.ato_base.specs.NameTable.{with_name}
use Rattle.ato_base.specs.declared.places.FileId.{FileId}
use Rattle.ato_base.specs.declared.tokens.Token.{Token}
use Rattle.ato_base.specs.declared.faults.Fault.{Fault}
use Rattle.ato_base.specs.declared.faults.FaultKind.TheVariants as kinds
use Rattle.ato_base.specs.declared.faults.Refusal.{Refusal}
use Rattle.ato_base.specs.declared.faults.Refusal.TheVariants as refusals
use Rattle.ato_ast.specs.declared.blocks.File.{File}
use Rattle.ato_ast.specs.declared.names.Quoted.{Quoted}
use Rattle.ato_lexer.specs.Tokens as lexer
use Rattle.ato_parser.specs.Faults as parser
use Rattle.ato_files.specs.declared.program.SourceFile.{SourceFile}
use Rattle.ato_files.specs.Files.{item_heads, head_mention}
use Rattle.ato_files.specs.Faults.{fault}
use Rattle.ato_files.specs.Lists.{text_at}
use Rattle.ato_files.specs.Loading.{Loaded, most_files, overflow}

-- the library and its names alone
abbrev pub started : List (List ℕ) → SourceFile → Loaded
started names library = record { names = names; library = library; files = [] }

-- The bytes of a file have tokens, and these have the tree.
pub record HasTree (bytes : List ℕ) (file : FileId) (old new : List (List ℕ)) (tree : File) : Type 0 where
  pub tokens : List Token
  pub lexed : lexer.AreTokens bytes file old new tokens
  pub parsed : parser.IsTree tokens tree

-- The bytes of a file have no tokens, or tokens without a tree.
pub data HasNone (bytes : List ℕ) (file : FileId) (old : List (List ℕ)) : Fault → Type 0 where
  no_tokens : {f : Fault} → lexer.IsRefused bytes file (refusals.Fault f) → HasNone bytes file old f
  no_tree : {new : List (List ℕ)} {tokens : List Token} {f : Fault} → lexer.AreTokens bytes file old new tokens → parser.IsFault tokens f → HasNone bytes file old f

-- why there is no tree: want of memory, or the first fault
abbrev pub IsUnreadable : List ℕ → FileId → List (List ℕ) → Refusal → Type 0
IsUnreadable bytes file old refusals.NoMemory = Unit {0}
IsUnreadable bytes file old (refusals.Fault f) = HasNone bytes file old f

-- ---- mentions

-- the strings of a tree's imports, in written order
abbrev pub tree_mentions : File → List Quoted
tree_mentions tree = flat_map head_mention (flat_map item_heads tree.items)

-- The contents of the string are a text.
abbrev pub HasText : List ℕ → Quoted → Type 0
HasText bytes text = IsUtf8 (text_at bytes text.contents)

-- the names that are known after these strings
abbrev pub known_then : List ℕ → List (List ℕ) → List Quoted → List (List ℕ)
known_then bytes names texts = fold with_name names (map (λ (text : Quoted). text_at bytes text.contents) texts)

-- The files of all the strings are known and there are not too many, or this is the first string with which there are.
abbrev pub Notes : List (List ℕ) → List (List ℕ) → List ℕ → List Quoted → Option Quoted → Type 0
Notes old new bytes texts None = (overflow most_files bytes old texts ≡ None) × (new ≡ known_then bytes old texts)
Notes old new bytes texts (Some text) = overflow most_files bytes old texts ≡ Some text

-- why the strings are not all noted: want of memory, or the first string with which too many files are known
abbrev pub IsTooMany : List ℕ → List (List ℕ) → List Quoted → Refusal → Type 0
IsTooMany bytes names texts refusals.NoMemory = Unit {0}
IsTooMany bytes names texts (refusals.Fault f) = (text : Quoted) × (overflow most_files bytes names texts ≡ Some text) × (f ≡ fault kinds.TooManyFiles text.at)

-- The bytes of a file have this tree, and the files that it mentions are known, not too many.
pub record HasNext (bytes : List ℕ) (file : FileId) (old new : List (List ℕ)) (before after : List (List ℕ)) (tree : File) : Type 0 where
  pub has : HasTree bytes file old new tree
  pub few : overflow most_files bytes before (tree_mentions tree) ≡ None
  pub known : after ≡ known_then bytes before (tree_mentions tree)

-- The bytes of a file have no tree, or it mentions too many files.
pub data HasNoNext (bytes : List ℕ) (file : FileId) (old : List (List ℕ)) (before : List (List ℕ)) : Fault → Type 0 where
  has_none : {f : Fault} → HasNone bytes file old f → HasNoNext bytes file old before f
  has_many : {new : List (List ℕ)} {tree : File} {text : Quoted} → HasTree bytes file old new tree → overflow most_files bytes before (tree_mentions tree) ≡ Some text
      → HasNoNext bytes file old before (fault kinds.TooManyFiles text.at)

-- why there is no next file: want of memory, or its first fault
abbrev pub IsStopped : List ℕ → FileId → List (List ℕ) → List (List ℕ) → Refusal → Type 0
IsStopped bytes file old before refusals.NoMemory = Unit {0}
IsStopped bytes file old before (refusals.Fault f) = HasNoNext bytes file old before f
