-- Worked projects from their texts: a fault that stands, and a program.
use Rattle.std.proofs.Common.{true≢false, false, sym, ap, ◌∙◌, inl, inr, ◌≡◌, ◌++◌, ℕ, List, [], ◌∷◌, true, Some, None, codes, refl}
use Rattle.std.specs.Prelude.{if◌then◌else◌, map, length, nat_lt}
use Rattle.std.specs.Str.{bytes_eq}
use Rattle.ato_base.specs.NameTable.{with_names}
use Rattle.ato_base.specs.Stages.{arrived, onward}
use Rattle.ato_base.specs.declared.tokens.Token.{Token}
use Rattle.std.specs.Option.{option_map}
use Rattle.ato_base.specs.declared.faults.Fault.{Fault}
use Rattle.ato_ast.specs.declared.blocks.File.{File}
use Rattle.ato_base.specs.declared.faults.FaultKind.TheVariants as kinds
use Rattle.ato_lexer.specs.Tokens.{first_fault, names_in, tokens_of}
use Rattle.ato_lexer.proofs.Computing.{on_literals}
use Rattle.ato_parser.specs.Faults.{deepest, IsTree, IsFault}
use Rattle.ato_parser.specs.FileReading.{whole}
use Rattle.ato_parser.proofs.EndLaws.{ends, ends_are}
use Rattle.ato_parser.proofs.WholeLaws.{whole_tree, tree_whole}
use Rattle.ato_parser.proofs.FaultLaws.{has_one}
use Rattle.ato_files.specs.declared.program.Source.{Source}
use Rattle.ato_files.specs.declared.program.SourceFile.{SourceFile}
use Rattle.ato_files.specs.declared.program.Program.{Program}
use Rattle.ato_files.specs.Library.{library_names, library_text}
use Rattle.ato_files.proofs.Written.{span}
use Rattle.ato_files.specs.Blocks.{block_of}
use Rattle.ato_files.specs.Files.{known, mentions, name_of}
use Rattle.ato_files.specs.Loading.{Held, Loaded, all_files, most_files, next_id, overflow, most_bytes, IsRead, AreNext, LeadsOn, missing, no_tokens, no_tree}
use Rattle.ato_files.specs.Faults.{fault}
use Rattle.ato_files.specs.Lineages.{lineage}
use Rattle.ato_files.specs.NameFaults.{name_fault}
use Rattle.ato_files.specs.Programs.{Loading, Named, Has, of_a_file, IsReached, Stands, IsWhole, IsProgram, found_block}
use Rattle.ato_files.proofs.LibraryLaws.{on_library, is_file, tree_of, given, start, is_start}
use Rattle.ato_files.proofs.BlockLaws.{has_blocks}

-- ---- one more file, worked out

abbrev names_after : Loaded → List ℕ → List (List ℕ)
names_after l bytes = with_names l.names (names_in bytes)

abbrev tokens_after : Loaded → List ℕ → List Token
tokens_after l bytes = tokens_of (names_after l bytes) (next_id l) bytes

abbrev file_after : Loaded → List ℕ → List ℕ → SourceFile
file_after l name bytes = record { name = name; bytes = bytes; tree = tree_of (whole deepest (tokens_after l bytes)) }

abbrev with_file : Loaded → List ℕ → List ℕ → Loaded
with_file l name bytes = record { names = names_after l bytes; library = l.library; files = l.files ++ file_after l name bytes ∷ [] }

tree_is : (tokens : List Token) → ends tokens ≡ true → is_file (whole deepest tokens) ≡ true → IsTree tokens (tree_of (whole deepest tokens))
tree_is tokens e is = given (IsTree tokens) (whole deepest tokens) is (λ f read. whole_tree deepest f tokens (ends_are tokens e) read)

-- What has to be worked out of the next file's text.
record IsGood (held : Held) (entry : List ℕ) (l : Loaded) (name bytes : List ℕ) : Type 0 where
  read : IsRead held entry l name bytes
  lexed : first_fault (next_id l) bytes ≡ None
  ended : ends (tokens_after l bytes) ≡ true
  parsed : is_file (whole deepest (tokens_after l bytes)) ≡ true
  few : overflow most_files bytes (known entry l.files) (mentions (file_after l name bytes)) ≡ None

leads : {held : Held} {entry : List ℕ} {l : Loaded} {name bytes : List ℕ} → IsGood held entry l name bytes → LeadsOn held entry l (with_file l name bytes)
leads {l = l} {name = name} {bytes = bytes} good = record {
  tokens = tokens_after l bytes;
  file = file_after l name bytes;
  next = record {
    are = record { read = good.read; lexed = record { no_fault = good.lexed; names_are = refl; tokens_are = refl } };
    tree = tree_is (tokens_after l bytes) good.ended good.parsed;
  };
  few = good.few;
  library = refl;
  files = refl;
}

abbrev entry : List ℕ
entry = codes "main.ato"

abbrev library_source : Source
library_source = record { name = codes "<library>"; bytes = library_text }

-- ---- a file that is not there

abbrev lone_text : List ℕ
lone_text = codes "from \"nope.ato\" import X\n"

abbrev lone_shelf : Held
lone_shelf name = if bytes_eq name entry then Some lone_text else None

lone_good : IsGood lone_shelf entry start entry lone_text
unfolding on_literals on_library library_names
lone_good = record { read = record { next = refl; plain = refl; holds = refl; short = refl }; lexed = refl; ended = refl; parsed = refl; few = refl }

lone_has : Has lone_shelf entry (Loading (with_file start entry lone_text)) (record { fault = fault kinds.FileMissing (span 1 5 15); sources = library_source ∷ record { name = entry; bytes = lone_text } ∷ [] })
unfolding on_literals on_library library_names
lone_has = (of_a_file (missing {name = codes "nope.ato"} refl refl), refl)

pub lone_stands : Stands lone_shelf entry (record { fault = fault kinds.FileMissing (span 1 5 15); sources = library_source ∷ record { name = entry; bytes = lone_text } ∷ [] })
lone_stands = record {
  stage = Loading (with_file start entry lone_text);
  reached = onward {t = Loading start} is_start (onward {t = Loading (with_file start entry lone_text)} (leads lone_good) arrived);
  has = lone_has;
}

-- ---- a file of no tokens, and one of no tree: it is among those that are read

abbrev of_entry : List ℕ → Held
of_entry text name = if bytes_eq name entry then Some text else None

entry_is_read : (text : List ℕ) → nat_lt most_bytes (length text) ≡ false → IsRead (of_entry text) entry start entry text
entry_is_read text short = record { next = refl; plain = refl; holds = refl; short = short }

pub bad_text : Has (of_entry (codes "a ? b\n")) entry (Loading start) (record { fault = fault kinds.BadChar (span 1 2 3); sources = library_source ∷ record { name = entry; bytes = codes "a ? b\n" } ∷ [] })
unfolding on_literals
bad_text = (of_a_file (no_tokens {name = entry} {bytes = codes "a ? b\n"} (entry_is_read (codes "a ? b\n") refl) refl), refl)

abbrev bad_line : List ℕ
bad_line = codes "import A B\n"

abbrev bad_tokens : List Token
bad_tokens = tokens_after start bad_line

bad_next : AreNext (of_entry bad_line) entry start entry bad_line (names_after start bad_line) bad_tokens
unfolding on_literals library_names
bad_next = record { read = entry_is_read bad_line refl; lexed = record { no_fault = refl; names_are = refl; tokens_are = refl } }

no_file : is_file (whole deepest bad_tokens) ≡ false
unfolding on_literals on_library library_names
no_file = refl

bad_ends : ends bad_tokens ≡ true
unfolding on_literals library_names
bad_ends = refl

no_tree_of_it : (f : File) → IsTree bad_tokens f → ⊥
no_tree_of_it f tree = true≢false (sym (ap is_file (tree_whole deepest f bad_tokens tree)) ∙ no_file)

bad_has : (f : Fault) → IsFault bad_tokens f → Has (of_entry bad_line) entry (Loading start) (record { fault = f; sources = library_source ∷ record { name = entry; bytes = bad_line } ∷ [] })
bad_has f is = (of_a_file (no_tree {name = entry} {bytes = bad_line} {names = names_after start bad_line} {tokens = bad_tokens} bad_next is), refl)

pub bad_tree : (f : Fault) × Has (of_entry bad_line) entry (Loading start) (record { fault = f; sources = library_source ∷ record { name = entry; bytes = bad_line } ∷ [] })
bad_tree = elim (has_one bad_tokens (ends_are bad_tokens bad_ends)) [
  | inl t ↦ absurd (no_tree_of_it t.0 t.1)
  | inr f ↦ (f.0, bad_has f.0 f.1)
]

-- ---- two files that import each other

abbrev main_text : List ℕ
main_text = codes "import LED\nfrom \"b.ato\" import B\nmodule A from B:\n    d = new LED\n"

abbrev other_text : List ℕ
other_text = codes "from \"main.ato\" import A\nmodule B:\n    signal s\nmodule C from A:\n    pass\n"

abbrev shelf : Held
shelf name = if bytes_eq name entry then Some main_text else if bytes_eq name (codes "b.ato") then Some other_text else None

abbrev main_loaded : Loaded
main_loaded = with_file start entry main_text

abbrev both_loaded : Loaded
both_loaded = with_file main_loaded (codes "b.ato") other_text

main_good : IsGood shelf entry start entry main_text
unfolding on_literals on_library library_names
main_good = record { read = record { next = refl; plain = refl; holds = refl; short = refl }; lexed = refl; ended = refl; parsed = refl; few = refl }

other_good : IsGood shelf entry main_loaded (codes "b.ato") other_text
unfolding on_literals on_library library_names
other_good = record { read = record { next = refl; plain = refl; holds = refl; short = refl }; lexed = refl; ended = refl; parsed = refl; few = refl }

pub both_sound : name_fault (all_files both_loaded) ≡ None
unfolding on_literals on_library library_names
both_sound = refl

both_whole : IsWhole shelf entry both_loaded
unfolding on_literals on_library library_names
both_whole = record { last = refl; sound = both_sound }

both_reached : IsReached shelf entry (Named both_loaded)
both_reached = onward {t = Loading start} is_start (onward {t = Loading main_loaded} (leads main_good) (onward {t = Loading both_loaded} (leads other_good) (onward {t = Named both_loaded} (refl, both_whole) arrived)))

abbrev both : Program
both = record { names = both_loaded.names; files = all_files both_loaded; blocks = (has_blocks (all_files both_loaded) both_sound).0 }

pub both_program : IsProgram shelf entry both
both_program = record { loaded = both_loaded; reached = both_reached; names = refl; files = refl; blocks = (has_blocks (all_files both_loaded) both_sound).1 }

pub file_names : map name_of both.files ≡ codes "<library>" ∷ entry ∷ codes "b.ato" ∷ []
file_names = refl

-- `A`, `B`, `C` are the blocks behind the library's ten; a child stands behind its parents, whichever file they are in
pub found_a : found_block both 1 (codes "A") ≡ Some 10
unfolding on_literals on_library library_names
found_a = refl

pub found_b : found_block both 1 (codes "B") ≡ Some 11
unfolding on_literals on_library library_names
found_b = refl

pub found_led : found_block both 1 (codes "LED") ≡ Some 9
unfolding on_literals on_library library_names
found_led = refl

pub no_c : found_block both 1 (codes "C") ≡ None
unfolding on_literals on_library library_names
no_c = refl

pub lineage_of_c : lineage both.files 12 ≡ 11 ∷ 10 ∷ 12 ∷ []
unfolding on_literals on_library library_names
lineage_of_c = refl

-- `C` is the item 2 of file 2
pub place_of_c : option_map {U = ℕ × ℕ} (λ b. (b.file, b.item)) (block_of both.files 12) ≡ Some (2, 2)
unfolding on_literals on_library library_names
place_of_c = refl
