-- The library has a tree, and its names no fault.
use Rattle.std.proofs.Common.{◌≡◌, [], Bool, true, false, Result, Ok, Err, refl, ap, ◌∙◌, None}
use Rattle.std.specs.Prelude.{codes}
use Rattle.ato_ast.specs.declared.blocks.File.{File}
use Rattle.ato_parser.specs.Tokens.{EndsOnce}
use Rattle.ato_parser.specs.Kinds.{same_mark, same_keyword}
use Rattle.ato_parser.specs.Input.{turns, many, endings, ended}
use Rattle.ato_parser.specs.Reading.{name, text, path, measured, quantity, tolerance, literal, group, absolute, chosen, named_atom, atom, power, product, sum_over, sum, label, point, connected, value, compare, declared_point, assigned, behind_path, assertion, stmt}
use Rattle.ato_parser.specs.Faults.{deepest, IsTree}
use Rattle.ato_parser.specs.FileReading.{line, more_names, names, imported, from_file, head, stmts_line, indented, body, block, item, file, whole}
use Rattle.ato_parser.proofs.EndLaws.{ends_are}
use Rattle.ato_parser.proofs.WholeLaws.{whole_tree}
use Rattle.ato_files.specs.Library.{library_names, library_tokens, library_text}
use Rattle.ato_files.specs.declared.program.SourceFile.{SourceFile}
use Rattle.ato_files.specs.Loading.{Loaded, all_files, IsStart}
use Rattle.ato_files.specs.NameFaults.{name_fault}
use Rattle.ato_files.proofs.StageLaws.{one_start}

abbrev pub is_file : {A B : Type 0} → Result A B → Bool
is_file (Ok f) = true
is_file (Err e) = false

-- what has to unfold so that the tree of the library computes
unfoldable pub on_library : Unit {0}
unfolding library_tokens same_mark same_keyword turns many endings ended name text path measured quantity tolerance literal group absolute chosen named_atom atom power product sum_over sum label point connected value compare declared_point assigned behind_path assertion stmt line more_names names imported from_file head stmts_line indented body block item file whole
on_library = tt

pub library_is_read : is_file (whole deepest library_tokens) ≡ true
unfolding on_library
library_is_read = refl

pub library_ends : EndsOnce library_tokens
unfolding library_tokens
library_ends = ends_are library_tokens refl

-- what is read, or an empty file
abbrev pub tree_of : {E : Type 0} → Result File E → File
tree_of (Ok f) = f
tree_of (Err e) = record { items = [] }

pub given : {E : Type 0} (P : File → Type 0) (r : Result File E) → is_file r ≡ true → ((f : File) → r ≡ Ok f → P f) → P (tree_of r)
given P (Ok f) is keep = keep f refl
given P (Err e) is keep = cc

-- the file that is the library
abbrev pub the_library : SourceFile
the_library = record { name = codes "<library>"; bytes = library_text; tree = tree_of (whole deepest library_tokens) }

pub is_library_tree : IsTree library_tokens the_library.tree
is_library_tree = given (IsTree library_tokens) (whole deepest library_tokens) library_is_read (λ f read. whole_tree deepest f library_tokens library_ends read)

pub library_tree : (f : File) × IsTree library_tokens f
library_tree = (the_library.tree, is_library_tree)

-- ---- the start

abbrev pub start : Loaded
start = record { names = library_names; library = the_library; files = [] }

pub is_start : IsStart start
is_start = record { names = refl; name = refl; bytes = refl; tree = is_library_tree; files = refl }

pub has_start : (l : Loaded) × IsStart l
has_start = (start, is_start)

sound_library : name_fault (all_files start) ≡ None
unfolding on_library
sound_library = refl

pub start_is_sound : (l : Loaded) → IsStart l → name_fault (all_files l) ≡ None
start_is_sound l is = ap (λ (m : Loaded). name_fault (all_files m)) (one_start l start is is_start) ∙ sound_library
