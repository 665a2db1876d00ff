-- What is held of the strings and the parts of a tree. Only private functions have clauses in these words.
use Rattle.std.specs.Prelude.{◌≡◌, ℕ, ◌&&◌, ◌==◌, List, Option}
use Rattle.std.specs.List.{AllZip}
use Rattle.std.specs.Option.{option_map}
use Rattle.std.specs.Str.{bytes_eq}
use Rattle.indexmap.specs.IndexMap.{get_by}
use Rattle.ato_files.specs.declared.program.Program.{Program}
use Rattle.ato_links.specs.Parts.{has_kind, parts, text_at}
use Rattle.ato_netlists.specs.declared.parts.Part.{Part}
use Rattle.ato_netlists.specs.declared.strings.Strings.{Strings}
use Rattle.ato_netlists.specs.Known.{IsAt}

-- the string that is held for a name of an instance, both by the instance's number and the name's text
unfoldable pub held : Strings → ℕ → List ℕ → Option (List ℕ)
held strings instance word = option_map (λ text. text.now) (get_by (λ key. (instance == key.0) && bytes_eq word key.1.now) strings.texts)

-- The strings that are held for a name of an instance are those that count.
pub record AreStrings (program : Program) (entry : ℕ) (strings : Strings) : Type 0 where
  pub each : (number : ℕ) (path word : List ℕ) → IsAt program entry number path
      → held strings number word ≡ text_at program.files entry program.names word path

-- A part is the instance at a path, and a slot where a string counts for `kind`.
pub record IsPart (program : Program) (entry : ℕ) (path : List ℕ) (p : Part) : Type 0 where
  pub at : IsAt program entry p.node path
  pub slot : p.slot ≡ has_kind program.files entry program.names path

-- The parts are those of the project, in tree order.
abbrev pub AreParts : Program → ℕ → List Part → Type 0
AreParts program entry ps = AllZip (IsPart program entry) (parts program.files entry program.names) ps
