-- The printed texts, as functions of what is printed and of the bytes that it lies in.
use Rattle.std.specs.Prelude.{ℕ, ◌+◌, ◌≤◌, Bool, ◌||◌, not, ◌==◌, nat_lt, nat_le, List, [], ◌∷◌, ◌++◌, map, Option, Some, None, length, take, reverse, take_while, count_by, codes, string_bytes}
use Rattle.std.specs.Fmt.{decimal}
use Rattle.std.specs.List.{join_with_byte}
use Rattle.ato_base.specs.Faults.{kind_number, kind_name}
use Rattle.ato_base.specs.declared.faults.Fault.{Fault}
use Rattle.ato_base.specs.declared.name_table.Name.{Name}
use Rattle.ato_base.specs.declared.nets.NetList.{NetList}
use Rattle.ato_base.specs.declared.places.FileId.{FileId}
use Rattle.ato_base.specs.declared.places.Place.{Place}
use Rattle.ato_base.specs.declared.places.Place.TheVariants as places
use Rattle.ato_words.specs.declared.words.Task.{Task}
use Rattle.ato_build.specs.Found.{bytes_of}
use Rattle.ato_build.specs.Input.{Input}
use Rattle.ato_build.specs.Projects.{project_of}
use Rattle.ato_build.specs.declared.project.Project.{Project}
use Rattle.ato_build.specs.declared.answer.Said.{Said}
use Rattle.ato_build.specs.declared.answer.Said.TheVariants as said

-- the line of a byte, from 1: the line ends before it are counted
abbrev pub line_at : List ℕ → ℕ → ℕ
line_at source at = count_by (λ b. b == 10) (take at source) + 1

-- A byte that begins a character in UTF-8.
abbrev pub begins_char : ℕ → Bool
begins_char b = nat_lt b 128 || nat_le 192 b

-- the column of a byte, from 1: the characters between it and the line end before it are counted
abbrev pub column_at : List ℕ → ℕ → ℕ
column_at source at = count_by begins_char (take_while (λ b. not (b == 10)) (reverse (take at source))) + 1

-- two numbers behind a file's name
unfoldable pub place_in_text : List ℕ → ℕ → ℕ → List ℕ
place_in_text file row column = file ++ (codes ":" ++ (decimal row ++ (codes ":" ++ decimal column)))

unfoldable pub word_text : ℕ → List ℕ
word_text word = codes "word " ++ decimal word

-- a source file: its name, and its bytes as far as it was read
pub record SourceFile : Type 0 where
  pub name : List ℕ
  pub bytes : List ℕ

-- the files in which faults may stand: the source files by their numbers, and the catalogue's name; and the names by their numbers
pub record FaultFiles : Type 0 where
  pub source : FileId → SourceFile
  pub catalogue : List ℕ
  pub name : Name → List ℕ

-- the files of a project, whose one source file is the entry. No fault has a path yet, so no name is looked up
abbrev pub files_with : Project → List ℕ → FaultFiles
files_with project source = record { source = λ file. record { name = project.file; bytes = source }; catalogue = project.catalogue; name = λ name. [] }

-- a place in a source file
abbrev pub source_text : SourceFile → ℕ → List ℕ
source_text file at = place_in_text file.name (line_at file.bytes at) (column_at file.bytes at)

-- a place: in a source file, in the catalogue, or at a word
abbrev pub place_text : FaultFiles → Place → List ℕ
place_text files (places.Source span) = source_text (files.source span.file) span.start
place_text files (places.Cell row column) = place_in_text files.catalogue row column
place_text files (places.Word word) = word_text word

-- the path of the instance in which a fault stands, where it has one
abbrev pub in_text : FaultFiles → List Name → List ℕ
in_text files [] = []
in_text files (name ∷ path) = codes " in " ++ join_with_byte 46 (map files.name (name ∷ path))

-- a second place, where there is one
unfoldable pub also_text : FaultFiles → Option Place → List ℕ
also_text files None = []
also_text files (Some place) = codes " also " ++ place_text files place

-- the line of a fault
unfoldable pub fault_text : FaultFiles → Fault → List ℕ
fault_text files f =
    codes "fault F"
    ++ (decimal (kind_number f.kind)
    ++ (codes " " ++ (kind_name f.kind ++ (codes " " ++ (place_text files f.at ++ (in_text files f.path ++ (also_text files f.other ++ codes "\n")))))))

-- the line of a fault that stands in the input of a task
abbrev pub fault_line : Task → Input → Fault → List ℕ
fault_line task input f = fault_text (files_with (project_of task) (bytes_of input.entry)) f

-- what is printed of a verdict: how many nets and parts the net list has
unfoldable pub verdict_text : List ℕ → NetList → List ℕ
verdict_text verdict list =
    codes "result " ++ (verdict ++ (codes "\nnets " ++ (decimal (length list.nets) ++ (codes "\nparts " ++ (decimal (length list.comps) ++ codes "\n")))))

-- how many slots, variables and checks there are, how many ranges were given, and how many nodes the certificate has. Each slot has
-- one variable and one check.
unfoldable pub problem_text : ℕ → ℕ → List ℕ
problem_text slots nodes =
    codes "slots " ++ (decimal slots ++ (codes "\nvariables " ++ (decimal slots ++ (codes "\nchecks " ++ (decimal slots ++ (codes "\ngiven 0\nnodes " ++ (decimal nodes ++ codes "\n")))))))

-- the summary of what was decided
unfoldable pub summary_text : List ℕ → NetList → ℕ → ℕ → List ℕ
summary_text verdict list slots nodes = verdict_text verdict list ++ problem_text slots nodes

unfoldable pub read_fault_text : List ℕ → List ℕ
read_fault_text file = codes "read fault " ++ (file ++ codes "\n")

abbrev pub write_fault_text : List ℕ → List ℕ
write_fault_text file = codes "write fault " ++ (file ++ codes "\n")

abbrev pub memory_text : List ℕ
memory_text = codes "out of memory\n"

abbrev pub usage_text : List ℕ
usage_text = codes "usage: ato build ENTRY CATALOGUE [--steps N] [--out NAME]\n       ato check ENTRY CATALOGUE CERT\n"

-- a certificate that is valid, with its verdict
unfoldable pub accepted_text : List ℕ → List ℕ
accepted_text verdict = codes "accepted " ++ (verdict ++ codes "\n")

-- a certificate that is none, or is not valid, with a line of it
unfoldable pub rejected_text : ℕ → List ℕ
rejected_text line = codes "rejected line " ++ (decimal line ++ codes "\n")

-- what is printed
abbrev pub said_text : Said → List ℕ
said_text (said.Text text) = string_bytes text
said_text said.OutOfMemory = memory_text
said_text (said.WriteFault file) = write_fault_text file

-- The place lies in the source.
abbrev pub LiesWithin : List ℕ → Place → Type 0
LiesWithin source (places.Source span) = span.start ≤ length source
LiesWithin source (places.Cell row column) = Unit {0}
LiesWithin source (places.Word word) = Unit {0}
