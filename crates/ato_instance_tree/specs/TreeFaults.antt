-- The faults of the tree, in tree order. The one that stands is the first.
use Rattle.std.specs.Prelude.{ℕ, Bool, true, false, ◌||◌, List, [], ◌∷◌, ◌++◌, length, sum_by, nat_lt, nat_eq, suc, filter, Option, Some, None, if◌then◌else◌, option_to_list, position}
use Rattle.std.specs.List.{flat_map, list_any}
use Rattle.std.specs.Option.{option_and_then}
use Rattle.std.specs.Str.{bytes_eq}
use Rattle.ato_base.specs.declared.name_table.Name.{Name}
use Rattle.ato_base.specs.declared.places.Place.{Place}
use Rattle.ato_base.specs.declared.places.Place.TheVariants as place
use Rattle.ato_base.specs.declared.faults.Fault.{Fault}
use Rattle.ato_base.specs.declared.faults.FaultKind.{FaultKind}
use Rattle.ato_base.specs.declared.faults.FaultKind.TheVariants as kinds
use Rattle.ato_ast.specs.declared.names.Named.{Named}
use Rattle.ato_files.specs.declared.program.SourceFile.{SourceFile}
use Rattle.ato_files.specs.Lists.{first_of_all}
use Rattle.ato_files.specs.Blocks.{own}
use Rattle.ato_files.specs.Lineages.{descends}
use Rattle.ato_files.specs.Members.{signal, instance, param}
use Rattle.ato_instance_tree.specs.Members.{Member, pin, named, members}
use Rattle.ato_instance_tree.specs.Walk.{walk, type_at, made, replacements}
use Rattle.ato_instance_tree.specs.Order.{instances, occs_at}

-- the names of a path from the root
abbrev pub shown : List ℕ → List Name
shown [] = []
shown (n ∷ path) = shown path ++ record { 0 = n } ∷ []

-- a fault in the instance at a path
abbrev pub fault_in : List ℕ → FaultKind → Place → Fault
fault_in path kind at = record { kind = kind; at = at; other = None; path = shown path }

-- Each replacement must name the type so far or a descendant of it.
abbrev pub not_special : List SourceFile → List ℕ → ℕ → List (ℕ × Named) → List Fault
not_special files path so_far [] = []
not_special files path so_far (r ∷ more) = (if descends files r.0 so_far then [] else fault_in path kinds.NotSpecial (place.Source r.1.at) ∷ [])
    ++ not_special files path r.0 more

-- the types of the instances at a path and around it
abbrev pub types_around : List SourceFile → ℕ → List ℕ → List ℕ
types_around files entry [] = entry ∷ []
types_around files entry (n ∷ path) = option_to_list (type_at files entry (n ∷ path)) ++ types_around files entry path

-- Signals, pins and parameters have no members.
abbrev pub is_leaf : Member → Bool
is_leaf (pin text) = true
is_leaf (named n signal) = true
is_leaf (named n param) = true
is_leaf (named n (instance type)) = false

-- how many nodes an instance has: itself and its signals, pins and parameters
abbrev pub own_nodes : List SourceFile → ℕ → List ℕ → ℕ
own_nodes files entry path = suc (length (filter is_leaf (members files (type_at files entry path))))

abbrev pub own_occs : List SourceFile → ℕ → List ℕ → ℕ
own_occs files entry path = length (occs_at files entry path)

-- how many nodes and occurrences a tree may have
pub record Limits : Type 0 where
  pub nodes : ℕ
  pub occurrences : ℕ

-- how many the trees of projects may have
abbrev pub most_in_tree : Limits
most_in_tree = record { nodes = 262144; occurrences = 1048576 }

-- These instances have more nodes or more occurrences than the limits.
abbrev pub too_large : List SourceFile → ℕ → Limits → List (List ℕ) → Bool
too_large files entry most paths = nat_lt most.nodes (sum_by (own_nodes files entry) paths) || nat_lt most.occurrences (sum_by (own_occs files entry) paths)

-- The type of the instance is that of one around it.
abbrev pub nest_faults : List SourceFile → ℕ → ℕ → List ℕ → Named → List Fault
nest_faults files entry name up new = flat_map (λ t. if list_any (nat_eq t) (types_around files entry up) then fault_in (name ∷ up) kinds.NestLoop (place.Source new.at) ∷ [] else [])
    (option_to_list (type_at files entry (name ∷ up)))

abbrev pub size_faults : List SourceFile → ℕ → Limits → List (List ℕ) → List ℕ → Place → List Fault
size_faults files entry most before path at = if too_large files entry most (before ++ path ∷ []) then fault_in path kinds.TreeTooLarge at ∷ [] else []

-- The faults at an instance, after the instances before it. `new` is its type by `new`, and the type's name.
abbrev pub made_faults : List SourceFile → ℕ → Limits → List (List ℕ) → ℕ → List ℕ → (ℕ × Named) → List Fault
made_faults files entry most before name up new = not_special files (name ∷ up) new.0 (replacements files (name ∷ up) (walk files entry up))
    ++ nest_faults files entry name up new.1
    ++ size_faults files entry most before (name ∷ up) (place.Source new.1.at)

-- the faults at an instance; in a loaded project the `new` of each means a type
abbrev pub instance_faults : List SourceFile → ℕ → Limits → List (List ℕ) → List ℕ → List Fault
instance_faults files entry most before [] = size_faults files entry most before [] (place.Word 1)
instance_faults files entry most before (name ∷ up) = flat_map (made_faults files entry most before name up) (option_to_list (made files name (walk files entry up)))

abbrev pub faults_from : List SourceFile → ℕ → Limits → List (List ℕ) → List (List ℕ) → List Fault
faults_from files entry most before [] = []
faults_from files entry most before (path ∷ more) = instance_faults files entry most before path
    ++ faults_from files entry most (before ++ path ∷ []) more

-- the entry block, by its name's text in the table of names: one of the entry file's own
abbrev pub entry_block : List SourceFile → List (List ℕ) → List ℕ → Option ℕ
entry_block files names text = option_and_then (own files 1) (position (bytes_eq text) names)

-- the fault of the tree that stands
abbrev pub tree_fault : List SourceFile → Limits → Option ℕ → Option Fault
tree_fault files most None = Some (fault_in [] kinds.NameUnknown (place.Word 1))
tree_fault files most (Some entry) = first_of_all (faults_from files entry most [] (instances files entry))
