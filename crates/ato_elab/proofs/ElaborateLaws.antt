-- What an entry block gives, from what its number gives.
use Rattle.std.proofs.Common.{◌≡◌, ◌<◌, ℕ, List, Option, Some, None, sym, ap, ◌∙◌, [], length}
use Rattle.ato_base.specs.declared.faults.FaultKind.TheVariants as kinds
use Rattle.ato_base.specs.declared.faults.Refusal.{Refusal}
use Rattle.ato_base.specs.declared.faults.Refusal.TheVariants as refusal
use Rattle.ato_base.specs.declared.places.Place.TheVariants as place
use Rattle.ato_files.specs.Blocks.{blocks_of}
use Rattle.ato_files.specs.declared.program.Program.{Program}
use Rattle.ato_files.specs.Meant.{AreMeanings}
use Rattle.ato_instance_tree.specs.declared.tree.Tree.{Tree}
use Rattle.ato_instance_tree.specs.Elaborated.{entry_of, IsElaborated, IsLoaded, IsRefused}
use Rattle.ato_instance_tree.specs.TreeFaults.{fault_in, tree_fault, Limits}
use Rattle.ato_instance_tree.specs.Trees.{IsTree}
use Rattle.ato_elab.specs.declared.frames.Given.{Given}
use Rattle.ato_elab.specs.declared.built.Built.{Built}
use Rattle.ato_elab.specs.Building.{IsGiven, RefusesTree, limits_of}
use Rattle.ato_elab.specs.Entering.{IsWhole}
use Rattle.ato_elab.proofs.EntryBlockLaws.{entry_within}

pub given_is : (given : Given) → IsLoaded given.program.now → AreMeanings given.program.now.files given.meanings.now → IsGiven given.program.now given.meanings.now
given_is given loaded meant = record { blocks = loaded.is.blocks; meant = meant }

pub elaborated : (given : Given) (name : List ℕ) (block : ℕ) (built : Built) (tree : Tree) → Some block ≡ entry_of given.program.now name
    → (IsGiven given.program.now given.meanings.now → block < length (blocks_of given.program.now.files) → IsWhole given block built)
    → ((entry : ℕ) → IsLoaded given.program.now → entry < length (blocks_of given.program.now.files) → IsWhole given entry built → IsTree given.program.now.files given.program.now.names entry tree)
    → IsLoaded given.program.now → AreMeanings given.program.now.files given.meanings.now → IsElaborated (limits_of given.most) given.program.now name tree
elaborated given name block built tree named made finished loaded meant =
    let within = entry_within given.program.now name block (sym named) in
    let whole = made (given_is given loaded meant) within in
    record { entry = block; named = sym named; sound = ap (tree_fault given.program.now.files (limits_of given.most)) (sym named) ∙ whole.sound; is = finished block loaded within whole }

pub refused : (given : Given) (name : List ℕ) (block : ℕ) (why : Refusal) → Some block ≡ entry_of given.program.now name
    → (IsGiven given.program.now given.meanings.now → block < length (blocks_of given.program.now.files) → RefusesTree given block why)
    → IsLoaded given.program.now → AreMeanings given.program.now.files given.meanings.now → IsRefused (limits_of given.most) given.program.now name why
refused given name block refusal.NoMemory named h loaded meant = tt
refused given name block (refusal.Fault f) named h loaded meant =
    ap (tree_fault given.program.now.files (limits_of given.most)) (sym named) ∙ h (given_is given loaded meant) (entry_within given.program.now name block (sym named))

pub nameless : (program : Program) (name : List ℕ) (most : Limits) → None ≡ entry_of program name → IsRefused most program name (refusal.Fault (fault_in [] kinds.NameUnknown (place.Word 1)))
nameless program name most named = ap (tree_fault program.files most) (sym named)
