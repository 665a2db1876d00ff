-- Every fault of an entry lies in its source.
use Rattle.std.proofs.Common.{◌≡◌, ℕ, ◌≤◌, List, [], ◌∷◌, ◌++◌, length, ap, sym, subst, arith, inl, inr, length-append}
use Rattle.std.specs.Prelude.{Some, None, Bool, IfSome}
use Rattle.std.proofs.lemmas.List.Concat.{flat_map-append}
use Rattle.ato_base.specs.declared.faults.Fault.{Fault}
use Rattle.ato_first.specs.FirstForm.{lined, line_text, head_text, lines_text, IsFile}
use Rattle.ato_first.proofs.FirstFormLaws.{bad_within}
use Rattle.ato_first_catalog.proofs.PlaceLaws.{IsCellFault}
use Rattle.ato_first.specs.declared.first_form.Line.{Line}
use Rattle.ato_first.specs.declared.first_form.Block.{Block}
use Rattle.ato_build.specs.Entry.{StandsInEntry, IsLineFault}
use Rattle.ato_first.specs.FirstPoints.{IsFirstLineAt}
use Rattle.ato_build.specs.Found.{Whole}
use Rattle.ato_build.specs.Texts.{LiesWithin}
use Rattle.ato_build.specs.declared.project.Project.{Project}

front_within : (front back : List Line) → length (lines_text front) ≤ length (lines_text (front ++ back))
front_within front back = omega (arith, ap length (flat_map-append (λ l. lined (line_text l)) front back), length-append (lines_text front) (lines_text back))

-- a line of a block lies in its source
line_within : (source : List ℕ) (test : Line → Bool) (block : Block) (at : ℕ) → IsFile source (Some block) → IsFirstLineAt test block at → at ≤ length source
line_within source test block at is (front, line, back, lines_are, fine, bad, place) =
    omega (
      arith,
      place,
      length-append (lined (head_text block.name)) (lines_text front),
      ap length is.0,
      length-append (lined (head_text block.name)) (lines_text block.lines),
      ap (λ l. length (lines_text l)) lines_are,
      front_within front (line ∷ back),
    )

line_fault_within : (source : List ℕ) (block : Block) (f : Fault) → IsFile source (Some block) → IsLineFault block f → LiesWithin source f.at
line_fault_within source block f is (inl (at, unknown, same)) = subst (λ g. LiesWithin source g.at) (sym same) (line_within source _ block at is unknown)
line_fault_within source block f is (inr (known, (at, empty, same))) = subst (λ g. LiesWithin source g.at) (sym same) (line_within source _ block at is empty)

-- A fault that stands in a whole entry lies in it.
pub stands_within : (project : Project) (source : List ℕ) (f : Fault) → StandsInEntry project (Whole source) f → LiesWithin source f.at
stands_within project source f (inl (at, bad, same)) = subst (λ g. LiesWithin source g.at) (sym same) (bad_within source at bad)
stands_within project source f (inr (inl (lacks, same))) = subst (λ g. LiesWithin source g.at) (sym same) tt
stands_within project source f (inr (inr (block, is, named, fault))) = line_fault_within source block f is fault

-- A fault in a cell needs no byte of the source.
pub cell_within : (source : List ℕ) (f : Fault) → IsCellFault f → LiesWithin source f.at
cell_within source f h = subst (LiesWithin source) (sym h.at) tt

-- No fault of an entry or in a cell has a second place.
pub stands_alone : (project : Project) (source : List ℕ) (f : Fault) → StandsInEntry project (Whole source) f → f.other ≡ None
stands_alone project source f (inl (at, bad, same)) = ap (λ g. g.other) same
stands_alone project source f (inr (inl (lacks, same))) = ap (λ g. g.other) same
stands_alone project source f (inr (inr (block, is, named, inl (at, unknown, same)))) = ap (λ g. g.other) same
stands_alone project source f (inr (inr (block, is, named, inr (known, (at, empty, same))))) = ap (λ g. g.other) same

-- No fault of an entry has a path.
pub stands_pathless : (project : Project) (source : List ℕ) (f : Fault) → StandsInEntry project (Whole source) f → f.path ≡ []
stands_pathless project source f (inl (at, bad, same)) = ap (λ g. g.path) same
stands_pathless project source f (inr (inl (lacks, same))) = ap (λ g. g.path) same
stands_pathless project source f (inr (inr (block, is, named, inl (at, unknown, same)))) = ap (λ g. g.path) same
stands_pathless project source f (inr (inr (block, is, named, inr (known, (at, empty, same))))) = ap (λ g. g.path) same

pub alone_within : (source : List ℕ) (f : Fault) → f.other ≡ None → IfSome f.other (LiesWithin source)
alone_within source f none = subst (λ o. IfSome o (LiesWithin source)) (sym none) tt
