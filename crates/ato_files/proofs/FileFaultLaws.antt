-- The faults of imports.
use Rattle.std.proofs.Common.{ap, sym, ◌∙◌, get_or}
use Rattle.std.specs.Prelude.{◌≡◌, ℕ, ◌<◌, Bool, cond, List, [], ◌∷◌, length, Option, Some, is_none, slice_get}
use Rattle.std.specs.Option.{option_and_then}
use Rattle.std.proofs.lemmas.Option.{slice_get-get_or}
use Rattle.ato_base.specs.declared.faults.Fault.{Fault}
use Rattle.ato_base.specs.declared.faults.FaultKind.TheVariants as kinds
use Rattle.ato_ast.specs.declared.names.Named.{Named}
use Rattle.ato_ast.specs.declared.names.Quoted.{Quoted}
use Rattle.ato_files.specs.declared.program.SourceFile.{SourceFile}
use Rattle.ato_files.specs.declared.meanings.Meanings.{Meanings}
use Rattle.ato_files.specs.Blocks.{imports_of, imported}
use Rattle.ato_files.specs.FileFaults.{import_faults}
use Rattle.ato_files.specs.Faults.{fault}
use Rattle.ato_files.specs.Meant.{AreMeanings, taken}
use Rattle.ato_files.specs.Noted.{noted}

taken_is : (files : List SourceFile) (file : SourceFile) (m : Meanings) (number i : ℕ) (import : Named × Option Quoted) → AreMeanings files m → slice_get files number ≡ Some file
    → slice_get (imports_of file) i ≡ Some import → taken m number i ≡ imported files file import
taken_is files file m number i import are there at =
    are.targets number i ∙ ap (option_and_then (λ f. option_and_then (imported files f) (slice_get (imports_of f) i))) there ∙ ap (option_and_then (imported files file)) at

-- an import of a file was noted
pub import_noted : (files : List SourceFile) (file : SourceFile) (m : Meanings) (number i : ℕ) (imports : List (Named × Option Quoted)) (d : Named × Option Quoted) (v : Bool) (before now : Option Fault)
    → AreMeanings files m → slice_get files number ≡ Some file → imports ≡ imports_of file → i < length imports → v ≡ is_none (taken m number i)
    → now ≡ noted before (cond v (fault kinds.NameUnknown (get_or imports i d).0.at ∷ []) []) → now ≡ noted before (import_faults files file (get_or imports i d))
import_noted files file m number i imports d v before now are there same h is e =
    let import = get_or imports i d in
    e ∙ ap (λ w. noted before (cond w (fault kinds.NameUnknown import.0.at ∷ []) []))
    (is ∙ ap is_none (taken_is files file m number i import are there (ap (λ l. slice_get l i) (sym same) ∙ slice_get-get_or imports i d h)))
