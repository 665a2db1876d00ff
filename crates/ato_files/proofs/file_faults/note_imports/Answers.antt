use Rattle.std.proofs.Common.{arith, ◌≡◌, ◌∙◌, ◌<◌, length, ap}
use Rattle.std.specs.Prelude.{is_none}
use Rattle.std.proofs.lemmas.Grind.{common_steps}
use Rattle.ato_files.specs.Meant.{taken}
use Rattle.ato_files.specs.FileFaults.{import_faults}
use Rattle.ato_files.proofs.NotedLaws.{noted_step}
use Rattle.ato_files.proofs.FileFaultLaws.{import_noted}
use Rattle.ato_files.proofs.file_faults.note_imports.Goals as goal

pub loop-import-preserved : goal.loop-import-preserved
loop-import-preserved c = λ files are there.
    let imports = c.as_slice-name-items.result.now in
    let within : c.loop-import.import < length imports = omega arith in
    let is : c.is_none.result ≡ is_none (taken c.args.meanings.now c.args.number c.loop-import.import) = grind (arith, common_steps, ap is_none c.target.ensures) in
    noted_step (import_faults files c.args.file.now) c.args.least.now c.loop-import.least c.note_if.new.self imports c.loop-import.import _ within
    (c.loop-import.invariant files are there)
    (import_noted files c.args.file.now c.args.meanings.now c.args.number c.loop-import.import imports _ _ c.loop-import.least c.note_if.new.self are there
    (c.as_slice-name-items.ensures ∙ c.in_ok-imports.ensures) within is c.note_if.ensures)
