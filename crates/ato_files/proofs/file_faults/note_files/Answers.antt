use Rattle.std.proofs.Common.{arith, ◌∙◌, ap, refl}
use Rattle.std.proofs.lemmas.Option.{slice_get_read}
use Rattle.ato_files.specs.NameFaults.{file_faults}
use Rattle.ato_files.specs.Noted.{noted}
use Rattle.ato_files.proofs.NotedLaws.{noted_step}
use Rattle.ato_files.proofs.file_faults.note_files.Goals as goal

pub loop-number-preserved : goal.loop-number-preserved
loop-number-preserved c =
    let files = c.args.files.now in
    let file = c.index-files-number.result in
    noted_step (file_faults files) c.args.least.now c.loop-number.least c.note_file.new.least files c.loop-number.number file (omega arith) c.loop-number.invariant
    (c.in_ok-note_file.ensures files c.requires (slice_get_read files _ c.loop-number.number file refl (omega arith) c.index-files-number.is)
    ∙ ap (λ f. noted c.loop-number.least (file_faults files f)) c.index-files-number.is)
