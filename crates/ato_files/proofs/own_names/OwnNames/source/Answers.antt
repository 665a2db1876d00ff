use Rattle.std.proofs.Common.{◌∙◌, ap, List, ℕ, sym}
use Rattle.ato_files.specs.Lists.{text_at}
use Rattle.ato_files.specs.Blocks.{import_file}
use Rattle.ato_files.specs.FileMaps.{number_behind}
use Rattle.ato_files.proofs.FileMapLemmas.{source_behind}
use Rattle.ato_files.proofs.own_names.OwnNames.source.Goals as goal

pub returns-in-Some : goal.returns-in-Some
returns-in-Some c =
    c.get.ensures ∙ c.requires.numbers c.text_at.result.now
    ∙ ap (number_behind c.args.self.now.files.now) (c.text_at.ensures ∙ ap (λ (bytes : List ℕ). text_at bytes c.in-Some.text.contents) c.as_slice.ensures)
    ∙ source_behind c.args.self.now.files.now c.args.file.now c.in-Some.text ∙ ap (import_file c.args.self.now.files.now c.args.file.now) (sym c.in-Some.is)
