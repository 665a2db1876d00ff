use Rattle.std.proofs.Common.{arith}
use Rattle.std.specs.Prelude.{Some, None}
use Rattle.std.proofs.lemmas.Grind.{common_steps}
use Rattle.ato_files.proofs.FileNameLaws.{from_names}
use Rattle.ato_files.proofs.file_names.push_head_names.Goals as goal

pub returns-in-Import : goal.returns-in-Import
returns-in-Import c = let e = from_names None c.in-Import.names in grind (arith, common_steps, e)

pub returns-in-From : goal.returns-in-From
returns-in-From c = let e = from_names (Some c.in-From.field-0) c.in-From.names in grind (arith, common_steps, e)
