-- What a writer of comma-separated text holds between two records.
use Rattle.std.specs.Prelude.{◌≡◌, ℕ, List, Vec, false, Some}
use Rattle.std.specs.Global.{Global}
use Rattle.csv.specs.Writing.{default_writer, fields_written, has_written, text_written, writer_setup}
use Rattle.csv.specs.declared.writer.Writer.{Writer}

-- A default writer over memory that has begun no record, and what it was given so far.
pub record Holds (writer : Writer (Vec ℕ Global)) (text : List ℕ) : Type 0 where
  pub setup : writer_setup writer ≡ default_writer
  pub fields : fields_written writer ≡ 0
  pub wrote : has_written writer ≡ false
  pub bytes : text_written (λ v. Some v.items) writer ≡ Some text
