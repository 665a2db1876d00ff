-- What a shelf replies while the files of a project are loaded.
use Rattle.std.specs.Prelude.{ℕ, List, [], ◌∷◌, map, length, nat_lt, Option, Some, None, Result, Ok, if◌then◌else◌}
use Rattle.ato_outside.specs.Replies.{Reply, Asks}
use Rattle.ato_outside.specs.declared.shelf.Got.{Got}
use Rattle.ato_outside.specs.declared.shelf.Got.TheVariants as got
use Rattle.ato_outside.specs.declared.shelf.ShelfError.{ShelfError}
use Rattle.ato_words.specs.PlainNames.{is_plain}
use Rattle.ato_files.specs.declared.program.SourceFile.{SourceFile}
use Rattle.ato_files.specs.Loading.{Held, most_bytes}

-- a reply without bytes
abbrev pub bare : List ℕ → Result Got ShelfError → Reply
bare name answer = record { name = name; answer = answer; bytes = [] }

-- the reply that gives a whole file
abbrev pub whole : List ℕ → List ℕ → Reply
whole name bytes = record { name = name; answer = Ok got.Whole; bytes = bytes }

-- the reply that gave a file
abbrev pub reply_of : SourceFile → Reply
reply_of file = whole file.name file.bytes

-- the replies that gave these files, one call for each
abbrev pub replies_of : List SourceFile → List Reply
replies_of files = map reply_of files

-- the reply for a name under which this is held
abbrev pub reply_at : List ℕ → Option (List ℕ) → Reply
reply_at name None = bare name (Ok got.Missing)
reply_at name (Some bytes) = if nat_lt most_bytes (length bytes) then bare name (Ok got.TooLong) else whole name bytes

-- the replies for the next name: one where it is plain, and else none, since it is not asked for
abbrev pub next_replies : Held → Option (List ℕ) → List Reply
next_replies held None = []
next_replies held (Some name) = if is_plain name then reply_at name (held name) ∷ [] else []

-- The calls that led from one state of the shelf to another had replies of which this is so.
pub record ForReplies {S : Type 0} (gets : S → List ℕ → ℕ → Result Got ShelfError → List ℕ → S → Type 0) (old new : S) (Is : List Reply → Type 0) : Type 0 where
  pub replies : List Reply
  pub asks : Asks gets most_bytes old replies new
  pub is : Is replies
