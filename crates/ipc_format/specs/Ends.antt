-- What is written at both ends of a file (Arrow IPC, "IPC File Format").
use Rattle.std.specs.Prelude.{◌≡◌, ◌⊎◌, ℕ, ◌+◌, ◌-◌, Bool, true, false, List, ◌++◌, length, replicate, nat_lt, Result, Ok, Err}
use Rattle.std.specs.Int.{w32, to_le_bytes}
use Rattle.std.specs.declared.alloc.Global.{Global}
use Rattle.std.specs.declared.vec.Vec.{Vec}
use Rattle.ipc_format_readers.specs.chunk_writing.columnar_memory.declared.Error.{Error}
use Rattle.ipc_format_readers.specs.chunk_writing.columnar_memory.declared.Error.TheVariants as errors
use Rattle.ipc_format_readers.specs.chunk_writing.columnar_memory.declared.Schema.{Schema}
use Rattle.ipc_format_readers.specs.chunk_writing.flatbuffers.Objects.{laid}
use Rattle.ipc_format_readers.specs.chunk_writing.grammar.Files.{file_mark}
use Rattle.ipc_format_readers.specs.chunk_writing.grammar.Limits.{file_limit}
use Rattle.ipc_format_readers.specs.chunk_writing.grammar.Schemas.{IdsList}
use Rattle.ipc_format_readers.specs.chunk_writing.grammar.WrittenFiles.{file_end, file_start, footer_object, is_footer}
use Rattle.ipc_format_readers.specs.chunk_writing.grammar.WrittenMessages.{Written, end_mark, message_bytes, schema_written}
use Rattle.ipc_format_readers.specs.chunk_writing.metadata.Views.{ids_views}
use Rattle.ipc_format_readers.specs.streams.owned.writing.Writing.{may_write}
use Rattle.ipc_format.specs.FilePhases.{Phase, Progress, Writer, started}

-- what is written first: the file's start, and a message
abbrev pub first_bytes : Written → List ℕ
first_bytes message = file_start ++ message_bytes message

-- that message is the schema's
abbrev pub start_bytes : Schema → IdsList → List ℕ
start_bytes schema ids = first_bytes (schema_written schema ids)

-- the footer of a file of which so much is written
abbrev pub footer_of : Schema → IdsList → Progress → List ℕ
footer_of schema ids progress = laid (footer_object schema ids progress.blocks)

-- what stands behind a footer: its length, and the mark
abbrev pub file_tail : ℕ → List ℕ
file_tail length = to_le_bytes w32 length ++ file_mark

-- what is written behind the last message: the end mark, and a footer with what stands behind it
abbrev pub end_with : List ℕ → List ℕ
end_with footer = end_mark ++ file_end footer

-- the same with some zeros between the end mark and the footer
abbrev pub end_with_zeros : ℕ → List ℕ → List ℕ
end_with_zeros count footer = end_mark ++ replicate count 0 ++ file_end footer

-- how many zeros stand there, so that the file has no fewer bytes than before
abbrev pub zeros_before : Progress → List ℕ → ℕ
zeros_before progress footer = progress.size - (progress.place + length (end_with footer))

-- what is written behind the last message of a file of which so much is written
abbrev pub end_of : Progress → List ℕ → List ℕ
end_of progress footer = end_with_zeros (zeros_before progress footer) footer

-- whether a file whose messages end at a place is within its limit with a footer
abbrev pub has_room : ℕ → List ℕ → Bool
has_room place footer = nat_lt (place + length (end_with footer)) file_limit

-- a footer of which a file can state the length, and with which the file is within its limit
pub record IsFooter (footer : List ℕ) (schema : Schema) (ids : IdsList) (progress : Progress) : Type 0 where
  pub same : footer ≡ footer_of schema ids progress
  pub fits : is_footer footer ≡ true
  pub room : has_room progress.place footer ≡ true

-- why a file has no footer: it would be too long, or the file with it; or memory ran out
abbrev pub HasNoFooter : Error → Schema → IdsList → Progress → Type 0
HasNoFooter errors.Overflow schema ids progress =
    (is_footer (footer_of schema ids progress) ≡ false) ⊎ (has_room progress.place (footer_of schema ids progress) ≡ false)
HasNoFooter errors.OutOfMemory schema ids progress = Unit {0}
HasNoFooter _ schema ids progress = ⊥

-- the footer of what is written; or there is none
abbrev pub GivesFooter : Result (Vec ℕ Global) Error → Schema → IdsList → Progress → Type 0
GivesFooter (Ok footer) schema ids progress = IsFooter footer.items schema ids progress
GivesFooter (Err error) schema ids progress = HasNoFooter error schema ids progress

-- the footer of what a writer has written, and how many zeros stand before it; or there is none; or the file is not started, or it is finished
abbrev pub GivesEndIn : Phase → Result (ℕ × Vec ℕ Global) Error → Schema → IdsList → Type 0
GivesEndIn (started progress) (Ok end) schema ids = (end.0 ≡ zeros_before progress end.1.items) × IsFooter end.1.items schema ids progress
GivesEndIn (started progress) (Err error) schema ids = HasNoFooter error schema ids progress
GivesEndIn _ (Err (errors.OutOfSpec what)) schema ids = Unit {0}
GivesEndIn _ _ schema ids = ⊥

abbrev pub GivesEnd : {W : Type 0} → Result (ℕ × Vec ℕ Global) Error → Writer W → Type 0
GivesEnd result writer = GivesEndIn writer.phase result writer.schema (ids_views writer.ids)

-- whether a schema may be written with its ids, as it was where a file is started
abbrev pub may_be_written : Phase → Schema → IdsList → Bool
may_be_written (started progress) schema ids = may_write schema ids
may_be_written _ schema ids = true
