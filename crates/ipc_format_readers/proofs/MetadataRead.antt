-- What is read of a file's footer in a room, and what metadata hold.
use Rattle.std.proofs.Common.{◌≡◌, ◌∙◌, ℕ, true, ◌&&◌, List, inl, inr}
use Rattle.std.proofs.lemmas.Bool.{and_from}
use Rattle.std.specs.Prelude.{Some, Result, Ok, Err, IfOk}
use Rattle.ipc_format_chunk_writing.specs.Rooms.{Told}
use Rattle.ipc_format_chunk_writing.specs.columnar_memory.declared.Error.{Error}
use Rattle.ipc_format_chunk_writing.specs.columnar_memory.declared.Error.TheVariants as errors
use Rattle.ipc_format_chunk_writing.specs.flatbuffers.FlatBuffers.{TablePlace}
use Rattle.ipc_format_chunk_writing.specs.grammar.Files.{footer_bytes_in}
use Rattle.ipc_format_chunk_writing.specs.grammar.Ids.{all_are_ids, ids_fit_fields}
use Rattle.ipc_format_chunk_writing.specs.grammar.Refusals.{HasFeatherMark}
use Rattle.ipc_format_chunk_writing.specs.grammar.SchemaGrammar.{schema_in}
use Rattle.ipc_format_chunk_writing.specs.grammar.Schemas.{SchemaIn}
use Rattle.ipc_format_chunk_writing.specs.grammar.Tables.{file}
use Rattle.ipc_format_chunk_writing.specs.grammar.Writable.{is_writable}
use Rattle.ipc_format_chunk_writing.specs.grammar.WrittenStreams.{is_written_with}
use Rattle.ipc_format_chunk_writing.specs.metadata.Reading.{Reads}
use Rattle.ipc_format_chunk_writing.proofs.reading_laws_lemmas.AppendedIds.{schemas_read_have_ids}
use Rattle.ipc_format_readers.specs.FileReads.{IsUnreadFile, ReadsMetadata, RefusesOf}
use Rattle.ipc_format_readers.specs.FileStarts.{start_in, start_view}
use Rattle.ipc_format_readers.specs.Footers.{HasFloatIn, TakesFooter, start_of_footer}
use Rattle.ipc_format_readers.specs.declared.file_metadata.FileMetadata.{FileMetadata}
use Rattle.ipc_format_readers.proofs.Rooms.{refuses_too, stays_same}
use Rattle.ipc_format_readers.proofs.Starts.{float_by_footer, no_footer, start_by_footer}

pub footer_refused : (old new : Told) (error : Error) → RefusesOf old new (HasFeatherMark file) footer_bytes_in error
    → RefusesOf old new IsUnreadFile start_in error
footer_refused old new error refused =
    refuses_too old old new (HasFeatherMark file) IsUnreadFile footer_bytes_in start_in error (stays_same old) (λ bytes e mark. inl mark)
    (λ bytes e none. no_footer bytes none) refused

pub metadata_read : (old new : Told) (footer : List ℕ) (size : ℕ) (result : Result FileMetadata Error) → TakesFooter old new footer (Ok size)
    → Reads start_view (HasFloatIn footer) result (start_of_footer footer) → IfOk result (λ metadata. metadata.size ≡ size)
    → ReadsMetadata old new result
metadata_read old new footer size (Ok metadata) taken read is = (
  taken.0,
  λ bytes e. let it = taken.1 bytes e in (start_by_footer bytes footer it.0 ∙ read, is ∙ it.1),
)
metadata_read old new footer size (Err (errors.OutOfSpec what)) taken none is = λ bytes e. start_by_footer bytes footer (taken.1 bytes e).0 ∙ none
metadata_read old new footer size (Err (errors.NotYetImplemented what)) taken unread is = λ bytes e.
    let there = (taken.1 bytes e).0 in
    (start_by_footer bytes footer there ∙ unread.0, inr (float_by_footer bytes footer there unread.1))
metadata_read old new footer size (Err errors.OutOfMemory) taken refused is = tt
metadata_read old new footer size (Err (errors.Io what)) taken refused is = absurd refused
metadata_read old new footer size (Err (errors.External from what)) taken refused is = absurd refused
metadata_read old new footer size (Err (errors.InvalidArgumentError what)) taken refused is = absurd refused
metadata_read old new footer size (Err (errors.ExternalFormat what)) taken refused is = absurd refused
metadata_read old new footer size (Err errors.Overflow) taken refused is = absurd refused

-- a schema that is read is one that is written, and its ids fit it
pub read_is_written : (footer : List ℕ) (table : TablePlace) (found : SchemaIn) → schema_in footer table ≡ Some found
    → is_written_with found.schema found.ids ≡ true
read_is_written footer table found e =
    let is = schemas_read_have_ids footer table found e in
    and_from (is_writable found.schema && ids_fit_fields found.schema.fields found.ids) (all_are_ids found.ids)
    (and_from (is_writable found.schema) (ids_fit_fields found.schema.fields found.ids) is.1 is.0.0) is.0.1
