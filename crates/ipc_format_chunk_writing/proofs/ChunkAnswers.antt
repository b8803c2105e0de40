-- What is answered of a chunk, by what it is refused for.
use Rattle.std.proofs.Common.{◌≡◌, Bool, true, false, List, sym, subst, ap}
use Rattle.std.specs.Prelude.{ℤ, Option, Some, None, Result, Ok, Err, is_some}
use Rattle.std.proofs.lemmas.Bool.{false≢true}
use Rattle.ipc_format_batch_reading.specs.columnar_memory.declared.Error.{Error}
use Rattle.ipc_format_batch_reading.specs.columnar_memory.declared.Error.TheVariants as errors
use Rattle.ipc_format_batch_reading.specs.columns.StoredColumns.{Column}
use Rattle.ipc_format_batch_reading.specs.grammar.Schemas.{IdsList}
use Rattle.ipc_format_batch_reading.specs.grammar.WrittenMessages.{Written}
use Rattle.ipc_format_batch_reading.specs.grammar.WrittenStreams.{Batch, batch_of_stored}
use Rattle.ipc_format_batch_reading.specs.reading.array_reading.column_writing.declared.Compression.{Compression}
use Rattle.ipc_format_chunk_writing.specs.EncodedChunks.{Encodes, EncodesChunk, EncodesFitting}
use Rattle.ipc_format_chunk_writing.specs.Types.{ids_fit_columns}

-- a compression is given
pub compressed : (compression : Option Compression) (old new : List (ℤ × Column) × Bool) (below : IdsList) (columns : List Column) (error : Error)
    (own : Written) → ((given : Compression) → EncodesChunk (Some given) old new below columns (Err error) own) → is_some compression ≡ true
    → EncodesChunk compression old new below columns (Err error) own
compressed None old new below columns error own says given = absurd (false≢true given)
compressed (Some compression) old new below columns error own says given = says compression

-- none is
pub plain : (compression : Option Compression) (old new : List (ℤ × Column) × Bool) (below : IdsList) (columns : List Column)
    (result : Result (List Written) Error) (own : Written) (fits : Bool) → is_some compression ≡ false → ids_fit_columns columns below ≡ fits
    → EncodesFitting fits old new (batch_of_stored below columns) result own → EncodesChunk compression old new below columns result own
plain None old new below columns result own fits none is encodes =
    subst (λ (b : Bool). EncodesFitting b old new (batch_of_stored below columns) result own) (sym is) encodes
plain (Some compression) old new below columns result own fits none is encodes = absurd (false≢true (sym none))

-- a refusal says nothing of the batch's own message
fitting_own : (fits : Bool) (old new : List (ℤ × Column) × Bool) (batch : Batch) (error : Error) (own other : Written)
    → EncodesFitting fits old new batch (Err error) own → EncodesFitting fits old new batch (Err error) other
fitting_own true old new batch error own other h = h
fitting_own false old new batch (errors.InvalidArgumentError what) own other h = h
fitting_own false old new batch errors.OutOfMemory own other h = h
fitting_own false old new batch _ own other h = absurd h

pub other_own : (compression : Option Compression) (old new : List (ℤ × Column) × Bool) (below : IdsList) (columns : List Column) (error : Error)
    (own other : Written) → EncodesChunk compression old new below columns (Err error) own
    → EncodesChunk compression old new below columns (Err error) other
other_own None old new below columns error own other h =
    fitting_own (ids_fit_columns columns below) old new (batch_of_stored below columns) error own other h
other_own (Some compression) old new below columns (errors.NotYetImplemented what) own other h = h
other_own (Some compression) old new below columns _ own other h = absurd h
