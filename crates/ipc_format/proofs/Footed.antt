-- The footer of what is written of a file.
use Rattle.std.proofs.Common.{◌≡◌, true, length, inl}
use Rattle.std.specs.Prelude.{Err}
use Rattle.std.proofs.lemmas.Bool.{and_parts, both_ways, le-ltb}
use Rattle.ipc_format_readers.specs.chunk_writing.columnar_memory.declared.Error.{Error}
use Rattle.ipc_format_readers.specs.chunk_writing.columnar_memory.declared.Error.TheVariants as errors
use Rattle.ipc_format_readers.specs.chunk_writing.columnar_memory.declared.Schema.{Schema}
use Rattle.ipc_format_readers.specs.chunk_writing.grammar.Ids.{ids_fit_fields}
use Rattle.ipc_format_readers.specs.chunk_writing.grammar.Schemas.{IdsList}
use Rattle.ipc_format_readers.specs.chunk_writing.grammar.Writable.{is_writable}
use Rattle.ipc_format_readers.specs.streams.owned.writing.Floats.{has_float}
use Rattle.ipc_format_readers.specs.streams.owned.writing.FooterWriting.{WritesFooter}
use Rattle.ipc_format_readers.specs.streams.owned.writing.Writing.{may_write}
use Rattle.ipc_format.specs.Ends.{HasNoFooter, footer_of}
use Rattle.ipc_format.specs.FilePhases.{Progress}
use Rattle.ipc_format.proofs.NoFloats.{no_float}

-- a schema that may be written is none that is refused
pub no_footer : (error : Error) (schema : Schema) (ids : IdsList) (progress : Progress) → may_write schema ids ≡ true
    → WritesFooter (Err error) schema ids progress.blocks → HasNoFooter error schema ids progress
no_footer errors.Overflow schema ids progress may why = inl (le-ltb (length (footer_of schema ids progress)) _ why.1)
no_footer errors.OutOfMemory schema ids progress may why = tt
no_footer (errors.NotYetImplemented what) schema ids progress may why =
    absurd (both_ways (has_float schema) (no_float schema (and_parts (is_writable schema) (ids_fit_fields schema.fields ids) may).0) why)
no_footer (errors.InvalidArgumentError what) schema ids progress may why = absurd (both_ways (may_write schema ids) why.1 may)
no_footer _ schema ids progress may why = absurd why
