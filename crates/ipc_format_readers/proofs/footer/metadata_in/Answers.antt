-- What the metadata keep comes of the schema that is read.
use Rattle.std.proofs.Common.{rules, ◌≡◌}
use Rattle.std.specs.Prelude.{Some}
use Rattle.ipc_format_chunk_writing.specs.flatbuffers.Views.{table_of}
use Rattle.ipc_format_chunk_writing.specs.grammar.SchemaGrammar.{schema_in}
use Rattle.ipc_format_chunk_writing.specs.grammar.Writable.{normalised}
use Rattle.ipc_format_chunk_writing.specs.metadata.SchemaViews.{schema_view}
use Rattle.ipc_format_readers.proofs.MetadataRead.{read_is_written}
use Rattle.ipc_format_readers.proofs.footer.metadata_in.Goals as goal

pub invariant_of-result : goal.invariant_of-result
invariant_of-result c =
    let footer = c.args.footer.now in
    let table = table_of c.in-Some.table in
    let found = schema_view (c.in_ok-schema.schema, c.in_ok-schema.ipc_schema) in
    let read : schema_in footer table ≡ Some found = search rules in
    let form : c.in_ok-one_form.one_form ≡ normalised c.in_ok-schema.schema = search rules in
    record {
      is_form = form;
      has_arrays = c.schemas_have_arrays.ensures footer table found read;
      is_written = read_is_written footer table found read;
    }
