-- The schema and its ids may be written, and its message is made.
use Rattle.std.proofs.Common.{rules, ◌≡◌, ◌∙◌, ℕ, true, List, [], ap}
use Rattle.ipc_format_batch_reading.specs.grammar.Ids.{all_are_ids}
use Rattle.ipc_format_batch_reading.specs.grammar.WrittenMessages.{fits_limit, schema_written}
use Rattle.ipc_format_batch_reading.specs.metadata.Views.{ids_views}
use Rattle.ipc_format_batch_reading.specs.streams.owned.writing.Writing.{may_write}
use Rattle.ipc_format_chunk_writing.specs.Opening.{ids_given}
use Rattle.ipc_format_chunk_writing.proofs.Opened.{schema_message, written_with}
use Rattle.ipc_format_chunk_writing.proofs.opening.open.Goals as goal

pub returns : goal.returns
returns c =
    let schema = c.args.schema.now in
    let ids = ids_given schema c.args.ipc_fields in
    let same : ids_views c.in_ok-ids.ids.items ≡ ids = search rules in
    let may : may_write schema ids ≡ true = search rules in
    let fits : fits_limit (schema_written schema ids) ≡ true = search rules in
    let metadata : c.in_ok-metadata.metadata.items ≡ (schema_written schema ids).metadata = search rules in
    let all : all_are_ids ids ≡ true = search rules in
    let body : c.new-2.result.items ≡ [] = search rules in
    record {
      may = written_with schema ids may all;
      fits = fits;
      message = schema_message schema ids _ _ metadata body;
      same_schema = search rules;
      same_ids = search rules;
      none_told = search rules;
    }
