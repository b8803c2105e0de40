-- The schema and its ids may be written, and its message is made.
use Rattle.std.proofs.Common.{rules, ◌≡◌, true, [], length}
use Rattle.ipc_format_readers.specs.chunk_writing.grammar.Ids.{all_are_ids}
use Rattle.ipc_format_readers.specs.chunk_writing.grammar.WrittenMessages.{fits_limit, schema_written}
use Rattle.ipc_format_readers.specs.chunk_writing.metadata.Views.{ids_views}
use Rattle.ipc_format_readers.specs.streams.owned.writing.Writing.{may_write}
use Rattle.ipc_format_readers.proofs.chunk_lemmas.Opened.{schema_message, written_with}
use Rattle.ipc_format.proofs.FileFirsts.{first_is}
use Rattle.ipc_format.proofs.opening.open.Goals as goal

pub returns : goal.returns
returns c =
    let schema = c.args.schema.now in
    let ids = ids_views c.args.ids.now in
    let may : may_write schema ids ≡ true = search rules in
    let fits : fits_limit (schema_written schema ids) ≡ true = search rules in
    let metadata : c.in_ok-metadata.metadata.items ≡ (schema_written schema ids).metadata = search rules in
    let all : all_are_ids ids ≡ true = search rules in
    let body : c.new-4.result.items ≡ [] = search rules in
    let told : c.new.result.dictionaries.entries ≡ [] = search rules in
    let dictionaries : c.new-2.result.items ≡ [] = search rules in
    let batches : c.new-3.result.items ≡ [] = search rules in
    let long : c.len.result ≡ length c.in_ok-metadata.metadata.items = search rules in
    record {
      may = written_with schema ids may all;
      fits = fits;
      same = schema_message schema ids _ _ metadata body;
      first = first_is schema ids _ c.len.result _ _ _ metadata long told dictionaries batches;
    }
