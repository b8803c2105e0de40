-- The messages are the dictionaries, and the record batches behind them.
use Rattle.std.proofs.Common.{rules, ◌≡◌, ◌≤◌, ◌<◌, [], length, map}
use Rattle.std.proofs.lemmas.List.{length-map}
use Rattle.std.specs.Prelude.{Some}
use Rattle.ipc_format_chunk_writing.specs.grammar.Files.{entries_at, file_entries, is_dictionary, is_record_batch}
use Rattle.ipc_format_chunk_writing.specs.grammar.Limits.{most_dictionaries}
use Rattle.ipc_format_chunk_writing.specs.metadata.Reading.{Refuses}
use Rattle.ipc_format_readers.specs.FileEntries.{entries_view}
use Rattle.ipc_format_readers.specs.FileStarts.{block_view}
use Rattle.ipc_format_readers.proofs.PushedEntries.{batches_lacking, both_pushed, dictionaries_lacking}
use Rattle.ipc_format_readers.proofs.Lists.{behind}
use Rattle.ipc_format_readers.proofs.entries.file_entries.Goals as goal

pub returns-in_err-push_dictionaries : goal.returns-in_err-push_dictionaries
returns-in_err-push_dictionaries c =
    let bytes = c.args.bytes.now in
    let dictionaries = map block_view c.args.dictionaries.now in
    let record_batches = map block_view c.args.record_batches.now in
    let error = c.in_err-push_dictionaries.field-0.0 in
    let some : 0 < length record_batches = search (rules, length-map c.args.record_batches.now block_view) in
    let few : length dictionaries ≤ most_dictionaries = search (rules, length-map c.args.dictionaries.now block_view) in
    let refused : Refuses ⊥ error (behind [] (entries_at is_dictionary bytes dictionaries)) = search rules in
    let whole : Refuses ⊥ error (file_entries bytes dictionaries record_batches) =
    dictionaries_lacking bytes dictionaries record_batches error some few refused in
    search (rules, whole)

pub returns-in_err-push_record_batches : goal.returns-in_err-push_record_batches
returns-in_err-push_record_batches c =
    let bytes = c.args.bytes.now in
    let dictionaries = map block_view c.args.dictionaries.now in
    let record_batches = map block_view c.args.record_batches.now in
    let error = c.in_err-push_record_batches.field-0.0 in
    let before = entries_view c.push_dictionaries.new.entries in
    let some : 0 < length record_batches = search (rules, length-map c.args.record_batches.now block_view) in
    let few : length dictionaries ≤ most_dictionaries = search (rules, length-map c.args.dictionaries.now block_view) in
    let refused : Refuses ⊥ error (behind before (entries_at is_record_batch bytes record_batches)) = search rules in
    let whole : Refuses ⊥ error (file_entries bytes dictionaries record_batches) =
    batches_lacking bytes dictionaries record_batches before error some few refused in
    search (rules, whole)

pub returns : goal.returns
returns c =
    let bytes = c.args.bytes.now in
    let dictionaries = map block_view c.args.dictionaries.now in
    let record_batches = map block_view c.args.record_batches.now in
    let before = entries_view c.push_dictionaries.new.entries in
    let all = entries_view c.push_record_batches.new.entries in
    let some : 0 < length record_batches = search (rules, length-map c.args.record_batches.now block_view) in
    let few : length dictionaries ≤ most_dictionaries = search (rules, length-map c.args.dictionaries.now block_view) in
    let first : behind [] (entries_at is_dictionary bytes dictionaries) ≡ Some before = search rules in
    let then : behind before (entries_at is_record_batch bytes record_batches) ≡ Some all = search rules in
    both_pushed bytes dictionaries record_batches before all some few first then
