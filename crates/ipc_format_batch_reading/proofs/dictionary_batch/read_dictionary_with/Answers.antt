-- The values that the batch states, and the array that is put under its id.
use Rattle.std.proofs.Common.{◌≡◌, List, false, refl, rules, w64}
use Rattle.std.proofs.lemmas.Int.{to_z-of_z}
use Rattle.std.specs.Prelude.{ℕ, Err, Ok, Some}
use Rattle.ipc_format_reading.specs.array_reading.ReadArrays.{standing_in}
use Rattle.ipc_format_reading.specs.flatbuffers.Views.{table_of}
use Rattle.ipc_format_reading.specs.grammar.Dictionaries.{Layout}
use Rattle.ipc_format_reading.specs.grammar.Messages.{dictionary_batch, dictionary_batch_in}
use Rattle.ipc_format_reading.specs.messages.MessageViews.{version_view}
use Rattle.ipc_format_reading.specs.messages.WholeMessages.{dictionary_parts_view}
use Rattle.ipc_format_reading.specs.metadata.Views.{ids_views}
use Rattle.ipc_format_batch_reading.specs.BatchReads.{sized}
use Rattle.ipc_format_batch_reading.proofs.DictionaryReads.{put_of, stated_read_at}
use Rattle.ipc_format_batch_reading.proofs.StandingMessages.{put_stands}
use Rattle.ipc_format_batch_reading.proofs.dictionary_batch.read_dictionary_with.Goals as goal

pub returns-in_err-array : goal.returns-in_err-array
returns-in_err-array g c =
    let error = c.in_err-array.field-0.0 in
    let schema = c.args.ipc_schema.now in
    let bytes = c.args.batch.now.table.bytes.now in
    let table = table_of c.args.batch.now.table.place in
    let parts = c.in-Some.parts in
    let layout : Layout = record {
      fields = c.args.fields.now;
      below = ids_views schema.fields;
      is_little_endian = schema.is_little_endian;
    } in
    let found : dictionary_batch_in bytes table ≡ Some (dictionary_parts_view parts) = search rules in
    let same = to_z-of_z w64 parts.id (search rules) in
    let plain : parts.is_delta ≡ false = search rules in
    let from : parts.values.table.bytes.now ≡ bytes = search rules in
    let is : c.from_residual.result ≡ Err error = search rules in
    rw is (
      refl,
      stated_read_at layout (standing_in c.args.dictionaries.now) bytes parts.values.table.bytes.now (dictionary_batch table)
          (dictionary_batch (table_of parts.values.table.place)) (version_view c.args.version) c.args.block_offset table (dictionary_parts_view parts)
          (sized c.args.file_size (g.R.Room.told c.args.reader.now)) (sized c.args.file_size (g.R.Room.told c.read_stated.new.reader))
          (Err error) _ same
          from found plain c.in_err-array.ensures,
    )

pub returns : goal.returns
returns g c =
    let array = c.in_ok-array.array in
    let schema = c.args.ipc_schema.now in
    let bytes = c.args.batch.now.table.bytes.now in
    let table = table_of c.args.batch.now.table.place in
    let parts = c.in-Some.parts in
    let layout : Layout = record {
      fields = c.args.fields.now;
      below = ids_views schema.fields;
      is_little_endian = schema.is_little_endian;
    } in
    let found : dictionary_batch_in bytes table ≡ Some (dictionary_parts_view parts) = search rules in
    let same = to_z-of_z w64 parts.id (search rules) in
    let plain : parts.is_delta ≡ false = search rules in
    let from : parts.values.table.bytes.now ≡ bytes = search rules in
    let puts = put_of c.args.dictionaries.now c.insert.new.self _ parts.id array same c.in_ok-insert.ensures.updates.0 in (
      (parts.id, array),
      puts,
      put_stands c.args.dictionaries.now c.insert.new.self (parts.id, array) puts,
      stated_read_at layout (standing_in c.args.dictionaries.now) bytes parts.values.table.bytes.now (dictionary_batch table)
          (dictionary_batch (table_of parts.values.table.place)) (version_view c.args.version) c.args.block_offset table
          (dictionary_parts_view parts) (sized c.args.file_size (g.R.Room.told c.args.reader.now))
          (sized c.args.file_size (g.R.Room.told c.read_stated.new.reader)) (Ok array) _ same from found plain c.in_ok-array.ensures,
    )
