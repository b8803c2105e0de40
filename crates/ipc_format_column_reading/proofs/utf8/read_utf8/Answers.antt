-- Marks, offsets and bytes as an array of texts.
use Rattle.std.proofs.Common.{◌≡◌, length, refl, rules}
use Rattle.std.specs.Prelude.{Err, is_some}
use Rattle.std.specs.Str.{is_utf8}
use Rattle.ipc_format_column_bytes.specs.flat_arrays.ByteStrings.{ByteStrings, byte_strings}
use Rattle.ipc_format_column_bytes.specs.flat_arrays.Fits.{Fits, text_layout}
use Rattle.ipc_format_column_bytes.specs.streams.columnar_memory.Layouts.{physical_type}
use Rattle.ipc_format_column_bytes.specs.streams.columns.Slots.{text}
use Rattle.ipc_format_column_reading.specs.FlatColumns.{text_column}
use Rattle.ipc_format_column_reading.specs.Reads.{Strings, front_slots, next_strings}
use Rattle.ipc_format_column_reading.proofs.StringColumns.{strings_made, texts_given}
use Rattle.ipc_format_column_reading.proofs.TextReads.{only, parts_refused, same_mask, texts_checked}
use Rattle.ipc_format_column_reading.proofs.utf8.read_utf8.Goals as goal

pub returns-in_err-parts : goal.returns-in_err-parts
returns-in_err-parts g c =
    let t = c.args.data_type in
    let nodes = c.args.field_nodes.now.items in
    let buffers = c.args.buffers.now.items in
    let little = c.args.is_little_endian in
    let origin = c.args.block_offset in
    let error = c.in_err-parts.field-0.0 in
    let is : c.from_residual.result ≡ Err error = search rules in
    let read = rw c.layout.ensures at c.in_err-parts.ensures.read in
    rw is (parts_refused (physical_type t ≡ text_layout g.O.Offset.IS_LARGE) (is_some c.args.compression) (g.R.Room.told c.args.reader.now)
    (g.R.Room.told c.read_strings_of.new.reader) text_column t (λ (s : Strings). s)
    (next_strings g.O.Offset.IS_LARGE nodes c.args.limit buffers little origin) (λ s. strings_made is_utf8 text s)
    (front_slots t nodes buffers little c.args.limit origin) 1 3 nodes c.read_strings_of.new.field_nodes.items
    buffers c.read_strings_of.new.buffers.items error (texts_given t g.O.Offset.IS_LARGE nodes buffers little c.args.limit origin) read)

pub returns : goal.returns
returns g c =
    let t = c.args.data_type in
    let nodes = c.args.field_nodes.now.items in
    let buffers = c.args.buffers.now.items in
    let little = c.args.is_little_endian in
    let origin = c.args.block_offset in
    let parts = c.in_ok-parts.parts in
    let array : ByteStrings = byte_strings t parts.offsets parts.values parts.validity in
    let there = only (rw c.layout.ensures at c.in_ok-parts.ensures.read) in
    let fits : Fits (text_layout g.O.Offset.IS_LARGE) array = record {
      fits = there.0;
      masked = same_mask (length parts.offsets.lengths) parts.validity c.in_ok-parts.ensures.masked;
      within = c.in_ok-parts.ensures.within;
    } in
    texts_checked (physical_type t ≡ text_layout g.O.Offset.IS_LARGE) (is_some c.args.compression) (g.R.Room.told c.args.reader.now)
    (g.R.Room.told c.read_strings_of.new.reader) t g.O.Offset.IS_LARGE (next_strings g.O.Offset.IS_LARGE nodes c.args.limit buffers little origin)
    (front_slots t nodes buffers little c.args.limit origin) array 1 3 nodes c.read_strings_of.new.field_nodes.items
    buffers c.read_strings_of.new.buffers.items c.try_new.result there.0 refl fits
    (texts_given t g.O.Offset.IS_LARGE nodes buffers little c.args.limit origin there.0) there.1 there.2 there.3 c.try_new.ensures
