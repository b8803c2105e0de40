-- Marks, offsets and bytes as an array of byte strings.
use Rattle.std.proofs.Common.{◌≡◌, ◌∙◌, length, true, sym, ap, rules}
use Rattle.std.specs.Prelude.{Err, Some, is_some}
use Rattle.ipc_format_column_bytes.specs.flat_arrays.ByteStrings.{ByteStrings, byte_strings}
use Rattle.ipc_format_column_bytes.specs.flat_arrays.Fits.{binary_layout}
use Rattle.ipc_format_column_bytes.specs.streams.columnar_memory.Layouts.{physical_type}
use Rattle.ipc_format_column_bytes.specs.streams.columns.Slots.{bytes}
use Rattle.ipc_format_column_bytes.specs.streams.columns.StoredColumns.{slots}
use Rattle.ipc_format_column_reading.specs.Reads.{Strings, front_slots, next_strings}
use Rattle.ipc_format_column_reading.specs.FlatColumns.{binary_column}
use Rattle.ipc_format_column_reading.proofs.Readings.{reads_made}
use Rattle.ipc_format_column_reading.proofs.StringColumns.{binaries_given, binary_made, parts_of, strings_made}
use Rattle.ipc_format_column_reading.proofs.TextReads.{only, parts_refused, same_mask}
use Rattle.ipc_format_column_reading.proofs.binary.read_binary.Goals as goal

pub new-requires : goal.new-requires
new-requires g c =
    let there = only (rw c.layout.ensures at c.in_ok-parts.ensures.read) in
    record {
      fits = there.0;
      masked = same_mask (length c.in_ok-parts.parts.offsets.lengths) c.in_ok-parts.parts.validity c.in_ok-parts.ensures.masked;
      within = c.in_ok-parts.ensures.within;
    }

pub returns-in_err-parts : goal.returns-in_err-parts
returns-in_err-parts g c =
    let t = c.args.data_type in
    let nodes = c.args.field_nodes.now.items in
    let buffers = c.args.buffers.now.items in
    let little = c.args.is_little_endian in
    let origin = c.args.block_offset in
    let error = c.in_err-parts.field-0.0 in
    let is : c.from_residual.result ≡ Err error = search rules in
    let read = rw c.layout.ensures at c.in_err-parts.ensures.read in
    rw is (parts_refused (physical_type t ≡ binary_layout g.O.Offset.IS_LARGE) (is_some c.args.compression) (g.R.Room.told c.args.reader.now)
    (g.R.Room.told c.read_strings_of.new.reader) binary_column t (λ (s : Strings). s)
    (next_strings g.O.Offset.IS_LARGE nodes c.args.limit buffers little origin) (λ s. strings_made (λ piece. true) bytes s)
    (front_slots t nodes buffers little c.args.limit origin) 1 3 nodes c.read_strings_of.new.field_nodes.items
    buffers c.read_strings_of.new.buffers.items error (binaries_given t g.O.Offset.IS_LARGE nodes buffers little c.args.limit origin) read)

pub returns : goal.returns
returns g c =
    let t = c.args.data_type in
    let nodes = c.args.field_nodes.now.items in
    let buffers = c.args.buffers.now.items in
    let little = c.args.is_little_endian in
    let origin = c.args.block_offset in
    let parts = c.in_ok-parts.parts in
    let array : ByteStrings = byte_strings t parts.offsets parts.values parts.validity in
    let there = only (rw c.layout.ensures at c.in_ok-parts.ensures.read) in (
      there.0,
      ap (λ (made : ByteStrings). made.data_type) c.new.ensures,
      reads_made (is_some c.args.compression) (g.R.Room.told c.args.reader.now) (g.R.Room.told c.read_strings_of.new.reader) (λ (s : Strings). s)
          (next_strings g.O.Offset.IS_LARGE nodes c.args.limit buffers little origin) (parts_of array)
          (λ (made : ByteStrings). slots (binary_column made)) (λ s room. strings_made (λ piece. true) bytes s)
          (front_slots t nodes buffers little c.args.limit origin) c.new.result
          (binaries_given t g.O.Offset.IS_LARGE nodes buffers little c.args.limit origin there.0) there.1
          (λ room. binary_made array ∙ ap (λ (made : ByteStrings). Some (slots (binary_column made))) (sym c.new.ensures)),
      there.2,
      there.3,
    )
