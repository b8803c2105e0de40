-- Marks, and the bytes behind them.
use Rattle.std.proofs.Common.{◌≡◌, ◌∙◌, ◌*◌, List, drop, sym, ap, subst, inl, rules}
use Rattle.std.specs.Prelude.{Err, None, Some, is_some, true}
use Rattle.std.specs.List.{list_all}
use Rattle.ipc_format_column_writing.specs.column_reading.columnar_memory.Layouts.{physical_type}
use Rattle.ipc_format_column_writing.specs.column_reading.columnar_memory.declared.PhysicalType.TheVariants as physical
use Rattle.ipc_format_column_writing.specs.column_reading.columns.Slots.{Slot}
use Rattle.ipc_format_column_writing.specs.column_reading.columns.SoundColumns.{is_byte}
use Rattle.ipc_format_column_writing.specs.column_reading.columns.StoredColumns.{fixed_bytes, flat}
use Rattle.ipc_format_column_writing.specs.column_reading.Reads.{next_marked}
use Rattle.ipc_format_column_writing.specs.column_reading.Rooms.{ForBytes}
use Rattle.ipc_format_column_writing.proofs.reading_lemmas.ColumnReads.{Marks}
use Rattle.ipc_format_column_writing.proofs.reading_lemmas.Readings.{out_of_memory, reads_refused}
use Rattle.ipc_format_column_writing.proofs.reading_lemmas.Skipping.{end_behind}
use Rattle.ipc_format_column_writing.specs.nested_arrays.Checked.{IsChecked}
use Rattle.ipc_format_column_writing.specs.nested_arrays.FlatColumns.{byte_width}
use Rattle.ipc_format_array_reading.specs.TypedReads.{IsNeeded, front_array}
use Rattle.ipc_format_array_reading.proofs.FixedColumns.{bytes_past, bytes_refused, fixed_bytes_given, fixed_bytes_next, strings_made}
use Rattle.ipc_format_array_reading.proofs.fixed_size_binary.read_fixed_size_binary.Goals as goal

pub returns-in_err-marked : goal.returns-in_err-marked
returns-in_err-marked g c =
    let t = c.args.data_type in
    let nodes = c.args.field_nodes.now.items in
    let buffers = c.args.buffers.now.items in
    let little = c.args.is_little_endian in
    let origin = c.args.block_offset in
    let error = c.in_err-marked.field-0.0 in
    let is : c.from_residual.result ≡ Err error = search rules in
    let kind : physical_type t ≡ physical.FixedSizeBinary = search rules in
    rw is (inl (
      kind,
      reads_refused (is_some c.args.compression) (g.R.Room.told c.args.reader.now) (g.R.Room.told c.read_marked.new.reader)
          (λ (found : Marks). found) (next_marked nodes c.args.limit buffers origin) (λ (some : List Slot). some)
          (λ marks room. fixed_bytes_next t (byte_width t) (drop 1 buffers) origin marks room)
          (front_array t nodes buffers little c.args.limit origin) error
          (fixed_bytes_given t nodes buffers little c.args.limit origin kind) c.in_err-marked.ensures.read,
      c.in_err-marked.ensures.nodes,
      c.in_err-marked.ensures.buffers,
    ))

pub returns-in_default : goal.returns-in_default
returns-in_default g c =
    let t = c.args.data_type in
    let nodes = c.args.field_nodes.now.items in
    let buffers = c.args.buffers.now.items in
    let later = c.read_marked.new.buffers.items in
    let marks : Marks = (c.in_ok-marked.marked.taken, c.in_ok-marked.marked.validity) in
    let kind : physical_type t ≡ physical.FixedSizeBinary = search rules in
    let size = c.get_size-size.result in
    let none : c.bytes_of.result ≡ None = search rules in
    let past : IsNeeded (marks.0 * size) later None = subst (IsNeeded (marks.0 * size) later) none c.bytes_of.ensures in
    inl (
      kind,
      bytes_past (is_some c.args.compression) (g.R.Room.told c.args.reader.now) (g.R.Room.told c.read_marked.new.reader) t nodes c.args.limit
          buffers later c.args.is_little_endian c.args.block_offset marks (marks.0 * size) kind
          (ap (λ k. marks.0 * k) c.get_size-size.ensures) past c.in_ok-marked.ensures.read c.in_ok-marked.ensures.buffers.1,
      (1, c.in_ok-marked.ensures.nodes.1),
      (1, c.in_ok-marked.ensures.buffers.1),
    )

pub returns-in_err-bytes : goal.returns-in_err-bytes
returns-in_err-bytes g c =
    let t = c.args.data_type in
    let nodes = c.args.field_nodes.now.items in
    let buffers = c.args.buffers.now.items in
    let later = c.read_marked.new.buffers.items in
    let marks : Marks = (c.in_ok-marked.marked.taken, c.in_ok-marked.marked.validity) in
    let kind : physical_type t ≡ physical.FixedSizeBinary = search rules in
    let needed = c.in-Some.needed in
    let found : c.bytes_of.result ≡ Some needed = search rules in
    let counted : needed ≡ marks.0 * byte_width t =
    subst (IsNeeded (marks.0 * c.get_size-size.result) later) found c.bytes_of.ensures ∙ ap (λ k. marks.0 * k) c.get_size-size.ensures in
    let error = c.in_err-bytes.field-0.0 in
    let is : c.from_residual-in_err-bytes.result ≡ Err error = search rules in
    rw is (inl (
      kind,
      bytes_refused (is_some c.args.compression) (g.R.Room.told c.args.reader.now) (g.R.Room.told c.read_marked.new.reader)
          (g.R.Room.told c.read_bytes.new.reader) t nodes c.args.limit buffers later c.args.is_little_endian c.args.block_offset marks needed
          (λ (some : List Slot). some) error kind counted c.in_ok-marked.ensures.read c.in_ok-marked.ensures.buffers.1
          c.in_err-bytes.ensures.read,
      (1, c.in_ok-marked.ensures.nodes.1),
      end_behind buffers later c.read_bytes.new.buffers.items 1 c.in_ok-marked.ensures.buffers.1 c.in_err-bytes.ensures.taken,
    ))

pub returns-in_err-values : goal.returns-in_err-values
returns-in_err-values g c =
    let t = c.args.data_type in
    let nodes = c.args.field_nodes.now.items in
    let buffers = c.args.buffers.now.items in
    let later = c.read_marked.new.buffers.items in
    let old = g.R.Room.told c.args.reader.now in
    let kind : physical_type t ≡ physical.FixedSizeBinary = search rules in
    let error = c.in_err-values.field-0.0 in
    let is : c.from_residual-in_err-values.result ≡ Err error = search rules in
    rw is (inl (
      kind,
      out_of_memory old (g.R.Room.told c.read_bytes.new.reader)
          (ForBytes old (λ room. front_array t nodes buffers c.args.is_little_endian c.args.limit c.args.block_offset room ≡ None))
          (is_some c.args.compression) error c.in_err-values.ensures c.in_ok-marked.ensures.read.0,
      (1, c.in_ok-marked.ensures.nodes.1),
      end_behind buffers later c.read_bytes.new.buffers.items 1 c.in_ok-marked.ensures.buffers.1 (1, c.in_ok-bytes.ensures.taken.1),
    ))

pub returns : goal.returns
returns g c =
    let t = c.args.data_type in
    let nodes = c.args.field_nodes.now.items in
    let buffers = c.args.buffers.now.items in
    let later = c.read_marked.new.buffers.items in
    let marks : Marks = (c.in_ok-marked.marked.taken, c.in_ok-marked.marked.validity) in
    let kind : physical_type t ≡ physical.FixedSizeBinary = search rules in
    let needed = c.in-Some.needed in
    let found : c.bytes_of.result ≡ Some needed = search rules in
    let counted : needed ≡ marks.0 * byte_width t =
    subst (IsNeeded (marks.0 * c.get_size-size.result) later) found c.bytes_of.ensures ∙ ap (λ k. marks.0 * k) c.get_size-size.ensures in
    let bytes = c.in_ok-bytes.bytes in
    let values = c.in_ok-values.values in
    let copied : values ≡ bytes.items = c.in_ok-values.ensures in
    let each : list_all is_byte values ≡ true = search rules in
    strings_made (is_some c.args.compression) (g.R.Room.told c.args.reader.now) (g.R.Room.told c.read_marked.new.reader)
    (g.R.Room.told c.read_bytes.new.reader) t nodes c.read_marked.new.field_nodes.items c.args.limit buffers later
    c.read_bytes.new.buffers.items c.args.is_little_endian c.args.block_offset marks needed bytes.items c.try_new.result kind counted
    c.in_ok-marked.ensures.size c.in_ok-bytes.ensures.size (ap (list_all is_byte) (sym copied) ∙ each) c.in_ok-marked.ensures.read
    c.in_ok-marked.ensures.nodes c.in_ok-marked.ensures.buffers c.in_ok-bytes.ensures.read c.in_ok-bytes.ensures.taken
    (subst (λ xs. IsChecked (flat t marks.1 (fixed_bytes (byte_width t) xs)) c.try_new.result) copied c.try_new.ensures)
