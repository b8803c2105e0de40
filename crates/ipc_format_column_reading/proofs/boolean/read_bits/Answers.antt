-- Marks, and the values behind them.
use Rattle.std.proofs.Common.{◌≡◌, List, Bool, refl, inl, rules}
use Rattle.std.specs.Prelude.{Err, Option, is_some}
use Rattle.ipc_format_column_bytes.specs.streams.columnar_memory.Layouts.{physical_type}
use Rattle.ipc_format_column_bytes.specs.streams.columnar_memory.declared.PhysicalType.TheVariants as physical
use Rattle.ipc_format_column_bytes.specs.streams.columns.Slots.{Slot}
use Rattle.ipc_format_column_bytes.specs.streams.columns.StoredColumns as stored
use Rattle.ipc_format_column_bytes.specs.streams.columns.StoredColumns.{flat, slots}
use Rattle.ipc_format_column_reading.specs.Buffers.{next_bits}
use Rattle.ipc_format_column_reading.proofs.NumberColumns.{truths_given, truths_made, truths_next}
use Rattle.ipc_format_column_reading.specs.Reads.{front_slots, next_marked}
use Rattle.ipc_format_column_reading.proofs.ColumnReads.{Marks, takes_behind, values_behind, values_refused}
use Rattle.ipc_format_column_reading.proofs.Readings.{reads_refused}
use Rattle.ipc_format_column_reading.proofs.Skipping.{end_behind}
use Rattle.ipc_format_column_reading.proofs.boolean.read_bits.Goals as goal

pub returns-in_err-marked-clause-read : goal.returns-in_err-marked-clause-read
returns-in_err-marked-clause-read g c =
    let t = c.args.data_type.now in
    let nodes = c.args.field_nodes.now.items in
    let buffers = c.args.buffers.now.items in
    let little = c.args.is_little_endian in
    let origin = c.args.block_offset in
    let error = c.in_err-marked.field-0.0 in
    let is : c.from_residual.result ≡ Err error = search rules in
    let kind : physical_type t ≡ physical.Boolean = search rules in
    rw is (inl (
      kind,
      reads_refused (is_some c.args.compression) (g.R.Room.told c.args.reader.now) (g.R.Room.told c.read_marked.new.reader)
          (λ (found : Marks). found) (next_marked nodes c.args.limit buffers origin) (λ (some : List Slot). some)
          (λ marks room. truths_next t buffers origin marks room) (front_slots t nodes buffers little c.args.limit origin) error
          (truths_given t nodes buffers little c.args.limit origin kind) c.in_err-marked.ensures.read,
      c.in_err-marked.ensures.nodes,
      c.in_err-marked.ensures.buffers,
    ))

pub returns-in_err-values-clause-read : goal.returns-in_err-values-clause-read
returns-in_err-values-clause-read g c =
    let t = c.args.data_type.now in
    let nodes = c.args.field_nodes.now.items in
    let buffers = c.args.buffers.now.items in
    let behind = c.read_marked.new.buffers.items in
    let little = c.args.is_little_endian in
    let origin = c.args.block_offset in
    let error = c.in_err-values.field-0.0 in
    let marks : Marks = (c.in_ok-marked.marked.taken, c.in_ok-marked.marked.validity) in
    let is : c.from_residual-in_err-values.result ≡ Err error = search rules in
    let kind : physical_type t ≡ physical.Boolean = search rules in
    rw is (inl (
      kind,
      values_refused (is_some c.args.compression) (g.R.Room.told c.args.reader.now) (g.R.Room.told c.read_marked.new.reader)
          (g.R.Room.told c.read_bitmap.new.reader) (λ (found : Marks). found) nodes c.args.limit buffers behind origin marks
          (λ (bits : List Bool). bits) (λ rest n room. next_bits rest origin n room) (truths_made t) (λ (some : List Slot). some)
          (front_slots t nodes buffers little c.args.limit origin) error (truths_given t nodes buffers little c.args.limit origin kind)
          (c.in_ok-marked.ensures.read, c.in_ok-marked.ensures.buffers.1) c.in_err-values.ensures.read,
      (1, c.in_ok-marked.ensures.nodes.1),
      end_behind buffers behind c.read_bitmap.new.buffers.items 1 c.in_ok-marked.ensures.buffers.1 c.in_err-values.ensures.taken,
    ))

pub returns-clause-read : goal.returns-clause-read
returns-clause-read g c =
    let t = c.args.data_type.now in
    let nodes = c.args.field_nodes.now.items in
    let buffers = c.args.buffers.now.items in
    let behind = c.read_marked.new.buffers.items in
    let little = c.args.is_little_endian in
    let origin = c.args.block_offset in
    let marks : Marks = (c.in_ok-marked.marked.taken, c.in_ok-marked.marked.validity) in
    let kind : physical_type t ≡ physical.Boolean = search rules in (
      kind,
      refl,
      values_behind (is_some c.args.compression) (g.R.Room.told c.args.reader.now) (g.R.Room.told c.read_marked.new.reader)
          (g.R.Room.told c.read_bitmap.new.reader) (λ (found : Marks). found) nodes c.args.limit buffers behind origin marks
          (λ (bits : List Bool). bits) (λ rest n room. next_bits rest origin n room) (truths_made t) c.in_ok-values.values
          (λ (parts : List Bool × Option (List Bool)). slots (flat t parts.1 (stored.bits parts.0)))
          (front_slots t nodes buffers little c.args.limit origin)
          (c.in_ok-values.values, c.in_ok-marked.marked.validity)
          (truths_given t nodes buffers little c.args.limit origin kind) (c.in_ok-marked.ensures.read, c.in_ok-marked.ensures.buffers.1)
          c.in_ok-values.ensures.read refl,
      c.in_ok-marked.ensures.nodes,
      takes_behind 1 1 2 buffers behind c.read_bitmap.new.buffers.items refl c.in_ok-marked.ensures.buffers c.in_ok-values.ensures.taken,
    )
