use Rattle.std.proofs.Common.{◌∙◌, ◌+◌, [], ◌∷◌, ap, option_copied, sym}
use Rattle.ipc_format_streams.specs.columnar_memory.Layouts.{physical_type}
use Rattle.ipc_format_streams.specs.columnar_memory.Spans.{offsets_of}
use Rattle.ipc_format_streams.specs.columns.StoredColumns.{cut_list, cut_mask}
use Rattle.ipc_format_streams.specs.grammar.StoredEncoding.{between_offsets, encode_range, moved_bytes}
use Rattle.ipc_format_column_bytes.specs.Bodies.{of_buffers, of_slots, parts_of}
use Rattle.ipc_format_column_bytes.specs.FlatColumns.{binary_column}
use Rattle.ipc_format_column_bytes.specs.Numbers.{width_of}
use Rattle.ipc_format_column_bytes.proofs.Bodies.{added_then}
use Rattle.ipc_format_column_bytes.proofs.FlatRanges.{binary_range}
use Rattle.ipc_format_column_bytes.proofs.body.Body.add_binary.Goals as goal

pub returns : goal.returns
returns g c =
    let mask = option_copied c.validity.result in
    let little = c.args.is_little_endian in
    let large = g.O.Offset.IS_LARGE in
    let first = c.args.first in
    let count = c.args.count in
    let bytes = c.as_slice.result.now in
    let taken = cut_list (offsets_of c.offsets.result.now) first (count + 1) in
    added_then c.add_strings.result c.args.self.now (parts_of c.add_slots.new.self) (parts_of c.add_strings.new.self)
    (of_slots count (cut_mask mask first count))
    (of_buffers (moved_bytes little (width_of large) taken ∷ between_offsets taken bytes ∷ []))
    (encode_range little (binary_column c.args.array.now) first count) c.in_ok-add_slots.ensures c.add_strings.ensures
    (binary_range little large c.args.array.now mask c.offsets.result.now bytes first count
    (ap physical_type (sym c.data_type-type.ensures.value) ∙ c.data_type-type.ensures.fits) c.validity.ensures.value c.offsets.ensures
    (c.as_slice.ensures ∙ c.values.ensures))
