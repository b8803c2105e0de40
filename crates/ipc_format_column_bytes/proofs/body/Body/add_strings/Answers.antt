use Rattle.std.proofs.Common.{◌+◌, ◌≤◌, [], ◌∷◌, ap, length, refl, arith}
use Rattle.std.specs.Prelude.{slice_range}
use Rattle.ipc_format_streams.specs.columnar_memory.Spans.{offset_at, offsets_of}
use Rattle.ipc_format_streams.specs.columns.StoredColumns.{cut_list}
use Rattle.ipc_format_streams.specs.grammar.StoredEncoding.{between_offsets, moved_bytes}
use Rattle.ipc_format_column_bytes.specs.Bodies.{of_buffers, parts_of}
use Rattle.ipc_format_column_bytes.specs.Numbers.{width_of}
use Rattle.ipc_format_column_bytes.proofs.Bodies.{added_then}
use Rattle.ipc_format_column_bytes.proofs.FlatRanges.{between_taken, taken_rise, taken_within}
use Rattle.ipc_format_column_bytes.proofs.body.Body.add_strings.Goals as goal

pub slice_bounds-add_bytes-count : goal.slice_bounds-add_bytes-count
slice_bounds-add_bytes-count g c =
    omega (arith, taken_rise c.args.offsets.now c.args.first c.args.count c.requires.spans, c.offset_at-start.ensures, c.offset_at-end.ensures)

pub slice_bounds-add_bytes-start : goal.slice_bounds-add_bytes-start
slice_bounds-add_bytes-start g c =
    let s = c.args.offsets.now in
    let most : offset_at s (c.args.first + c.args.count) ≤ length c.args.bytes.now =
    taken_within s (c.args.first + c.args.count) (length c.args.bytes.now) c.requires.within in
    let rise : offset_at s c.args.first ≤ offset_at s (c.args.first + c.args.count) = taken_rise s c.args.first c.args.count c.requires.spans in
    omega (arith, most, rise, c.offset_at-start.ensures, c.offset_at-end.ensures)

pub returns : goal.returns
returns g c =
    let s = c.args.offsets.now in
    let bytes = c.args.bytes.now in
    let little = c.args.is_little_endian in
    let large = g.O.Offset.IS_LARGE in
    let first = c.args.first in
    let count = c.args.count in
    let taken = cut_list (offsets_of s) first (count + 1) in
    let part = slice_range bytes c.offset_at-start.result c.offset_at-end.result in
    added_then c.add_bytes.result c.args.self.now (parts_of c.add_offsets.new.self) (parts_of c.add_bytes.new.self)
    (of_buffers (moved_bytes little (width_of large) taken ∷ [])) (of_buffers (part ∷ []))
    (of_buffers (moved_bytes little (width_of large) taken ∷ between_offsets taken bytes ∷ [])) c.in_ok-add_offsets.ensures c.add_bytes.ensures
    (ap (λ (b : _). of_buffers (moved_bytes little (width_of large) taken ∷ b ∷ []))
    (between_taken s bytes part first count c.offset_at-start.result c.offset_at-end.result c.requires.spans c.offset_at-start.ensures
    c.offset_at-end.ensures refl))
