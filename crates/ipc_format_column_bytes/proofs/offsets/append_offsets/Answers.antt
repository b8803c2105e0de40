use Rattle.std.specs.List.{flat_map}
use Rattle.std.specs.Prelude.{slice_range}
use Rattle.std.proofs.Common.{◌∙◌, ◌+◌, ◌-◌, ◌++◌, arith, ap, List, ℕ, refl}
use Rattle.ipc_format_streams.specs.columnar_memory.Spans.{number_of}
use Rattle.ipc_format_streams.specs.grammar.StoredEncoding.{ordered_bytes}
use Rattle.ipc_format_streams.proofs.columnar_memory_lemmas.buffer_lemmas.Runs.{length-AreOffsets}
use Rattle.ipc_format_column_bytes.specs.Numbers.{width_of}
use Rattle.ipc_format_column_bytes.proofs.Moved.{moved_part, part_from_first}
use Rattle.ipc_format_column_bytes.proofs.offsets.append_offsets.Goals as goal

pub offset_bounds-as_slice-first : goal.offset_bounds-as_slice-first
offset_bounds-as_slice-first g c =
    omega (arith, length-AreOffsets g.O.Number.value c.as_slice.result.now c.args.offsets.now c.as_slice.ensures)

pub slice_bounds-part-end : goal.slice_bounds-part-end
slice_bounds-part-end g c = omega (arith, length-AreOffsets g.O.Number.value c.as_slice.result.now c.args.offsets.now c.as_slice.ensures)

pub with_offsets-requires-clause-first : goal.with_offsets-requires-clause-first
with_offsets-requires-clause-first g c =
    part_from_first g.O.Number.value _ c.as_slice.result.now c.args.offsets.now c.offset_at-start.result c.args.first c.args.count
    c.as_slice.ensures c.requires refl c.offset_at-start.ensures

pub returns : goal.returns
returns g c =
    let bytes : List ℕ =
    flat_map (λ x. ordered_bytes c.args.is_little_endian (width_of g.O.Offset.IS_LARGE) (number_of (g.O.Number.value x) - c.offset_at-start.result))
    (slice_range c.as_slice.result.now c.args.first (c.args.first + c.args.count + 1)) in
    c.with_offsets.ensures
    ∙ (λ i. (c.replace-room.ensures.value i).items ++ bytes)
    ∙ ap (λ (front : List ℕ). front ++ bytes) c.in_ok-reserve.ensures.items
    ∙ ap (λ (more : List ℕ). c.args.to.now.items ++ more)
    (moved_part g.O.Number.value c.args.is_little_endian g.O.Offset.IS_LARGE _ c.as_slice.result.now c.args.offsets.now
    c.offset_at-start.result c.args.first c.args.count c.as_slice.ensures c.requires refl c.offset_at-start.ensures)
