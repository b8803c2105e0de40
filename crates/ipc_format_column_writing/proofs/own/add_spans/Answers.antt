use Rattle.std.proofs.Common.{◌≡◌, ◌∙◌, ◌+◌, ◌-◌, ◌≤◌, arith}
use Rattle.std.specs.Prelude.{slice_index}
use Rattle.ipc_format_column_reading.specs.column_bytes.columnar_memory.Spans.{last_of, offset_at, offsets_of}
use Rattle.ipc_format_column_reading.specs.column_bytes.columns.StoredColumns.{cut_list}
use Rattle.ipc_format_column_reading.specs.column_bytes.grammar.StoredEncoding.{last_offset}
use Rattle.ipc_format_column_reading.proofs.bytes_lemmas.FlatRanges.{taken_first, taken_last, taken_rise, taken_within}
use Rattle.ipc_format_column_writing.proofs.own.add_spans.Goals as goal

pub overflow_sub-result : goal.overflow_sub-result
overflow_sub-result g c =
    omega (arith, taken_rise c.args.offsets.now c.args.first c.args.count c.requires, c.offset_at-start.ensures, c.offset_at-end.ensures)

pub returns : goal.returns
returns g c =
    let s = c.args.offsets.now in
    let first = c.args.first in
    let count = c.args.count in
    let taken = cut_list (offsets_of s) first (count + 1) in
    let start : c.offset_at-start.result ≡ slice_index taken 0 = c.offset_at-start.ensures ∙ taken_first s first count c.requires in
    let end : c.offset_at-end.result ≡ last_offset taken = c.offset_at-end.ensures ∙ taken_last s first count c.requires in
    let rise : offset_at s first ≤ offset_at s (first + count) = taken_rise s first count c.requires in
    let most : offset_at s (first + count) ≤ last_of s = taken_within s (first + count) (last_of s) (omega arith) in (
      c.in_ok-add_offsets.ensures,
      start,
      λ i. end i - start i,
      omega (arith, rise, most, c.offset_at-start.ensures, c.offset_at-end.ensures),
    )
