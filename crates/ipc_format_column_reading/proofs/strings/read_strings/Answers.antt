-- Marks, offsets and bytes, read one after another.
use Rattle.std.proofs.Common.{◌≡◌, ◌∙◌, ℕ, List, length, refl, sym, ap, rules}
use Rattle.std.specs.Prelude.{Err, Ok, Some, is_some, vec_items}
use Rattle.ipc_format_column_bytes.specs.streams.columnar_memory.Spans as spans
use Rattle.ipc_format_column_bytes.specs.streams.columnar_memory.Spans.{offsets_of}
use Rattle.ipc_format_column_bytes.specs.streams.flatbuffers.Reading.{◌>>=◌}
use Rattle.ipc_format_column_bytes.specs.streams.grammar.Columns.{last_of}
use Rattle.ipc_format_column_reading.specs.Buffers.{next_window}
use Rattle.ipc_format_column_reading.specs.Reads.{Strings, strings_of}
use Rattle.ipc_format_column_reading.proofs.ColumnReads.{Marks, bytes_behind, last_is, same_number, strings_behind, takes_behind, with_bytes}
use Rattle.ipc_format_column_reading.proofs.Readings.{reads_made, reads_refused, takes_any}
use Rattle.ipc_format_column_reading.proofs.Skipping.{end_behind}
use Rattle.ipc_format_column_reading.proofs.strings.read_strings.Goals as goal

pub returns-in_err-offsets-clause-nodes : goal.returns-in_err-offsets-clause-nodes
returns-in_err-offsets-clause-nodes g c =
    takes_any 1 c.args.field_nodes.now.items c.read_marked.new.field_nodes.items c.in_ok-marked.marked c.from_residual-in_err-offsets.result
    c.in_ok-marked.ensures.nodes

pub returns-in_err-offsets-clause-buffers : goal.returns-in_err-offsets-clause-buffers
returns-in_err-offsets-clause-buffers g c =
    let is : c.from_residual-in_err-offsets.result ≡ Err c.in_err-offsets.field-0.0 = search rules in
    rw is (end_behind c.args.buffers.now.items c.read_marked.new.buffers.items c.read_offsets.new.buffers.items 1 c.in_ok-marked.ensures.buffers.1
    c.in_err-offsets.ensures.rest)

pub returns-in_err-bytes-clause-nodes : goal.returns-in_err-bytes-clause-nodes
returns-in_err-bytes-clause-nodes g c =
    takes_any 1 c.args.field_nodes.now.items c.read_marked.new.field_nodes.items c.in_ok-marked.marked c.from_residual-in_err-bytes.result
    c.in_ok-marked.ensures.nodes

pub returns-in_err-bytes-clause-buffers : goal.returns-in_err-bytes-clause-buffers
returns-in_err-bytes-clause-buffers g c =
    let is : c.from_residual-in_err-bytes.result ≡ Err c.in_err-bytes.field-0.0 = search rules in
    rw is (end_behind c.args.buffers.now.items c.read_marked.new.buffers.items c.read_bytes.new.buffers.items 1 c.in_ok-marked.ensures.buffers.1
    (end_behind c.read_marked.new.buffers.items c.read_offsets.new.buffers.items c.read_bytes.new.buffers.items 1 c.in_ok-offsets.ensures.rest.1
    c.in_err-bytes.ensures.taken))

pub returns-in_err-bytes-clause-read : goal.returns-in_err-bytes-clause-read
returns-in_err-bytes-clause-read g c =
    let buffers = c.args.buffers.now.items in
    let behind_marks = c.read_marked.new.buffers.items in
    let behind_offsets = c.read_offsets.new.buffers.items in
    let marks : Marks = (c.in_ok-marked.marked.taken, c.in_ok-marked.marked.validity) in
    let offsets = c.in_ok-offsets.offsets in
    let compressed = is_some c.args.compression in
    let first = g.R.Room.told c.args.reader.now in
    let second = g.R.Room.told c.read_marked.new.reader in
    let third = g.R.Room.told c.read_offsets.new.reader in
    let last = g.R.Room.told c.read_bytes.new.reader in
    let end = c.to_usize-end.result in
    let ends : last_of (offsets_of offsets) ≡ end =
    last_is offsets ∙ same_number (g.O.Number.value c.last.result.now) (spans.last_of offsets) end c.last.ensures c.to_usize-end.ensures.0 in
    let error = c.in_err-bytes.field-0.0 in
    let is : c.from_residual-in_err-bytes.result ≡ Err error = search rules in
    rw is (strings_behind compressed first second last (λ (found : Marks). found) g.O.Offset.IS_LARGE c.args.is_little_endian
    c.args.field_nodes.now.items c.args.limit buffers behind_marks c.args.block_offset marks (λ (s : Strings). s) (Err error)
    (c.in_ok-marked.ensures.read, c.in_ok-marked.ensures.buffers.1)
    (bytes_behind compressed second third last g.O.Offset.IS_LARGE c.args.is_little_endian behind_marks behind_offsets c.args.block_offset marks
    offsets (λ (s : Strings). s) (Err error) c.in_ok-offsets.ensures.read c.in_ok-offsets.ensures.rest.1
    (reads_refused compressed third last (λ (bytes : List ℕ). bytes) (next_window behind_offsets c.args.block_offset end) (λ (s : Strings). s)
    (λ bytes room. Some (strings_of marks.0 marks.1 (offsets_of offsets) bytes))
    (with_bytes behind_offsets c.args.block_offset marks (offsets_of offsets)) error
    (λ room. ap (λ (n : ℕ). next_window behind_offsets c.args.block_offset n room
    >>= (λ bytes. Some (strings_of marks.0 marks.1 (offsets_of offsets) bytes))) ends)
    c.in_err-bytes.ensures.read)))

pub returns-in_err-values-clause-nodes : goal.returns-in_err-values-clause-nodes
returns-in_err-values-clause-nodes g c =
    takes_any 1 c.args.field_nodes.now.items c.read_marked.new.field_nodes.items c.in_ok-marked.marked c.from_residual-in_err-values.result
    c.in_ok-marked.ensures.nodes

pub returns-in_err-values-clause-buffers : goal.returns-in_err-values-clause-buffers
returns-in_err-values-clause-buffers g c =
    let is : c.from_residual-in_err-values.result ≡ Err c.in_err-values.field-0.0 = search rules in
    rw is (end_behind c.args.buffers.now.items c.read_marked.new.buffers.items c.read_bytes.new.buffers.items 1 c.in_ok-marked.ensures.buffers.1
    (end_behind c.read_marked.new.buffers.items c.read_offsets.new.buffers.items c.read_bytes.new.buffers.items 1 c.in_ok-offsets.ensures.rest.1
    (1, c.in_ok-bytes.ensures.taken.1)))

pub returns-clause-buffers : goal.returns-clause-buffers
returns-clause-buffers g c =
    takes_behind 2 1 3 c.args.buffers.now.items c.read_offsets.new.buffers.items c.read_bytes.new.buffers.items refl
    (takes_behind 1 1 2 c.args.buffers.now.items c.read_marked.new.buffers.items c.read_offsets.new.buffers.items refl
    c.in_ok-marked.ensures.buffers c.in_ok-offsets.ensures.rest) c.in_ok-bytes.ensures.taken

pub returns-clause-read : goal.returns-clause-read
returns-clause-read g c =
    let buffers = c.args.buffers.now.items in
    let behind_marks = c.read_marked.new.buffers.items in
    let behind_offsets = c.read_offsets.new.buffers.items in
    let marks : Marks = (c.in_ok-marked.marked.taken, c.in_ok-marked.marked.validity) in
    let offsets = c.in_ok-offsets.offsets in
    let compressed = is_some c.args.compression in
    let first = g.R.Room.told c.args.reader.now in
    let second = g.R.Room.told c.read_marked.new.reader in
    let third = g.R.Room.told c.read_offsets.new.reader in
    let last = g.R.Room.told c.read_bytes.new.reader in
    let end = c.to_usize-end.result in
    let ends : last_of (offsets_of offsets) ≡ end =
    last_is offsets ∙ same_number (g.O.Number.value c.last.result.now) (spans.last_of offsets) end c.last.ensures c.to_usize-end.ensures.0 in
    let bytes = c.in_ok-bytes.bytes in
    let values = c.in_ok-values.values in
    let made : Strings = strings_of (length offsets.lengths) marks.1 (offsets_of offsets) values in
    let counted : marks.0 ≡ length offsets.lengths = sym c.in_ok-offsets.ensures.size in
    let copied : bytes.items ≡ values = sym c.in_ok-values.ensures in
    strings_behind compressed first second last (λ (found : Marks). found) g.O.Offset.IS_LARGE c.args.is_little_endian
    c.args.field_nodes.now.items c.args.limit buffers behind_marks c.args.block_offset marks (λ (s : Strings). s) (Ok made)
    (c.in_ok-marked.ensures.read, c.in_ok-marked.ensures.buffers.1)
    (bytes_behind compressed second third last g.O.Offset.IS_LARGE c.args.is_little_endian behind_marks behind_offsets c.args.block_offset marks
    offsets (λ (s : Strings). s) (Ok made) c.in_ok-offsets.ensures.read c.in_ok-offsets.ensures.rest.1
    (reads_made compressed third last vec_items (next_window behind_offsets c.args.block_offset end) bytes
    (λ (s : Strings). s) (λ bytes room. Some (strings_of marks.0 marks.1 (offsets_of offsets) bytes))
    (with_bytes behind_offsets c.args.block_offset marks (offsets_of offsets)) made
    (λ room. ap (λ (n : ℕ). next_window behind_offsets c.args.block_offset n room
    >>= (λ bytes. Some (strings_of marks.0 marks.1 (offsets_of offsets) bytes))) ends)
    c.in_ok-bytes.ensures.read (λ room j. Some (strings_of (counted j) marks.1 (offsets_of offsets) (copied j)))))
