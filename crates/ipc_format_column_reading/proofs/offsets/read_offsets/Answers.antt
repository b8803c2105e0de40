-- The numbers of the next buffer as offsets.
use Rattle.std.proofs.Common.{◌≡◌, ◌==◌, ◌&&◌, ◌+◌, false, true, rules}
use Rattle.std.specs.Prelude.{Err, is_some, map}
use Rattle.ipc_format_column_bytes.specs.streams.columnar_memory.Spans.{offsets_of}
use Rattle.ipc_format_column_reading.specs.Buffers.{next_values}
use Rattle.ipc_format_column_reading.specs.Reads.{next_offsets, states_less}
use Rattle.ipc_format_column_reading.proofs.OffsetReads.{offsets_made, offsets_read, offsets_sized, offsets_whole, short_read, short_taken}
use Rattle.ipc_format_column_reading.proofs.OffsetReads.{short_whole}
use Rattle.ipc_format_column_reading.proofs.Readings.{reads_refused, takes_any}
use Rattle.ipc_format_column_reading.proofs.offsets.read_offsets.Goals as goal

pub returns-then-has_no_offset-clause-read : goal.returns-then-has_no_offset-clause-read
returns-then-has_no_offset-clause-read g c =
    let buffers = c.args.buffers.now.items in
    let size = g.O.NativeType.SIZE in
    let plain : is_some c.args.compression ≡ false = search rules in
    let short : ((c.args.taken == 0) && states_less buffers size) ≡ true = search rules in
    short_read (is_some c.args.compression) (g.R.Room.told c.args.reader.now)
    (next_offsets g.O.Offset.IS_LARGE c.args.is_little_endian buffers c.args.taken c.args.block_offset) c.new.result plain
    (short_whole g.O.Offset.IS_LARGE c.args.is_little_endian g.O.NativeType.PRIMITIVE buffers c.args.taken c.args.block_offset size
    g.met.O.NativeType.size_law g.met.O.Offset.kind_law short) c.new.ensures

pub returns-then-has_no_offset-clause-rest : goal.returns-then-has_no_offset-clause-rest
returns-then-has_no_offset-clause-rest g c =
    let buffers = c.args.buffers.now.items in
    let size = g.O.NativeType.SIZE in
    let short : ((c.args.taken == 0) && states_less buffers size) ≡ true = search rules in
    short_taken buffers c.pop_front-passed.new.self.items c.args.taken size c.new.result short c.pop_front-passed.ensures.rest

pub returns-in_err-numbers-clause-read : goal.returns-in_err-numbers-clause-read
returns-in_err-numbers-clause-read g c =
    let buffers = c.args.buffers.now.items in
    let size = g.O.NativeType.SIZE in
    let little = c.args.is_little_endian in
    let error = c.in_err-numbers.field-0.0 in
    let is : c.from_residual.result ≡ Err error = search rules in
    let looked : ((c.args.taken == 0) && states_less buffers size) ≡ false = search rules in
    rw is (reads_refused (is_some c.args.compression) (g.R.Room.told c.args.reader.now) (g.R.Room.told c.read_buffer.new.reader)
    (map g.O.NativeType.numbers) (next_values g.O.NativeType.PRIMITIVE little buffers c.args.block_offset (c.args.taken + 1))
    offsets_of (λ found room. offsets_made found) (next_offsets g.O.Offset.IS_LARGE little buffers c.args.taken c.args.block_offset) error
    (offsets_whole g.O.Offset.IS_LARGE little g.O.NativeType.PRIMITIVE buffers c.args.taken c.args.block_offset size
    g.met.O.NativeType.size_law g.met.O.Offset.kind_law looked) c.in_err-numbers.ensures.read)

pub returns-clause-read : goal.returns-clause-read
returns-clause-read g c =
    let buffers = c.args.buffers.now.items in
    let size = g.O.NativeType.SIZE in
    let little = c.args.is_little_endian in
    let looked : ((c.args.taken == 0) && states_less buffers size) ≡ false = search rules in
    offsets_read g.O.NativeType.numbers g.O.Number.value g.met.O.Index.numbers_law (is_some c.args.compression)
    (g.R.Room.told c.args.reader.now) (g.R.Room.told c.read_buffer.new.reader)
    (next_values g.O.NativeType.PRIMITIVE little buffers c.args.block_offset (c.args.taken + 1))
    (next_offsets g.O.Offset.IS_LARGE little buffers c.args.taken c.args.block_offset) c.in_ok-numbers.numbers c.args.taken c.try_from.result
    (offsets_whole g.O.Offset.IS_LARGE little g.O.NativeType.PRIMITIVE buffers c.args.taken c.args.block_offset size
    g.met.O.NativeType.size_law g.met.O.Offset.kind_law looked) c.in_ok-numbers.ensures.size c.in_ok-numbers.ensures.read c.try_from.ensures

pub returns-clause-rest : goal.returns-clause-rest
returns-clause-rest g c =
    takes_any 1 c.args.buffers.now.items c.read_buffer.new.buffers.items c.in_ok-numbers.numbers c.try_from.result c.in_ok-numbers.ensures.taken

pub returns-clause-size : goal.returns-clause-size
returns-clause-size g c =
    offsets_sized g.O.Number.value c.in_ok-numbers.numbers c.args.taken c.try_from.result c.in_ok-numbers.ensures.size c.try_from.ensures
