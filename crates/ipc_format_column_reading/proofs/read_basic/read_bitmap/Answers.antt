-- There are as many bits as were asked for.
use Rattle.std.proofs.Common.{◌∙◌, length, ap}
use Rattle.ipc_format_column_bytes.specs.streams.columnar_memory.Bits.{bit_at}
use Rattle.ipc_format_column_bytes.proofs.streams_lemmas.columnar_memory_lemmas.bitmap_lemmas.Lists.{length-window}
use Rattle.ipc_format_column_reading.proofs.read_basic.read_bitmap.Goals as goal

pub returns-in-Ok-from_u8_vec-clause-size : goal.returns-in-Ok-from_u8_vec-clause-size
returns-in-Ok-from_u8_vec-clause-size g c =
    ap length c.in-Ok-from_u8_vec.ensures ∙ length-window (bit_at c.in-Ok.bytes.items) 0 c.args.count
