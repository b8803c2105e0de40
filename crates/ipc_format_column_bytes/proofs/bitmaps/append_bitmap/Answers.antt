use Rattle.std.proofs.Common.{List, Bool, arith, subst}
use Rattle.ipc_format_streams.specs.grammar.Buffers.{bitmap_bytes}
use Rattle.ipc_format_column_bytes.specs.Appends.{Appends}
use Rattle.ipc_format_column_bytes.proofs.Packed.{part_of_bits}
use Rattle.ipc_format_column_bytes.proofs.bitmaps.append_bitmap.Goals as goal

pub returns : goal.returns
returns c =
    subst (λ (bits : List Bool). Appends c.append_bits.result c.args.to.now.items c.append_bits.new.to.items (bitmap_bytes bits))
    (part_of_bits c.args.bits.now c.as_slice-start.result.0.now c.as_slice-start.result.1 c.as_slice-start.result.2
    c.args.first c.args.count c.as_slice-start.ensures.bits
    (omega (arith, c.as_slice-start.ensures.len, c.requires)))
    c.append_bits.ensures
