use Rattle.std.proofs.Common.{List, Bool, arith, refl, subst}
use Rattle.ipc_format_streams.specs.grammar.Buffers.{bitmap_bytes}
use Rattle.ipc_format_column_bytes.specs.Appends.{Appends}
use Rattle.ipc_format_column_bytes.proofs.Packed.{bits_behind}
use Rattle.ipc_format_column_bytes.proofs.bitmaps.append_bits.Goals as goal

pub returns-then-first-eq0 : goal.returns-then-first-eq0
returns-then-first-eq0 c =
    subst (λ (bits : List Bool). Appends c.append_aligned.result c.args.to.now.items c.append_aligned.new.to.items (bitmap_bytes bits))
    (bits_behind _ c.args.bytes.now c.args.first c.args.count refl (omega arith) c.requires) c.append_aligned.ensures
