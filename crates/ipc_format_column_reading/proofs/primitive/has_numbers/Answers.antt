use Rattle.std.proofs.Common.{subst}
use Rattle.ipc_format_column_bytes.specs.streams.columnar_memory.Numbers.{Numbers, IsNative}
use Rattle.ipc_format_column_reading.proofs.primitive.has_numbers.Goals as goal

pub returns : goal.returns
returns g c =
    subst (λ (n : Numbers). IsNative g.T.NativeType.PRIMITIVE n) (g.met.T.NativeType.default_law c.default-zero.result c.default-zero.ensures)
    c.to_le_bytes-bytes.ensures.native
