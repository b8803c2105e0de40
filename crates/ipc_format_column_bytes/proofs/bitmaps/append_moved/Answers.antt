use Rattle.std.proofs.Common.{◌≡◌, ◌∙◌, ◌++◌, ap, List, Bool, ℕ, subst}
use Rattle.ipc_format_streams.specs.grammar.Buffers.{bitmap_bytes}
use Rattle.ipc_format_streams.specs.columnar_memory.Bits.{bits_of}
use Rattle.ipc_format_column_bytes.specs.Appends.{Appends}
use Rattle.ipc_format_column_bytes.proofs.bitmaps.append_moved.Goals as goal

pub returns : goal.returns
returns c =
    let bits = bits_of c.args.bytes.now c.args.first c.args.count in
    let same : bits_of c.as_slice.result.now 0 c.len.result ≡ bits =
    ap (λ (n : ℕ). bits_of c.as_slice.result.now 0 n) c.len.ensures ∙ c.as_slice.ensures.bits ∙ c.in_ok-extend_from_slice.ensures
    ∙ ap (λ (front : List Bool). front ++ bits) c.new-packed.ensures in
    subst (λ (bits : List Bool). Appends c.append_packed.result c.args.to.now.items c.append_packed.new.to.items (bitmap_bytes bits)) same
    c.append_packed.ensures
