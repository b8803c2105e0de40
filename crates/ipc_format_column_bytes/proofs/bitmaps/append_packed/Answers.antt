use Rattle.std.proofs.Common.{◌∙◌, ◌++◌, List, ℕ, ap}
use Rattle.ipc_format_column_bytes.proofs.Packed.{packed_bytes}
use Rattle.ipc_format_column_bytes.proofs.bitmaps.append_packed.Goals as goal

pub returns : goal.returns
returns c =
    c.in_ok-extend_from_slice.ensures.items
    ∙ ap (λ (more : List ℕ). c.args.to.now.items ++ more)
    (packed_bytes c.args.bytes.now c.args.len (λ k. (c.type_inv.bytes k).fits) c.requires)
