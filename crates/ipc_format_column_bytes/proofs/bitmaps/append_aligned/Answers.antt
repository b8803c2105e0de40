use Rattle.std.proofs.Common.{◌/◌, ◌%◌, List, ℕ, arith, refl, subst}
use Rattle.ipc_format_column_bytes.specs.Appends.{Appends}
use Rattle.ipc_format_column_bytes.proofs.Added.{appends_then}
use Rattle.ipc_format_column_bytes.proofs.Packed.{aligned_bytes, packed_whole}
use Rattle.ipc_format_column_bytes.proofs.bitmaps.append_aligned.Goals as goal

pub append_packed-requires : goal.append_packed-requires
append_packed-requires c = packed_whole _ c.args.bytes.now (c.args.count / 8) refl (omega arith)

pub returns : goal.returns
returns c =
    subst (λ (bytes : List ℕ). Appends c.append_moved.result c.args.to.now.items c.append_moved.new.to.items bytes)
    (aligned_bytes _ c.args.bytes.now (c.args.count / 8) (c.args.count % 8) c.args.count refl (omega arith))
    (appends_then c.append_moved.result c.args.to.now.items c.append_packed.new.to.items c.append_moved.new.to.items _ _
    c.in_ok-append_packed.ensures c.append_moved.ensures)
