use Rattle.std.proofs.Common.{◌≡◌, ◌+◌, ◌-◌, ◌++◌, length, drop, map, ap, ◌∙◌, arith, length-append}
use Rattle.std.specs.List.{flat_map}
use Rattle.std.specs.Int.{w32, to_le_bytes}
use Rattle.ipc_format_flatbuffers.specs.Laying.{Piece, reference_bytes}
use Rattle.ipc_format_flatbuffers.specs.Views.{piece_view}
use Rattle.ipc_format_flatbuffers.proofs.Rest.{rest_step, append_step}
use Rattle.ipc_format_flatbuffers.proofs.laying.put_references.Goals as goal

pub loop-piece-preserved : goal.loop-piece-preserved
loop-piece-preserved c =
    let i = c.loop-piece.piece-index in
    let piece = c.piece-item.result in
    let pieces = map piece_view c.args.pieces.now in
    let rest = drop (i + 1) pieces in
    let next = rest_step piece_view c.args.pieces.now i piece c.loop-piece-test.true c.piece-item.is in
    let child_is = rw next at c.loop-piece.invariant.child_is in
    let out_is = rw next at c.loop-piece.invariant.out_is in
    let distance = c.loop-piece.child + piece.entry - c.loop-piece.at in
    let part = c.in_ok-extend_from_slice.ensures.items ∙ ap (λ bytes. c.loop-piece.out.items ++ bytes) c.to_le_bytes.ensures in
    let child_len : c.len-child.result ≡ length piece.bytes.items = omega arith in
    record {
      at_is = omega arith;
      behind = omega arith;
      child_is = omega (arith, child_is, length-append piece.bytes.items (flat_map (λ (piece : Piece). piece.bytes) rest));
      out_is = rw child_len (append_step c.loop-piece.out.items c.extend_from_slice.new.self.items (to_le_bytes w32 distance)
          (reference_bytes (c.loop-piece.at + 4) (c.loop-piece.child + length piece.bytes.items) rest)
          (c.args.out.now.items ++ reference_bytes 8 c.args.first_child pieces) part out_is);
    }
