use Rattle.std.proofs.Common.{◌+◌, drop, map, arith, length-append}
use Rattle.std.specs.List.{flat_map}
use Rattle.ipc_format_flatbuffers.specs.Laying.{Piece}
use Rattle.ipc_format_flatbuffers.specs.Views.{piece_view}
use Rattle.ipc_format_flatbuffers.proofs.Rest.{rest_step}
use Rattle.ipc_format_flatbuffers.proofs.laying.pieces_len.Goals as goal

pub loop-piece-preserved : goal.loop-piece-preserved
loop-piece-preserved c =
    let i = c.loop-piece.piece-index in
    let next = rest_step piece_view c.args.pieces.now i c.piece-item.result c.loop-piece-test.true c.piece-item.is in
    let rest = drop (i + 1) (map piece_view c.args.pieces.now) in
    let sum = rw next at c.loop-piece.invariant.len_is in
    record {
      small = omega arith;
      len_is = omega (arith, sum, length-append c.piece-item.result.bytes.items (flat_map (λ (piece : Piece). piece.bytes) rest));
    }
