use Rattle.std.proofs.Common.{◌+◌, ◌++◌, drop, map, ap, ◌∙◌}
use Rattle.std.specs.List.{flat_map}
use Rattle.ipc_format_flatbuffers.specs.Laying.{Piece}
use Rattle.ipc_format_flatbuffers.specs.Views.{piece_view}
use Rattle.ipc_format_flatbuffers.proofs.Rest.{rest_step, append_step}
use Rattle.ipc_format_flatbuffers.proofs.laying.put_pieces.Goals as goal

pub loop-piece-preserved : goal.loop-piece-preserved
loop-piece-preserved c =
    let i = c.loop-piece.piece-index in
    let next = rest_step piece_view c.args.pieces.now i c.piece-item.result c.loop-piece-test.true c.piece-item.is in
    let rest = drop (i + 1) (map piece_view c.args.pieces.now) in
    let part = c.in_ok-extend_from_slice.ensures.items ∙ ap (λ bytes. c.loop-piece.out.items ++ bytes) c.deref.ensures.value in
    append_step c.loop-piece.out.items c.extend_from_slice.new.self.items c.piece-item.result.bytes.items
    (flat_map (λ (piece : Piece). piece.bytes) rest)
    (c.args.out.now.items ++ flat_map (λ (piece : Piece). piece.bytes) (map piece_view c.args.pieces.now)) part
    (rw next at c.loop-piece.invariant)
