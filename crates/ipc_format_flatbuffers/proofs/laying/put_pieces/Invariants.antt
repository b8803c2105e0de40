use Rattle.std.proofs.Common.{◌≡◌, ◌++◌, drop, map}
use Rattle.std.specs.List.{flat_map}
use Rattle.ipc_format_flatbuffers.specs.Laying.{Piece}
use Rattle.ipc_format_flatbuffers.specs.Views.{piece_view}
use Rattle.ipc_format_flatbuffers.proofs.laying.put_pieces.Given as goal

abbrev pub invariant-loop-piece : goal.invariant-loop-piece
invariant-loop-piece l = l.out.items ++ flat_map (λ (piece : Piece). piece.bytes) (drop l.piece-index (map piece_view l.pieces))
    ≡ l.fn.out.items ++ flat_map (λ (piece : Piece). piece.bytes) (map piece_view l.pieces)
