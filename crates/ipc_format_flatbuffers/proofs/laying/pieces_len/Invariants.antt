use Rattle.std.proofs.Common.{◌≡◌, ◌+◌, ◌*◌, ◌^◌, ◌≤◌, length, drop, map}
use Rattle.std.specs.List.{flat_map}
use Rattle.ipc_format_flatbuffers.specs.Laying.{Piece}
use Rattle.ipc_format_flatbuffers.specs.Views.{piece_view}
use Rattle.ipc_format_flatbuffers.proofs.laying.pieces_len.Given as goal

abbrev pub invariant-loop-piece : goal.invariant-loop-piece
invariant-loop-piece l = record {
  small : l.len ≤ 2 ^ 31 * l.piece-index;
  len_is : l.len + length (flat_map (λ (piece : Piece). piece.bytes) (drop l.piece-index (map piece_view l.pieces)))
      ≡ length (flat_map (λ (piece : Piece). piece.bytes) (map piece_view l.pieces));
}
