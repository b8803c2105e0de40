use Rattle.std.proofs.Common.{◌≡◌, ◌+◌, ◌*◌, ◌≤◌, ◌++◌, length, drop, map}
use Rattle.std.specs.List.{flat_map}
use Rattle.ipc_format_flatbuffers.specs.Laying.{Piece, reference_bytes}
use Rattle.ipc_format_flatbuffers.specs.Views.{piece_view}
use Rattle.ipc_format_flatbuffers.proofs.laying.put_references.Given as goal

abbrev pub invariant-loop-piece : goal.invariant-loop-piece
invariant-loop-piece l = record {
  at_is : l.at ≡ 8 + 4 * l.piece-index;
  behind : l.first_child ≤ l.child;
  child_is : l.child + length (flat_map (λ (piece : Piece). piece.bytes) (drop l.piece-index (map piece_view l.pieces)))
      ≡ l.first_child + length (flat_map (λ (piece : Piece). piece.bytes) (map piece_view l.pieces));
  out_is : l.out.items ++ reference_bytes l.at l.child (drop l.piece-index (map piece_view l.pieces))
      ≡ l.fn.out.items ++ reference_bytes 8 l.first_child (map piece_view l.pieces);
}
