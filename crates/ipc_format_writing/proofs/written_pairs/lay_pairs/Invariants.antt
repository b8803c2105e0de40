use Rattle.std.proofs.Common.{◌≡◌, ◌++◌, map}
use Rattle.ipc_format_messages.specs.flatbuffers.Views.{piece_view}
use Rattle.ipc_format_writing.specs.Pieces.{pair_piece}
use Rattle.ipc_format_writing.proofs.written_pairs.lay_pairs.Given as goal

abbrev pub invariant-loop-key : goal.invariant-loop-key
invariant-loop-key l =
    (goal.iterator-loop-key).can_next l.key-iterator ×
    (goal.iterator-loop-key).is_finite l.key-iterator ×
    (map piece_view l.laid.items ++ map pair_piece l.key-iterator ≡ map pair_piece l.pairs)
