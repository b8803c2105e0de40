use Rattle.std.proofs.Common.{◌≡◌, ◌++◌, map}
use Rattle.std.specs.Prelude.{filter}
use Rattle.ipc_format_writing.specs.Pieces.{is_kept, extension_view}
use Rattle.ipc_format_values.specs.ValueObjects.{pair_view}
use Rattle.ipc_format_values.proofs.PairLists.{all_pairs}
use Rattle.ipc_format_values.proofs.pairs.field_pairs.Given as goal

abbrev pub invariant-loop-key : goal.invariant-loop-key
invariant-loop-key l =
    (goal.iterator-loop-key).can_next l.key-iterator ×
    (goal.iterator-loop-key).is_finite l.key-iterator ×
    (map pair_view l.made ++ filter is_kept l.key-iterator ≡ all_pairs (extension_view l.extension) l.pairs)
