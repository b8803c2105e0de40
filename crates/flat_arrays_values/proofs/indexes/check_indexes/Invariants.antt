use Rattle.std.proofs.Common.{take}
use Rattle.std.specs.List.{All}
use Rattle.std.specs.Prelude.{◌↔◌, IsTrue}
use Rattle.flat_arrays_values.specs.Results.{IsPlaceBelow}
use Rattle.flat_arrays_values.proofs.indexes.check_indexes.Given as goal

abbrev pub invariant-loop-key : goal.invariant-loop-key
invariant-loop-key g l = IsTrue l.are_places ↔ All (λ key. IsPlaceBelow l.len (g.K.Number.value key)) (take l.key-index l.keys)
