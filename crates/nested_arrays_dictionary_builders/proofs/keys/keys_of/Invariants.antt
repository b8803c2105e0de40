use Rattle.std.proofs.Common.{◌≡◌, map, take}
use Rattle.nested_arrays_sized_builders.specs.values.Uses.{keys_from}
use Rattle.nested_arrays_dictionary_builders.proofs.keys.keys_of.Given as goal

-- the keys of the slots so far
abbrev pub invariant-loop-need : goal.invariant-loop-need
invariant-loop-need g l = map g.K.Number.value l.keys.items ≡ keys_from (take l.need-index l.uses)
