use Rattle.std.proofs.Common.{arith}
use Rattle.nested_arrays_builder_arrays.proofs.arrays_lemmas.flat_lemmas.SoundFlats.{primitive_len}
use Rattle.nested_arrays_cells.proofs.StoredNumbers.{number_there}
use Rattle.nested_arrays_cells.proofs.numbers.value_at.Goals as goal

pub value-requires : goal.value-requires
value-requires g c = omega (arith, c.requires, primitive_len g.T.NativeType.PRIMITIVE g.T.NativeType.numbers c.args.array.now)

pub returns : goal.returns
returns g c = number_there g.T.NativeType.PRIMITIVE g.T.NativeType.numbers c.args.array.now c.args.i c.value.result c.value.ensures
