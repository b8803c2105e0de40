use Rattle.std.proofs.Common.{◌<◌, ℕ, length, map, subst}
use Rattle.nested_arrays_builders.proofs.arrays_lemmas.flat_lemmas.SoundFlats.{primitive_len}
use Rattle.nested_arrays_builders.specs.arrays.flat.FlatColumns.{stored_numbers}
use Rattle.nested_arrays_builder_arrays.proofs.FlatSlots.{null_by_mark}
use Rattle.nested_arrays_builder_arrays.proofs.flat_builders.MutablePrimitiveArrayMutableArray.is_valid.Goals as goal

pub is_valid-requires : goal.is_valid-requires
is_valid-requires g c =
    subst (λ (n : ℕ). c.args.i < n) (primitive_len g.T.NativeType.PRIMITIVE g.T.NativeType.numbers c.args.self.now) c.requires

pub returns : goal.returns
returns g c =
    let own = c.args.self.now in
    let within : c.args.i < length own.values =
    subst (λ (n : ℕ). c.args.i < n) (primitive_len g.T.NativeType.PRIMITIVE g.T.NativeType.numbers own) c.requires in
    null_by_mark own.data_type (length own.values) own.validity
    (stored_numbers g.T.NativeType.PRIMITIVE (map g.T.NativeType.numbers own.values)) c.args.i c.is_valid.result within c.is_valid.ensures
