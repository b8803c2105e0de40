use Rattle.std.proofs.Common.{◌<◌, ℕ, subst}
use Rattle.nested_arrays_sized_builders.proofs.nulls_lemmas.flat_lemmas.SoundFlats.{primitive_len}
use Rattle.nested_arrays_dictionary_builders.proofs.numbers.MutablePrimitiveArraySlotIs.slot_is.Goals as goal

pub is_number-requires : goal.is_number-requires
is_number-requires g c =
    subst (λ (n : ℕ). c.args.place < n) (primitive_len g.T.NativeType.PRIMITIVE g.T.NativeType.numbers c.args.self.now) c.requires
