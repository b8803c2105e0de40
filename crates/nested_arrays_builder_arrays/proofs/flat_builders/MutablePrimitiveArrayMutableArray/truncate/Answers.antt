use Rattle.std.proofs.Common.{◌≤◌, ℕ, length, subst}
use Rattle.nested_arrays_builders.proofs.arrays_lemmas.flat_lemmas.SoundFlats.{primitive_len}
use Rattle.nested_arrays_builder_arrays.proofs.FlatKinds.{number_laws}
use Rattle.nested_arrays_builder_arrays.proofs.FlatSlots.{law_of_cut}
use Rattle.nested_arrays_builder_arrays.proofs.flat_builders.MutablePrimitiveArrayMutableArray.truncate.Goals as goal

pub truncate-requires : goal.truncate-requires
truncate-requires g c =
    subst (λ (n : ℕ). c.args.len ≤ n) (primitive_len g.T.NativeType.PRIMITIVE g.T.NativeType.numbers c.args.self.now) c.requires

pub returns-clause-column : goal.returns-clause-column
returns-clause-column g c =
    let own = c.args.self.now in
    let within : c.args.len ≤ length own.values =
    subst (λ (n : ℕ). c.args.len ≤ n) (primitive_len g.T.NativeType.PRIMITIVE g.T.NativeType.numbers own) c.requires in
    law_of_cut (number_laws g.T.NativeType.PRIMITIVE g.T.NativeType.numbers own c.whole_numbers.ensures) c.truncate.new.self c.args.len
    within c.truncate.ensures
