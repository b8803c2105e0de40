use Rattle.std.proofs.Common.{◌≤◌, ℕ, subst}
use Rattle.nested_arrays_builders.specs.flat_arrays.ByteStrings.{len_of}
use Rattle.nested_arrays_builder_arrays.proofs.ByteSlots.{binary_count, binary_laws, law_of_cut}
use Rattle.nested_arrays_builder_arrays.proofs.byte_builders.truncate_binary.Goals as goal

pub truncate-requires : goal.truncate-requires
truncate-requires g c = subst (λ (n : ℕ). c.args.len ≤ n) (binary_count c.args.strings.now) c.requires

pub returns-clause-column : goal.returns-clause-column
returns-clause-column g c =
    let own = c.args.strings.now in
    let within : c.args.len ≤ len_of own = subst (λ (n : ℕ). c.args.len ≤ n) (binary_count own) c.requires in
    law_of_cut (binary_laws g.O.Offset.IS_LARGE own c.whole.ensures) c.truncate.new.self c.args.len within c.truncate.ensures
