use Rattle.std.proofs.Common.{◌≤◌, ℕ, subst}
use Rattle.nested_arrays_builders.specs.flat_arrays.ByteStrings.{len_of}
use Rattle.nested_arrays_builder_arrays.proofs.ByteSlots.{text_count, text_laws, law_of_cut}
use Rattle.nested_arrays_builder_arrays.proofs.byte_builders.truncate_text.Goals as goal

pub truncate-requires : goal.truncate-requires
truncate-requires g c = subst (λ (n : ℕ). c.args.len ≤ n) (text_count c.args.texts.now) c.requires

pub returns-clause-column : goal.returns-clause-column
returns-clause-column g c =
    let own = c.args.texts.now in
    let within : c.args.len ≤ len_of own = subst (λ (n : ℕ). c.args.len ≤ n) (text_count own) c.requires in
    law_of_cut (text_laws g.O.Offset.IS_LARGE own c.whole.ensures.layout) c.truncate.new.self c.args.len within c.truncate.ensures
