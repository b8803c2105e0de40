use Rattle.std.proofs.Common.{◌-◌, ◌++◌, ◌∷◌, [], ap, sym, ◌∙◌, arith}
use Rattle.std.specs.Prelude.{slice_get, option_map}
use Rattle.flat_arrays_bytes.specs.ByteStrings.{slots_of}
use Rattle.flat_arrays_byte_values_builders.proofs.Growth.{slots_of-without_last}
use Rattle.flat_arrays_byte_values_builders.proofs.builder.ByteBuilder.pop.Goals as goal

pub returns-clause-popped : goal.returns-clause-popped
returns-clause-popped g c =
    let old = c.args.self.now in
    let slot = option_map (λ v. v.items) c.in_ok-slot.slot in
    record {
      empty = λ e. absurd (omega (arith, e, c.len-count.ensures.value));
      taken = λ some. (
        c.drop_last.ensures,
        slots_of-without_last old slot some c.len-count.ensures.whole
            (ap (λ n. slice_get (slots_of old) (n - 1)) (sym c.len-count.ensures.value) ∙ c.in_ok-slot.ensures)
            ∙ ap (λ b. slots_of b ++ slot ∷ []) (sym c.drop_last.ensures),
      );
    }
