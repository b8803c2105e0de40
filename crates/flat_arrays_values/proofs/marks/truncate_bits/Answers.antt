use Rattle.std.proofs.Common.{◌∙◌, ◌≤◌, ap, sym, take, length, arith}
use Rattle.columnar_memory_core.specs.Bits.{bit_at}
use Rattle.columnar_memory_core.proofs.bits_lemmas.Windows.{take_window}
use Rattle.flat_arrays_values.proofs.marks.truncate_bits.Goals as goal

pub returns : goal.returns
returns c =
    let parts = c.into_inner-parts in
    let bytes = parts.result.0.items in
    let count = ap length c.replace-held.ensures.value in
    let within : c.args.len ≤ parts.result.1 = omega (arith, parts.ensures.len, count, c.requires) in
    c.from_vec.ensures ∙ sym (take_window (bit_at bytes) 0 c.args.len parts.result.1 within)
    ∙ ap (λ xs. take c.args.len xs) (parts.ensures.bits ∙ c.replace-held.ensures.value)
