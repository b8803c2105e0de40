use Rattle.std.proofs.Common.{rules, ◌≡◌, ◌∙◌, ap, length, take, drop, FitsSigned, arith, length-drop}
use Rattle.std.specs.Int.{w128, from_le_bytes}
use Rattle.std.proofs.lemmas.Int.{to_z-of_z}
use Rattle.std.proofs.lemmas.List.{take_all}
use Rattle.columnar_memory_native.specs.Numbers.{one}
use Rattle.columnar_memory_native.specs.Wide.{of_halves, wide_in-little}
use Rattle.columnar_memory_native.proofs.wide.I256NativeType.from_le_bytes.Goals as goal

pub returns-clause-value : goal.returns-clause-value
returns-clause-value c =
    let size : length c.args.bytes ≡ 32 = search rules in
    let rest : take 16 (drop 16 c.args.bytes) ≡ drop 16 c.args.bytes = take_all 16 _ (omega (arith, length-drop 16 c.args.bytes)) in
    let high : c.from_le_bytes.result ≡ from_le_bytes w128 (drop 16 c.args.bytes) =
    c.from_le_bytes.ensures ∙ ap (from_le_bytes w128) (c.bytes_from_slice-high.ensures ∙ rest) in
    let low : c.from_le_bytes-2.result ≡ from_le_bytes w128 (take 16 c.args.bytes) =
    c.from_le_bytes-2.ensures ∙ ap (from_le_bytes w128) c.bytes_from_slice-low.ensures in
    let fits : FitsSigned w128 c.cast_signed.result = search rules in
    let signed = to_z-of_z w128 c.cast_signed.result fits ∙ c.cast_signed.ensures in
    ap one ((λ i. of_halves (signed i) c.from_le_bytes-2.result)
    ∙ wide_in-little c.args.bytes _ _ high low
    c.from_le_bytes.type_inv c.from_le_bytes-2.type_inv)
