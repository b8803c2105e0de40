use Rattle.std.proofs.Common.{rules, ◌≡◌, length, take, drop, arith, length-drop}
use Rattle.std.proofs.lemmas.List.{take_all}
use Rattle.columnar_memory_native.proofs.intervals.Months_days_nsNativeType.from_be_bytes.Goals as goal

pub returns-clause-value : goal.returns-clause-value
returns-clause-value c =
    let size : length c.args.bytes ≡ 16 = search rules in
    let rest : take 8 (drop 8 c.args.bytes) ≡ drop 8 c.args.bytes = take_all 8 _ (omega (arith, length-drop 8 c.args.bytes)) in
    search rules
