use Rattle.std.proofs.Common.{rules, ◌∙◌, ap, true}
use Rattle.columnar_memory_types.specs.declared.kinds.PrimitiveType.TheVariants as kinds
use Rattle.columnar_memory_native.specs.Numbers.{numbers_in}
use Rattle.columnar_memory_native.specs.NumberLaws.{numbers_in-bytes_of}
use Rattle.columnar_memory_native.proofs.intervals.Months_days_nsNativeType.to_le_bytes.Goals as goal

pub returns-clause-bytes : goal.returns-clause-bytes
returns-clause-bytes c = search rules

pub returns-clause-native : goal.returns-clause-native
returns-clause-native c = search rules

pub returns-clause-back : goal.returns-clause-back
returns-clause-back c =
    ap (numbers_in kinds.MonthDayNano true) (returns-clause-bytes c) ∙ numbers_in-bytes_of kinds.MonthDayNano true _ (returns-clause-native c)
