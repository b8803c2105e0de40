use Rattle.std.proofs.Common.{◌++◌, ◌∙◌, ap, subst, true}
use Rattle.std.specs.Int.{w128, cast_unsigned, to_le_bytes}
use Rattle.std.proofs.lemmas.Int.{to_z-of_z}
use Rattle.columnar_memory_types.specs.declared.kinds.PrimitiveType.TheVariants as kinds
use Rattle.columnar_memory_native.specs.Numbers.{FitsWide, numbers_in}
use Rattle.columnar_memory_native.specs.NumberLaws.{numbers_in-bytes_of}
use Rattle.columnar_memory_native.specs.Wide.{FitsWide-of_halves, wide_bytes-little}
use Rattle.columnar_memory_native.proofs.wide.I256NativeType.to_le_bytes.Goals as goal

pub returns-clause-bytes : goal.returns-clause-bytes
returns-clause-bytes c =
    let signed = to_z-of_z w128 c.self.inside.high c.self.invariant.0 in
    c.joined.ensures ∙ (λ i. c.to_le_bytes.ensures i ++ c.to_le_bytes-2.ensures i)
    ∙ (λ i. to_le_bytes w128 c.self.inside.low ++ to_le_bytes w128 (cast_unsigned w128 (signed i)))
    ∙ wide_bytes-little _ _ _ c.self.view_is c.self.invariant.0 c.self.invariant.1

pub returns-clause-native : goal.returns-clause-native
returns-clause-native c = subst FitsWide c.self.view_is (FitsWide-of_halves _ _ c.self.invariant.0 c.self.invariant.1)

pub returns-clause-back : goal.returns-clause-back
returns-clause-back c =
    ap (numbers_in kinds.Int256 true) (returns-clause-bytes c) ∙ numbers_in-bytes_of kinds.Int256 true _ (returns-clause-native c)
