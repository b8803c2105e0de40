use Rattle.std.proofs.Common.{◌∙◌}
use Rattle.nested_arrays_iterators.specs.columnar_memory.declared.PhysicalType.TheVariants as physical
use Rattle.nested_arrays_nulls.specs.NullColumns.{flat_nulls}
use Rattle.nested_arrays_nulls.proofs.FlatNulls.{zeros_stored}
use Rattle.nested_arrays_nulls.proofs.Made.{as_made}
use Rattle.nested_arrays_nulls.proofs.flats.zeros.Goals as goal

pub returns : goal.returns
returns g c =
    let kind = g.T.NativeType.PRIMITIVE in
    as_made c.from-array.result (flat_nulls (physical.Primitive kind) c.args.data_type c.args.length) (c.from-array.ensures ∙ c.from_array.ensures
    ∙ zeros_stored kind g.T.NativeType.numbers c.args.data_type c.args.length c.in_ok-numbers.numbers c.in_ok-numbers.ensures) c.whole.ensures
