use Rattle.std.proofs.Common.{◌∙◌}
use Rattle.nested_arrays_iterators.specs.columnar_memory.declared.PhysicalType.TheVariants as physical
use Rattle.nested_arrays_nulls.specs.NullColumns.{flat_nulls}
use Rattle.nested_arrays_nulls.proofs.FlatNulls.{no_texts_stored}
use Rattle.nested_arrays_nulls.proofs.Made.{as_made}
use Rattle.nested_arrays_nulls.proofs.flats.texts.Goals as goal

pub returns : goal.returns
returns c = as_made c.from-array.result (flat_nulls physical.Utf8 c.args.data_type c.args.length)
    (c.from-array.ensures ∙ no_texts_stored c.args.data_type c.args.length c.in_ok-texts.texts c.in_ok-texts.ensures) c.whole.ensures
