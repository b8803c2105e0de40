use Rattle.std.proofs.Common.{rules}
use Rattle.nested_arrays_sized_builders.specs.nulls.columns.StoredColumns.{column_type}
use Rattle.nested_arrays_dictionary_builders.proofs.KeyedParts.{dictionary_valued}
use Rattle.nested_arrays_dictionary_builders.proofs.dictionaries.MutableDictionaryArray.new.Goals as goal

pub make-requires-clause-valued : goal.make-requires-clause-valued
make-requires-clause-valued g c =
    dictionary_valued c.KEY_TYPE.result c.in_ok-value_type.value_type (column_type (g.M.MutableArray.column c.args.values)) (search rules)
