use Rattle.std.proofs.Common.{rules}
use Rattle.nested_arrays_access.specs.columns.StoredColumns.{column_type}
use Rattle.nested_arrays_core.specs.Dictionaries.{keyed_by}
use Rattle.nested_arrays_core.proofs.DictionaryParts.{made_of}
use Rattle.nested_arrays_core.proofs.dictionaries.DictionaryArray.try_from_keys.Goals as goal

pub returns : goal.returns
returns g c =
    made_of g.K.DictionaryKey.KEY_TYPE c.KEY_TYPE.result (λ t. keyed_by g.K.Number.value t c.args.keys c.args.values.value)
    (column_type c.args.values.value) c.in_ok-value_type.value_type c.try_new.result c.try_new.ensures (search rules) (search rules)
