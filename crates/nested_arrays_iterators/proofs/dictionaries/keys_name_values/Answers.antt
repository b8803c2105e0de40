use Rattle.std.proofs.Common.{◌∙◌, ap, subst, sym}
use Rattle.std.specs.Prelude.{◌↔◌, Bool, IsTrue}
use Rattle.nested_arrays_core.specs.columns.StoredColumns.{column_len}
use Rattle.nested_arrays_iterators.proofs.NamedKeys.{checked_named}
use Rattle.nested_arrays_iterators.specs.NamedValues.{AreNamed}
use Rattle.nested_arrays_iterators.proofs.dictionaries.keys_name_values.Goals as goal

pub returns : goal.returns
returns g c =
    subst (λ (b : Bool). IsTrue b ↔ AreNamed c.args.array.now) (sym c.is_ok.ensures.value)
    (checked_named g.K.Number.value c.args.array.now _ c.keys-keys.result.now _ c.as_slice.result.now c.len-count.result c.check_indexes.result
    c.keys-keys.ensures (c.as_slice.ensures ∙ c.values-2.ensures) (c.len-count.ensures ∙ ap column_len c.values.ensures) c.check_indexes.ensures)
