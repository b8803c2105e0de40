use Rattle.std.proofs.Common.{◌≡◌, ◌∙◌, ap, sym, rules, true}
use Rattle.std.specs.Prelude.{not, ◌||◌, pos, slice_index_or}
use Rattle.nested_arrays_parts.specs.columns.StoredColumns.{is_valid_at}
use Rattle.nested_arrays_arrays.specs.NamedValues.{firsts, names_value}
use Rattle.nested_arrays_arrays.proofs.KeyMasks.{key_there}
use Rattle.nested_arrays_arrays.proofs.key_masks.is_named.Goals as goal

pub returns : goal.returns
returns g c =
    let keys = c.args.keys.now.values in
    let key = slice_index_or (firsts g.K.NativeType.numbers keys) c.args.i (pos 0) in
    let there : key ≡ g.K.Number.value c.value.result =
    key_there g.K.NativeType.numbers g.K.Number.value keys c.args.i c.value.result g.met.K.Index.numbers_law c.value.ensures in
    let valid : is_valid_at c.args.validity.now c.args.i ≡ true = search rules in
    c.names.ensures ∙ ap (names_value c.args.count) (sym there) ∙ ap (λ b. not b || names_value c.args.count key) (sym valid)
