use Rattle.std.proofs.Common.{◌∙◌, arith, length, map, option_copied, sym}
use Rattle.nested_arrays_access.specs.columns.SoundColumns.{has_value_at}
use Rattle.nested_arrays_core.proofs.DictionaryParts.{checked_hold, fails_below}
use Rattle.nested_arrays_core.proofs.keys.name_values.Goals as goal

pub returns-then-is_ok : goal.returns-then-is_ok
returns-then-is_ok g c =
    sym (checked_hold g.K.Number.value c.as_slice.result.now c.args.keys.now.values (option_copied c.args.validity) c.args.count
    c.check_indexes.result c.check_indexes.ensures (sym c.is_ok.ensures.value ∙ c.if-is_ok.true) (c.as_slice.ensures ∙ c.values.ensures))

pub returns-then-not-names_value : goal.returns-then-not-names_value
returns-then-not-names_value g c =
    fails_below (length c.args.keys.now.values)
    (has_value_at (option_copied c.args.validity) (map g.K.Number.value c.args.keys.now.values) c.args.count) c.loop-i.i
    (omega (arith, c.loop-i-test.true, c.len-i-end.ensures.value)) (sym c.names_value.ensures ∙ c.if-not-names_value.true)
