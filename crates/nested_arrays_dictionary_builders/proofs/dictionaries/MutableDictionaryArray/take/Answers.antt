use Rattle.std.proofs.Common.{◌∙◌, ap, arith, length, sym}
use Rattle.nested_arrays_sized_builders.specs.values.Uses.{greatest}
use Rattle.nested_arrays_dictionary_builders.proofs.KeyedParts.{emptied_keyed, marks_many, taken_keys}
use Rattle.nested_arrays_dictionary_builders.proofs.dictionaries.MutableDictionaryArray.take.Goals as goal

pub freeze_parts-requires : goal.freeze_parts-requires
freeze_parts-requires g c = record {
  lies = c.self.invariant.lies;
  few = omega (arith, ap greatest c.replace-uses.ensures.value, c.self.invariant.few, g.met.K.DictionaryKey.most_law);
  marked = ap length c.replace-marks.ensures.value ∙ marks_many c.self.invariant ∙ sym (ap length c.replace-uses.ensures.value);
}

pub invariant_of-self : goal.invariant_of-self
invariant_of-self g c =
    emptied_keyed c.self.invariant c.replace-marks.new.dest c.replace-uses.new.dest c.new-3.result
    (g.M.MutableArray.column c.as_box-values.new.self) (c.replace-marks.ensures.after ∙ c.new.ensures)
    (c.replace-uses.ensures.after ∙ c.new-2.ensures) c.new-3.ensures c.as_box-values.ensures.0

pub returns-clause-column : goal.returns-clause-column
returns-clause-column g c =
    rw (← c.self.view_is)
    (taken_keys c.self.invariant c.replace-uses.new.dest (g.M.MutableArray.column c.as_box-values.new.self) c.replace-marks.result
    c.replace-uses.result c.as_box-values.result c.freeze_parts.result (c.replace-uses.ensures.after ∙ c.new-2.ensures)
    c.replace-marks.ensures.value c.replace-uses.ensures.value c.as_box-values.ensures c.freeze_parts.ensures)
