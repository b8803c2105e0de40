use Rattle.std.proofs.Common.{◌∙◌, ℕ, ap, length}
use Rattle.nested_arrays_cells.specs.parts.Marks.{marks}
use Rattle.nested_arrays_generic_builders.proofs.ListSlots.{marks_many}
use Rattle.nested_arrays_generic_builders.proofs.ListsStored.{default_lies}
use Rattle.nested_arrays_generic_builders.proofs.lists.MutableListArray.new_from_mutable.Goals as goal

pub invariant_of-result : goal.invariant_of-result
invariant_of-result g c = record {
  lies = rw c.in_ok-data_type.ensures (default_lies _ _);
  counted = ap length c.in_ok-marks.ensures ∙ ap (λ (n : ℕ). length (marks n c.args.validity)) c.len_proxy.ensures
      ∙ marks_many (length c.args.offsets.lengths) c.args.validity c.requires.masked;
  first = c.requires.first;
}
