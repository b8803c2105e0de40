use Rattle.std.proofs.Common.{◌≡◌, ◌+◌, ◌*◌}
use Rattle.ipc_format_writing.specs.messages.SchemaRefs.{fields_view}
use Rattle.ipc_format_values.specs.OwnedFields.{field_in, fields_in}
use Rattle.ipc_format_values.proofs.Gathered.{FieldsLeft}
use Rattle.ipc_format_values.proofs.taken_fields.+taking.Given as goal

abbrev pub decreases-field_in : goal.decreases-field_in
decreases-field_in l = 3 * l.levels

abbrev pub decreases-fields_if : goal.decreases-fields_if
decreases-fields_if l = 3 * l.levels + 2

abbrev pub decreases-fields_in : goal.decreases-fields_in
decreases-fields_in l = 3 * l.levels + 1

abbrev pub invariant-fields_in-loop-k : goal.invariant-fields_in-loop-k
invariant-fields_in-loop-k l = record {
  given : FieldsLeft (field_in l.levels) (fields_view l.fields) (fields_in (field_in l.levels) (fields_view l.fields) l.left) l.made l.k l.still;
  visits : l.visits.count + l.still ≡ l.fn.visits.count + l.left;
}
