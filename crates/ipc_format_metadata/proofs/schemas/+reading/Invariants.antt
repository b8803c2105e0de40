use Rattle.std.proofs.Common.{◌≡◌, ◌+◌, ◌*◌, map}
use Rattle.std.specs.Prelude.{None}
use Rattle.ipc_format_grammar.specs.Schemas.{field_in}
use Rattle.ipc_format_grammar.specs.flatbuffers.Views.{vector_of}
use Rattle.ipc_format_metadata.specs.Views.{ids_view}
use Rattle.ipc_format_metadata.specs.Steps.{fields_in}
use Rattle.ipc_format_metadata.proofs.FieldLists.{FieldsLeft}
use Rattle.ipc_format_metadata.proofs.schemas.+reading.Given as goal

abbrev pub decreases-field_in : goal.decreases-field_in
decreases-field_in l = 3 * l.levels

abbrev pub decreases-type_in : goal.decreases-type_in
decreases-type_in l = 3 * l.levels + 2

abbrev pub decreases-each_in : goal.decreases-each_in
decreases-each_in l = 3 * l.levels + 1

abbrev pub invariant-each_in-loop-k : goal.invariant-each_in-loop-k
invariant-each_in-loop-k l = record {
  given : FieldsLeft (field_in None l.bytes l.levels) l.bytes (vector_of l.vector)
      (fields_in (field_in None l.bytes l.levels) l.bytes (vector_of l.vector) l.left) l.fields (map ids_view l.below) l.k l.still;
  visits : l.visits.count + l.still ≡ l.fn.visits.count + l.left;
}
