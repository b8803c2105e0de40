use Rattle.std.proofs.Common.{◌≡◌, map, drop}
use Rattle.ipc_format_writing.specs.grammar.SchemaObjects.{objects_of}
use Rattle.ipc_format_writing.specs.metadata.Views.{ids_views}
use Rattle.ipc_format_writing.specs.Pieces.{field_told}
use Rattle.ipc_format_values.specs.ValueObjects.{field_value, objects_before}
use Rattle.ipc_format_values.proofs.serializing.+fields.Given as goal

abbrev pub invariant-each_of-loop-k : goal.invariant-each_of-loop-k
invariant-each_of-loop-k l =
    objects_before (map field_value l.made) (objects_of (drop l.k (map field_told l.fields)) (ids_views l.rest))
    ≡ objects_of (map field_told l.fields) (ids_views l.beside)
