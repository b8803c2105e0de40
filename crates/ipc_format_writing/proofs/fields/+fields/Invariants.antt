use Rattle.std.proofs.Common.{◌≡◌, ◌++◌, map, drop}
use Rattle.ipc_format_messages.specs.flatbuffers.Views.{piece_view}
use Rattle.ipc_format_messages.specs.metadata.Views.{ids_views}
use Rattle.ipc_format_writing.specs.Pieces.{field_told}
use Rattle.ipc_format_writing.proofs.FieldTables.{pieces_beside}
use Rattle.ipc_format_writing.proofs.fields.+fields.Given as goal

abbrev pub invariant-lay_fields-loop-k : goal.invariant-lay_fields-loop-k
invariant-lay_fields-loop-k l =
    map piece_view l.laid.items ++ pieces_beside (drop l.k (map field_told l.fields)) (ids_views l.rest)
    ≡ pieces_beside (map field_told l.fields) (ids_views l.beside)
