use Rattle.std.proofs.Common.{◌∷◌, [], List, map, refl, rules}
use Rattle.std.specs.Prelude.{Err}
use Rattle.std.specs.Int.{w64}
use Rattle.ipc_format_messages.specs.flatbuffers.Laying.{Piece, TableSlot, absent, number, refers}
use Rattle.ipc_format_messages.specs.flatbuffers.Objects.{piece_of}
use Rattle.ipc_format_messages.specs.flatbuffers.Views.{Lays}
use Rattle.ipc_format_messages.specs.grammar.SchemaObjects.{structs_object}
use Rattle.ipc_format_writing.specs.MessageWriting.{node_pair, buffer_pair}
use Rattle.ipc_format_writing.proofs.Laid.{part-refused}
use Rattle.ipc_format_writing.proofs.batches.lay_batch.Goals as goal

pub returns-in_err-nodes : goal.returns-in_err-nodes
returns-in_err-nodes c =
    let nodes : Piece = piece_of (structs_object (map node_pair c.args.nodes.now)) in
    let buffers : Piece = piece_of (structs_object (map buffer_pair c.args.buffers.now)) in
    let slots : List TableSlot = number w64 c.args.rows ∷ refers nodes ∷ refers buffers ∷ absent ∷ [] in
    let given : Lays (Err c.in_err-nodes.field-0.0) nodes = search rules in
    let whole = part-refused c.in_err-nodes.field-0.0 slots 1 nodes refl given in
    search (rules, whole)

pub returns-in_err-buffers : goal.returns-in_err-buffers
returns-in_err-buffers c =
    let nodes : Piece = piece_of (structs_object (map node_pair c.args.nodes.now)) in
    let buffers : Piece = piece_of (structs_object (map buffer_pair c.args.buffers.now)) in
    let slots : List TableSlot = number w64 c.args.rows ∷ refers nodes ∷ refers buffers ∷ absent ∷ [] in
    let given : Lays (Err c.in_err-buffers.field-0.0) buffers = search rules in
    let whole = part-refused c.in_err-buffers.field-0.0 slots 2 buffers refl given in
    search (rules, whole)
