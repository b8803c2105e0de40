use Rattle.std.proofs.Common.{[], ◌∷◌, option_copied}
use Rattle.ipc_format_streams.specs.columns.StoredColumns.{cut_mask}
use Rattle.ipc_format_streams.specs.grammar.StoredEncoding.{mask_bytes}
use Rattle.ipc_format_column_bytes.specs.Bodies.{of_buffers, of_node, of_slots, parts_of}
use Rattle.ipc_format_column_bytes.proofs.Bodies.{added_then, slots_added}
use Rattle.ipc_format_column_bytes.proofs.body.Body.add_slots.Goals as goal

pub returns : goal.returns
returns c =
    let mask = cut_mask (option_copied c.args.validity) c.args.first c.args.count in
    added_then c.add_validity.result c.args.self.now (parts_of c.add_node.new.self) (parts_of c.add_validity.new.self)
    (of_node c.args.count c.nulls_in.result) (of_buffers (mask_bytes mask ∷ [])) (of_slots c.args.count mask) c.in_ok-add_node.ensures
    c.add_validity.ensures (slots_added c.args.count c.nulls_in.result mask c.nulls_in.ensures)
