use Rattle.std.proofs.Common.{rules}
use Rattle.ipc_format_column_bytes.proofs.Stated.{record_written}
use Rattle.ipc_format_column_bytes.proofs.placed.record_metadata.Goals as goal

pub returns : goal.returns
returns c = λ column stand. record_written c.record_batch_to_bytes.result c.args.placed.now c.args.rows c.args.body.now column _ _
    (search rules) (search rules) stand c.are_nodes.ensures c.are_buffers.ensures c.record_batch_to_bytes.ensures
