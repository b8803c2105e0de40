use Rattle.std.proofs.Common.{rules, w64}
use Rattle.std.proofs.lemmas.Int.{to_z-of_z}
use Rattle.ipc_format_column_bytes.proofs.Stated.{dictionary_written}
use Rattle.ipc_format_column_bytes.proofs.placed.dictionary_metadata.Goals as goal

pub returns : goal.returns
returns c = λ column stand. dictionary_written c.dictionary_batch_to_bytes.result c.args.placed.now c.args.id _ c.args.rows c.args.body.now column _ _
    (to_z-of_z w64 c.args.id c.ranges.id) (search rules) (search rules) stand c.are_nodes.ensures c.are_buffers.ensures
    c.dictionary_batch_to_bytes.ensures
