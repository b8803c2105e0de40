use Rattle.std.proofs.Common.{arith, ap, length, ◌∙◌, rules}
use Rattle.ipc_format_writing.specs.MessageWriting.{buffer_pair}
use Rattle.ipc_format_writing.proofs.Laid.{pairs-length, structs-made}
use Rattle.ipc_format_writing.proofs.batches.lay_buffers.Goals as goal

pub lay_structs-requires : goal.lay_structs-requires
lay_structs-requires c =
    omega (arith, ap length c.deref.ensures.value, ap length c.in_ok-bytes.ensures, pairs-length buffer_pair c.args.buffers.now)

pub returns : goal.returns
returns c =
    structs-made buffer_pair c.args.buffers.now c.deref.result.now c.lay_structs.result (c.deref.ensures.value ∙ c.in_ok-bytes.ensures) (search rules)
