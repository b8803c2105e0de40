use Rattle.std.proofs.Common.{arith, ap, length, ◌∙◌, rules}
use Rattle.ipc_format_writing.specs.MessageWriting.{node_pair}
use Rattle.ipc_format_writing.proofs.Laid.{pairs-length, structs-made}
use Rattle.ipc_format_writing.proofs.batches.lay_nodes.Goals as goal

pub lay_structs-requires : goal.lay_structs-requires
lay_structs-requires c =
    omega (arith, ap length c.deref.ensures.value, ap length c.in_ok-bytes.ensures, pairs-length node_pair c.args.nodes.now)

pub returns : goal.returns
returns c =
    structs-made node_pair c.args.nodes.now c.deref.result.now c.lay_structs.result (c.deref.ensures.value ∙ c.in_ok-bytes.ensures) (search rules)
