use Rattle.std.proofs.Common.{◌≡◌, take}
use Rattle.std.specs.List.{flat_map}
use Rattle.ipc_format_writing.specs.MessageWriting.{node_bytes}
use Rattle.ipc_format_writing.proofs.batches.bytes_of_nodes.Given as goal

abbrev pub invariant-loop-node : goal.invariant-loop-node
invariant-loop-node l = l.bytes.items ≡ flat_map node_bytes (take l.node-index l.nodes)
