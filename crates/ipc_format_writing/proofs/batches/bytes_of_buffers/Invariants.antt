use Rattle.std.proofs.Common.{◌≡◌, take}
use Rattle.std.specs.List.{flat_map}
use Rattle.ipc_format_writing.specs.MessageWriting.{buffer_bytes}
use Rattle.ipc_format_writing.proofs.batches.bytes_of_buffers.Given as goal

abbrev pub invariant-loop-buffer : goal.invariant-loop-buffer
invariant-loop-buffer l = l.bytes.items ≡ flat_map buffer_bytes (take l.buffer-index l.buffers)
