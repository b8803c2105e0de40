-- What is told of bytes of a file that were written, as of those of a stream.
use Rattle.std.proofs.Common.{ℕ, List}
use Rattle.std.specs.Prelude.{Bool, Option, Result}
use Rattle.ipc_format_readers.specs.chunk_writing.Sending.{Delivers}
use Rattle.ipc_format_readers.specs.chunk_writing.columnar_memory.declared.Error.{Error}
use Rattle.ipc_format_readers.specs.streams.Devices.{IsOutcome, Puts}
use Rattle.ipc_format_readers.proofs.chunk_lemmas.Delivered.{delivered}

pub file_delivered : (put told : Result (Unit {0}) Error) (in_memory : Bool) (before after : ℕ) (old new : Option (List ℕ)) (bytes : List ℕ)
    → Puts put old new bytes → IsOutcome put in_memory before after told → Delivers told in_memory before after old new bytes
file_delivered = delivered
