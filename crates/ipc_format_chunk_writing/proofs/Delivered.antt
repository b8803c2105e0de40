-- What is told of bytes that were written, by the device's count of failures.
use Rattle.std.proofs.Common.{◌≡◌, ℕ, List, [], ◌++◌, sym}
use Rattle.std.proofs.lemmas.List.{append-nil}
use Rattle.std.specs.Prelude.{Bool, Option, Result, Ok, Err}
use Rattle.ipc_format_batch_reading.specs.columnar_memory.declared.Error.{Error}
use Rattle.ipc_format_batch_reading.specs.columnar_memory.declared.Error.TheVariants as errors
use Rattle.ipc_format_batch_reading.specs.streams.Devices.{IsOutcome, Puts}
use Rattle.ipc_format_chunk_writing.specs.Sending.{Delivers}

-- all of them were; or a beginning was, perhaps all of them
pub delivered : (put told : Result (Unit {0}) Error) (in_memory : Bool) (before after : ℕ) (old new : Option (List ℕ)) (bytes : List ℕ)
    → Puts put old new bytes → IsOutcome put in_memory before after told → Delivers told in_memory before after old new bytes
delivered (Ok done) (Ok same) in_memory before after old new bytes puts is = (is.1, puts)
delivered (Ok done) (Err error) in_memory before after old new bytes puts is = (is.0, (bytes, [], sym (append-nil bytes), puts))
delivered (Err error) (Ok same) in_memory before after old new bytes puts is = absurd is
delivered (Err (errors.Io what)) (Err named) in_memory before after old new bytes puts is = (is, puts.1)
delivered (Err _) (Err named) in_memory before after old new bytes puts is = absurd puts.0
