-- What is told of writes, by the device's count of failures.
use Rattle.std.proofs.Common.{◌≡◌, ℕ, List, [], ◌++◌, sym}
use Rattle.std.proofs.lemmas.List.{append-nil}
use Rattle.std.specs.Prelude.{Bool, true, false, Option, Result, Ok, Err}
use Rattle.ipc_format_values.specs.columnar_memory.declared.Error.{Error}
use Rattle.ipc_format_values.specs.columnar_memory.declared.Error.TheVariants as errors
use Rattle.ipc_format_streams.specs.Devices.{AppendsBeginning, IsOutcome, IsRefusedWrite, Puts}
use Rattle.ipc_format_streams.specs.EncodedMessages.{encoded_bytes, WritesEncoded}

-- a refusal is the device's, and a beginning of the bytes was written, perhaps all of them
pub put_refused : {A : Type 0} (put : Result A Error) (in_memory : Bool) (before after : ℕ) (old new : Option (List ℕ)) (bytes : List ℕ)
    (error : Error) → Puts put old new bytes → IsOutcome put in_memory before after (Err error)
    → IsRefusedWrite in_memory before after error × AppendsBeginning old new bytes
put_refused (Ok done) in_memory before after old new bytes error puts told = (told.0, (bytes, [], sym (append-nil bytes), puts))
put_refused (Err (errors.Io what)) in_memory before after old new bytes error puts told = (told, puts.1)
put_refused (Err _) in_memory before after old new bytes error puts told = absurd puts.0

-- a device's refusal is no overflow
refused_encoded : (in_memory : Bool) (before after : ℕ) (old new : Option (List ℕ)) (metadata body : List ℕ) (error : Error)
    → IsRefusedWrite in_memory before after error → AppendsBeginning old new (encoded_bytes metadata body)
    → WritesEncoded (Err error) in_memory before after old new metadata body
refused_encoded true before after old new metadata body errors.Overflow why wrote = absurd why
refused_encoded false before after old new metadata body errors.Overflow why wrote = absurd why
refused_encoded in_memory before after old new metadata body _ why wrote = (why, wrote)

-- an encoded message that was refused
pub encoded_refused : {A : Type 0} (put : Result A Error) (in_memory : Bool) (before after : ℕ) (old new : Option (List ℕ))
    (metadata body : List ℕ) (error : Error) → Puts put old new (encoded_bytes metadata body)
    → IsOutcome put in_memory before after (Err error) → WritesEncoded (Err error) in_memory before after old new metadata body
encoded_refused put in_memory before after old new metadata body error puts told =
    let refused = put_refused put in_memory before after old new (encoded_bytes metadata body) error puts told in
    refused_encoded in_memory before after old new metadata body error refused.0 refused.1
