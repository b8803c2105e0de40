-- Padded parts of a message.
use Rattle.std.proofs.Common.{◌≡◌, ℕ, ◌-◌, ◌≤◌, List, ◌++◌, length, replicate, arith, length-append}
use Rattle.std.proofs.lemmas.List.{length-replicate}
use Rattle.std.specs.Prelude.{Option, Result}
use Rattle.std.specs.Int.{next_multiple_of}
use Rattle.std.specs.Io.KnownBytes.{Appends}
use Rattle.ipc_format_values.specs.columnar_memory.Error.{IsIo}
use Rattle.ipc_format_values.specs.columnar_memory.declared.Error.{Error}
use Rattle.ipc_format_streams.specs.Devices.{AppendsBeginning, Puts}
use Rattle.ipc_format_streams.proofs.Appending.{appends_both, puts_behind, puts_first, puts_between, puts_same, refused_same}
use Rattle.ipc_format_streams.specs.EncodedMessages.{encoded_bytes, padded_metadata, prefix_bytes}

-- padded metadata has the size that is stated
pub padded_size : (bytes : List ℕ) → length bytes ≤ next_multiple_of (length bytes) 8
    → next_multiple_of (length bytes) 8 ≡ length (padded_metadata bytes)
padded_size bytes more =
    let gap = next_multiple_of (length bytes) 8 - length bytes in
    omega (arith, more, length-append bytes (replicate gap 0), length-replicate {A = ℕ} gap 0)

-- the parts of a message, one behind another
pub parts_whole : (metadata body : List ℕ) (size gap room : ℕ) → size ≡ length (padded_metadata metadata)
    → gap ≡ next_multiple_of (length metadata) 8 - length metadata → room ≡ next_multiple_of (length body) 64 - length body
    → prefix_bytes size ++ (metadata ++ replicate gap 0) ++ (body ++ replicate room 0) ≡ encoded_bytes metadata body
parts_whole metadata body size gap room e f h =
    (λ j. prefix_bytes (e j) ++ (metadata ++ replicate (f j) 0) ++ (body ++ replicate (h j) 0))

-- a refusal of the prefix
pub prefix_refused : (error : Error) (old new : Option (List ℕ)) (metadata body : List ℕ) (size gap room : ℕ)
    → size ≡ length (padded_metadata metadata) → gap ≡ next_multiple_of (length metadata) 8 - length metadata
    → room ≡ next_multiple_of (length body) 64 - length body → IsIo error × AppendsBeginning old new (prefix_bytes size)
    → IsIo error × AppendsBeginning old new (encoded_bytes metadata body)
prefix_refused error old new metadata body size gap room e f h refused =
    let padded = metadata ++ replicate gap 0 in
    refused_same error old new _ _ (parts_whole metadata body size gap room e f h)
    (puts_first error old new (prefix_bytes size ++ padded) (body ++ replicate room 0) (puts_first error old new (prefix_bytes size) padded refused))

-- a refusal of the metadata
pub metadata_refused : (error : Error) (old between new : Option (List ℕ)) (metadata body : List ℕ) (size gap room : ℕ)
    → size ≡ length (padded_metadata metadata) → gap ≡ next_multiple_of (length metadata) 8 - length metadata
    → room ≡ next_multiple_of (length body) 64 - length body → Appends old between (prefix_bytes size)
    → IsIo error × AppendsBeginning between new (metadata ++ replicate gap 0)
    → IsIo error × AppendsBeginning old new (encoded_bytes metadata body)
metadata_refused error old between new metadata body size gap room e f h first refused =
    refused_same error old new _ _ (parts_whole metadata body size gap room e f h)
    (puts_between error old between new (prefix_bytes size) (metadata ++ replicate gap 0) (body ++ replicate room 0) first refused)

-- the body behind both
pub body_put : {A : Type 0} (result : Result A Error) (old between behind new : Option (List ℕ)) (metadata body : List ℕ) (size gap room : ℕ)
    → size ≡ length (padded_metadata metadata) → gap ≡ next_multiple_of (length metadata) 8 - length metadata
    → room ≡ next_multiple_of (length body) 64 - length body → Appends old between (prefix_bytes size)
    → Appends between behind (metadata ++ replicate gap 0) → Puts result behind new (body ++ replicate room 0)
    → Puts result old new (encoded_bytes metadata body)
body_put result old between behind new metadata body size gap room e f h first second third =
    let padded = metadata ++ replicate gap 0 in
    puts_same result old new _ _ (parts_whole metadata body size gap room e f h)
    (puts_behind result old behind new (prefix_bytes size ++ padded) (body ++ replicate room 0)
    (appends_both old between behind (prefix_bytes size) padded first second) third)
