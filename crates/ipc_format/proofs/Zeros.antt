-- Zeros that are written in pieces.
use Rattle.std.proofs.Common.{◌≡◌, ◌∙◌, ℕ, ◌+◌, ◌-◌, ◌≤◌, List, ◌++◌, replicate, take, ap, arith}
use Rattle.std.specs.Prelude.{Option}
use Rattle.std.specs.Io.KnownBytes.{Appends}
use Rattle.std.proofs.lemmas.List.{replicate-append-replicate, take-replicate}
use Rattle.ipc_format_readers.specs.chunk_writing.columnar_memory.Error.{IsIo}
use Rattle.ipc_format_readers.specs.chunk_writing.columnar_memory.declared.Error.{Error}
use Rattle.ipc_format_readers.specs.streams.Devices.{AppendsBeginning}
use Rattle.ipc_format_readers.proofs.chunk_lemmas.Appending.{appends_both, appends_same, puts_between, refused_same}

-- a count of zeros
abbrev pub zeros : ℕ → List ℕ
zeros n = replicate n 0

both : (n m : ℕ) → zeros n ++ zeros m ≡ zeros (n + m)
both n m = replicate-append-replicate n m 0

-- where so many of a count are left, one piece more is written
pub zeros_more : (old between new : Option (List ℕ)) (count left piece most : ℕ) → left ≤ count → piece ≤ left → piece ≤ most
    → Appends old between (zeros (count - left)) → Appends between new (take piece (zeros most)) → Appends old new (zeros (count - (left - piece)))
zeros_more old between new count left piece most within inside few before next =
    let sum : count - left + piece ≡ count - (left - piece) = omega arith in
    appends_same old new (zeros (count - left) ++ zeros piece) (zeros (count - (left - piece))) (both (count - left) piece ∙ ap zeros sum)
    (appends_both old between new (zeros (count - left)) (zeros piece) before
    (appends_same between new (take piece (zeros most)) (zeros piece) (take-replicate piece most 0 few) next))

-- one is refused
pub zeros_refused : (error : Error) (old between new : Option (List ℕ)) (count left piece most : ℕ) → left ≤ count → piece ≤ left → piece ≤ most
    → Appends old between (zeros (count - left)) → IsIo error × AppendsBeginning between new (take piece (zeros most))
    → IsIo error × AppendsBeginning old new (zeros count)
zeros_refused error old between new count left piece most within inside few before refused =
    let sum : count - left + piece + (left - piece) ≡ count = omega arith in
    let rest = zeros (left - piece) in
    refused_same error old new (zeros (count - left) ++ zeros piece ++ rest) (zeros count)
    (ap (λ (bytes : List ℕ). bytes ++ rest) (both (count - left) piece) ∙ both (count - left + piece) (left - piece) ∙ ap zeros sum)
    (puts_between error old between new (zeros (count - left)) (zeros piece) rest before
    (refused_same error between new (take piece (zeros most)) (zeros piece) (take-replicate piece most 0 few) refused))
