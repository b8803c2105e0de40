-- Blocks that are read one after another.
use Rattle.std.proofs.Common.{◌≡◌, ◌∙◌, ℕ, suc, ◌+◌, ◌-◌, ◌*◌, ◌<◌, ◌≤◌, List, [], ◌∷◌, ◌++◌, sym, ap, arith, append-nil}
use Rattle.std.specs.Prelude.{Some, None}
use Rattle.ipc_format_chunk_writing.specs.flatbuffers.FlatBuffers.{Vector}
use Rattle.ipc_format_chunk_writing.specs.flatbuffers.Reading.{◌>>=◌}
use Rattle.ipc_format_chunk_writing.specs.grammar.Files.{Block, block_at, blocks_from, blocks_of}
use Rattle.ipc_format_readers.proofs.Lists.{behind, behind_none, behind_next}

-- the blocks that were read, and those from block k on, are all
abbrev pub AreLeft : List ℕ → Vector → List Block → ℕ → Type 0
AreLeft bytes v read k = (m : ℕ) → k + m ≡ v.count → blocks_of bytes v ≡ behind read (blocks_from bytes (v.place + 24 * k) m)

pub none_read : (bytes : List ℕ) (v : Vector) → AreLeft bytes v [] 0
none_read bytes v m e =
    let all : m ≡ v.count = omega arith in
    let here : v.place + 24 * 0 ≡ v.place = omega arith in
    rw (all, here) (sym (behind_none (blocks_from bytes v.place v.count)))

-- one block more
pub one_read : (bytes : List ℕ) (v : Vector) (read : List Block) (k : ℕ) (block : Block) → block_at bytes (v.place + 24 * k) ≡ Some block
    → AreLeft bytes v read k → AreLeft bytes v (read ++ block ∷ []) (k + 1)
one_read bytes v read k block here left m e =
    let next : v.place + 24 * k + 24 ≡ v.place + 24 * (k + 1) = omega arith in
    left (suc m) (omega (arith, e))
    ∙ ap (λ found. behind read (found >>= (λ first. blocks_from bytes (v.place + 24 * k + 24) m >>= (λ others. Some (first ∷ others))))) here
    ∙ behind_next read block (blocks_from bytes (v.place + 24 * k + 24) m)
    ∙ ap (λ place. behind (read ++ block ∷ []) (blocks_from bytes place m)) next

-- where one block isn't there, there are none
pub one_missing : (bytes : List ℕ) (v : Vector) (read : List Block) (k : ℕ) → k < v.count → block_at bytes (v.place + 24 * k) ≡ None
    → AreLeft bytes v read k → blocks_of bytes v ≡ None
one_missing bytes v read k inside none left =
    let m = v.count - k - 1 in
    left (suc m) (omega (arith, inside))
    ∙ ap (λ found. behind read (found >>= (λ first. blocks_from bytes (v.place + 24 * k + 24) m >>= (λ others. Some (first ∷ others))))) none

-- all of them
pub all_read : (bytes : List ℕ) (v : Vector) (read : List Block) (k : ℕ) → v.count ≤ k → k ≤ v.count → AreLeft bytes v read k
    → blocks_of bytes v ≡ Some read
all_read bytes v read k past upto left =
    left 0 (omega (arith, past, upto)) ∙ ap Some (append-nil read)
