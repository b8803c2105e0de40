-- Bytes of booleans that are lent in chunks, to be written.
use Rattle.std.specs.Prelude.{◌≡◌, ℕ, ◌*◌, ◌<◌, ◌++◌, List, Option, length, MatchOption}
use Rattle.std.specs.Borrow.{MutBor}

-- the bytes of the chunks that are left, those behind the last chunk, and how many bits these have
pub record ChunksLeft : Type 0 where
  pub chunks : List ℕ
  pub rest : List ℕ
  pub rest_len : ℕ

-- A step lends the bytes of the next chunk, w bits, until fewer are left; those behind the last chunk stay as they are.
pub record LendsChunk (w : ℕ) (before : ChunksLeft) (result : Option (MutBor (List ℕ))) (after : ChunksLeft) : Type 0 where
  pub chunk : MatchOption result (8 * length before.chunks < w) (λ bytes. (before.chunks ≡ bytes.now ++ after.chunks) × (8 * length bytes.now ≡ w))
  pub rest : after.rest ≡ before.rest
  pub rest_len : after.rest_len ≡ before.rest_len

-- the same with other bytes behind the last chunk
abbrev pub with_rest : ChunksLeft → List ℕ → ChunksLeft
with_rest left rest = record left { rest = rest }
