-- Hashes one after another, the newest of each bucket, and before each the next newest of its bucket.
use Rattle.std.specs.Prelude.{◌≡◌, ◌≢◌, ℕ, ◌-◌, ◌*◌, ◌/◌, ◌%◌, ◌^◌, ◌<◌, ◌≤◌, List, length, slice_index_or}
use Rattle.std.specs.Int.Bits.{bit_and}

-- A place behind the newest of the first q hashes with this one, or 0 where none has it.
pub record IsNewest (hashes : List ℕ) (q hash p : ℕ) : Type 0 where
  pub within : p ≤ q
  pub here : 0 < p → slice_index_or hashes (p - 1) 0 ≡ hash
  pub none : (i : ℕ) → p ≤ i → i < q → slice_index_or hashes i 0 ≢ hash

-- the bucket of n that a hash falls into, by its bits from the 32nd on once it is spread; n is a power of two where none is to be left empty
abbrev pub bucket_of : ℕ → ℕ → ℕ
bucket_of n hash = bit_and ((hash * 11400714819323198485) % 2 ^ 64 / 2 ^ 32) (n - 1)

-- a place behind the newest of the first q hashes that fall into a bucket of n, or 0 where none does
pub record IsLast (n : ℕ) (hashes : List ℕ) (q bucket p : ℕ) : Type 0 where
  pub within : p ≤ q
  pub here : 0 < p → bucket_of n (slice_index_or hashes (p - 1) 0) ≡ bucket
  pub none : (i : ℕ) → p ≤ i → i < q → bucket_of n (slice_index_or hashes i 0) ≢ bucket

-- the first q hashes are linked: from each of n buckets to the newest in it, and from each hash to the next newest
pub record IsLinked (n : ℕ) (heads before hashes : List ℕ) (q : ℕ) : Type 0 where
  pub wide : length heads ≡ n
  pub long : length before ≡ q
  pub first : (b : ℕ) → b < n → IsLast n hashes q b (slice_index_or heads b 0)
  pub next : (i : ℕ) → i < q → IsLast n hashes i (bucket_of n (slice_index_or hashes i 0)) (slice_index_or before i 0)

-- all are linked, and there is a bucket for each at least
pub record AreKept (heads before hashes : List ℕ) : Type 0 where
  pub few : length hashes ≤ length heads
  pub linked : IsLinked (length heads) heads before hashes (length hashes)
