-- What the calls on bitmaps answer.
use Rattle.std.specs.Prelude.{◌≡◌, ℕ, ◌*◌, ◌<◌, ◌≤◌, ◌⊎◌, Bool, List, length, Result, MatchResult}
use Rattle.columnar_memory_types.specs.declared.error.Error.{Error}
use Rattle.columnar_memory_types.specs.Error.{IsInvalidArgument, IsOutOfMemory}
use Rattle.columnar_memory_bits.specs.Bits.{bits_of}

-- P of the value, or no memory
abbrev pub OrOutOfMemory : {A : Type 0} → Result A Error → (A → Type 0) → Type 0
OrOutOfMemory {A} r P = MatchResult r P IsOutOfMemory

-- The first bits of some bytes. They are refused as an argument exactly where the bytes have fewer bits.
abbrev pub FirstBits : List ℕ → ℕ → Result (List Bool) Error → Type 0
FirstBits bytes n r =
    MatchResult r (λ bits. (n ≤ 8 * length bytes) × (bits ≡ bits_of bytes 0 n))
    (λ e. (IsInvalidArgument e × (8 * length bytes < n)) ⊎ (IsOutOfMemory e × (n ≤ 8 * length bytes)))

-- the same, without memory
abbrev pub TakesBits : List ℕ → ℕ → Result (List Bool) Error → Type 0
TakesBits bytes n r =
    MatchResult r (λ bits. (n ≤ 8 * length bytes) × (bits ≡ bits_of bytes 0 n)) (λ e. IsInvalidArgument e × (8 * length bytes < n))

-- The bits have grown to some others; or there is no memory, and they are as they were.
abbrev pub Grows : {A : Type 0} → Result A Error → List Bool → List Bool → List Bool → Type 0
Grows {A} r old new grown = MatchResult r (λ _. new ≡ grown) (λ e. IsOutOfMemory e × (new ≡ old))
