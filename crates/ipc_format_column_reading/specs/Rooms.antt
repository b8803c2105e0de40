-- Where the buffers of batches stand, and what a call that reads there answers.
use Rattle.std.specs.Prelude.{◌≡◌, ℕ, ◌<◌, Bool, true, false, List, length, Option, Some, None, Result, Ok, Err}
use Rattle.ipc_format_column_bytes.specs.streams.columnar_memory.declared.Error.{Error}
use Rattle.ipc_format_column_bytes.specs.streams.columnar_memory.declared.Error.TheVariants as errors
use Rattle.ipc_format_column_bytes.specs.streams.flatbuffers.Reading.{window_at}

-- what a room tells of itself: all its bytes, where they stand in memory, and how often it has failed
pub record Told : Type 0 where
  pub bytes : Option (List ℕ)
  pub failures : ℕ

-- a room after a call that was not refused: the same bytes, and as many failures as before
abbrev pub Stays : Told → Told → Type 0
Stays old new = (new.bytes ≡ old.bytes) × (new.failures ≡ old.failures)

-- Why a call is refused: the buffers are compressed, and for nothing else then; the room has failed in the call; there was no memory; or
-- the format gives nothing.
abbrev pub IsRefusal : Bool → Told → Told → Type 0 → Error → Type 0
IsRefusal is_compressed old new Nothing (errors.NotYetImplemented what) = is_compressed ≡ true
IsRefusal is_compressed old new Nothing (errors.Io what) = (is_compressed ≡ false) × (old.failures < new.failures)
IsRefusal is_compressed old new Nothing errors.OutOfMemory = is_compressed ≡ false
IsRefusal is_compressed old new Nothing (errors.OutOfSpec what) = (is_compressed ≡ false) × Nothing
IsRefusal is_compressed old new Nothing _ = ⊥

-- for the bytes of a room, where they are told
abbrev pub ForBytes : Told → (List ℕ → Type 0) → Type 0
ForBytes told P = (room : List ℕ) → told.bytes ≡ Some room → P room

-- so many bytes from a place on are put into a vector
abbrev pub FillsFrom : {X : Type 0} → Told → Told → ℕ → ℕ → List ℕ → Result X Error → Type 0
FillsFrom old new place count filled (Ok done) =
    Stays old new × (length filled ≡ count) × ForBytes old (λ room. window_at room place count ≡ Some filled)
FillsFrom old new place count filled (Err error) = IsRefusal false old new (ForBytes old (λ room. window_at room place count ≡ None)) error

-- The places where a room begins and where it ends; where all its bytes stand in memory these are all places of them.
abbrev pub TellsExtent : Told → Told → Result (ℕ × ℕ) Error → Type 0
TellsExtent old new (Ok extent) = Stays old new × ForBytes old (λ room. (extent.0 ≡ 0) × (extent.1 ≡ length room))
TellsExtent old new (Err error) = IsRefusal false old new (ForBytes old (λ room. ⊥)) error

-- What is read is what the format gives; or the call is refused.
abbrev pub ReadsAs : {A B : Type 0} → Bool → Told → Told → (A → B) → (List ℕ → Option B) → Result A Error → Type 0
ReadsAs is_compressed old new view given (Ok found) =
    (is_compressed ≡ false) × Stays old new × ForBytes old (λ room. given room ≡ Some (view found))
ReadsAs is_compressed old new view given (Err error) = IsRefusal is_compressed old new (ForBytes old (λ room. given room ≡ None)) error
