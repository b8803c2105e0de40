-- What is told of a device's reads, by its count of failures.
use Rattle.std.proofs.Common.{◌≡◌, ℕ, List, length, refl}
use Rattle.std.specs.Prelude.{Bool, true, false, None, Result, Ok, Err, MatchResult, IfErr}
use Rattle.ipc_format_column_bytes.specs.streams.Arriving.{IsOfDevice}
use Rattle.ipc_format_column_bytes.specs.streams.Starts.{IsReadOutcome, IsReadRefusal, IsRefusedRead}
use Rattle.ipc_format_column_bytes.specs.streams.columnar_memory.declared.Error.{Error}
use Rattle.ipc_format_column_bytes.specs.streams.columnar_memory.declared.Error.TheVariants as errors
use Rattle.ipc_format_column_reading.specs.Rooms.{FillsFrom, ForBytes, IsRefusal, TellsExtent, Told}

-- a device that has failed so often
abbrev pub device : ℕ → Told
device failures = record { bytes = None; failures = failures }

-- nothing is said of its bytes
untold : (failures : ℕ) (P : List ℕ → Type 0) → ForBytes (device failures) P
untold failures P room is = absurd cc

refused : (in_memory : Bool) (before after : ℕ) (P : List ℕ → Type 0) (error : Error) → IsRefusedRead in_memory before after error
    → IsRefusal false (device before) (device after) (ForBytes (device before) P) error
refused true before after P errors.OutOfMemory why = refl
refused true before after P _ why = absurd why
refused false before after P (errors.Io what) why = (refl, why)
refused false before after P errors.OutOfMemory why = refl
refused false before after P (errors.OutOfSpec text) why = (refl, untold before P)
refused false before after P _ why = absurd why

named : (in_memory : Bool) (before after : ℕ) (P : List ℕ → Type 0) (error answered : Error) → IsOfDevice error
    → IsReadRefusal error in_memory before after answered → IsRefusal false (device before) (device after) (ForBytes (device before) P) answered
named in_memory before after P (errors.Io what) answered of is = refused in_memory before after P answered is
named in_memory before after P errors.OutOfMemory errors.OutOfMemory of is = refl
named in_memory before after P errors.OutOfMemory _ of is = absurd cc
named in_memory before after P _ answered of is = absurd of

-- bytes that were read into a vector
pub room_fills : (in_memory : Bool) (before after place count : ℕ) (items : List ℕ) (filled answered : Result (Unit {0}) Error)
    → MatchResult filled (λ _. length items ≡ count) IsOfDevice → IsReadOutcome filled in_memory before after answered
    → FillsFrom (device before) (device after) place count items answered
room_fills in_memory before after place count items (Ok done) (Ok same) fills told = ((refl, told.1), fills, untold before _)
room_fills in_memory before after place count items (Ok done) (Err error) fills told = refused in_memory before after _ error told.0
room_fills in_memory before after place count items (Err error) (Ok same) fills told = absurd told
room_fills in_memory before after place count items (Err error) (Err answered) fills told = named in_memory before after _ error answered fills told

-- places that were found
pub room_tells : (in_memory : Bool) (before after : ℕ) (found answered : Result (ℕ × ℕ) Error) → IfErr found IsOfDevice
    → IsReadOutcome found in_memory before after answered → TellsExtent (device before) (device after) answered
room_tells in_memory before after (Ok extent) (Ok same) tells told = ((refl, told.1), untold before _)
room_tells in_memory before after (Ok extent) (Err error) tells told = refused in_memory before after _ error told.0
room_tells in_memory before after (Err error) (Ok same) tells told = absurd told
room_tells in_memory before after (Err error) (Err answered) tells told = named in_memory before after _ error answered tells told
