-- What comes of a command: it is done, or it fails and says why.
use Rattle.std.specs.Prelude.{◌≡◌, ◌⊎◌, ℕ, true, false, List, [], ◌∷◌, Option, Some, None, Result, Ok, Err}
use Rattle.std.specs.Io.KnownBytes as known
use Rattle.std.specs.declared.vec.Vec.{Vec}
use Rattle.std.specs.declared.alloc.Global.{Global}
use Rattle.tables_rows.specs.chunks.ipc_format.columnar_memory.declared.Error.TheVariants as errors
use Rattle.tables_rows.specs.chunks.declared.fault.Fault.TheVariants as faults
use Rattle.tables_rows.specs.chunks.ipc_format.streams.Devices.{AppendsBeginning}
use Rattle.tables_rows.specs.chunks.Choices.{are_distinct}
use Rattle.tables_rows.specs.chunks.StoredTables.{Stored, as_table}
use Rattle.tables.specs.Command.{Asked, Cut, Join, Pick, Same, Seal, inputs_of}
use Rattle.tables.specs.Contents.{Contents, Keeps, Sets}
use Rattle.tables.specs.Failure.{line_of, usage_line}
use Rattle.tables.specs.Inputs.{HoldsTable, HoldTables, IsInputFailure, ReadsPicked}
use Rattle.tables.specs.Made.{IsLong, IsNotMade, Makes, seal_of, stream_of}
use Rattle.tables.specs.declared.program.Failure.{Failure}
use Rattle.tables.specs.declared.program.Failure.TheVariants as failures
use Rattle.tables.specs.declared.program.Outcome.{Outcome}
use Rattle.tables.specs.declared.program.Outcome.TheVariants as outcomes

-- ---- streams

-- the stream of a table; or a message of it would be too long, or memory ran out
abbrev pub Streams : Result (Vec ℕ Global) Failure → Stored → Type 0
Streams (Ok bytes) table = bytes.items ≡ stream_of table
Streams (Err (failures.Fault faults.Memory)) table = Unit {0}
Streams (Err (failures.Fault (faults.Ipc errors.Overflow))) table = IsLong table
Streams (Err _) table = ⊥

-- the stream of a table stands under a name, where all else is as it was; or why not, and known contents stay as they were
abbrev pub PutsTable : Result Outcome Failure → Option Contents → Option Contents → List ℕ → Stored → Type 0
PutsTable (Ok outcomes.Done) old new output table = Sets old new output (stream_of table)
PutsTable (Ok outcomes.Different) old new output table = ⊥
PutsTable (Err failures.UnwritableOutput) old new output table = Keeps old new
PutsTable (Err (failures.Fault faults.Memory)) old new output table = Keeps old new
PutsTable (Err (failures.Fault (faults.Ipc errors.Overflow))) old new output table = IsLong table × Keeps old new
PutsTable (Err _) old new output table = ⊥

-- some bytes stand under a name, where all else is as it was; or why not, and known contents stay as they were
abbrev pub PutsBytes : Result Outcome Failure → Option Contents → Option Contents → List ℕ → List ℕ → Type 0
PutsBytes (Ok outcomes.Done) old new output bytes = Sets old new output bytes
PutsBytes (Ok outcomes.Different) old new output bytes = ⊥
PutsBytes (Err failures.UnwritableOutput) old new output bytes = Keeps old new
PutsBytes (Err (failures.Fault faults.Memory)) old new output bytes = Keeps old new
PutsBytes (Err _) old new output bytes = ⊥

-- ---- commands

-- the tables that a command reads, and what it makes of them
pub record IsMade (asked : Asked) (contents : Option Contents) (made : Stored) : Type 0 where
  pub tables : List Stored
  pub read : HoldTables contents (inputs_of asked) tables
  pub makes : Makes asked tables made

-- a table is made, and its stream stands under a name, where all else is as it was
abbrev pub IsWritten : Asked → List ℕ → Option Contents → Option Contents → Type 0
IsWritten asked output old new = (made : Stored) × IsMade asked old made × Sets old new output (stream_of made)

-- a table is read, and its seal in batches of a size stands under a name, where all else is as it was
abbrev pub IsSealed : ℕ → List ℕ → List ℕ → Option Contents → Option Contents → Type 0
IsSealed size input output old new =
    (table : Stored) × (bytes : List ℕ) × HoldsTable old input table × (seal_of size table ≡ Some bytes) × Sets old new output bytes

-- two tables are read, of which something holds
abbrev pub AreCompared : List ℕ → List ℕ → Option Contents → (Stored → Stored → Type 0) → Type 0
AreCompared left right contents Holding =
    (first : Stored) × (second : Stored) × HoldTables contents (left ∷ right ∷ []) (first ∷ second ∷ []) × Holding first second

-- two tables have one schema and the same rows, however these are divided into batches
abbrev pub AreSame : Stored → Stored → Type 0
AreSame first second = as_table first ≡ as_table second

-- nothing is made of the tables that are read
abbrev pub IsUnmade : Failure → Asked → Option Contents → Type 0
IsUnmade failure asked contents = (tables : List Stored) × HoldTables contents (inputs_of asked) tables × IsNotMade failure asked tables

-- the stream of what is made has a message that is too long
abbrev pub IsTooLong : Failure → Asked → Option Contents → Type 0
IsTooLong (failures.Fault (faults.Ipc errors.Overflow)) asked contents = (made : Stored) × IsMade asked contents made × IsLong made
IsTooLong _ asked contents = ⊥

-- what a failure says of a command, and of what stood under each name
abbrev pub IsFailure : Failure → Asked → Option Contents → Type 0
IsFailure failures.UnwritableOutput asked contents = (made : Stored) × IsMade asked contents made
IsFailure (failures.Fault faults.Memory) asked contents = Unit {0}
IsFailure failure asked contents =
    IsInputFailure failure contents (inputs_of asked) ⊎ (IsUnmade failure asked contents ⊎ IsTooLong failure asked contents)

-- chosen columns of the first rows are read, and their stream stands under a name, where all else is as it was
abbrev pub IsPicked : List ℕ → Option ℕ → List ℕ → List ℕ → Option Contents → Option Contents → Type 0
IsPicked columns limit input output old new = (made : Stored) × ReadsPicked columns limit (Ok made) old input × Sets old new output (stream_of made)

-- Why a choice isn't written: a column is named twice; or none is, and the input is refused so, the stream of what is read has a message that is
-- too long, the output can't be put, or memory ran out.
abbrev pub IsUnpicked : Failure → List ℕ → Option ℕ → List ℕ → Option Contents → Type 0
IsUnpicked failures.RepeatedColumn columns limit input old = are_distinct columns ≡ false
IsUnpicked failures.UnwritableOutput columns limit input old =
    (are_distinct columns ≡ true) × ((made : Stored) × ReadsPicked columns limit (Ok made) old input)
IsUnpicked (failures.Fault faults.Memory) columns limit input old = Unit {0}
IsUnpicked (failures.Fault (faults.Ipc errors.Overflow)) columns limit input old =
    (are_distinct columns ≡ true) × ((made : Stored) × ReadsPicked columns limit (Ok made) old input × IsLong made)
IsUnpicked failure columns limit input old = (are_distinct columns ≡ true) × ReadsPicked columns limit (Err failure) old input

-- a command is done, or two tables differ; or it fails, and known contents stay as they were
abbrev pub CarriesOut : Result Outcome Failure → Asked → Option Contents → Option Contents → Type 0
CarriesOut (Ok outcomes.Done) (Seal size input output) old new = IsSealed size input output old new
CarriesOut (Ok outcomes.Done) (Pick columns limit input output) old new =
    (are_distinct columns ≡ true) × IsPicked columns limit input output old new
CarriesOut (Ok outcomes.Done) (Cut offset length input output) old new = IsWritten (Cut offset length input output) output old new
CarriesOut (Ok outcomes.Done) (Join output first others) old new = IsWritten (Join output first others) output old new
CarriesOut (Ok outcomes.Done) (Same left right) old new = AreCompared left right old AreSame × Keeps old new
CarriesOut (Ok outcomes.Different) (Same left right) old new =
    AreCompared left right old (λ first second. AreSame first second → ⊥) × Keeps old new
CarriesOut (Ok outcomes.Different) _ old new = ⊥
CarriesOut (Err failure) (Pick columns limit input output) old new = IsUnpicked failure columns limit input old × Keeps old new
CarriesOut (Err failure) asked old new = IsFailure failure asked old × Keeps old new

-- ---- the program

-- the exit status of what came of a command
abbrev pub status_of : Result Outcome Failure → ℕ
status_of (Ok outcomes.Done) = 0
status_of (Ok outcomes.Different) = 1
status_of (Err failures.RepeatedColumn) = 3
status_of (Err failure) = 2

-- a failure's line is written where the writer takes it, and else a beginning of it
abbrev pub Tells : Result Outcome Failure → Option (List ℕ) → Option (List ℕ) → Type 0
Tells (Ok outcome) before after = known.Keeps before after
Tells (Err failure) before after = AppendsBeginning before after (line_of failure)

-- What the program answers for the command that its words state, if they state one: what stood under each name before and after, and what
-- the writer of its line held.
abbrev pub Answers : ℕ → Option Asked → Option Contents → Option Contents → Option (List ℕ) → Option (List ℕ) → Type 0
Answers status None old new before after = (status ≡ 3) × Keeps old new × AppendsBeginning before after usage_line
Answers status (Some asked) old new before after =
    (answer : Result Outcome Failure) × (status ≡ status_of answer) × CarriesOut answer asked old new × Tells answer before after
