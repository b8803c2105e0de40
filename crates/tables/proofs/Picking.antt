-- Chosen columns of an input and their stream, put together to what comes of a command.
use Rattle.std.proofs.Common.{◌≡◌, ℕ, List, refl}
use Rattle.std.specs.Prelude.{true, false, Option, Some, None, Result, Ok, Err}
use Rattle.tables_rows.specs.chunks.ipc_format.columnar_memory.declared.Error.TheVariants as errors
use Rattle.tables_rows.specs.chunks.declared.fault.Fault.TheVariants as faults
use Rattle.tables_rows.specs.chunks.Choices.{are_distinct}
use Rattle.tables_rows.specs.chunks.StoredTables.{Stored}
use Rattle.tables.specs.Command.{Pick}
use Rattle.tables.specs.Contents.{Contents, Keeps}
use Rattle.tables.specs.Inputs.{ReadsPicked}
use Rattle.tables.specs.Outcome.{CarriesOut, IsUnpicked, PutsTable}
use Rattle.tables.specs.declared.program.Failure.{Failure}
use Rattle.tables.specs.declared.program.Failure.TheVariants as failures
use Rattle.tables.specs.declared.program.Outcome.{Outcome}
use Rattle.tables.specs.declared.program.Outcome.TheVariants as outcomes
use Rattle.tables.proofs.Carrying.{keeps_both, sets_behind}

-- what isn't changed is kept
keeps_itself : (contents : Option Contents) → Keeps contents contents
keeps_itself None = tt
keeps_itself (Some m) = refl

-- there is no memory for the columns
pub no_memory : (columns : List ℕ) (limit : Option ℕ) (input output : List ℕ) (contents : Option Contents)
    → CarriesOut (Err (failures.Fault faults.Memory)) (Pick columns limit input output) contents contents
no_memory columns limit input output contents = (tt, keeps_itself contents)

-- one is named twice
pub named_twice : (columns : List ℕ) (limit : Option ℕ) (input output : List ℕ) (contents : Option Contents) → are_distinct columns ≡ false
    → CarriesOut (Err failures.RepeatedColumn) (Pick columns limit input output) contents contents
named_twice columns limit input output contents twice = (twice, keeps_itself contents)

-- an input that gives no choice of its columns
refused : (failure : Failure) (columns : List ℕ) (limit : Option ℕ) (input : List ℕ) (contents : Option Contents)
    → are_distinct columns ≡ true → ReadsPicked columns limit (Err failure) contents input → IsUnpicked failure columns limit input contents
refused failures.UnreadableInput columns limit input contents distinct why = (distinct, why)
refused failures.UnwritableOutput columns limit input contents distinct why = absurd why
refused failures.RangeOutsideRows columns limit input contents distinct why = absurd why
refused failures.SchemasDiffer columns limit input contents distinct why = absurd why
refused failures.RepeatedColumn columns limit input contents distinct why = absurd why
refused (failures.Fault faults.Memory) columns limit input contents distinct why = tt
refused (failures.Fault (faults.Ipc errors.Overflow)) columns limit input contents distinct (bytes, holds, why) = absurd why
refused (failures.Fault (faults.Ipc _)) columns limit input contents distinct why = (distinct, why)
refused (failures.Fault (faults.Lower error)) columns limit input contents distinct why = (distinct, why)
refused (failures.Fault faults.Unfinished) columns limit input contents distinct why = (distinct, why)
refused (failures.Fault (faults.NotSealable bar)) columns limit input contents distinct why = (distinct, why)
refused (failures.Fault faults.RowWidth) columns limit input contents distinct why = (distinct, why)
refused (failures.Fault faults.NoColumns) columns limit input contents distinct why = (distinct, why)
refused (failures.Fault faults.TooManyRows) columns limit input contents distinct why = (distinct, why)
refused (failures.Fault faults.NoSuchColumn) columns limit input contents distinct why = (distinct, why)

pub pick_fails : (failure : Failure) (columns : List ℕ) (limit : Option ℕ) (input output : List ℕ) (old new : Option Contents)
    → are_distinct columns ≡ true → ReadsPicked columns limit (Err failure) old input → Keeps old new
    → CarriesOut (Err failure) (Pick columns limit input output) old new
pick_fails failure columns limit input output old new distinct why kept = (refused failure columns limit input old distinct why, kept)

-- chosen columns that are read are put, or aren't
pub pick_put : (result : Result Outcome Failure) (columns : List ℕ) (limit : Option ℕ) (input output : List ℕ) (old middle new : Option Contents)
    (made : Stored) → are_distinct columns ≡ true → Keeps old middle → ReadsPicked columns limit (Ok made) old input
    → PutsTable result middle new output made → CarriesOut result (Pick columns limit input output) old new
pick_put (Ok outcomes.Done) columns limit input output old middle new made distinct kept read put =
    (distinct, (made, read, sets_behind old middle new output _ kept put))
pick_put (Ok outcomes.Different) columns limit input output old middle new made distinct kept read put = absurd put
pick_put (Err failures.UnwritableOutput) columns limit input output old middle new made distinct kept read put =
    ((distinct, (made, read)), keeps_both old middle new kept put)
pick_put (Err (failures.Fault faults.Memory)) columns limit input output old middle new made distinct kept read put =
    (tt, keeps_both old middle new kept put)
pick_put (Err (failures.Fault (faults.Ipc errors.Overflow))) columns limit input output old middle new made distinct kept read put =
    ((distinct, (made, read, put.0)), keeps_both old middle new kept put.1)
pick_put (Err _) columns limit input output old middle new made distinct kept read put = absurd put
