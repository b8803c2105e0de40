-- What the program says of a failure.
use Rattle.std.proofs.Common.{◌≡◌, ℕ, List, [], refl, sym, subst}
use Rattle.std.specs.Prelude.{Option, Some, Result, Ok, Err}
use Rattle.std.proofs.lemmas.List.{append-nil}
use Rattle.tables_rows.specs.chunks.ipc_format.columnar_memory.declared.Error.{Error}
use Rattle.tables_rows.specs.chunks.ipc_format.streams.Devices.{AppendsBeginning, Puts}
use Rattle.tables.specs.Command.{Asked}
use Rattle.tables.specs.Contents.{Contents}
use Rattle.tables.specs.Failure.{failure_line, line_of}
use Rattle.tables.specs.Outcome.{Answers, CarriesOut, status_of}
use Rattle.tables.specs.declared.program.Failure.{Failure}
use Rattle.tables.specs.declared.program.Failure.TheVariants as failures

-- what was written is a beginning, whatever the writer answered
pub begins : {A : Type 0} (result : Result A Error) (before after : Option (List ℕ)) (line : List ℕ) → Puts result before after line
    → AppendsBeginning before after line
begins (Ok done) before after line written = (line, [], sym (append-nil line), written)
begins (Err error) before after line written = written.1

-- a failure but a column named twice has one status
pub status_two : (failure : Failure) → (failure ≡ failures.RepeatedColumn → ⊥) → 2 ≡ status_of (Err failure)
status_two (failures.Fault fault) other = refl
status_two failures.UnreadableInput other = refl
status_two failures.UnwritableOutput other = refl
status_two failures.RangeOutsideRows other = refl
status_two failures.SchemasDiffer other = refl
status_two failures.RepeatedColumn other = absurd (other refl)

-- and one line
line_is : (failure : Failure) → (failure ≡ failures.RepeatedColumn → ⊥) → failure_line failure ≡ line_of failure
line_is (failures.Fault fault) other = refl
line_is failures.UnreadableInput other = refl
line_is failures.UnwritableOutput other = refl
line_is failures.RangeOutsideRows other = refl
line_is failures.SchemasDiffer other = refl
line_is failures.RepeatedColumn other = absurd (other refl)

-- what was written of such a failure
pub told : {A : Type 0} (failure : Failure) (before after : Option (List ℕ)) (result : Result A Error) → (failure ≡ failures.RepeatedColumn → ⊥)
    → Puts result before after (failure_line failure) → AppendsBeginning before after (line_of failure)
told failure before after result other written =
    subst (λ (line : List ℕ). AppendsBeginning before after line) (line_is failure other)
    (begins result before after (failure_line failure) written)

-- a command that failed, and its line
pub failed : (stated : Option Asked) (asked : Asked) (failure : Failure) (old new : Option Contents) (before after : Option (List ℕ)) (status : ℕ)
    → Some asked ≡ stated → CarriesOut (Err failure) asked old new → status ≡ status_of (Err failure)
    → AppendsBeginning before after (line_of failure) → Answers status stated old new before after
failed stated asked failure old new before after status same carried is line =
    subst (λ (s : Option Asked). Answers status s old new before after) same (Err failure, is, carried, line)
