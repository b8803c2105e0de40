-- What a message is refused for, said of the batches behind the schema.
use Rattle.std.proofs.Common.{◌≡◌, ◌∙◌, ℕ, ◌+◌, ◌^◌, ◌≤◌, ◌<◌, true, List, [], ◌∷◌, ◌++◌, sym, inl, inr}
use Rattle.std.specs.Prelude.{Some, None, Err}
use Rattle.ipc_format.specs.columnar_memory.declared.Error.{Error}
use Rattle.ipc_format.specs.columnar_memory.declared.Error.TheVariants as errors
use Rattle.ipc_format.specs.columnar_memory.declared.Schema.{Schema}
use Rattle.ipc_format.specs.Columns.{Dictionary}
use Rattle.ipc_format.specs.Dictionaries.{Layout}
use Rattle.ipc_format.specs.Messages.{Version}
use Rattle.tables_chunks.specs.Faults.{fault_of}
use Rattle.tables_chunks.specs.Messages.{RefusesNext}
use Rattle.tables_chunks.specs.Reading.{ReadsBatches}
use Rattle.ipc_format.specs.Steps.{Batches, step_at}
use Rattle.ipc_format.proofs.Progress.{MessagesRead, read_refused, turn_refused, not_unfinished, unread_from}

pub next_refused : (error : Error) (schema : Schema) (layout : Layout) (version : Version) (bytes : List ℕ) (first : ℕ) (batches : Batches)
    (standing : List Dictionary) (in_a_row place : ℕ) → MessagesRead layout version bytes first batches standing in_a_row place
    → RefusesNext (step_at layout version standing bytes place) bytes place in_a_row error
    → ReadsBatches schema layout version bytes first (Err (fault_of error))
next_refused errors.OutOfMemory schema layout version bytes first batches standing in_a_row place read refused = tt
next_refused (errors.OutOfSpec what) schema layout version bytes first batches standing in_a_row place read (inl none) = (
  read_refused layout version bytes first batches standing in_a_row place read none,
  λ both. not_unfinished layout version bytes first batches standing in_a_row place read none both.0,
)
next_refused (errors.OutOfSpec what) schema layout version bytes first batches standing in_a_row place read (inr turn) =
    let refused = turn_refused layout version bytes first batches standing in_a_row place read turn in (
      refused.0,
      λ both. let not_both : None ≡ Some true = sym refused.1 ∙ both.1 in absurd cc,
    )
next_refused (errors.NotYetImplemented what) schema layout version bytes first batches standing in_a_row place read refused = (
  read_refused layout version bytes first batches standing in_a_row place read refused.0,
  unread_from layout version bytes first batches standing in_a_row place read refused.1,
)
next_refused (errors.External from what) schema layout version bytes first batches standing in_a_row place read refused = absurd refused
next_refused (errors.Io what) schema layout version bytes first batches standing in_a_row place read refused = absurd refused
next_refused (errors.InvalidArgumentError what) schema layout version bytes first batches standing in_a_row place read refused = absurd refused
next_refused (errors.ExternalFormat what) schema layout version bytes first batches standing in_a_row place read refused = absurd refused
next_refused errors.Overflow schema layout version bytes first batches standing in_a_row place read refused = absurd refused
