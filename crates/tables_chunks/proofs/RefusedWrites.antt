-- Why something isn't written, from the parts of it to the whole.
use Rattle.std.proofs.Common.{◌≡◌, ℕ, List, [], ◌++◌, subst, sym}
use Rattle.std.proofs.lemmas.List.{append-nil}
use Rattle.std.specs.Prelude.{Bool, true, false, Option, Result, Ok, Err}
use Rattle.columnar_memory_types.specs.Error.{IsIo, IsOutOfMemory}
use Rattle.ipc_format.specs.columnar_memory.declared.Error.{Error}
use Rattle.ipc_format.specs.columnar_memory.declared.Error.TheVariants as errors
use Rattle.ipc_format.specs.columnar_memory.declared.Schema.{Schema}
use Rattle.ipc_format.specs.columns.StoredColumns.{Column}
use Rattle.ipc_format.specs.streams.Devices.{IsNamed, IsOutcome, IsRefusedWrite}
use Rattle.tables_chunks.specs.Faults.{fault_of}
use Rattle.tables_chunks.specs.Refusals.{IsRefusal, IsWriteError, IsWriteFault, PutsTable, StopsAtTooLong, WritesTable}
use Rattle.tables_chunks.specs.WrittenTables.{table_bytes}

-- want of memory
pub memory_refused : (too_long : Type 0) (error : Error) → IsOutOfMemory error → IsRefusal too_long error
memory_refused too_long errors.OutOfMemory refused = tt
memory_refused too_long errors.Overflow refused = absurd refused
memory_refused too_long (errors.Io what) refused = absurd refused
memory_refused too_long (errors.NotYetImplemented what) refused = absurd refused
memory_refused too_long (errors.InvalidArgumentError what) refused = absurd refused
memory_refused too_long (errors.ExternalFormat what) refused = absurd refused
memory_refused too_long (errors.OutOfSpec what) refused = absurd refused
memory_refused too_long (errors.External from what) refused = absurd refused

-- a device's refusal
pub io_refused : (too_long : Type 0) (error : Error) → IsIo error → IsRefusal too_long error
io_refused too_long (errors.Io what) refused = tt
io_refused too_long errors.Overflow refused = absurd refused
io_refused too_long errors.OutOfMemory refused = absurd refused
io_refused too_long (errors.NotYetImplemented what) refused = absurd refused
io_refused too_long (errors.InvalidArgumentError what) refused = absurd refused
io_refused too_long (errors.ExternalFormat what) refused = absurd refused
io_refused too_long (errors.OutOfSpec what) refused = absurd refused
io_refused too_long (errors.External from what) refused = absurd refused

-- what is too long keeps more from being written
pub refused_by : {P Q : Type 0} (error : Error) → (P → Q) → IsRefusal P error → IsRefusal Q error
refused_by errors.Overflow more refused = more refused
refused_by errors.OutOfMemory more refused = tt
refused_by (errors.Io what) more refused = tt
refused_by (errors.NotYetImplemented what) more refused = absurd refused
refused_by (errors.InvalidArgumentError what) more refused = absurd refused
refused_by (errors.ExternalFormat what) more refused = absurd refused
refused_by (errors.OutOfSpec what) more refused = absurd refused
refused_by (errors.External from what) more refused = absurd refused

-- a device's refusal by its name
refused_by_device : (too_long : Type 0) (in_memory : Bool) (before after : ℕ) (error : Error) → IsRefusedWrite in_memory before after error
    → IsWriteError too_long in_memory before after error
refused_by_device too_long in_memory before after (errors.Io what) why = why
refused_by_device too_long in_memory before after (errors.OutOfSpec what) why = why
refused_by_device too_long in_memory before after errors.OutOfMemory why = tt
refused_by_device too_long true before after _ why = absurd why
refused_by_device too_long false before after _ why = absurd why

refused_named : (too_long : Type 0) (error : Error) (in_memory : Bool) (before after : ℕ) (named : Error) → IsRefusal too_long error
    → IsNamed error in_memory before after named → IsWriteError too_long in_memory before after named
refused_named too_long (errors.Io what) in_memory before after named refused is = refused_by_device too_long in_memory before after named is
refused_named too_long errors.Overflow in_memory before after named refused is =
    subst (λ (e : Error). IsWriteError too_long in_memory before after e) (sym is) refused
refused_named too_long errors.OutOfMemory in_memory before after named refused is =
    subst (λ (e : Error). IsWriteError too_long in_memory before after e) (sym is) tt
refused_named too_long (errors.NotYetImplemented what) in_memory before after named refused is = absurd refused
refused_named too_long (errors.InvalidArgumentError what) in_memory before after named refused is = absurd refused
refused_named too_long (errors.ExternalFormat what) in_memory before after named refused is = absurd refused
refused_named too_long (errors.OutOfSpec what) in_memory before after named refused is = absurd refused
refused_named too_long (errors.External from what) in_memory before after named refused is = absurd refused

-- what is told of a table that was put, by the device's count of failures
pub table_told : (put told : Result (Unit {0}) Error) (schema : Schema) (batches : List (List Column)) (in_memory : Bool) (before after : ℕ)
    (old new : Option (List ℕ)) → PutsTable put old new schema batches → IsOutcome put in_memory before after told
    → WritesTable told schema batches in_memory before after old new
table_told (Ok done) (Ok same) schema batches in_memory before after old new puts is = (puts.0, puts.1, is.1)
table_told (Ok done) (Err error) schema batches in_memory before after old new puts is = (
  (table_bytes schema batches, [], sym (append-nil (table_bytes schema batches)), puts.1),
  refused_by_device (StopsAtTooLong old new schema batches) in_memory before after error is.0,
)
table_told (Err error) (Ok same) schema batches in_memory before after old new puts is = absurd is
table_told (Err error) (Err named) schema batches in_memory before after old new puts is =
    (puts.0, refused_named (StopsAtTooLong old new schema batches) error in_memory before after named puts.1 is)

-- the fault of an error
pub fault_is : (too_long : Type 0) (error : Error) (in_memory : Bool) (before after : ℕ) → IsWriteError too_long in_memory before after error
    → IsWriteFault too_long in_memory before after (fault_of error)
fault_is too_long errors.Overflow in_memory before after refused = refused
fault_is too_long errors.OutOfMemory in_memory before after refused = tt
fault_is too_long (errors.Io what) in_memory before after refused = refused
fault_is too_long (errors.OutOfSpec what) in_memory before after refused = refused
fault_is too_long (errors.NotYetImplemented what) in_memory before after refused = absurd refused
fault_is too_long (errors.InvalidArgumentError what) in_memory before after refused = absurd refused
fault_is too_long (errors.ExternalFormat what) in_memory before after refused = absurd refused
fault_is too_long (errors.External from what) in_memory before after refused = absurd refused
