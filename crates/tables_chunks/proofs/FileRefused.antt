-- Why a file isn't written, from the parts of it to the whole.
use Rattle.std.proofs.Common.{◌≡◌, ℕ, List, [], ◌++◌, subst, sym}
use Rattle.std.proofs.lemmas.List.{append-nil}
use Rattle.std.specs.Prelude.{Bool, true, false, Option, Result, Ok, Err}
use Rattle.columnar_memory_types.specs.Error.{IsIo, IsOutOfMemory}
use Rattle.ipc_format.specs.columnar_memory.declared.Error.{Error}
use Rattle.ipc_format.specs.columnar_memory.declared.Error.TheVariants as errors
use Rattle.ipc_format.specs.columnar_memory.declared.Schema.{Schema}
use Rattle.ipc_format.specs.columns.StoredColumns.{Column}
use Rattle.ipc_format.specs.streams.Devices.{IsNamed, IsOutcome, IsRefusedWrite}
use Rattle.tables_chunks.specs.Faults.{fault_of}
use Rattle.tables_chunks.specs.Refusals.{IsRefusal}
use Rattle.tables_chunks.specs.WrittenFiles.{IsFileError, IsFileFault, IsFileRefusal, PutsFile, StopsAtLongFile, StopsAtReplaced, WritesWhole}
use Rattle.tables_chunks.specs.WrittenFiles.{table_file}

-- want of memory
pub file_memory : (too_long replaces : Type 0) (error : Error) → IsOutOfMemory error → IsFileRefusal too_long replaces error
file_memory too_long replaces errors.OutOfMemory refused = tt
file_memory too_long replaces errors.Overflow refused = absurd refused
file_memory too_long replaces (errors.Io what) refused = absurd refused
file_memory too_long replaces (errors.NotYetImplemented what) refused = absurd refused
file_memory too_long replaces (errors.InvalidArgumentError what) refused = absurd refused
file_memory too_long replaces (errors.ExternalFormat what) refused = absurd refused
file_memory too_long replaces (errors.OutOfSpec what) refused = absurd refused
file_memory too_long replaces (errors.External from what) refused = absurd refused

-- a device's refusal
pub file_io : (too_long replaces : Type 0) (error : Error) → IsIo error → IsFileRefusal too_long replaces error
file_io too_long replaces (errors.Io what) refused = tt
file_io too_long replaces errors.Overflow refused = absurd refused
file_io too_long replaces errors.OutOfMemory refused = absurd refused
file_io too_long replaces (errors.NotYetImplemented what) refused = absurd refused
file_io too_long replaces (errors.InvalidArgumentError what) refused = absurd refused
file_io too_long replaces (errors.ExternalFormat what) refused = absurd refused
file_io too_long replaces (errors.OutOfSpec what) refused = absurd refused
file_io too_long replaces (errors.External from what) refused = absurd refused

-- what keeps a part from being written keeps the whole
pub file_refused_by : {P Q R S : Type 0} (error : Error) → (P → Q) → (R → S) → IsFileRefusal P R error → IsFileRefusal Q S error
file_refused_by errors.Overflow long replaced refused = long refused
file_refused_by (errors.InvalidArgumentError what) long replaced refused = replaced refused
file_refused_by errors.OutOfMemory long replaced refused = tt
file_refused_by (errors.Io what) long replaced refused = tt
file_refused_by (errors.NotYetImplemented what) long replaced refused = absurd refused
file_refused_by (errors.ExternalFormat what) long replaced refused = absurd refused
file_refused_by (errors.OutOfSpec what) long replaced refused = absurd refused
file_refused_by (errors.External from what) long replaced refused = absurd refused

-- the refusal of a part that a stream has as well
pub file_as_stream : (too_long replaces : Type 0) (error : Error) → IsRefusal too_long error → IsFileRefusal too_long replaces error
file_as_stream too_long replaces errors.Overflow refused = refused
file_as_stream too_long replaces errors.OutOfMemory refused = tt
file_as_stream too_long replaces (errors.Io what) refused = tt
file_as_stream too_long replaces (errors.InvalidArgumentError what) refused = absurd refused
file_as_stream too_long replaces (errors.NotYetImplemented what) refused = absurd refused
file_as_stream too_long replaces (errors.ExternalFormat what) refused = absurd refused
file_as_stream too_long replaces (errors.OutOfSpec what) refused = absurd refused
file_as_stream too_long replaces (errors.External from what) refused = absurd refused

-- a device's refusal by its name
file_by_device : (too_long replaces : Type 0) (in_memory : Bool) (before after : ℕ) (error : Error) → IsRefusedWrite in_memory before after error
    → IsFileError too_long replaces in_memory before after error
file_by_device too_long replaces in_memory before after (errors.Io what) why = why
file_by_device too_long replaces in_memory before after (errors.OutOfSpec what) why = why
file_by_device too_long replaces in_memory before after errors.OutOfMemory why = tt
file_by_device too_long replaces true before after _ why = absurd why
file_by_device too_long replaces false before after _ why = absurd why

file_named : (too_long replaces : Type 0) (error : Error) (in_memory : Bool) (before after : ℕ) (named : Error)
    → IsFileRefusal too_long replaces error → IsNamed error in_memory before after named → IsFileError too_long replaces in_memory before after named
file_named too_long replaces (errors.Io what) in_memory before after named refused is =
    file_by_device too_long replaces in_memory before after named is
file_named too_long replaces errors.Overflow in_memory before after named refused is =
    subst (λ (e : Error). IsFileError too_long replaces in_memory before after e) (sym is) refused
file_named too_long replaces (errors.InvalidArgumentError what) in_memory before after named refused is =
    subst (λ (e : Error). IsFileError too_long replaces in_memory before after e) (sym is) refused
file_named too_long replaces errors.OutOfMemory in_memory before after named refused is =
    subst (λ (e : Error). IsFileError too_long replaces in_memory before after e) (sym is) tt
file_named too_long replaces (errors.NotYetImplemented what) in_memory before after named refused is = absurd refused
file_named too_long replaces (errors.ExternalFormat what) in_memory before after named refused is = absurd refused
file_named too_long replaces (errors.OutOfSpec what) in_memory before after named refused is = absurd refused
file_named too_long replaces (errors.External from what) in_memory before after named refused is = absurd refused

-- what is told of a file that was put, by the device's count of failures
pub file_told : (put told : Result (Unit {0}) Error) (schema : Schema) (batches : List (List Column)) (in_memory : Bool) (before after : ℕ)
    (old new : Option (List ℕ)) → PutsFile put old new schema batches → IsOutcome put in_memory before after told
    → WritesWhole told schema batches in_memory before after old new
file_told (Ok done) (Ok same) schema batches in_memory before after old new puts is = (puts.0, puts.1, is.1)
file_told (Ok done) (Err error) schema batches in_memory before after old new puts is = (
  (table_file schema batches, [], sym (append-nil (table_file schema batches)), puts.1),
  file_by_device (StopsAtLongFile old new schema batches) (StopsAtReplaced old new schema batches) in_memory before after error is.0,
)
file_told (Err error) (Ok same) schema batches in_memory before after old new puts is = absurd is
file_told (Err error) (Err named) schema batches in_memory before after old new puts is = (
  puts.0,
  file_named (StopsAtLongFile old new schema batches) (StopsAtReplaced old new schema batches) error in_memory before after named puts.1 is,
)

-- the fault of an error
pub file_fault : (too_long replaces : Type 0) (error : Error) (in_memory : Bool) (before after : ℕ)
    → IsFileError too_long replaces in_memory before after error → IsFileFault too_long replaces in_memory before after (fault_of error)
file_fault too_long replaces errors.Overflow in_memory before after refused = refused
file_fault too_long replaces (errors.InvalidArgumentError what) in_memory before after refused = refused
file_fault too_long replaces errors.OutOfMemory in_memory before after refused = tt
file_fault too_long replaces (errors.Io what) in_memory before after refused = refused
file_fault too_long replaces (errors.OutOfSpec what) in_memory before after refused = refused
file_fault too_long replaces (errors.NotYetImplemented what) in_memory before after refused = absurd refused
file_fault too_long replaces (errors.ExternalFormat what) in_memory before after refused = absurd refused
file_fault too_long replaces (errors.External from what) in_memory before after refused = absurd refused
