-- Errors of lower crates as faults.
use Rattle.ipc_format.specs.columnar_memory.declared.Error.{Error}
use Rattle.ipc_format.specs.columnar_memory.declared.Error.TheVariants as errors
use Rattle.tables_chunks.specs.declared.fault.Fault.{Fault}
use Rattle.tables_chunks.specs.declared.fault.Fault.TheVariants as faults

-- what a lower crate refused in a stream; its want of memory is ours
abbrev pub fault_of : Error → Fault
fault_of errors.OutOfMemory = faults.Memory
fault_of other = faults.Ipc other
