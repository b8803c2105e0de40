-- The text of each fault.
use Rattle.std.specs.Prelude.{ℕ, List, codes}
use Rattle.ipc_format.specs.columnar_memory.declared.Error.{Error}
use Rattle.ipc_format.specs.columnar_memory.declared.Error.TheVariants as errors
use Rattle.tables_chunks.specs.declared.fault.Fault.{Fault}
use Rattle.tables_chunks.specs.declared.fault.Fault.TheVariants as faults
use Rattle.tables_chunks.specs.declared.fault.SealBar.{SealBar}
use Rattle.tables_chunks.specs.declared.fault.SealBar.TheVariants as bars

-- what was refused in the bytes of a stream or a file
abbrev pub ipc_text_of : Error → List ℕ
ipc_text_of (errors.NotYetImplemented what) = codes "ipc: not implemented"
ipc_text_of (errors.InvalidArgumentError what) = codes "ipc: invalid argument"
ipc_text_of (errors.ExternalFormat what) = codes "ipc: external format"
ipc_text_of (errors.OutOfSpec what) = codes "ipc: out of specification"
ipc_text_of (errors.External from what) = codes "ipc: external"
ipc_text_of (errors.Io what) = codes "ipc: input or output failed"
ipc_text_of errors.Overflow = codes "ipc: overflow"
ipc_text_of errors.OutOfMemory = codes "out of memory"

-- what was refused of cells and batches
abbrev pub lower_text_of : Error → List ℕ
lower_text_of (errors.NotYetImplemented what) = codes "lower: not implemented"
lower_text_of (errors.InvalidArgumentError what) = codes "lower: invalid argument"
lower_text_of (errors.ExternalFormat what) = codes "lower: external format"
lower_text_of (errors.OutOfSpec what) = codes "lower: out of specification"
lower_text_of (errors.External from what) = codes "lower: external"
lower_text_of (errors.Io what) = codes "lower: input or output failed"
lower_text_of errors.Overflow = codes "lower: overflow"
lower_text_of errors.OutOfMemory = codes "out of memory"

-- why a schema may not be sealed
abbrev pub bar_text_of : SealBar → List ℕ
bar_text_of bars.Map = codes "not sealable: map"
bar_text_of bars.Union = codes "not sealable: union"
bar_text_of bars.OrderedDictionary = codes "not sealable: ordered dictionary"
bar_text_of bars.EmptyStruct = codes "not sealable: struct without fields"
bar_text_of bars.NotWritable = codes "not sealable: not writable"

abbrev pub text_of : Fault → List ℕ
text_of faults.Memory = codes "out of memory"
text_of (faults.Ipc error) = ipc_text_of error
text_of (faults.Lower error) = lower_text_of error
text_of faults.Unfinished = codes "unfinished stream"
text_of (faults.NotSealable bar) = bar_text_of bar
text_of faults.RowWidth = codes "row of another width"
text_of faults.NoColumns = codes "no columns"
text_of faults.TooManyRows = codes "too many rows"
text_of faults.NoSuchColumn = codes "no such column"
