-- Types of one form.
use Rattle.std.proofs.Common.{◌≡◌, true, sym, ap}
use Rattle.columnar_memory_types.specs.Equality.{same_type-Decides}
use Rattle.ipc_format_batch_reading.specs.columnar_memory.declared.DataType.{DataType}
use Rattle.ipc_format_batch_reading.specs.grammar.Writable.{normalised_type}
use Rattle.ipc_format_chunk_writing.specs.Types.{have_one_form}

-- the same type has one form
pub same_form : (a b : DataType) → a ≡ b → true ≡ have_one_form a b
same_form a b is = sym ((same_type-Decides (normalised_type a) (normalised_type b)).1 (ap normalised_type is))
