-- What is taken of a view, against what its bytes give.
use Rattle.std.specs.Prelude.{◌≡◌, Bool, true, false, codes, Option, Some, None, Result, Ok, Err}
use Rattle.ipc_format_writing.specs.columnar_memory.declared.Error.{Error}
use Rattle.ipc_format_writing.specs.columnar_memory.declared.Error.TheVariants.{NotYetImplemented, OutOfSpec, OutOfMemory}

-- Nothing is given: buffers are compressed, or else the bytes break a rule of the format. Memory may run out anywhere.
abbrev pub RefusesTaking : {A : Type 0} → Bool → Error → Option A → Type 0
RefusesTaking compressed (OutOfSpec what) given = (compressed ≡ false) × (what.now ≡ codes "InvalidFlatbuffer") × (given ≡ None)
RefusesTaking compressed (NotYetImplemented what) given = (compressed ≡ true) × (given ≡ None)
RefusesTaking compressed OutOfMemory given = Unit {0}
RefusesTaking compressed _ given = ⊥

-- what is taken is what is given
abbrev pub Takes : {A : Type 0} → Bool → Result A Error → Option A → Type 0
Takes compressed (Ok taken) given = given ≡ Some taken
Takes compressed (Err error) given = RefusesTaking compressed error given
