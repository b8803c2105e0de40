-- What is read, against what the format gives.
use Rattle.std.specs.Prelude.{◌≡◌, Option, Some, None, Result, Ok, Err}
use Rattle.ipc_format_grammar.specs.columnar_memory.declared.Error.{Error}
use Rattle.ipc_format_grammar.specs.columnar_memory.declared.Error.TheVariants.{NotYetImplemented, OutOfSpec, OutOfMemory}

-- Nothing is given: the bytes break a rule of the format, or what isn't read stands in them. Memory may run out anywhere.
abbrev pub Refuses : {A : Type 0} → Type 0 → Error → Option A → Type 0
Refuses Unread (OutOfSpec what) given = given ≡ None
Refuses Unread (NotYetImplemented what) given = (given ≡ None) × Unread
Refuses Unread OutOfMemory given = Unit {0}
Refuses Unread _ given = ⊥

-- what is read is what the format gives
abbrev pub Reads : {A B : Type 0} → (A → B) → Type 0 → Result A Error → Option B → Type 0
Reads view Unread (Ok read) given = given ≡ Some (view read)
Reads view Unread (Err error) given = Refuses Unread error given
