-- What a call that adds bytes behind some bytes answers.
use Rattle.std.specs.Prelude.{◌≡◌, ℕ, List, ◌++◌, length, take, Result, Ok, Err}
use Rattle.ipc_format_streams.specs.columnar_memory.Error.{IsOutOfMemory}
use Rattle.ipc_format_streams.specs.columnar_memory.declared.Error.{Error}

-- the new items begin with the old ones
abbrev pub BeginsWith : {A : Type 0} → List A → List A → Type 0
BeginsWith old new = take (length old) new ≡ old

-- these bytes stand behind the old ones; or there was no memory, and any bytes do
abbrev pub Appends : Result (Unit {0}) Error → List ℕ → List ℕ → List ℕ → Type 0
Appends (Ok _) old new more = new ≡ old ++ more
Appends (Err error) old new more = IsOutOfMemory error × BeginsWith old new
