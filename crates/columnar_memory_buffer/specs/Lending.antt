-- What bytes hold once a borrow of their elements ends.
use Rattle.std.specs.Prelude.{List, take, drop, ◌++◌, length}
use Rattle.std.specs.Borrow.{Lends, MutBor, Fml}
use denote.RattleType.{RattleType}
use denote.Array.{Array}
use Rattle.columnar_memory_buffer.specs.contracts.bytes.Bytes.{the_row}

-- the list with this written over its elements, of the same length
abbrev pub rewritten : {T : Type 0} → List T → List T → List T
rewritten xs ws = take (length xs) (ws ++ drop (length ws) xs)

-- the bytes end with what was written through the slice
abbrev pub LendsElements : (T : RattleType) → MutBor (List T.Denot) → MutBor (List T.Denot) → Fml
LendsElements T s r = Lends (the_row T) (Array T 0) s r (rewritten s.now)
