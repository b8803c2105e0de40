-- Reading one thing after another: nothing as soon as one of them gives nothing.
use Rattle.std.specs.Prelude.{ℕ, ◌+◌, Bool, true, false, List, length, take, drop, Option, Some, None, nat_le, if◌then◌else◌}

infixl 10 ◌>>=◌
abbrev pub ◌>>=◌ : {A B : Type 0} → Option A → (A → Option B) → Option B
None >>= f = None
(Some x) >>= f = f x

-- something where the test is true, and nothing where it is false
abbrev pub guard : Bool → Option Bool
guard true = Some true
guard false = None

-- the n bytes from a place on, where they lie in the message
abbrev pub window_at : List ℕ → ℕ → ℕ → Option (List ℕ)
window_at bytes place n = if nat_le (place + n) (length bytes) then Some (take n (drop place bytes)) else None
