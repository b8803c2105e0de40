-- What is known of the value that some reading gives, if it gives one.
use Rattle.std.proofs.Common.{◌≡◌, Bool, true, false, subst}
use Rattle.std.specs.Prelude.{Option, Some, None, if◌then◌else◌}
use Rattle.ipc_format_grammar.specs.flatbuffers.Reading.{◌>>=◌}

-- whatever is given has a property
abbrev pub Gives : {A : Type 0} → (A → Type 0) → Option A → Type 0
Gives P None = Unit {0}
Gives P (Some x) = P x

-- a reading after another, of whose value something is known
pub then_gives : {A B : Type 0} (P : A → Type 0) (Q : B → Type 0) (r : Option A) (f : A → Option B) → Gives P r
    → ((x : A) → P x → Gives Q (f x)) → Gives Q (r >>= f)
then_gives P Q None f h k = tt
then_gives P Q (Some x) f h k = k x h

-- a reading after another, whatever its value
pub each_gives : {A B : Type 0} (Q : B → Type 0) (r : Option A) (f : A → Option B) → ((x : A) → Gives Q (f x)) → Gives Q (r >>= f)
each_gives Q None f k = tt
each_gives Q (Some x) f k = k x

-- one of two readings
pub either_gives : {A : Type 0} (Q : A → Type 0) (b : Bool) (x y : Option A) → Gives Q x → Gives Q y → Gives Q (if b then x else y)
either_gives Q true x y h k = h
either_gives Q false x y h k = k

-- the value that was given
pub was_given : {A : Type 0} (P : A → Type 0) (r : Option A) (x : A) → Gives P r → r ≡ Some x → P x
was_given P r x h e = subst (λ (o : Option _). Gives P o) e h
