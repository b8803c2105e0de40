-- One thing after another.
use Rattle.std.proofs.Common.{◌≡◌, refl, ap}
use Rattle.std.specs.Prelude.{Option, Some, None}
use Rattle.ipc_format_chunk_writing.specs.flatbuffers.Reading.{◌>>=◌}

-- what follows may be replaced by what gives the same
pub bind_same : {A B : Type 0} (r : Option A) (f g : A → Option B) → ((x : A) → f x ≡ g x) → (r >>= f) ≡ (r >>= g)
bind_same None f g h = refl
bind_same (Some x) f g h = h x

pub bind_assoc : {A B C : Type 0} (r : Option A) (f : A → Option B) (g : B → Option C) → ((r >>= f) >>= g) ≡ (r >>= (λ x. f x >>= g))
bind_assoc None f g = refl
bind_assoc (Some x) f g = refl

-- where something follows, there was something to follow
pub came_of : {A B : Type 0} (r : Option A) (f : A → Option B) (y : B) → (r >>= f) ≡ Some y → (x : A) × (r ≡ Some x) × (f x ≡ Some y)
came_of None f y e = absurd cc
came_of (Some x) f y e = (x, refl, e)

abbrev pub or_other : {A : Type 0} → A → Option A → A
or_other other None = other
or_other other (Some x) = x

pub same_some : {A : Type 0} (x y : A) → Some x ≡ Some y → x ≡ y
same_some x y e = ap (or_other x) e
