-- Reads one after another.
use Rattle.std.proofs.Common.{◌≡◌, ◌∙◌, ◌<◌, ℕ, List, Bool, false, refl, ap, arith}
use Rattle.std.specs.Prelude.{Option, Some, None, Result, Ok, Err}
use Rattle.ipc_format_column_bytes.specs.streams.columnar_memory.Error.{IsOutOfMemory, IsOutOfSpec}
use Rattle.ipc_format_column_bytes.specs.streams.columnar_memory.declared.Error.{Error}
use Rattle.ipc_format_column_bytes.specs.streams.columnar_memory.declared.Error.TheVariants as errors
use Rattle.ipc_format_column_bytes.specs.streams.flatbuffers.Reading.{◌>>=◌}
use Rattle.ipc_format_column_reading.specs.Queues.{TakesOff}
use Rattle.ipc_format_column_reading.specs.Rooms.{Told, Stays, ForBytes, IsRefusal, ReadsAs}
use Rattle.ipc_format_column_reading.proofs.NextBuffers.{refusal_for}

-- a refusal of a later call, for a cause from which another one follows
refusal_later : (old mid new : Told) (Cause Other : Type 0) (error : Error) (is_compressed : Bool) → Stays old mid → (Cause → Other)
    → IsRefusal is_compressed mid new Cause error → IsRefusal is_compressed old new Other error
refusal_later old mid new Cause Other (errors.NotYetImplemented what) is_compressed stays follows refusal = refusal
refusal_later old mid new Cause Other (errors.Io what) is_compressed stays follows refusal =
    let more : old.failures < new.failures = omega (arith, stays.1, refusal.1) in
    (refusal.0, more)
refusal_later old mid new Cause Other errors.OutOfMemory is_compressed stays follows refusal = refusal
refusal_later old mid new Cause Other (errors.OutOfSpec what) is_compressed stays follows refusal = (refusal.0, follows refusal.1)
refusal_later old mid new Cause Other (errors.InvalidArgumentError what) is_compressed stays follows refusal = absurd refusal
refusal_later old mid new Cause Other (errors.ExternalFormat what) is_compressed stays follows refusal = absurd refusal
refusal_later old mid new Cause Other (errors.External from what) is_compressed stays follows refusal = absurd refusal
refusal_later old mid new Cause Other errors.Overflow is_compressed stays follows refusal = absurd refusal

stays_longer : (old mid new : Told) → Stays old mid → Stays mid new → Stays old new
stays_longer old mid new first later =
    (later.0 ∙ first.0, later.1 ∙ first.1)

-- what is read behind something that was read
pub reads_behind : {A B X Y : Type 0} (is_compressed : Bool) (old mid new : Told) (first : A → X) (given : List ℕ → Option X) (a : A)
    (second : B → Y) (next : X → List ℕ → Option Y) (whole : List ℕ → Option Y) (r : Result B Error)
    → ((room : List ℕ) → whole room ≡ (given room >>= (λ x. next x room))) → ReadsAs is_compressed old mid first given (Ok a)
    → ReadsAs is_compressed mid new second (next (first a)) r → ReadsAs is_compressed old new second whole r
reads_behind is_compressed old mid new first given a second next whole (Ok b) is before later = (
  later.0,
  stays_longer old mid new before.1 later.1,
  λ room told. is room ∙ ap (λ (found : Option _). found >>= (λ x. next x room)) (before.2 room told) ∙ later.2 room (before.1.0 ∙ told),
)
reads_behind is_compressed old mid new first given a second next whole (Err error) is before later =
    refusal_later old mid new (ForBytes mid (λ room. next (first a) room ≡ None)) (ForBytes old (λ room. whole room ≡ None)) error is_compressed
    before.1
    (λ none room told. is room ∙ ap (λ (found : Option _). found >>= (λ x. next x room)) (before.2 room told) ∙ none room (before.1.0 ∙ told))
    later

-- the same of a read that is refused
pub reads_refused : {A B X Y : Type 0} (is_compressed : Bool) (old new : Told) (first : A → X) (given : List ℕ → Option X)
    (second : B → Y) (next : X → List ℕ → Option Y) (whole : List ℕ → Option Y) (error : Error)
    → ((room : List ℕ) → whole room ≡ (given room >>= (λ x. next x room))) → ReadsAs is_compressed old new first given (Err error)
    → ReadsAs is_compressed old new second whole (Err error)
reads_refused is_compressed old new first given second next whole error is refused =
    refusal_for old new (ForBytes old (λ room. given room ≡ None)) (ForBytes old (λ room. whole room ≡ None)) error is_compressed
    (λ none room told. is room ∙ ap (λ (found : Option _). found >>= (λ x. next x room)) (none room told)) refused

-- what is made of what was read
pub reads_made : {A B X Y : Type 0} (is_compressed : Bool) (old new : Told) (first : A → X) (given : List ℕ → Option X) (a : A)
    (second : B → Y) (next : X → List ℕ → Option Y) (whole : List ℕ → Option Y) (b : B)
    → ((room : List ℕ) → whole room ≡ (given room >>= (λ x. next x room))) → ReadsAs is_compressed old new first given (Ok a)
    → ((room : List ℕ) → next (first a) room ≡ Some (second b)) → ReadsAs is_compressed old new second whole (Ok b)
reads_made is_compressed old new first given a second next whole b is before made = (
  before.0,
  before.1,
  λ room told. is room ∙ ap (λ (found : Option _). found >>= (λ x. next x room)) (before.2 room told) ∙ made room,
)

-- nothing can be made of what was read
pub made_none : {A X Y : Type 0} (is_compressed : Bool) (old new : Told) (first : A → X) (given : List ℕ → Option X) (a : A)
    (next : X → List ℕ → Option Y) (whole : List ℕ → Option Y) → ((room : List ℕ) → whole room ≡ (given room >>= (λ x. next x room)))
    → ReadsAs is_compressed old new first given (Ok a) → ((room : List ℕ) → next (first a) room ≡ None)
    → ForBytes old (λ room. whole room ≡ None)
made_none is_compressed old new first given a next whole is before none room told =
    is room ∙ ap (λ (found : Option _). found >>= (λ x. next x room)) (before.2 room told) ∙ none room

-- ---- refusals of calls that are told nothing of a room

pub out_of_spec : (old new : Told) (Cause : Type 0) (is_compressed : Bool) (error : Error) → IsOutOfSpec error → is_compressed ≡ false → Cause
    → IsRefusal is_compressed old new Cause error
out_of_spec old new Cause is_compressed (errors.OutOfSpec what) is plain cause = (plain, cause)
out_of_spec old new Cause is_compressed (errors.NotYetImplemented what) is plain cause = absurd is
out_of_spec old new Cause is_compressed (errors.Io what) is plain cause = absurd is
out_of_spec old new Cause is_compressed errors.OutOfMemory is plain cause = absurd is
out_of_spec old new Cause is_compressed (errors.InvalidArgumentError what) is plain cause = absurd is
out_of_spec old new Cause is_compressed (errors.ExternalFormat what) is plain cause = absurd is
out_of_spec old new Cause is_compressed (errors.External from what) is plain cause = absurd is
out_of_spec old new Cause is_compressed errors.Overflow is plain cause = absurd is

pub out_of_memory : (old new : Told) (Cause : Type 0) (is_compressed : Bool) (error : Error) → IsOutOfMemory error → is_compressed ≡ false
    → IsRefusal is_compressed old new Cause error
out_of_memory old new Cause is_compressed errors.OutOfMemory is plain = plain
out_of_memory old new Cause is_compressed (errors.OutOfSpec what) is plain = absurd is
out_of_memory old new Cause is_compressed (errors.NotYetImplemented what) is plain = absurd is
out_of_memory old new Cause is_compressed (errors.Io what) is plain = absurd is
out_of_memory old new Cause is_compressed (errors.InvalidArgumentError what) is plain = absurd is
out_of_memory old new Cause is_compressed (errors.ExternalFormat what) is plain = absurd is
out_of_memory old new Cause is_compressed (errors.External from what) is plain = absurd is
out_of_memory old new Cause is_compressed errors.Overflow is plain = absurd is

-- ---- what comes off the queues, whatever is made of it

pub takes_any : {A X Y : Type 0} (n : ℕ) (old new : List A) (x : X) (r : Result Y Error) → TakesOff n old new (Ok x) → TakesOff n old new r
takes_any n old new x (Ok y) taken = taken
takes_any n old new x (Err error) taken = (n, taken.1)

-- ---- nothing, or what there is, taken further

pub through : {A B C : Type 0} (x : Option A) (h : A → B) (f : A → Option C) (g : B → Option C) → ((a : A) → f a ≡ g (h a))
    → (x >>= f) ≡ ((x >>= (λ a. Some (h a))) >>= g)
through None h f g same = refl
through (Some a) h f g same = same a

pub through_found : {A C : Type 0} (x : Option A) (f g : A → Option C) → ((a : A) → x ≡ Some a → f a ≡ g a) → (x >>= f) ≡ (x >>= g)
through_found None f g same = refl
through_found (Some a) f g same = same a refl

pub through_two : {A B C : Type 0} (x : Option A) (f : A → Option B) (g : B → Option C) → ((x >>= f) >>= g) ≡ (x >>= (λ a. f a >>= g))
through_two None f g = refl
through_two (Some a) f g = refl
