-- A room from call to call: what is said of its bytes, and why calls are refused that read of it.
use Rattle.std.proofs.Common.{◌≡◌, ◌∙◌, ℕ, ◌<◌, Bool, true, false, List, length, ◌==◌, refl, ap, arith}
use Rattle.std.specs.Prelude.{Option, Some, None, Result, Ok, Err}
use Rattle.ipc_format_chunk_writing.specs.BatchReads.{sized}
use Rattle.ipc_format_chunk_writing.specs.Rooms.{ForBytes, IsRefusal, ReadsAs, Stays, Told}
use Rattle.ipc_format_chunk_writing.specs.columnar_memory.declared.Error.{Error}
use Rattle.ipc_format_chunk_writing.specs.columnar_memory.declared.Error.TheVariants as errors
use Rattle.ipc_format_chunk_writing.specs.flatbuffers.Reading.{◌>>=◌, guard}
use Rattle.ipc_format_readers.proofs.Binding.{came_of}
use Rattle.ipc_format_readers.specs.FileReads.{ReadsOf, RefusesOf}

-- ---- a room that stays

pub stays_same : (told : Told) → Stays told told
stays_same told = (refl, refl)

pub stays_further : (old now new : Told) → Stays old now → Stays now new → Stays old new
stays_further old now new first then = (then.0 ∙ first.0, then.1 ∙ first.1)

-- ---- a room of as many bytes as are stated

pub sized_bytes : (size : ℕ) (told : Told) (bytes : List ℕ) → (sized size told).bytes ≡ Some bytes → told.bytes ≡ Some bytes
sized_bytes size told bytes e =
    let whole = came_of {A = List ℕ} told.bytes _ bytes e in
    let fits = came_of {A = Bool} (guard (length whole.0 == size)) _ bytes whole.2 in
    whole.1 ∙ fits.2

pub sized_stays : (size : ℕ) (old new : Told) → Stays old new → Stays (sized size old) (sized size new)
sized_stays size old new stays =
    (ap (λ (bytes : Option (List ℕ)). bytes >>= (λ room. guard (length room == size) >>= (λ _. Some room))) stays.0, stays.1)

-- ---- why a call is refused

-- a call refuses where another does, for something else that lacks where this lacks
refusal_as : (is_compressed : Bool) (old new now after : Told) (Nothing Nothing_too : Type 0) (error : Error)
    → (now.failures < after.failures → old.failures < new.failures) → (Nothing → Nothing_too) → IsRefusal is_compressed now after Nothing error
    → IsRefusal is_compressed old new Nothing_too error
refusal_as is_compressed old new now after Nothing Nothing_too (errors.NotYetImplemented what) failed so refused = refused
refusal_as is_compressed old new now after Nothing Nothing_too (errors.Io what) failed so refused = (refused.0, failed refused.1)
refusal_as is_compressed old new now after Nothing Nothing_too errors.OutOfMemory failed so refused = refused
refusal_as is_compressed old new now after Nothing Nothing_too (errors.OutOfSpec what) failed so refused = (refused.0, so refused.1)
refusal_as is_compressed old new now after Nothing Nothing_too (errors.External from what) failed so refused = absurd refused
refusal_as is_compressed old new now after Nothing Nothing_too (errors.InvalidArgumentError what) failed so refused = absurd refused
refusal_as is_compressed old new now after Nothing Nothing_too (errors.ExternalFormat what) failed so refused = absurd refused
refusal_as is_compressed old new now after Nothing Nothing_too errors.Overflow failed so refused = absurd refused

-- a later call, where the room stayed before
pub refused_later : (is_compressed : Bool) (old now new : Told) (Nothing Nothing_too : List ℕ → Type 0) (error : Error) → Stays old now
    → ForBytes old (λ bytes. Nothing bytes → Nothing_too bytes) → IsRefusal is_compressed now new (ForBytes now Nothing) error
    → IsRefusal is_compressed old new (ForBytes old Nothing_too) error
refused_later is_compressed old now new Nothing Nothing_too error stays so refused =
    refusal_as is_compressed old new now new (ForBytes now Nothing) (ForBytes old Nothing_too) error (λ failed. omega (arith, stays.1, failed))
    (λ nothing bytes e. so bytes e (nothing bytes (stays.0 ∙ e))) refused

pub refuses_too : {A B : Type 0} (old now new : Told) (Unread Unread_too : List ℕ → Type 0) (given : List ℕ → Option A)
    (given_too : List ℕ → Option B) (error : Error) → Stays old now → ForBytes old (λ bytes. Unread bytes → Unread_too bytes)
    → ForBytes old (λ bytes. given bytes ≡ None → given_too bytes ≡ None) → RefusesOf now new Unread given error
    → RefusesOf old new Unread_too given_too error
refuses_too old now new Unread Unread_too given given_too (errors.NotYetImplemented what) stays unread none refused =
    λ bytes e. let it = refused bytes (stays.0 ∙ e) in (none bytes e it.0, unread bytes e it.1)
refuses_too old now new Unread Unread_too given given_too (errors.Io what) stays unread none refused = omega (arith, stays.1, refused)
refuses_too old now new Unread Unread_too given given_too errors.OutOfMemory stays unread none refused = tt
refuses_too old now new Unread Unread_too given given_too (errors.OutOfSpec what) stays unread none refused =
    λ bytes e. none bytes e (refused bytes (stays.0 ∙ e))
refuses_too old now new Unread Unread_too given given_too (errors.External from what) stays unread none refused = absurd refused
refuses_too old now new Unread Unread_too given given_too (errors.InvalidArgumentError what) stays unread none refused = absurd refused
refuses_too old now new Unread Unread_too given given_too (errors.ExternalFormat what) stays unread none refused = absurd refused
refuses_too old now new Unread Unread_too given given_too errors.Overflow stays unread none refused = absurd refused

-- where nothing is compressed
refused_of : {A : Type 0} (old new : Told) (Unread : List ℕ → Type 0) (given : List ℕ → Option A) (error : Error)
    → IsRefusal false old new (ForBytes old (λ bytes. given bytes ≡ None)) error → RefusesOf old new Unread given error
refused_of old new Unread given (errors.NotYetImplemented what) refused = absurd cc
refused_of old new Unread given (errors.Io what) refused = refused.1
refused_of old new Unread given errors.OutOfMemory refused = tt
refused_of old new Unread given (errors.OutOfSpec what) refused = refused.1
refused_of old new Unread given (errors.External from what) refused = absurd refused
refused_of old new Unread given (errors.InvalidArgumentError what) refused = absurd refused
refused_of old new Unread given (errors.ExternalFormat what) refused = absurd refused
refused_of old new Unread given errors.Overflow refused = absurd refused

-- where a part of what is asked for isn't there
pub part_refused : {A : Type 0} (old now new : Told) (Nothing Unread : List ℕ → Type 0) (given : List ℕ → Option A) (error : Error)
    → Stays old now → ForBytes old (λ bytes. Nothing bytes → given bytes ≡ None) → IsRefusal false now new (ForBytes now Nothing) error
    → RefusesOf old new Unread given error
part_refused old now new Nothing Unread given error stays none refused =
    refused_of old new Unread given error (refused_later false old now new Nothing (λ bytes. given bytes ≡ None) error stays none refused)

-- the same of a room whose size is stated
pub sized_refused : {A : Type 0} (size : ℕ) (old new : Told) (Nothing Unread : List ℕ → Type 0) (given : List ℕ → Option A) (error : Error)
    → ((bytes : List ℕ) → Nothing bytes → given bytes ≡ None) → IsRefusal false old new (ForBytes old Nothing) error
    → RefusesOf (sized size old) (sized size new) Unread given error
sized_refused size old new Nothing Unread given error none refused =
    refused_of (sized size old) (sized size new) Unread given error
    (refusal_as false (sized size old) (sized size new) old new (ForBytes old Nothing) (ForBytes (sized size old) (λ bytes. given bytes ≡ None)) error
    (λ failed. failed) (λ nothing bytes e. none bytes (nothing bytes (sized_bytes size old bytes e))) refused)

-- ---- what is read

pub reads_later : {A B : Type 0} (is_compressed : Bool) (old now new : Told) (view : A → B) (given given_too : List ℕ → Option B)
    (result : Result A Error) → Stays old now → ForBytes old (λ bytes. given_too bytes ≡ given bytes)
    → ReadsAs is_compressed now new view given result → ReadsAs is_compressed old new view given_too result
reads_later is_compressed old now new view given given_too (Ok found) stays same read =
    (read.0, stays_further old now new stays read.1, λ bytes e. same bytes e ∙ read.2 bytes (stays.0 ∙ e))
reads_later is_compressed old now new view given given_too (Err error) stays same refused =
    refused_later is_compressed old now new (λ bytes. given bytes ≡ None) (λ bytes. given_too bytes ≡ None) error stays
    (λ bytes e none. same bytes e ∙ none) refused

pub reads_too : {A B C : Type 0} (old now new : Told) (Is Is_too : A → List ℕ → Type 0) (Unread Unread_too : List ℕ → Type 0)
    (given : List ℕ → Option B) (given_too : List ℕ → Option C) (result : Result A Error) → Stays old now
    → ForBytes old (λ bytes. (found : A) → Is found bytes → Is_too found bytes) → ForBytes old (λ bytes. Unread bytes → Unread_too bytes)
    → ForBytes old (λ bytes. given bytes ≡ None → given_too bytes ≡ None) → ReadsOf now new Is Unread given result
    → ReadsOf old new Is_too Unread_too given_too result
reads_too old now new Is Is_too Unread Unread_too given given_too (Ok found) stays is unread none read =
    (stays_further old now new stays read.0, λ bytes e. is bytes e found (read.1 bytes (stays.0 ∙ e)))
reads_too old now new Is Is_too Unread Unread_too given given_too (Err error) stays is unread none refused =
    refuses_too old now new Unread Unread_too given given_too error stays unread none refused

-- what is read of messages whose buffers may be compressed, for which the format gives nothing
pub reads_told : {A B : Type 0} (is_compressed : Bool) (old new : Told) (view : A → B) (given given_too : List ℕ → Option B)
    (result : Result A Error) → ((bytes : List ℕ) → given_too bytes ≡ given bytes)
    → (is_compressed ≡ true → (bytes : List ℕ) → given_too bytes ≡ None) → ReadsAs is_compressed old new view given result
    → ReadsOf old new (λ found bytes. given_too bytes ≡ Some (view found)) (λ bytes. is_compressed ≡ true) given_too result
reads_told is_compressed old new view given given_too (Ok found) same none read = (read.1, λ bytes e. same bytes ∙ read.2 bytes e)
reads_told is_compressed old new view given given_too (Err (errors.NotYetImplemented what)) same none is = λ bytes e. (none is bytes, is)
reads_told is_compressed old new view given given_too (Err (errors.Io what)) same none refused = refused.1
reads_told is_compressed old new view given given_too (Err errors.OutOfMemory) same none refused = tt
reads_told is_compressed old new view given given_too (Err (errors.OutOfSpec what)) same none refused = λ bytes e. same bytes ∙ refused.1 bytes e
reads_told is_compressed old new view given given_too (Err (errors.External from what)) same none refused = absurd refused
reads_told is_compressed old new view given given_too (Err (errors.InvalidArgumentError what)) same none refused = absurd refused
reads_told is_compressed old new view given given_too (Err (errors.ExternalFormat what)) same none refused = absurd refused
reads_told is_compressed old new view given given_too (Err errors.Overflow) same none refused = absurd refused
