-- The bytes of the next buffer, by where it begins and how many bytes it states.
use Rattle.std.proofs.Common.{◌≡◌, ◌∙◌, ◌+◌, ◌<◌, ◌≤◌, ℕ, List, [], ◌∷◌, Bool, true, false, refl, ap, arith}
use Rattle.std.specs.Prelude.{Option, Some, None, nat_le}
use Rattle.std.proofs.lemmas.Bool.Decides.{nat_tests}
use Rattle.ipc_format_column_bytes.specs.streams.columnar_memory.declared.Error.{Error}
use Rattle.ipc_format_column_bytes.specs.streams.columnar_memory.declared.Error.TheVariants as errors
use Rattle.ipc_format_column_bytes.specs.streams.flatbuffers.Reading.{◌>>=◌, guard, window_at}
use Rattle.ipc_format_column_bytes.specs.streams.grammar.Messages.{natural}
use Rattle.ipc_format_column_bytes.specs.streams.grammar.Columns.{buffer_at}
use Rattle.ipc_format_column_bytes.specs.streams.messages.declared.values.Buffer.{Buffer}
use Rattle.ipc_format_column_reading.specs.Buffers.{next_stated, next_window}
use Rattle.ipc_format_column_reading.specs.Rooms.{Told, IsRefusal}

-- the bytes at an offset, where enough are stated
given_at : List ℕ → ℕ → ℕ → ℕ × ℕ → Option (List ℕ)
given_at room origin needed found = do
  _ ← guard (nat_le needed found.1)
  window_at room (origin + found.0) needed

given_by_parts : (room : List ℕ) (origin needed : ℕ) (offset stated : Option ℕ)
    → (offset >>= (λ o. stated >>= (λ s. guard (nat_le needed s) >>= (λ _. window_at room (origin + o) needed))))
    ≡ ((offset >>= (λ o. stated >>= (λ s. Some (o, s)))) >>= given_at room origin needed)
unfolding given_at
given_by_parts room origin needed None stated = refl
given_by_parts room origin needed (Some o) None = refl
given_by_parts room origin needed (Some o) (Some s) = refl

window_given : (buffers : List Buffer) (origin needed : ℕ) (room : List ℕ)
    → next_window buffers origin needed room ≡ (next_stated buffers >>= given_at room origin needed)
unfolding buffer_at
window_given [] origin needed room = refl
window_given (buffer ∷ others) origin needed room = given_by_parts room origin needed (natural buffer.offset) (natural buffer.length)

test_short : (n m : ℕ) → m < n → nat_le n m ≡ false
test_short n m less = grind (arith, nat_tests)

test_enough : (n m : ℕ) → n ≤ m → nat_le n m ≡ true
test_enough n m enough = grind (arith, nat_tests)

-- no buffer, or a negative number in it
pub window_none : (buffers : List Buffer) (origin needed : ℕ) (room : List ℕ) → next_stated buffers ≡ None
    → next_window buffers origin needed room ≡ None
window_none buffers origin needed room none =
    window_given buffers origin needed room ∙ ap (λ (stated : Option (ℕ × ℕ)). stated >>= given_at room origin needed) none

-- a buffer that states too few bytes
pub window_short : (buffers : List Buffer) (origin needed : ℕ) (room : List ℕ) (offset stated : ℕ) → next_stated buffers ≡ Some (offset, stated)
    → stated < needed → next_window buffers origin needed room ≡ None
unfolding given_at
window_short buffers origin needed room offset stated is less =
    window_given buffers origin needed room ∙ ap (λ (found : Option (ℕ × ℕ)). found >>= given_at room origin needed) is
    ∙ ap (λ (test : Bool). guard test >>= (λ _. window_at room (origin + offset) needed)) (test_short needed stated less)

-- a buffer that states enough
pub window_stated : (buffers : List Buffer) (origin needed : ℕ) (room : List ℕ) (offset stated : ℕ) → next_stated buffers ≡ Some (offset, stated)
    → needed ≤ stated → next_window buffers origin needed room ≡ window_at room (origin + offset) needed
unfolding given_at
window_stated buffers origin needed room offset stated is enough =
    window_given buffers origin needed room ∙ ap (λ (found : Option (ℕ × ℕ)). found >>= given_at room origin needed) is
    ∙ ap (λ (test : Bool). guard test >>= (λ _. window_at room (origin + offset) needed)) (test_enough needed stated enough)

-- a refusal for one cause is a refusal for another that follows from it
pub refusal_for : (old new : Told) (Cause Other : Type 0) (error : Error) (is_compressed : Bool) → (Cause → Other)
    → IsRefusal is_compressed old new Cause error
    → IsRefusal is_compressed old new Other error
refusal_for old new Cause Other (errors.NotYetImplemented what) is_compressed follows refusal = refusal
refusal_for old new Cause Other (errors.Io what) is_compressed follows refusal = refusal
refusal_for old new Cause Other errors.OutOfMemory is_compressed follows refusal = refusal
refusal_for old new Cause Other (errors.OutOfSpec what) is_compressed follows refusal = (refusal.0, follows refusal.1)
refusal_for old new Cause Other (errors.InvalidArgumentError what) is_compressed follows refusal = absurd refusal
refusal_for old new Cause Other (errors.ExternalFormat what) is_compressed follows refusal = absurd refusal
refusal_for old new Cause Other (errors.External from what) is_compressed follows refusal = absurd refusal
refusal_for old new Cause Other errors.Overflow is_compressed follows refusal = absurd refusal

pub ruleset windows = (window_none, window_short, window_stated)
