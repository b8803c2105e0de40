-- The bytes of a file's footer, taken in parts.
use Rattle.std.proofs.Common.{◌≡◌, ◌∙◌, ℕ, ◌+◌, ◌-◌, ◌≤◌, ◌<◌, ℤ, pos, negsuc, Bool, true, false, List, length, nat_le, refl, sym, ap, arith}
use Rattle.std.specs.Prelude.{Option, Some, None, Ok, Err, ⊤}
use Rattle.std.specs.Int.{w32}
use Rattle.std.proofs.lemmas.Bool.{eq-eqb, le-leb, lt-leb}
use Rattle.ipc_format_chunk_writing.specs.Rooms.{ForBytes, IsRefusal, Stays, Told}
use Rattle.ipc_format_chunk_writing.specs.columnar_memory.declared.Error.{Error}
use Rattle.ipc_format_chunk_writing.specs.columnar_memory.declared.Error.TheVariants as errors
use Rattle.ipc_format_chunk_writing.specs.flatbuffers.FlatBuffers.{signed_at}
use Rattle.ipc_format_chunk_writing.specs.flatbuffers.Reading.{◌>>=◌, guard, window_at}
use Rattle.ipc_format_chunk_writing.specs.grammar.Files.{file_mark, footer_bytes_in, is_mark, stands_at}
use Rattle.ipc_format_chunk_writing.specs.grammar.Messages.{natural}
use Rattle.ipc_format_chunk_writing.specs.grammar.Refusals.{HasFeatherMark, feather_mark}
use Rattle.ipc_format_chunk_writing.specs.grammar.Tables.{file}
use Rattle.ipc_format_readers.specs.FileReads.{RefusesOf}
use Rattle.ipc_format_readers.specs.Footers.{SizesFooter, TakesFooter, TestsMark, footer_size}
use Rattle.ipc_format_readers.proofs.Parts.{signed_first, window_at_once, window_first, window_length, window_missing, window_of}
use Rattle.ipc_format_readers.proofs.Rooms.{part_refused, stays_further}

-- ---- the footer's bytes, by what is read of a file

-- by whether there are bytes enough, by the marks at both ends, and by the stated length
abbrev steps : List ℕ → Bool → Bool → Bool → Option ℤ → Option (List ℕ)
steps bytes is_enough first last stated = do
  _ ← guard is_enough
  _ ← guard first
  _ ← guard last
  length_stated ← stated
  size ← natural length_stated
  _ ← guard (nat_le (size + 10) (length bytes))
  window_at bytes (length bytes - 10 - size) size

footer_is : (bytes : List ℕ) → footer_bytes_in bytes ≡ steps bytes (nat_le 10 (length bytes)) (stands_at file_mark bytes 0)
    (stands_at file_mark bytes (length bytes - 6)) (signed_at w32 bytes (length bytes - 10))
unfolding footer_bytes_in
footer_is bytes = refl

unmarked : (bytes : List ℕ) (is_enough last : Bool) (stated : Option ℤ) → steps bytes is_enough false last stated ≡ None
unmarked bytes true last stated = refl
unmarked bytes false last stated = refl

-- without the mark at the beginning there is no footer
no_mark : (bytes : List ℕ) → stands_at file_mark bytes 0 ≡ false → footer_bytes_in bytes ≡ None
no_mark bytes none =
    let is_enough = nat_le 10 (length bytes) in
    let last = stands_at file_mark bytes (length bytes - 6) in
    let stated = signed_at w32 bytes (length bytes - 10) in
    footer_is bytes ∙ ap (λ (first : Bool). steps bytes is_enough first last stated) none ∙ unmarked bytes is_enough last stated

-- nor in fewer than ten bytes
too_few : (bytes : List ℕ) → length bytes < 10 → footer_bytes_in bytes ≡ None
too_few bytes few =
    footer_is bytes ∙ ap (λ (is_enough : Bool). steps bytes is_enough (stands_at file_mark bytes 0) (stands_at file_mark bytes (length bytes - 6))
    (signed_at w32 bytes (length bytes - 10))) (lt-leb 10 (length bytes) few)

-- a mark at the beginning, by the bytes that are taken there
mark_is : (mark bytes part : List ℕ) (n : ℕ) → window_at bytes 0 n ≡ Some part → length mark ≤ n → stands_at mark bytes 0 ≡ stands_at mark part 0
mark_is mark bytes part n there within = ap (is_mark mark) (sym (window_first bytes part 0 n (length mark) there within))

by_guard : {A : Type 0} (test : Bool) (n : ℕ) (f : ℕ → Option A) → (guard test >>= (λ _. f n)) ≡ ((guard test >>= (λ _. Some n)) >>= f)
by_guard true n f = refl
by_guard false n f = refl

sized_by : {A : Type 0} (last : Bool) (stated : Option ℤ) (all : ℕ) (f : ℕ → Option A)
    → (guard last >>= (λ _. stated >>= (λ number. natural number >>= (λ size. guard (nat_le (size + 10) all) >>= (λ _. f size)))))
    ≡ ((guard last >>= (λ _. stated >>= (λ number. natural number >>= (λ size. guard (nat_le (size + 10) all) >>= (λ _. Some size))))) >>= f)
sized_by false stated all f = refl
sized_by true None all f = refl
sized_by true (Some (negsuc n)) all f = refl
sized_by true (Some (pos n)) all f = by_guard (nat_le (n + 10) all) n f

-- the length that the last ten bytes state
size_is : (tail : List ℕ) (all : ℕ) → length tail ≡ 10 → footer_size tail all
    ≡ (guard (stands_at file_mark tail 4) >>= (λ _. signed_at w32 tail 0 >>= (λ number. natural number >>= (λ size.
    guard (nat_le (size + 10) all) >>= (λ _. Some size)))))
size_is tail all ten =
    ap (λ (test : Bool). guard test >>= (λ _. guard (stands_at file_mark tail 4) >>= (λ _. signed_at w32 tail 0 >>= (λ number.
    natural number >>= (λ size. guard (nat_le (size + 10) all) >>= (λ _. Some size)))))) (eq-eqb (length tail) 10 ten)

-- the footer by its length
abbrev footer_with : List ℕ → ℕ → Option (List ℕ)
footer_with bytes size = window_at bytes (length bytes - 10 - size) size

-- the footer by the bytes at both ends
footer_by : (bytes tail : List ℕ) → 10 ≤ length bytes → stands_at file_mark bytes 0 ≡ true → window_at bytes (length bytes - 10) 10 ≡ Some tail
    → footer_bytes_in bytes ≡ (footer_size tail (length bytes) >>= footer_with bytes)
footer_by bytes tail enough marked there =
    let all = length bytes in
    let behind : (all - 10) + 4 ≡ all - 6 = omega (arith, enough) in
    let last : stands_at file_mark bytes (all - 6) ≡ stands_at file_mark tail 4 =
    ap (λ (place : ℕ). stands_at file_mark bytes place) (sym behind)
    ∙ ap (is_mark file_mark) (sym (window_of bytes tail (all - 10) 10 4 6 there (omega arith))) in
    let stated : signed_at w32 bytes (all - 10) ≡ signed_at w32 tail 0 = sym (signed_first w32 bytes tail (all - 10) 10 there (omega arith)) in
    footer_is bytes
    ∙ ap (λ (test : Bool). steps bytes test (stands_at file_mark bytes 0) (stands_at file_mark bytes (all - 6)) (signed_at w32 bytes (all - 10)))
    (le-leb 10 all enough)
    ∙ ap (λ (test : Bool). steps bytes true test (stands_at file_mark bytes (all - 6)) (signed_at w32 bytes (all - 10))) marked
    ∙ ap (λ (test : Bool). steps bytes true true test (signed_at w32 bytes (all - 10))) last
    ∙ ap (λ (number : Option ℤ). steps bytes true true (stands_at file_mark tail 4) number) stated
    ∙ sized_by (stands_at file_mark tail 4) (signed_at w32 tail 0) all (footer_with bytes)
    ∙ ap (λ (size : Option ℕ). size >>= footer_with bytes) (sym (size_is tail all (window_length bytes (all - 10) 10 tail there)))

-- ---- the first bytes are taken

-- a room begins and ends at these places
abbrev Extends : Told → Told → ℕ → ℕ → Type 0
Extends old now start end = Stays old now × ForBytes old (λ bytes. (start ≡ 0) × (end ≡ length bytes))

no_first : (bytes : List ℕ) (start : ℕ) → start ≡ 0 → window_at bytes (start + 0) 6 ≡ None → footer_bytes_in bytes ≡ None
no_first bytes start at none =
    no_mark bytes (ap (is_mark file_mark) (ap (λ (place : ℕ). window_at bytes place 6) (sym at) ∙ sym (window_at_once bytes start 6) ∙ none))

pub no_beginning : (old now new : Told) (start end : ℕ) (error : Error) → Extends old now start end
    → IsRefusal false now new (ForBytes now (λ bytes. window_at bytes (start + 0) 6 ≡ None)) error
    → RefusesOf old new (HasFeatherMark file) footer_bytes_in error
no_beginning old now new start end error extends refused =
    part_refused old now new (λ bytes. window_at bytes (start + 0) 6 ≡ None) (HasFeatherMark file) footer_bytes_in error extends.0
    (λ bytes e none. no_first bytes start (extends.1 bytes e).0 none) refused

-- the places, and the first six bytes
abbrev Begins : Told → Told → ℕ → ℕ → List ℕ → Type 0
Begins old now start end mark =
    Stays old now × ForBytes old (λ bytes. (start ≡ 0) × (end ≡ length bytes) × (window_at bytes 0 6 ≡ Some mark))

pub begins : (old now new : Told) (start end : ℕ) (mark : List ℕ) → Extends old now start end → Stays now new
    → ForBytes now (λ bytes. window_at bytes (start + 0) 6 ≡ Some mark) → Begins old new start end mark
begins old now new start end mark extends stays there = (
  stays_further old now new extends.0 stays,
  λ bytes e. let at = extends.1 bytes e in (
    at.0,
    at.1,
    ap (λ (place : ℕ). window_at bytes place 6) (sym at.0) ∙ sym (window_at_once bytes start 6) ∙ there bytes (extends.0.0 ∙ e),
  ),
)

pub wrong_mark : (old now new : Told) (start end : ℕ) (mark : List ℕ) (error : Error) → Begins old now start end mark
    → TestsMark {A = ⊤} mark (Err error) → RefusesOf old new (HasFeatherMark file) footer_bytes_in error
wrong_mark old now new start end mark (errors.NotYetImplemented what) begins tests = λ bytes e.
    let there = (begins.1 bytes e).2 in (
      no_mark bytes (mark_is file_mark bytes mark 6 there (omega arith) ∙ tests.0),
      mark_is feather_mark bytes mark 6 there (omega arith) ∙ tests.1,
    )
wrong_mark old now new start end mark (errors.OutOfSpec what) begins tests = λ bytes e.
    no_mark bytes (mark_is file_mark bytes mark 6 (begins.1 bytes e).2 (omega arith) ∙ tests)
wrong_mark old now new start end mark (errors.Io what) begins tests = absurd tests
wrong_mark old now new start end mark errors.OutOfMemory begins tests = absurd tests
wrong_mark old now new start end mark (errors.External from what) begins tests = absurd tests
wrong_mark old now new start end mark (errors.InvalidArgumentError what) begins tests = absurd tests
wrong_mark old now new start end mark (errors.ExternalFormat what) begins tests = absurd tests
wrong_mark old now new start end mark errors.Overflow begins tests = absurd tests

pub not_behind : (old now : Told) (start end : ℕ) (mark : List ℕ) → Begins old now start end mark → (start ≤ end → ⊥)
    → ForBytes old (λ bytes. footer_bytes_in bytes ≡ None)
not_behind old now start end mark begins before = λ bytes e. absurd (before (omega (arith, (begins.1 bytes e).0)))

pub too_short : (old now : Told) (start end size : ℕ) (mark : List ℕ) → Begins old now start end mark → size ≡ end - start → size < 10
    → ForBytes old (λ bytes. footer_bytes_in bytes ≡ None)
too_short old now start end size mark begins is few = λ bytes e.
    let at = begins.1 bytes e in too_few bytes (omega (arith, is, few, at.0, at.1))

-- ---- the last bytes are taken

-- the places, the mark at the beginning, and the last ten bytes
abbrev Ends : Told → Told → ℕ → ℕ → List ℕ → Type 0
Ends old now start end tail = Stays old now × ForBytes old (λ bytes. (start ≡ 0) × (end ≡ length bytes) × (10 ≤ length bytes)
    × (stands_at file_mark bytes 0 ≡ true) × (window_at bytes (length bytes - 10) 10 ≡ Some tail))

seen_again : (bytes : List ℕ) (end : ℕ) → end ≡ length bytes → 10 ≤ end → window_at bytes (end - 10 + 0) 10 ≡ None → ⊥
seen_again bytes end at enough none =
    let past : length bytes < end - 10 + 0 + 10 = window_missing bytes (end - 10 + 0) 10 none in
    omega (arith, at, enough, past)

pub no_end : (old now new : Told) (start end : ℕ) (mark : List ℕ) (error : Error) → Begins old now start end mark → 10 ≤ end
    → IsRefusal false now new (ForBytes now (λ bytes. window_at bytes (end - 10 + 0) 10 ≡ None)) error
    → RefusesOf old new (HasFeatherMark file) footer_bytes_in error
no_end old now new start end mark error begins enough refused =
    part_refused old now new (λ bytes. window_at bytes (end - 10 + 0) 10 ≡ None) (HasFeatherMark file) footer_bytes_in error begins.0
    (λ bytes e none. absurd (seen_again bytes end (begins.1 bytes e).1 enough none)) refused

pub ends : (old now new : Told) (start end : ℕ) (mark tail : List ℕ) → Begins old now start end mark
    → stands_at file_mark mark 0 ≡ true → 10 ≤ end → Stays now new → ForBytes now (λ bytes. window_at bytes (end - 10 + 0) 10 ≡ Some tail)
    → Ends old new start end tail
ends old now new start end mark tail begins tests enough stays there = (
  stays_further old now new begins.0 stays,
  λ bytes e. let at = begins.1 bytes e in (
    at.0,
    at.1,
    omega (arith, at.1, enough),
    mark_is file_mark bytes mark 6 at.2 (omega arith) ∙ tests,
    ap (λ (size : ℕ). window_at bytes (size - 10) 10) (sym at.1) ∙ sym (window_at_once bytes (end - 10) 10) ∙ there bytes (begins.0.0 ∙ e),
  ),
)

by_end : (old now : Told) (start end size : ℕ) (tail bytes : List ℕ) (found : Option ℕ) → Ends old now start end tail
    → old.bytes ≡ Some bytes → size ≡ end - start → footer_size tail size ≡ found → footer_bytes_in bytes ≡ (found >>= footer_with bytes)
by_end old now start end size tail bytes found ends e same is =
    let at = ends.1 bytes e in
    let all : length bytes ≡ size = omega (arith, at.0, at.1, same) in
    footer_by bytes tail at.2 at.3 at.4
    ∙ ap (λ (n : ℕ). footer_size tail n >>= footer_with bytes) all
    ∙ ap (λ (n : Option ℕ). n >>= footer_with bytes) is

pub no_size : (old now : Told) (start end size : ℕ) (tail : List ℕ) (error : Error) → Ends old now start end tail → size ≡ end - start
    → SizesFooter tail size (Err error) → RefusesOf old now (HasFeatherMark file) footer_bytes_in error
no_size old now start end size tail (errors.OutOfSpec what) ends same none = λ bytes e. by_end old now start end size tail bytes None ends e same none
no_size old now start end size tail (errors.NotYetImplemented what) ends same never = absurd never
no_size old now start end size tail (errors.Io what) ends same never = absurd never
no_size old now start end size tail errors.OutOfMemory ends same never = absurd never
no_size old now start end size tail (errors.External from what) ends same never = absurd never
no_size old now start end size tail (errors.InvalidArgumentError what) ends same never = absurd never
no_size old now start end size tail (errors.ExternalFormat what) ends same never = absurd never
no_size old now start end size tail errors.Overflow ends same never = absurd never

-- the footer stands before the last ten bytes
footer_at : (old now : Told) (start end size count : ℕ) (tail bytes : List ℕ) → Ends old now start end tail → old.bytes ≡ Some bytes
    → size ≡ end - start → footer_size tail size ≡ Some count → footer_bytes_in bytes ≡ window_at bytes (end - 10 - count + 0) count
footer_at old now start end size count tail bytes ends e same is =
    by_end old now start end size tail bytes (Some count) ends e same is
    ∙ ap (λ (all : ℕ). window_at bytes (all - 10 - count) count) (sym (ends.1 bytes e).1)
    ∙ sym (window_at_once bytes (end - 10 - count) count)

pub no_footer : (old now new : Told) (start end size count : ℕ) (tail : List ℕ) (error : Error) → Ends old now start end tail
    → size ≡ end - start → footer_size tail size ≡ Some count
    → IsRefusal false now new (ForBytes now (λ bytes. window_at bytes (end - 10 - count + 0) count ≡ None)) error
    → RefusesOf old new (HasFeatherMark file) footer_bytes_in error
no_footer old now new start end size count tail error ends same is refused =
    part_refused old now new (λ bytes. window_at bytes (end - 10 - count + 0) count ≡ None) (HasFeatherMark file) footer_bytes_in error ends.0
    (λ bytes e none. footer_at old now start end size count tail bytes ends e same is ∙ none) refused

pub takes : (old now new : Told) (start end size count : ℕ) (tail footer : List ℕ) → Ends old now start end tail → size ≡ end - start
    → footer_size tail size ≡ Some count → Stays now new
    → ForBytes now (λ bytes. window_at bytes (end - 10 - count + 0) count ≡ Some footer) → TakesFooter old new footer (Ok size)
takes old now new start end size count tail footer ends same is stays there = (
  stays_further old now new ends.0 stays,
  λ bytes e. let at = ends.1 bytes e in (
    footer_at old now start end size count tail bytes ends e same is ∙ there bytes (ends.0.0 ∙ e),
    omega (arith, at.0, at.1, same),
  ),
)
