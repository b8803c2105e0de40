-- What the parts of a message say, one after another, of the bytes that are left.
use Rattle.std.proofs.Common.{◌≡◌, ◌∙◌, ℕ, zero, suc, ◌<◌, ℤ, pos, negsuc, true, false, List, [], ◌++◌, length, refl, sym, ap}
use Rattle.std.proofs.Common.{arith, subst, append-nil, append_assoc, length-append}
use Rattle.std.proofs.Common.{inl, inr}
use Rattle.std.specs.Prelude.{◌⊎◌, Option, Some, None, Result, Ok, Err}
use Rattle.std.specs.Int.{w32}
use Rattle.std.specs.Io.KnownBytes.{Consumes, IsAtEnd, prepend_known}
use Rattle.ipc_format_values.specs.columnar_memory.declared.Error.{Error}
use Rattle.ipc_format_values.specs.columnar_memory.declared.Error.TheVariants as errors
use Rattle.ipc_format_values.specs.flatbuffers.FlatBuffers.{signed_at}
use Rattle.ipc_format_values.specs.grammar.Framing.{frame_of, frame_at, next_at, nothing_whole, at_end}
use Rattle.ipc_format_streams.specs.Arriving.{Arrive, Fills}
use Rattle.ipc_format_streams.specs.Incoming.{ForLeft, IsNextMessage, IsShort, IsSize, TakesBody, TakesMetadata, TakesNext, TellsSize}
use Rattle.ipc_format_streams.specs.Incoming.{body_size_in}
use Rattle.ipc_format_streams.specs.declared.incoming.Incoming.TheVariants as incoming
use Rattle.ipc_format_streams.proofs.NextMessages.{
  signed_more,
  signed_seen,
  waits,
  stated_at_once,
  negative_at_once,
  stated_behind,
  missing_behind,
  no_frame,
  ends,
  metadata_short,
  message_broken,
  body_short,
  message_comes,
}

-- ---- bytes that arrive

nothing_consumed : (left : Option (List ℕ)) → Consumes left left []
nothing_consumed None = tt
nothing_consumed (Some xs) = refl

abbrev or_none : Option (List ℕ) → List ℕ
or_none None = []
or_none (Some xs) = xs

known : (xs ys : List ℕ) → Some xs ≡ Some ys → xs ≡ ys
known xs ys e = ap or_none e

-- what is left behind bytes that came
pub left_behind : (left left_after : Option (List ℕ)) (more bytes : List ℕ) → Consumes left left_after more → left ≡ Some bytes
    → (rest : List ℕ) × (left_after ≡ Some rest) × (bytes ≡ more ++ rest)
left_behind None left_after more bytes came e = absurd cc
left_behind (Some xs) None more bytes came e = absurd came
left_behind (Some xs) (Some ys) more bytes came e = (ys, refl, sym (known xs bytes e) ∙ came)

at_end_none : (left : Option (List ℕ)) (rest : List ℕ) → IsAtEnd left → left ≡ Some rest → rest ≡ []
at_end_none None rest ended e = absurd cc
at_end_none (Some xs) rest ended e = sym (known xs rest e) ∙ ended

-- ---- the size of the metadata

-- the first four bytes are there
pub first_there : (left : Option (List ℕ)) (head : List ℕ) → length head ≡ 4 → signed_at w32 head 0 ≡ None
    → ForLeft left (λ rest. frame_at (head ++ rest) 0 ≡ None)
first_there left head size e = absurd (signed_seen w32 head 0 (omega (arith, size)) e)

-- and so are the next four
pub second_there : (left : Option (List ℕ)) (head more : List ℕ) → length more ≡ 8 → signed_at w32 more 4 ≡ None
    → ForLeft left (λ rest. frame_at (head ++ rest) 0 ≡ None)
second_there left head more size e = absurd (signed_seen w32 more 4 (omega (arith, size)) e)

pub told_at_once : (left : Option (List ℕ)) (head : List ℕ) (first : ℤ) (result : Result ℕ Error) → length head ≡ 4
    → signed_at w32 head 0 ≡ Some first → (first ≡ negsuc 0 → ⊥) → IsSize first result → TellsSize left left head head result
told_at_once left head first (Ok size) four e other is = (
  ([], sym (append-nil head), nothing_consumed left),
  λ rest. stated_at_once head rest size four (e ∙ ap Some is) ∙ ap (λ n. frame_of (head ++ rest) (pos size) n) (sym four),
)
told_at_once left head (pos n) (Err (errors.OutOfSpec text)) four e other is = absurd cc
told_at_once left head (negsuc zero) (Err (errors.OutOfSpec text)) four e other is = absurd (other refl)
told_at_once left head (negsuc (suc n)) (Err (errors.OutOfSpec text)) four e other is = λ rest same. negative_at_once head rest n four e
told_at_once left head first (Err _) four e other is = absurd is

-- there is no length behind the marker
pub told_missing : (left left_after : Option (List ℕ)) (head more : List ℕ) → length head ≡ 4 → signed_at w32 head 0 ≡ Some (negsuc 0)
    → Fills left left_after head more 8 (Ok false) → ForLeft left (λ rest. frame_at (head ++ rest) 0 ≡ None)
told_missing left left_after head more four e filled rest same =
    let came : List ℕ = filled.0.0 in
    let behind = left_behind left left_after came rest filled.0.2 same in
    let ended = at_end_none left_after behind.0 filled.2 behind.1 in
    let whole : head ++ rest ≡ more =
    ap (λ xs. head ++ xs) (behind.2 ∙ ap (λ xs. came ++ xs) ended ∙ append-nil came) ∙ sym filled.0.1 in
    let first : signed_at w32 more 0 ≡ Some (negsuc 0) =
    ap (λ xs. signed_at w32 xs 0) filled.0.1 ∙ signed_more w32 head came 0 (negsuc 0) e in
    ap (λ xs. frame_at xs 0) whole
    ∙ missing_behind more (omega (arith, four, ap length filled.0.1 ∙ length-append head came)) filled.1 first

pub told_behind : (left left_after : Option (List ℕ)) (head more : List ℕ) (stated : ℤ) (result : Result ℕ Error)
    → signed_at w32 head 0 ≡ Some (negsuc 0) → Fills left left_after head more 8 (Ok true) → signed_at w32 more 4 ≡ Some stated
    → IsSize stated result → TellsSize left left_after head more result
told_behind left left_after head more stated (Ok size) e filled second is =
    let first : signed_at w32 more 0 ≡ Some (negsuc 0) =
    ap (λ xs. signed_at w32 xs 0) filled.0.1 ∙ signed_more w32 head filled.0.0 0 (negsuc 0) e in (
      filled.0,
      λ rest. stated_behind more rest (pos size) filled.1 first (second ∙ ap Some is)
          ∙ ap (λ n. frame_of (more ++ rest) (pos size) n) (sym filled.1),
    )
told_behind left left_after head more (pos n) (Err (errors.OutOfSpec text)) e filled second is = absurd cc
told_behind left left_after head more (negsuc n) (Err (errors.OutOfSpec text)) e filled second is = λ rest same.
    let came : List ℕ = filled.0.0 in
    let behind = left_behind left left_after came rest filled.0.2 same in
    let first : signed_at w32 more 0 ≡ Some (negsuc 0) =
    ap (λ xs. signed_at w32 xs 0) filled.0.1 ∙ signed_more w32 head came 0 (negsuc 0) e in
    let whole : head ++ rest ≡ more ++ behind.0 =
    ap (λ xs. head ++ xs) behind.2 ∙ sym (append_assoc head came behind.0) ∙ ap (λ xs. xs ++ behind.0) (sym filled.0.1) in
    ap (λ xs. frame_at xs 0) whole ∙ stated_behind more behind.0 (negsuc n) filled.1 first second
told_behind left left_after head more stated (Err _) e filled second is = absurd is

pub ruleset sizes = (first_there, second_there, told_at_once, told_behind)

-- ---- messages

-- some bytes stand before what is left of a device
abbrev pub StandsAhead : Option (List ℕ) → List ℕ → Option (List ℕ) → Type 0
StandsAhead left head left_after = ForLeft left (λ bytes. (rest : List ℕ) × (left_after ≡ Some rest) × (bytes ≡ head ++ rest))

-- the bytes behind which the metadata stands say its size
abbrev pub Tells : List ℕ → ℕ → Type 0
Tells head size = (rest : List ℕ) → frame_at (head ++ rest) 0 ≡ frame_of (head ++ rest) (pos size) (length head)

prepended : (held : List ℕ) (left : Option (List ℕ)) (bytes : List ℕ) → prepend_known held left ≡ Some bytes
    → (rest : List ℕ) × (left ≡ Some rest) × (bytes ≡ held ++ rest)
prepended held None bytes e = absurd cc
prepended held (Some rest) bytes e = (rest, refl, sym (known (held ++ rest) bytes e))

-- what arrived stands before what is left
pub ahead : (left left_after : Option (List ℕ)) (held head : List ℕ) → Arrive left left_after held head
    → StandsAhead (prepend_known held left) head left_after
ahead left left_after held head came bytes e =
    let before = prepended held left bytes e in
    let more : List ℕ = came.0 in
    let behind = left_behind left left_after more before.0 came.2 before.1 in (
      behind.0,
      behind.1,
      before.2 ∙ ap (λ xs. held ++ xs) behind.2 ∙ sym (append_assoc held more behind.0) ∙ ap (λ xs. xs ++ behind.0) (sym came.1),
    )

-- fewer than four bytes: none of them is lost
pub waiting : (left left_after : Option (List ℕ)) (held head : List ℕ) → Fills left left_after held head 4 (Ok false)
    → ForLeft (prepend_known held left) (λ bytes. (next_at bytes 0 ≡ Some nothing_whole) × (prepend_known head left_after ≡ Some bytes))
waiting left left_after held head filled bytes e =
    let it = ahead left left_after held head filled.0 bytes e in
    let ended = at_end_none left_after it.0 filled.2 it.1 in
    let whole : bytes ≡ head = it.2 ∙ ap (λ xs. head ++ xs) ended ∙ append-nil head in (
      ap (λ xs. next_at xs 0) whole ∙ waits head filled.1,
      ap (λ known. prepend_known head known) it.1 ∙ ap Some (sym it.2),
    )

pub no_size : (left : Option (List ℕ)) (head : List ℕ) → ForLeft left (λ rest. frame_at (head ++ rest) 0 ≡ None)
    → ForLeft (prepend_known head left) (λ bytes. next_at bytes 0 ≡ None)
no_size left head none bytes e =
    let before = prepended head left bytes e in
    ap (λ xs. next_at xs 0) before.2 ∙ no_frame (head ++ before.0) (none before.0 before.1)

pub ended : (left left_after : Option (List ℕ)) (head : List ℕ) → StandsAhead left head left_after → Tells head 0
    → ForLeft left (λ bytes. next_at bytes 0 ≡ Some at_end)
ended left left_after head stands tells bytes e =
    let it = stands bytes e in
    ap (λ xs. next_at xs 0) it.2 ∙ ends (head ++ it.0) (length head) (tells it.0)

pub short_metadata : (left left_after : Option (List ℕ)) (head : List ℕ) (size : ℕ) → StandsAhead left head left_after → Tells head size
    → ForLeft left_after (λ rest. length rest < size) → ForLeft left (λ bytes. next_at bytes 0 ≡ None)
short_metadata left left_after head size stands tells few bytes e =
    let it = stands bytes e in
    ap (λ xs. next_at xs 0) it.2 ∙ metadata_short (head ++ it.0) head it.0 size refl (few it.0 it.1) (tells it.0)

-- bytes that hold their metadata
abbrev Holds : Option (List ℕ) → List ℕ → List ℕ → Option (List ℕ) → Type 0
Holds left head metadata left_after = ForLeft left (λ bytes. (rest : List ℕ) × (left_after ≡ Some rest) × (bytes ≡ head ++ (metadata ++ rest))
    × (frame_at bytes 0 ≡ frame_of bytes (pos (length metadata)) (length head)))

pub holds : (left between left_after : Option (List ℕ)) (head metadata : List ℕ) (size : ℕ) → StandsAhead left head between → Tells head size
    → Consumes between left_after metadata → length metadata ≡ size → Holds left head metadata left_after
holds left between left_after head metadata size stands tells came sized bytes e =
    let it = stands bytes e in
    let behind = left_behind between left_after metadata it.0 came it.1 in
    let frame : frame_at bytes 0 ≡ frame_of bytes (pos size) (length head) =
    subst (λ (xs : List ℕ). frame_at xs 0 ≡ frame_of xs (pos size) (length head)) (sym it.2) (tells it.0) in (
      behind.0,
      behind.1,
      it.2 ∙ ap (λ xs. head ++ xs) behind.2,
      frame ∙ ap (λ n. frame_of bytes (pos n) (length head)) (sym sized),
    )

body_missing : (bytes head metadata rest : List ℕ) (found : Option ℕ) → body_size_in metadata ≡ found → bytes ≡ head ++ (metadata ++ rest)
    → 0 < length metadata → frame_at bytes 0 ≡ frame_of bytes (pos (length metadata)) (length head)
    → ((found ≡ None) ⊎ IsShort found rest) → next_at bytes 0 ≡ None
body_missing bytes head metadata rest found is same some frame (inl none) = message_broken bytes head metadata rest same some frame (is ∙ none)
body_missing bytes head metadata rest None is same some frame (inr short) = absurd short
body_missing bytes head metadata rest (Some size) is same some frame (inr short) = body_short bytes head metadata rest size same some frame is short

pub broken : (left between left_after : Option (List ℕ)) (head metadata : List ℕ) (size : ℕ) → StandsAhead left head between → Tells head size
    → Consumes between left_after metadata → length metadata ≡ size → 0 < size
    → ForLeft left_after (λ rest. (body_size_in metadata ≡ None) ⊎ IsShort (body_size_in metadata) rest)
    → ForLeft left (λ bytes. next_at bytes 0 ≡ None)
broken left between left_after head metadata size stands tells came sized some wrong bytes e =
    let it = holds left between left_after head metadata size stands tells came sized bytes e in
    body_missing bytes head metadata it.0 (body_size_in metadata) refl it.2 (omega (arith, sized, some)) it.3 (wrong it.0 it.1)

pub comes : (left between behind left_after : Option (List ℕ)) (head metadata body : List ℕ) (size : ℕ) → StandsAhead left head between
    → Tells head size → Consumes between behind metadata → length metadata ≡ size → 0 < size → Consumes behind left_after body
    → body_size_in metadata ≡ Some (length body) → ForLeft left (IsNextMessage left_after metadata body)
comes left between behind left_after head metadata body size stands tells came sized some body_came body_sized bytes e =
    let it = holds left between behind head metadata size stands tells came sized bytes e in
    let rest = left_behind behind left_after body it.0 body_came it.1 in
    let found = message_comes bytes head metadata body rest.0 (it.2 ∙ ap (λ xs. head ++ (metadata ++ xs)) rest.2) (omega (arith, sized, some))
    it.3 body_sized in
    (found.0, found.1, found.2, rest.1 ∙ ap Some (sym found.3))

-- ---- what is answered

ahead_again : (left between left_after : Option (List ℕ)) (head more : List ℕ) → StandsAhead left head between
    → Arrive between left_after head more → StandsAhead left more left_after
ahead_again left between left_after head more stands came bytes e =
    let it = stands bytes e in
    let part : List ℕ = came.0 in
    let behind = left_behind between left_after part it.0 came.2 it.1 in (
      behind.0,
      behind.1,
      it.2 ∙ ap (λ xs. head ++ xs) behind.2 ∙ sym (append_assoc head part behind.0) ∙ ap (λ xs. xs ++ behind.0) (sym came.1),
    )

-- the bytes that a message begins with, up to its metadata
pub headed : (left between left_after : Option (List ℕ)) (held head more : List ℕ) (size : ℕ) → Fills left between held head 4 (Ok true)
    → TellsSize between left_after head more (Ok size) → StandsAhead (prepend_known held left) more left_after
headed left between left_after held head more size filled told =
    ahead_again (prepend_known held left) between left_after head more (ahead left between held head filled.0) told.0

-- a size that is not told
pub refused_size : (left between left_after new : Option (List ℕ)) (held head more metadata body : List ℕ) (error : Error)
    → Fills left between held head 4 (Ok true) → TellsSize between left_after head more (Err error)
    → TakesNext (prepend_known held left) new metadata body (Err error)
refused_size left between left_after new held head more metadata body (errors.OutOfSpec text) filled told = λ bytes e.
    let it = ahead left between held head filled.0 bytes e in
    ap (λ xs. next_at xs 0) it.2 ∙ no_frame (head ++ it.0) (told it.0 it.1)
refused_size left between left_after new held head more metadata body (errors.Io what) filled told = tt
refused_size left between left_after new held head more metadata body errors.OutOfMemory filled told = tt
refused_size left between left_after new held head more metadata body _ filled told = absurd told

-- metadata that does not come
pub refused_metadata : (left between behind left_after new : Option (List ℕ)) (held head more metadata body : List ℕ) (size : ℕ)
    (error : Error) → Fills left between held head 4 (Ok true) → TellsSize between behind head more (Ok size)
    → TakesMetadata {A = Unit {0}} behind left_after size metadata (Err error) → TakesNext (prepend_known held left) new metadata body (Err error)
refused_metadata left between behind left_after new held head more metadata body size (errors.OutOfSpec text) filled told taken =
    short_metadata (prepend_known held left) behind more size (headed left between behind held head more size filled told) told.1 taken
refused_metadata left between behind left_after new held head more metadata body size (errors.Io what) filled told taken = tt
refused_metadata left between behind left_after new held head more metadata body size errors.OutOfMemory filled told taken = tt
refused_metadata left between behind left_after new held head more metadata body size _ filled told taken = absurd taken

-- a body that does not come
pub refused_body : (left between behind last left_after new : Option (List ℕ)) (held head more metadata body : List ℕ) (size : ℕ)
    (error : Error) → Fills left between held head 4 (Ok true) → TellsSize between behind head more (Ok size) → 0 < size
    → TakesMetadata {A = Unit {0}} behind last size metadata (Ok tt) → TakesBody {A = Unit {0}} last left_after metadata body (Err error)
    → TakesNext (prepend_known held left) new metadata body (Err error)
refused_body left between behind last left_after new held head more metadata body size (errors.OutOfSpec text) filled told some taken wrong =
    broken (prepend_known held left) behind last more metadata size (headed left between behind held head more size filled told) told.1 taken.0
    taken.1 some wrong
refused_body left between behind last left_after new held head more metadata body size (errors.Io what) filled told some taken wrong = tt
refused_body left between behind last left_after new held head more metadata body size errors.OutOfMemory filled told some taken wrong = tt
refused_body left between behind last left_after new held head more metadata body size _ filled told some taken wrong = absurd wrong

-- the end mark
pub ended_there : (left between behind new : Option (List ℕ)) (held head more metadata body : List ℕ) → Fills left between held head 4 (Ok true)
    → TellsSize between behind head more (Ok 0) → TakesNext (prepend_known held left) new metadata body (Ok incoming.End)
ended_there left between behind new held head more metadata body filled told =
    ended (prepend_known held left) behind more (headed left between behind held head more 0 filled told) told.1

prepend_none : (none : List ℕ) (left : Option (List ℕ)) → none ≡ [] → left ≡ prepend_known none left
prepend_none none None e = refl
prepend_none none (Some xs) e = ap (λ (front : List ℕ). Some (front ++ xs)) (sym e)

-- a message
pub came_whole : (left between behind last left_after : Option (List ℕ)) (held head more metadata body none : List ℕ) (size : ℕ)
    → Fills left between held head 4 (Ok true) → TellsSize between behind head more (Ok size) → 0 < size
    → TakesMetadata {A = Unit {0}} behind last size metadata (Ok tt) → TakesBody {A = Unit {0}} last left_after metadata body (Ok tt)
    → none ≡ [] → TakesNext (prepend_known held left) (prepend_known none left_after) metadata body (Ok incoming.Message)
came_whole left between behind last left_after held head more metadata body none size filled told some taken body_taken e =
    subst (λ (new : Option (List ℕ)). TakesNext (prepend_known held left) new metadata body (Ok incoming.Message)) (prepend_none none left_after e)
    (comes (prepend_known held left) behind last left_after more metadata body size
    (headed left between behind held head more size filled told) told.1 taken.0 taken.1 some body_taken.0 body_taken.1)

pub ruleset answers = (refused_size, ended_there)
