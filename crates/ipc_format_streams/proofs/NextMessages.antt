-- What comes next of the bytes of a stream, told by the parts that arrive of them one after another.
use Rattle.std.proofs.Common.{◌≡◌, ◌∙◌, ℕ, zero, suc, ◌+◌, ◌≤◌, ◌<◌, ℤ, pos, negsuc, true, false, List, [], ◌∷◌, ◌++◌, length}
use Rattle.std.proofs.Common.{take, drop, refl, sym, ap, arith, length-append, append_assoc, nat_le, nat_lt}
use Rattle.std.specs.Prelude.{Option, Some, None}
use Rattle.std.specs.Int.{Width, w32, byte_len}
use Rattle.std.proofs.lemmas.Bool.{le-leb, lt-leb, leb-true}
use Rattle.std.proofs.lemmas.List.{take-append-le, drop-append-le}
use Rattle.std.proofs.lemmas.Option.{cond_some}
use Rattle.ipc_format_values.specs.flatbuffers.Reading.{◌>>=◌, window_at}
use Rattle.ipc_format_values.specs.flatbuffers.FlatBuffers.{number_at, signed_at}
use Rattle.ipc_format_values.specs.grammar.Messages as message
use Rattle.ipc_format_values.specs.grammar.Messages.{Message, Header, message_in, natural}
use Rattle.ipc_format_values.specs.grammar.Framing.{end_mark, metadata_then, frame_of, frame_behind, frame_at, Framed, framed_by, framed_at}
use Rattle.ipc_format_values.specs.grammar.Framing.{nothing_whole, at_end, message_then, next_of, next_at}
use Rattle.ipc_format_streams.specs.Incoming.{body_size, body_size_in}

bind_is : {A B : Type 0} (r : Option A) (f : A → Option B) (x : A) → r ≡ Some x → (r >>= f) ≡ f x
bind_is r f x e = ap (λ o. o >>= f) e

bind_none : {A B : Type 0} (r : Option A) (f : A → Option B) → r ≡ None → (r >>= f) ≡ None
bind_none r f e = ap (λ o. o >>= f) e

came_of : {A B : Type 0} (r : Option A) (f : A → Option B) (y : B) → (r >>= f) ≡ Some y → (x : A) × (r ≡ Some x) × (f x ≡ Some y)
came_of None f y e = absurd cc
came_of (Some x) f y e = (x, refl, e)

abbrev or_zero : Option ℕ → ℕ
or_zero None = 0
or_zero (Some n) = n

some_is : (x y : ℕ) → Some x ≡ Some y → x ≡ y
some_is x y e = ap (λ o. or_zero o) e

some_is_not_none : {A : Type 0} {x : A} → Some x ≡ None → ⊥
some_is_not_none e = absurd cc

-- ---- windows

-- a window within the bytes sees something
window_seen : (bytes : List ℕ) (place n : ℕ) → place + n ≤ length bytes → window_at bytes place n ≡ Some (take n (drop place bytes))
window_seen bytes place n inside =
    let is : nat_le (place + n) (length bytes) ≡ true = le-leb (place + n) (length bytes) inside in
    rw is refl

-- a window past the bytes sees nothing
window_past : (bytes : List ℕ) (place n : ℕ) → length bytes < place + n → window_at bytes place n ≡ None
window_past bytes place n past =
    let is : nat_le (place + n) (length bytes) ≡ false = lt-leb (place + n) (length bytes) past in
    rw is refl

-- what a window sees lies in the bytes
window_inside : (bytes : List ℕ) (place n : ℕ) (part : List ℕ) → window_at bytes place n ≡ Some part
    → (place + n ≤ length bytes) × (take n (drop place bytes) ≡ part)
window_inside bytes place n part e =
    let parts = cond_some (nat_le (place + n) (length bytes)) (take n (drop place bytes)) part e in
    (leb-true (place + n) (length bytes) parts.0, parts.1)

drop_length : (place : ℕ) (xs : List ℕ) → place ≤ length xs → place + length (drop place xs) ≡ length xs
drop_length zero xs inside = omega arith
drop_length (suc place) [] inside = absurd (omega arith)
drop_length (suc place) (x ∷ xs) inside = omega (arith, drop_length place xs (omega arith))

-- it sees the same where more stands behind
window_more : (xs ys : List ℕ) (place n : ℕ) (part : List ℕ) → window_at xs place n ≡ Some part → window_at (xs ++ ys) place n ≡ Some part
window_more xs ys place n part e =
    let inside = window_inside xs place n part e in
    let left : n ≤ length (drop place xs) = omega (arith, inside.0, drop_length place xs (omega (arith, inside.0))) in
    window_seen (xs ++ ys) place n (omega (arith, inside.0, length-append xs ys))
    ∙ ap Some (ap (take n) (drop-append-le place xs ys (omega (arith, inside.0))) ∙ take-append-le n (drop place xs) ys left ∙ inside.1)

drop_front : (xs ys : List ℕ) → drop (length xs) (xs ++ ys) ≡ ys
drop_front [] ys = refl
drop_front (x ∷ xs) ys = drop_front xs ys

take_front : (xs ys : List ℕ) → take (length xs) (xs ++ ys) ≡ xs
take_front [] ys = refl
take_front (x ∷ xs) ys = ap (λ rest. x ∷ rest) (take_front xs ys)

-- a window sees what stands between two parts
window_between : (before part behind : List ℕ) → window_at (before ++ (part ++ behind)) (length before) (length part) ≡ Some part
window_between before part behind =
    window_seen (before ++ (part ++ behind)) (length before) (length part)
    (omega (arith, length-append before (part ++ behind), length-append part behind))
    ∙ ap Some (ap (take (length part)) (drop_front before (part ++ behind)) ∙ take_front part behind)

-- ---- first numbers

pub signed_more : (w : Width) (xs ys : List ℕ) (place : ℕ) (z : ℤ) → signed_at w xs place ≡ Some z → signed_at w (xs ++ ys) place ≡ Some z
unfolding signed_at number_at
signed_more w xs ys place z e =
    let number = came_of {A = ℕ} (number_at w xs place) _ z e in
    let part = came_of {A = List ℕ} (window_at xs place (byte_len w)) _ number.0 number.1 in
    bind_is (number_at w (xs ++ ys) place) _ number.0
    (bind_is (window_at (xs ++ ys) place (byte_len w)) _ part.0 (window_more xs ys place (byte_len w) part.0 part.1) ∙ part.2) ∙ number.2

signed_past : (w : Width) (xs : List ℕ) (place : ℕ) → length xs < place + byte_len w → signed_at w xs place ≡ None
unfolding signed_at number_at
signed_past w xs place past =
    bind_none (number_at w xs place) _ (bind_none (window_at xs place (byte_len w)) _ (window_past xs place (byte_len w) past))

-- a number within the bytes is there
pub signed_seen : (w : Width) (bytes : List ℕ) (place : ℕ) → place + byte_len w ≤ length bytes → signed_at w bytes place ≡ None → ⊥
unfolding signed_at number_at
signed_seen w bytes place inside e =
    let part = window_seen bytes place (byte_len w) inside in
    some_is_not_none (sym (bind_is (number_at w bytes place) _ _ (bind_is (window_at bytes place (byte_len w)) _ _ part)) ∙ e)

-- ---- what stands first

-- fewer than four bytes are no message yet
pub waits : (bytes : List ℕ) → length bytes < 4 → next_at bytes 0 ≡ Some nothing_whole
unfolding frame_at
waits bytes few = let is : nat_lt (length bytes) 4 ≡ true = le-leb (suc (length bytes)) 4 few in rw is refl

-- behind four bytes a frame goes by their number
frame_by : (bytes : List ℕ) (first : ℤ) → 4 ≤ length bytes → signed_at w32 bytes 0 ≡ Some first → frame_at bytes 0 ≡ frame_behind bytes first 0
unfolding frame_at
frame_by bytes first enough e =
    let is : nat_lt (length bytes) 4 ≡ false = lt-leb (suc (length bytes)) 4 (omega arith) in
    rw is (bind_is (signed_at w32 bytes 0) (λ n. frame_behind bytes n 0) first e)

-- a number that is no marker is the length
pub stated_at_once : (head rest : List ℕ) (n : ℕ) → length head ≡ 4 → signed_at w32 head 0 ≡ Some (pos n)
    → frame_at (head ++ rest) 0 ≡ frame_of (head ++ rest) (pos n) 4
stated_at_once head rest n size e =
    frame_by (head ++ rest) (pos n) (omega (arith, length-append head rest)) (signed_more w32 head rest 0 (pos n) e)

-- a negative number is no length
pub negative_at_once : (head rest : List ℕ) (n : ℕ) → length head ≡ 4 → signed_at w32 head 0 ≡ Some (negsuc (suc n))
    → frame_at (head ++ rest) 0 ≡ None
negative_at_once head rest n size e =
    frame_by (head ++ rest) (negsuc (suc n)) (omega (arith, length-append head rest)) (signed_more w32 head rest 0 (negsuc (suc n)) e)

-- behind the marker stands the length
pub stated_behind : (head rest : List ℕ) (n : ℤ) → length head ≡ 8 → signed_at w32 head 0 ≡ Some (negsuc 0) → signed_at w32 head 4 ≡ Some n
    → frame_at (head ++ rest) 0 ≡ frame_of (head ++ rest) n 8
stated_behind head rest n size e f =
    frame_by (head ++ rest) (negsuc 0) (omega (arith, length-append head rest)) (signed_more w32 head rest 0 (negsuc 0) e)
    ∙ bind_is (signed_at w32 (head ++ rest) 4) (λ stated. frame_of (head ++ rest) stated 8) n (signed_more w32 head rest 4 n f)

-- where it is missing, nothing is a frame
pub missing_behind : (bytes : List ℕ) → 4 ≤ length bytes → length bytes < 8 → signed_at w32 bytes 0 ≡ Some (negsuc 0) → frame_at bytes 0 ≡ None
missing_behind bytes enough few e =
    frame_by bytes (negsuc 0) enough e
    ∙ bind_none (signed_at w32 bytes 4) (λ stated. frame_of bytes stated 8) (signed_past w32 bytes 4 few)

-- ---- messages

abbrev some_body : List ℕ → Header → List ℕ → ℕ → Option (Framed × ℕ)
some_body metadata header body after = Some (record { metadata = metadata; header = header; body = body }, after)

no_bytes : (body : List ℕ) → Some 0 ≡ Some (length body) → body ≡ []
no_bytes [] e = refl
no_bytes (b ∷ body) e = absurd cc

body_found : (bytes metadata body : List ℕ) (place size : ℕ) (stated : ℤ) (header : Header) → natural stated ≡ Some size
    → window_at bytes place size ≡ Some body
    → (natural stated >>= λ n. window_at bytes place n >>= λ found. some_body metadata header found (place + n))
    ≡ some_body metadata header body (place + size)
body_found bytes metadata body place size stated header e f =
    bind_is (natural stated) _ size e ∙ bind_is (window_at bytes place size) (λ found. some_body metadata header found (place + size)) body f

framed_found : (bytes metadata body : List ℕ) (place : ℕ) (header : Header) (stated : ℤ) → body_size header stated ≡ Some (length body)
    → window_at bytes place (length body) ≡ Some body
    → framed_by bytes metadata place header stated ≡ some_body metadata header body (place + length body)
framed_found bytes metadata body place (message.schema table) stated e f =
    let none = no_bytes body e in
    let after : place ≡ place + length body = omega (arith, some_is 0 (length body) e) in
    (λ j. some_body metadata (message.schema table) (sym none j) (after j))
framed_found bytes metadata body place (message.dictionary_batch table) stated e f =
    body_found bytes metadata body place (length body) stated (message.dictionary_batch table) e f
framed_found bytes metadata body place (message.record_batch table) stated e f =
    body_found bytes metadata body place (length body) stated (message.record_batch table) e f

framed_short : (bytes metadata : List ℕ) (place size : ℕ) (header : Header) (stated : ℤ) → body_size header stated ≡ Some size
    → 0 < size → length bytes < place + size → framed_by bytes metadata place header stated ≡ None
framed_short bytes metadata place size (message.schema table) stated e some few = absurd (omega (arith, some_is 0 size e, some))
framed_short bytes metadata place size (message.dictionary_batch table) stated e some few =
    bind_is (natural stated) _ size e ∙ bind_none (window_at bytes place size) _ (window_past bytes place size few)
framed_short bytes metadata place size (message.record_batch table) stated e some few =
    bind_is (natural stated) _ size e ∙ bind_none (window_at bytes place size) _ (window_past bytes place size few)

framed_none : (bytes metadata : List ℕ) (place : ℕ) (header : Header) (stated : ℤ) → body_size header stated ≡ None
    → framed_by bytes metadata place header stated ≡ None
framed_none bytes metadata place (message.schema table) stated e = absurd cc
framed_none bytes metadata place (message.dictionary_batch table) stated e = bind_none (natural stated) _ e
framed_none bytes metadata place (message.record_batch table) stated e = bind_none (natural stated) _ e

framed_broken : (bytes metadata : List ℕ) (place : ℕ) (found : Option Message) → (found >>= λ it. body_size it.header it.body_length) ≡ None
    → (found >>= λ it. framed_by bytes metadata place it.header it.body_length) ≡ None
framed_broken bytes metadata place None e = refl
framed_broken bytes metadata place (Some it) e = framed_none bytes metadata place it.header it.body_length e

-- ---- what comes next

pub no_frame : (bytes : List ℕ) → frame_at bytes 0 ≡ None → next_at bytes 0 ≡ None
no_frame bytes e = bind_none (frame_at bytes 0) (next_of bytes) e

pub ends : (bytes : List ℕ) (place : ℕ) → frame_at bytes 0 ≡ frame_of bytes (pos 0) place → next_at bytes 0 ≡ Some at_end
ends bytes place e = bind_is (frame_at bytes 0) (next_of bytes) end_mark e

-- metadata that is there, before some rest
metadata_frame : (bytes head metadata rest : List ℕ) → bytes ≡ head ++ (metadata ++ rest) → 0 < length metadata
    → frame_of bytes (pos (length metadata)) (length head) ≡ Some (metadata_then metadata (length head + length metadata))
metadata_frame bytes head [] rest same some = absurd (omega arith)
metadata_frame bytes head (m ∷ metadata) rest same some =
    let seen : window_at bytes (length head) (length (m ∷ metadata)) ≡ Some (m ∷ metadata) =
    ap (λ all. window_at all (length head) (length (m ∷ metadata))) same ∙ window_between head (m ∷ metadata) rest in
    bind_is (window_at bytes (length head) (suc (length metadata)))
    (λ found. Some (metadata_then found (length head + suc (length metadata)))) (m ∷ metadata) seen

next_is : (bytes head metadata rest : List ℕ) → bytes ≡ head ++ (metadata ++ rest) → 0 < length metadata
    → frame_at bytes 0 ≡ frame_of bytes (pos (length metadata)) (length head)
    → next_at bytes 0 ≡ next_of bytes (metadata_then metadata (length head + length metadata))
next_is bytes head metadata rest same some frame =
    bind_is (frame_at bytes 0) (next_of bytes) (metadata_then metadata (length head + length metadata))
    (frame ∙ metadata_frame bytes head metadata rest same some)

-- too few bytes of metadata
pub metadata_short : (bytes head rest : List ℕ) (n : ℕ) → bytes ≡ head ++ rest → length rest < n
    → frame_at bytes 0 ≡ frame_of bytes (pos n) (length head) → next_at bytes 0 ≡ None
metadata_short bytes head rest zero same few frame = absurd (omega arith)
metadata_short bytes head rest (suc n) same few frame =
    no_frame bytes (frame ∙ bind_none (window_at bytes (length head) (suc n)) _
    (window_past bytes (length head) (suc n) (omega (arith, few, ap length same ∙ length-append head rest))))

-- metadata of no message
pub message_broken : (bytes head metadata rest : List ℕ) → bytes ≡ head ++ (metadata ++ rest) → 0 < length metadata
    → frame_at bytes 0 ≡ frame_of bytes (pos (length metadata)) (length head) → body_size_in metadata ≡ None → next_at bytes 0 ≡ None
message_broken bytes head metadata rest same some frame broken =
    next_is bytes head metadata rest same some frame
    ∙ bind_none (framed_at bytes metadata (length head + length metadata)) _
    (framed_broken bytes metadata (length head + length metadata) (message_in metadata) broken)

-- too few bytes of a body
pub body_short : (bytes head metadata rest : List ℕ) (size : ℕ) → bytes ≡ head ++ (metadata ++ rest) → 0 < length metadata
    → frame_at bytes 0 ≡ frame_of bytes (pos (length metadata)) (length head) → body_size_in metadata ≡ Some size → length rest < size
    → next_at bytes 0 ≡ None
body_short bytes head metadata rest size same some frame e few =
    let found = came_of {A = Message} (message_in metadata) _ size e in
    let place = length head + length metadata in
    let past : length bytes < place + size =
    omega (arith, few, ap length same ∙ length-append head (metadata ++ rest), length-append metadata rest) in
    next_is bytes head metadata rest same some frame
    ∙ bind_none (framed_at bytes metadata place) _ (bind_is (message_in metadata) _ found.0 found.1
    ∙ framed_short bytes metadata place size found.0.header found.0.body_length found.2 (omega (arith, few)) past)

-- a message, and what is left behind it
pub message_comes : (bytes head metadata body rest : List ℕ) → bytes ≡ head ++ (metadata ++ (body ++ rest)) → 0 < length metadata
    → frame_at bytes 0 ≡ frame_of bytes (pos (length metadata)) (length head) → body_size_in metadata ≡ Some (length body)
    → (header : Header) × (after : ℕ)
    × (next_at bytes 0 ≡ Some (message_then (record { metadata = metadata; header = header; body = body }) after)) × (drop after bytes ≡ rest)
message_comes bytes head metadata body rest same some frame e =
    let found = came_of {A = Message} (message_in metadata) _ (length body) e in
    let place = length head + length metadata in
    let parts : bytes ≡ (head ++ metadata) ++ (body ++ rest) = same ∙ sym (append_assoc head metadata (body ++ rest)) in
    let front : length (head ++ metadata) ≡ place = length-append head metadata in
    let seen : window_at bytes place (length body) ≡ Some body =
    (λ j. window_at (parts j) (sym front j) (length body)) ∙ window_between (head ++ metadata) body rest in
    let whole : framed_at bytes metadata place ≡ some_body metadata found.0.header body (place + length body) =
    bind_is (message_in metadata) _ found.0 found.1
    ∙ framed_found bytes metadata body place found.0.header found.0.body_length found.2 seen in
    let all : bytes ≡ ((head ++ metadata) ++ body) ++ rest = parts ∙ sym (append_assoc (head ++ metadata) body rest) in
    let size : length ((head ++ metadata) ++ body) ≡ place + length body =
    length-append (head ++ metadata) body ∙ ap (λ n. n + length body) front in (
      found.0.header,
      place + length body,
      next_is bytes head metadata (body ++ rest) same some frame
          ∙ bind_is (framed_at bytes metadata place) (λ (it : Framed × ℕ). Some (message_then it.0 it.1))
          (record { metadata = metadata; header = found.0.header; body = body }, place + length body) whole,
      (λ j. drop (sym size j) (all j)) ∙ drop_front ((head ++ metadata) ++ body) rest,
    )
