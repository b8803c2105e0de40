-- What stands at a place of some bytes stands at the beginning of those from the place on.
use Rattle.std.proofs.Common.{◌≡◌, ◌∙◌, ℕ, zero, suc, ◌+◌, ◌≤◌, ◌<◌, ℤ, pos, negsuc, Bool, true, false, List, [], ◌∷◌, length, take, drop}
use Rattle.std.proofs.Common.{drop-drop}
use Rattle.std.proofs.Common.{refl, sym, ap, ap₂, subst, arith, nat_le, nat_lt}
use Rattle.std.specs.Prelude.{Option, Some, None, if◌then◌else◌}
use Rattle.std.specs.Int.{Width, w32, byte_len, from_le_bytes, cast_signed}
use Rattle.std.proofs.lemmas.Bool.{le-leb, lt-leb, leb-true}
use Rattle.std.proofs.lemmas.Option.{cond_some}
use Rattle.ipc_format_chunk_writing.specs.flatbuffers.Reading.{◌>>=◌, window_at}
use Rattle.ipc_format_chunk_writing.specs.flatbuffers.FlatBuffers.{number_at, signed_at}
use Rattle.ipc_format_chunk_writing.specs.grammar.Messages as message
use Rattle.ipc_format_chunk_writing.specs.grammar.Messages.{Header, Message, message_in, natural}
use Rattle.ipc_format_chunk_writing.specs.grammar.Framing.{Frame, truncated, end_mark, metadata_then, frame_of}
use Rattle.ipc_format_chunk_writing.specs.grammar.Framing.{frame_behind, frame_at, Framed, framed_by, framed_at}
use Rattle.ipc_format_chunk_writing.specs.grammar.Framing.{Next, nothing_whole, at_end, message_then}
use Rattle.ipc_format_chunk_writing.specs.grammar.Framing.{next_of, next_at, by_next, dictionaries_after, later_messages}

-- ---- one thing after another

pub came_of : {A B : Type 0} (r : Option A) (f : A → Option B) (y : B) → (r >>= f) ≡ Some y → (x : A) × (r ≡ Some x) × (f x ≡ Some y)
came_of None f y e = absurd cc
came_of (Some x) f y e = (x, refl, e)

pub bind_is : {A B : Type 0} (r : Option A) (f : A → Option B) (x : A) → r ≡ Some x → (r >>= f) ≡ f x
bind_is r f x e = ap (λ o. o >>= f) e

pub bind_same : {A B : Type 0} (r : Option A) (f g : A → Option B) → ((x : A) → r ≡ Some x → f x ≡ g x) → (r >>= f) ≡ (r >>= g)
bind_same None f g each = refl
bind_same (Some x) f g each = each x refl

-- what comes of nothing is nothing
pub bind_nothing : {A B : Type 0} (r : Option A) → (r >>= (λ (x : A). let nothing : Option B = None in nothing)) ≡ None
bind_nothing None = refl
bind_nothing (Some x) = refl

pub bind_twice : {A B C : Type 0} (r : Option A) (f : A → Option B) (g : B → Option C) → ((r >>= f) >>= g) ≡ (r >>= (λ x. f x >>= g))
bind_twice None f g = refl
bind_twice (Some x) f g = refl

-- ---- lists

pub drop_twice : (n k : ℕ) (xs : List ℕ) → drop k (drop n xs) ≡ drop (n + k) xs
drop_twice n k xs = drop-drop k n xs

pub drop_size : (n : ℕ) (xs : List ℕ) → n ≤ length xs → n + length (drop n xs) ≡ length xs
drop_size zero xs inside = omega arith
drop_size (suc n) [] inside = absurd (omega arith)
drop_size (suc n) (x ∷ xs) inside = omega (arith, drop_size n xs (omega arith))

same_test : (a b : Bool) → (a ≡ true → b ≡ true) → (b ≡ true → a ≡ true) → a ≡ b
same_test true true there back = refl
same_test true false there back = sym (there refl)
same_test false true there back = back refl
same_test false false there back = refl

same_le : (a b c d : ℕ) → (a ≤ b → c ≤ d) → (c ≤ d → a ≤ b) → nat_le a b ≡ nat_le c d
same_le a b c d there back =
    same_test (nat_le a b) (nat_le c d) (λ is. le-leb c d (there (leb-true a b is))) (λ is. le-leb a b (back (leb-true c d is)))

-- ---- what a place behind others is

abbrev pub moved_frame : ℕ → Frame → Frame
moved_frame d truncated = truncated
moved_frame d end_mark = end_mark
moved_frame d (metadata_then metadata place) = metadata_then metadata (d + place)

abbrev pub moved : ℕ → Next → Next
moved d nothing_whole = nothing_whole
moved d at_end = at_end
moved d (message_then found after) = message_then found (d + after)

abbrev pub frames_moved : ℕ → Option Frame → Option Frame
frames_moved d found = found >>= (λ (frame : Frame). Some (moved_frame d frame))

abbrev pub all_moved : ℕ → Option Next → Option Next
all_moved d found = found >>= (λ (next : Next). Some (moved d next))

abbrev pub found_moved : ℕ → Option (Framed × ℕ) → Option (Framed × ℕ)
found_moved d found = found >>= (λ (it : Framed × ℕ). Some (it.0, d + it.1))

-- ---- windows and numbers

module _ (bytes : List ℕ) (d : ℕ) (inside : d ≤ length bytes) where
  size_is : d + length (drop d bytes) ≡ length bytes
  size_is = drop_size d bytes inside

  window_moved : (q p n : ℕ) → q ≡ d + p → window_at bytes q n ≡ window_at (drop d bytes) p n
  window_moved q p n is =
      ap₂ (λ (test : Bool) (part : List ℕ). if test then Some (take n part) else None)
      (same_le (q + n) (length bytes) (p + n) (length (drop d bytes)) (λ h. omega (arith, size_is, is, h)) (λ h. omega (arith, size_is, is, h)))
      (ap (λ i. drop i bytes) is ∙ sym (drop_twice d p bytes))

  signed_moved : (w : Width) (q p : ℕ) → q ≡ d + p → signed_at w bytes q ≡ signed_at w (drop d bytes) p
  unfolding signed_at number_at
  signed_moved w q p is =
      ap (λ (part : Option (List ℕ)). (part >>= (λ part. Some (from_le_bytes w part))) >>= (λ n. Some (cast_signed w n)))
      (window_moved q p (byte_len w) is)

  -- ---- frames

  metadata_moved : (q p n : ℕ) → q ≡ d + p → (found : Option (List ℕ))
      → (found >>= (λ (metadata : List ℕ). Some (metadata_then metadata (q + suc n))))
      ≡ frames_moved d (found >>= (λ (metadata : List ℕ). Some (metadata_then metadata (p + suc n))))
  metadata_moved q p n is None = refl
  metadata_moved q p n is (Some metadata) = ap (λ place. Some (metadata_then metadata place)) (omega (arith, is))

  frame_of_moved : (stated : ℤ) (q p : ℕ) → q ≡ d + p → frame_of bytes stated q ≡ frames_moved d (frame_of (drop d bytes) stated p)
  frame_of_moved (pos zero) q p is = refl
  frame_of_moved (pos (suc n)) q p is =
      ap (λ (found : Option (List ℕ)). found >>= (λ (metadata : List ℕ). Some (metadata_then metadata (q + suc n)))) (window_moved q p (suc n) is)
      ∙ metadata_moved q p n is (window_at (drop d bytes) p (suc n))
  frame_of_moved (negsuc n) q p is = refl

  stated_moved : (q p : ℕ) → q ≡ d + p → (stated : Option ℤ) → (stated >>= (λ (n : ℤ). frame_of bytes n q))
      ≡ frames_moved d (stated >>= (λ (n : ℤ). frame_of (drop d bytes) n p))
  stated_moved q p is None = refl
  stated_moved q p is (Some n) = frame_of_moved n q p is

  frame_behind_moved : (first : ℤ) (q p : ℕ) → q ≡ d + p → frame_behind bytes first q ≡ frames_moved d (frame_behind (drop d bytes) first p)
  frame_behind_moved (negsuc zero) q p is =
      ap (λ (stated : Option ℤ). stated >>= (λ (n : ℤ). frame_of bytes n (q + 8))) (signed_moved w32 (q + 4) (p + 4) (omega (arith, is)))
      ∙ stated_moved (q + 8) (p + 8) (omega (arith, is)) (signed_at w32 (drop d bytes) (p + 4))
  frame_behind_moved (negsuc (suc n)) q p is = refl
  frame_behind_moved (pos n) q p is = frame_of_moved (pos n) (q + 4) (p + 4) (omega (arith, is))

  first_moved : (q p : ℕ) → q ≡ d + p → (first : Option ℤ) → (first >>= (λ (n : ℤ). frame_behind bytes n q))
      ≡ frames_moved d (first >>= (λ (n : ℤ). frame_behind (drop d bytes) n p))
  first_moved q p is None = refl
  first_moved q p is (Some n) = frame_behind_moved n q p is

  by_test : (test : Bool) (whole part : Option Frame) → whole ≡ frames_moved d part
      → (if test then Some truncated else whole) ≡ frames_moved d (if test then Some truncated else part)
  by_test true whole part e = refl
  by_test false whole part e = e

  frame_moved : (q p : ℕ) → q ≡ d + p → frame_at bytes q ≡ frames_moved d (frame_at (drop d bytes) p)
  unfolding frame_at
  frame_moved q p is =
      ap (λ (test : Bool). if test then Some truncated else (signed_at w32 bytes q >>= (λ (n : ℤ). frame_behind bytes n q)))
      (same_le (suc (length bytes)) (q + 4) (suc (length (drop d bytes))) (p + 4) (λ h. omega (arith, size_is, is, h))
      (λ h. omega (arith, size_is, is, h)))
      ∙ by_test (nat_lt (length (drop d bytes)) (p + 4)) (signed_at w32 bytes q >>= (λ (n : ℤ). frame_behind bytes n q))
      (signed_at w32 (drop d bytes) p >>= (λ (n : ℤ). frame_behind (drop d bytes) n p))
      (ap (λ (first : Option ℤ). first >>= (λ (n : ℤ). frame_behind bytes n q)) (signed_moved w32 q p is)
      ∙ first_moved q p is (signed_at w32 (drop d bytes) p))

  -- ---- messages

  body_moved : (metadata : List ℕ) (header : Header) (size q p : ℕ) → q ≡ d + p → (body : Option (List ℕ))
      → (body >>= (λ (part : List ℕ). Some (record { metadata = metadata; header = header; body = part }, q + size)))
      ≡ found_moved d (body >>= (λ (part : List ℕ). Some (record { metadata = metadata; header = header; body = part }, p + size)))
  body_moved metadata header size q p is None = refl
  body_moved metadata header size q p is (Some part) =
      ap (λ (place : ℕ). Some (record { metadata = metadata; header = header; body = part }, place)) (omega (arith, is))

  size_moved : (metadata : List ℕ) (header : Header) (q p : ℕ) → q ≡ d + p → (size : Option ℕ)
      → (size >>= (λ (n : ℕ). window_at bytes q n
      >>= (λ (part : List ℕ). Some (record { metadata = metadata; header = header; body = part }, q + n))))
      ≡ found_moved d (size >>= (λ (n : ℕ). window_at (drop d bytes) p n
      >>= (λ (part : List ℕ). Some (record { metadata = metadata; header = header; body = part }, p + n))))
  size_moved metadata header q p is None = refl
  size_moved metadata header q p is (Some n) =
      ap (λ (body : Option (List ℕ)). body >>= (λ (part : List ℕ). Some (record { metadata = metadata; header = header; body = part }, q + n)))
      (window_moved q p n is) ∙ body_moved metadata header n q p is (window_at (drop d bytes) p n)

  framed_by_moved : (metadata : List ℕ) (header : Header) (stated : ℤ) (q p : ℕ) → q ≡ d + p
      → framed_by bytes metadata q header stated ≡ found_moved d (framed_by (drop d bytes) metadata p header stated)
  framed_by_moved metadata (message.schema table) stated q p is =
      ap (λ (place : ℕ). Some (record { metadata = metadata; header = message.schema table; body = [] }, place)) is
  framed_by_moved metadata (message.dictionary_batch table) stated q p is =
      size_moved metadata (message.dictionary_batch table) q p is (natural stated)
  framed_by_moved metadata (message.record_batch table) stated q p is =
      size_moved metadata (message.record_batch table) q p is (natural stated)

  said_moved : (metadata : List ℕ) (q p : ℕ) → q ≡ d + p → (said : Option Message)
      → (said >>= (λ (it : Message). framed_by bytes metadata q it.header it.body_length))
      ≡ found_moved d (said >>= (λ (it : Message). framed_by (drop d bytes) metadata p it.header it.body_length))
  said_moved metadata q p is None = refl
  said_moved metadata q p is (Some it) = framed_by_moved metadata it.header it.body_length q p is

  then_moved : (found : Option (Framed × ℕ)) → (found_moved d found >>= (λ (it : Framed × ℕ). Some (message_then it.0 it.1)))
      ≡ all_moved d (found >>= (λ (it : Framed × ℕ). Some (message_then it.0 it.1)))
  then_moved None = refl
  then_moved (Some it) = refl

  next_of_moved : (frame : Frame) → next_of bytes (moved_frame d frame) ≡ all_moved d (next_of (drop d bytes) frame)
  next_of_moved truncated = refl
  next_of_moved end_mark = refl
  next_of_moved (metadata_then metadata place) =
      ap (λ (found : Option (Framed × ℕ)). found >>= (λ (it : Framed × ℕ). Some (message_then it.0 it.1)))
      (said_moved metadata (d + place) place refl (message_in metadata))
      ∙ then_moved (framed_at (drop d bytes) metadata place)

  frames_then : (found : Option Frame) → (frames_moved d found >>= next_of bytes) ≡ all_moved d (found >>= next_of (drop d bytes))
  frames_then None = refl
  frames_then (Some frame) = next_of_moved frame

  -- what stands at a place
  pub next_moved : (q p : ℕ) → q ≡ d + p → next_at bytes q ≡ all_moved d (next_at (drop d bytes) p)
  next_moved q p is =
      ap (λ (found : Option Frame). found >>= next_of bytes) (frame_moved q p is) ∙ frames_then (frame_at (drop d bytes) p)

-- ---- how far a message reaches

abbrev pub or_this : {A : Type 0} → A → Option A → A
or_this x None = x
or_this x (Some y) = y

pub some_is : {A : Type 0} (x y : A) → Some x ≡ Some y → x ≡ y
some_is x y e = ap (or_this x) e

abbrev place_behind : Frame → ℕ
place_behind (metadata_then metadata place) = place
place_behind _ = 0

-- a place behind another one, within the bytes
abbrev Within : List ℕ → ℕ → ℕ → Type 0
Within bytes least place = (least ≤ place) × (place ≤ length bytes)

window_inside : (bytes : List ℕ) (place n : ℕ) (part : List ℕ) → window_at bytes place n ≡ Some part → place + n ≤ length bytes
window_inside bytes place n part e =
    leb-true (place + n) (length bytes) (cond_some (nat_le (place + n) (length bytes)) (take n (drop place bytes)) part e).0

reach_frame_of : (bytes : List ℕ) (stated : ℤ) (q : ℕ) (metadata : List ℕ) (place : ℕ)
    → frame_of bytes stated q ≡ Some (metadata_then metadata place) → Within bytes 1 place
reach_frame_of bytes (pos zero) q metadata place e = absurd cc
reach_frame_of bytes (pos (suc n)) q metadata place e =
    let part = came_of {A = List ℕ} (window_at bytes q (suc n)) _ _ e in
    let inside = window_inside bytes q (suc n) part.0 part.1 in
    let same : q + suc n ≡ place = ap place_behind (some_is _ _ part.2) in
    (omega (arith, same), omega (arith, same, inside))
reach_frame_of bytes (negsuc n) q metadata place e = absurd cc

reach_frame_behind : (bytes : List ℕ) (first : ℤ) (q : ℕ) (metadata : List ℕ) (place : ℕ)
    → frame_behind bytes first q ≡ Some (metadata_then metadata place) → Within bytes 1 place
reach_frame_behind bytes (negsuc zero) q metadata place e =
    let stated = came_of {A = ℤ} (signed_at w32 bytes (q + 4)) _ _ e in
    reach_frame_of bytes stated.0 (q + 8) metadata place stated.2
reach_frame_behind bytes (negsuc (suc n)) q metadata place e = absurd cc
reach_frame_behind bytes (pos n) q metadata place e = reach_frame_of bytes (pos n) (q + 4) metadata place e

by_length : (test : Bool) (whole : Option Frame) (metadata : List ℕ) (place : ℕ)
    → (if test then Some truncated else whole) ≡ Some (metadata_then metadata place) → whole ≡ Some (metadata_then metadata place)
by_length true whole metadata place e = absurd cc
by_length false whole metadata place e = e

reach_frame : (bytes : List ℕ) (q : ℕ) (metadata : List ℕ) (place : ℕ) → frame_at bytes q ≡ Some (metadata_then metadata place)
    → Within bytes 1 place
unfolding frame_at
reach_frame bytes q metadata place e =
    let first = came_of {A = ℤ} (signed_at w32 bytes q) _ _
    (by_length (nat_lt (length bytes) (q + 4)) (signed_at w32 bytes q >>= (λ (n : ℤ). frame_behind bytes n q)) metadata place e) in
    reach_frame_behind bytes first.0 q metadata place first.2

reach_body : (bytes metadata : List ℕ) (place : ℕ) (header : Header) (size : Option ℕ) (found : Framed × ℕ)
    → (size >>= (λ (n : ℕ). window_at bytes place n
    >>= (λ (part : List ℕ). Some (record { metadata = metadata; header = header; body = part }, place + n)))) ≡ Some found
    → Within bytes place found.1
reach_body bytes metadata place header size found e =
    let n = came_of {A = ℕ} size _ found e in
    let part = came_of {A = List ℕ} (window_at bytes place n.0) _ found n.2 in
    let inside = window_inside bytes place n.0 part.0 part.1 in
    let same : place + n.0 ≡ found.1 = ap (λ (it : Framed × ℕ). it.1) (some_is _ _ part.2) in
    (omega (arith, same), omega (arith, same, inside))

reach_framed : (bytes metadata : List ℕ) (place : ℕ) (header : Header) (stated : ℤ) (found : Framed × ℕ) → place ≤ length bytes
    → framed_by bytes metadata place header stated ≡ Some found → Within bytes place found.1
reach_framed bytes metadata place (message.schema table) stated found inside e =
    let same : place ≡ found.1 = ap (λ (it : Framed × ℕ). it.1) (some_is _ _ e) in
    (omega (arith, same), omega (arith, same, inside))
reach_framed bytes metadata place (message.dictionary_batch table) stated found inside e =
    reach_body bytes metadata place (message.dictionary_batch table) (natural stated) found e
reach_framed bytes metadata place (message.record_batch table) stated found inside e =
    reach_body bytes metadata place (message.record_batch table) (natural stated) found e

abbrev place_of : Next → ℕ
place_of (message_then found after) = after
place_of _ = 0

reach_next : (bytes : List ℕ) (frame : Frame) (found : Framed) (after : ℕ)
    → ((metadata : List ℕ) (place : ℕ) → frame ≡ metadata_then metadata place → Within bytes 1 place)
    → next_of bytes frame ≡ Some (message_then found after) → Within bytes 1 after
reach_next bytes truncated found after reach e = absurd cc
reach_next bytes end_mark found after reach e = absurd cc
reach_next bytes (metadata_then metadata place) found after reach e =
    let within = reach metadata place refl in
    let whole = came_of {A = Framed × ℕ} (framed_at bytes metadata place) _ _ e in
    let it = came_of {A = Message} (message_in metadata) _ whole.0 whole.1 in
    let behind = reach_framed bytes metadata place it.0.header it.0.body_length whole.0 within.1 it.2 in
    let same : whole.0.1 ≡ after = ap place_of (some_is _ _ whole.2) in
    (omega (arith, same, within.0, behind.0), omega (arith, same, behind.1))

-- a message stands within the bytes, and has a byte at least
pub reaches : (bytes : List ℕ) (q : ℕ) (found : Framed) (after : ℕ) → next_at bytes q ≡ Some (message_then found after) → Within bytes 1 after
reaches bytes q found after e =
    let frame = came_of {A = Frame} (frame_at bytes q) _ _ e in
    reach_next bytes frame.0 found after
    (λ (metadata : List ℕ) (place : ℕ) (is : frame.0 ≡ metadata_then metadata place).
    reach_frame bytes q metadata place (frame.1 ∙ ap Some is)) frame.2

-- ---- messages one behind another

-- fewer than four bytes are no message
pub nothing_there : (bytes : List ℕ) → length bytes < 4 → next_at bytes 0 ≡ Some nothing_whole
unfolding frame_at
nothing_there bytes few = let is : nat_lt (length bytes) 4 ≡ true = le-leb (suc (length bytes)) 4 few in rw is refl

-- a message, and what comes behind it
abbrev pub then_later : (ℕ → Option (List Framed)) → Framed → Option ℕ → Option (List Framed)
then_later later message row =
    row >>= (λ (in_a_row : ℕ). later in_a_row >>= (λ (others : List Framed). Some (message ∷ others)))

-- messages by what stands first
abbrev pub later_by : ℕ → List ℕ → ℕ → Option Next → Option (List Framed)
later_by most bytes row next =
    next >>= by_next None (Some []) (λ message after. then_later (later_messages most bytes after) message (dictionaries_after row message.header))

abbrev LaterDropped : ℕ → Type 0
LaterDropped most = (bytes : List ℕ) (q row : ℕ) → q ≤ length bytes → later_messages most bytes q row ≡ later_messages most (drop q bytes) 0 row

behind_dropped : (most : ℕ) → LaterDropped most → (bytes : List ℕ) (q : ℕ) → q ≤ length bytes → (message : Framed) (after : ℕ) (found : Option ℕ)
    → after ≤ length (drop q bytes)
    → then_later (later_messages most bytes (q + after)) message found ≡ then_later (later_messages most (drop q bytes) after) message found
behind_dropped most rest bytes q inside message after found within =
    bind_same found _ _ (λ (in_a_row : ℕ) is.
    ap (λ (later : Option (List Framed)). later >>= (λ (others : List Framed). Some (message ∷ others)))
    (rest bytes (q + after) in_a_row (omega (arith, within, drop_size q bytes inside))
    ∙ ap (λ (left : List ℕ). later_messages most left 0 in_a_row) (sym (drop_twice q after bytes))
    ∙ sym (rest (drop q bytes) after in_a_row within)))

next_dropped : (most : ℕ) → LaterDropped most → (bytes : List ℕ) (q row : ℕ) → q ≤ length bytes → (next : Option Next)
    → next_at (drop q bytes) 0 ≡ next → later_by most bytes row (all_moved q next) ≡ later_by most (drop q bytes) row next
next_dropped most rest bytes q row inside None e = refl
next_dropped most rest bytes q row inside (Some nothing_whole) e = refl
next_dropped most rest bytes q row inside (Some at_end) e = refl
next_dropped most rest bytes q row inside (Some (message_then message after)) e =
    behind_dropped most rest bytes q inside message after (dictionaries_after row message.header) (reaches (drop q bytes) 0 message after e).1

-- the messages from a place on are those of the bytes from there on
pub later_dropped : (most : ℕ) (bytes : List ℕ) (q row : ℕ) → q ≤ length bytes
    → later_messages most bytes q row ≡ later_messages most (drop q bytes) 0 row
later_dropped zero bytes q row inside = refl
later_dropped (suc most) bytes q row inside =
    ap (later_by most bytes row) (next_moved bytes q inside q 0 (omega arith))
    ∙ next_dropped most (later_dropped most) bytes q row inside (next_at (drop q bytes) 0) refl

-- ---- how many messages are looked for

abbrev Enough : ℕ → Type 0
Enough m = (n : ℕ) (bytes : List ℕ) (row : ℕ) → length bytes ≤ m → length bytes ≤ n → later_messages m bytes 0 row ≡ later_messages n bytes 0 row

none_there : (n : ℕ) (bytes : List ℕ) (row : ℕ) → length bytes ≤ 0 → later_messages n bytes 0 row ≡ None
none_there zero bytes row none = refl
none_there (suc n) bytes row none = ap (later_by n bytes row) (nothing_there bytes (omega (arith, none)))

enough_next : (m n : ℕ) → Enough m → (bytes : List ℕ) (row : ℕ) → length bytes ≤ suc m → length bytes ≤ suc n → (next : Option Next)
    → next_at bytes 0 ≡ next → later_by m bytes row next ≡ later_by n bytes row next
enough_next m n rest bytes row few many None e = refl
enough_next m n rest bytes row few many (Some nothing_whole) e = refl
enough_next m n rest bytes row few many (Some at_end) e = refl
enough_next m n rest bytes row few many (Some (message_then message after)) e =
    let within = reaches bytes 0 message after e in
    let size = drop_size after bytes within.1 in
    bind_same (dictionaries_after row message.header) _ _ (λ (in_a_row : ℕ) is.
    ap (λ (later : Option (List Framed)). later >>= (λ (others : List Framed). Some (message ∷ others)))
    (later_dropped m bytes after in_a_row within.1
    ∙ rest n (drop after bytes) in_a_row (omega (arith, within.0, size, few)) (omega (arith, within.0, size, many))
    ∙ sym (later_dropped n bytes after in_a_row within.1)))

-- Looking for as many messages as there are bytes is enough.
pub enough : (m : ℕ) → Enough m
enough zero n bytes row few many = sym (none_there n bytes row few)
enough (suc m) zero bytes row few many = none_there (suc m) bytes row many
enough (suc m) (suc n) bytes row few many = enough_next m n (enough m) bytes row few many (next_at bytes 0) refl
