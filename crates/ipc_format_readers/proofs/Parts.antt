-- Windows of some bytes, and what is read of a window as of the bytes themselves.
use Rattle.std.proofs.Common.{◌≡◌, ◌∙◌, ℕ, ◌+◌, ◌-◌, ◌≤◌, ◌<◌, Bool, true, false, List, length, take, drop, nat_le, refl, sym, ap, arith}
use Rattle.std.proofs.Common.{drop-drop, take-take}
use Rattle.std.specs.Prelude.{Option, Some, None, if◌then◌else◌}
use Rattle.std.specs.Int.{Width, byte_len, from_le_bytes, cast_signed}
use Rattle.std.proofs.lemmas.Bool.{le-leb, leb-true, leb-false}
use Rattle.std.proofs.lemmas.List.{drop-take, length-take-le}
use Rattle.std.proofs.lemmas.Option.{cond_some}
use Rattle.ipc_format_chunk_writing.specs.flatbuffers.FlatBuffers.{number_at, signed_at}
use Rattle.ipc_format_chunk_writing.specs.flatbuffers.Reading.{◌>>=◌, window_at}
use Rattle.ipc_format_readers.proofs.Dropped.{drop_size}

-- what a window sees lies in the bytes
pub window_inside : (bytes : List ℕ) (place n : ℕ) (part : List ℕ) → window_at bytes place n ≡ Some part
    → (place + n ≤ length bytes) × (take n (drop place bytes) ≡ part)
window_inside bytes place n part e =
    let parts = cond_some (nat_le (place + n) (length bytes)) (take n (drop place bytes)) part e in
    (leb-true (place + n) (length bytes) parts.0, parts.1)

-- a window within the bytes sees something
window_seen : (bytes : List ℕ) (place n : ℕ) → place + n ≤ length bytes → window_at bytes place n ≡ Some (take n (drop place bytes))
window_seen bytes place n inside =
    let is : nat_le (place + n) (length bytes) ≡ true = le-leb (place + n) (length bytes) inside in
    rw is refl

missing_by : (test : Bool) (part : List ℕ) → (if test then Some part else None) ≡ None → test ≡ false
missing_by true part e = absurd cc
missing_by false part e = refl

-- where it sees nothing it ends past them
pub window_missing : (bytes : List ℕ) (place n : ℕ) → window_at bytes place n ≡ None → length bytes < place + n
window_missing bytes place n e =
    leb-false (place + n) (length bytes) (missing_by (nat_le (place + n) (length bytes)) (take n (drop place bytes)) e)

-- so many bytes
pub window_length : (bytes : List ℕ) (place n : ℕ) (part : List ℕ) → window_at bytes place n ≡ Some part → length part ≡ n
window_length bytes place n part e =
    let inside = window_inside bytes place n part e in
    let left : n ≤ length (drop place bytes) = omega (arith, inside.0, drop_size place bytes (omega (arith, inside.0))) in
    ap length (sym inside.1) ∙ length-take-le n (drop place bytes) left

take_part : (xs : List ℕ) (n k m : ℕ) → k + m ≤ n → take m (drop k (take n xs)) ≡ take m (drop k xs)
take_part xs n k m within =
    let rest : k + (n - k) ≡ n = omega (arith, within) in
    ap (λ (i : ℕ). take m (drop k (take i xs))) (sym rest)
    ∙ ap (take m) (drop-take k (n - k) xs)
    ∙ take-take m (n - k) (drop k xs) (omega (arith, within))

-- a window of a window
pub window_of : (bytes part : List ℕ) (place n k m : ℕ) → window_at bytes place n ≡ Some part → k + m ≤ n
    → window_at part k m ≡ window_at bytes (place + k) m
window_of bytes part place n k m e within =
    let inside = window_inside bytes place n part e in
    let size = window_length bytes place n part e in
    window_seen part k m (omega (arith, size, within))
    ∙ ap Some (ap (λ (xs : List ℕ). take m (drop k xs)) (sym inside.1) ∙ take_part (drop place bytes) n k m within
    ∙ ap (take m) (drop-drop k place bytes))
    ∙ sym (window_seen bytes (place + k) m (omega (arith, inside.0, within)))

-- a place counted from another by 0
pub window_at_once : (bytes : List ℕ) (place n : ℕ) → window_at bytes (place + 0) n ≡ window_at bytes place n
window_at_once bytes place n =
    let here : place + 0 ≡ place = omega arith in
    ap (λ (p : ℕ). window_at bytes p n) here

-- the window at its front
pub window_first : (bytes part : List ℕ) (place n m : ℕ) → window_at bytes place n ≡ Some part → m ≤ n
    → window_at part 0 m ≡ window_at bytes place m
window_first bytes part place n m e within =
    window_of bytes part place n 0 m e (omega (arith, within)) ∙ window_at_once bytes place m

-- a number at the front of a window
pub signed_first : (w : Width) (bytes part : List ℕ) (place n : ℕ) → window_at bytes place n ≡ Some part → byte_len w ≤ n
    → signed_at w part 0 ≡ signed_at w bytes place
unfolding signed_at number_at
signed_first w bytes part place n e within =
    ap (λ (found : Option (List ℕ)). (found >>= (λ it. Some (from_le_bytes w it))) >>= (λ number. Some (cast_signed w number)))
    (window_first bytes part place n (byte_len w) e within)

-- where the window isn't there, no number is
pub signed_missing : (w : Width) (bytes : List ℕ) (place : ℕ) → window_at bytes place (byte_len w) ≡ None → signed_at w bytes place ≡ None
unfolding signed_at number_at
signed_missing w bytes place e =
    ap (λ (found : Option (List ℕ)). (found >>= (λ it. Some (from_le_bytes w it))) >>= (λ number. Some (cast_signed w number))) e
