-- What is read into a slice stands behind what was there.
use Rattle.std.proofs.Common.{◌≡◌, ◌∙◌, ℕ, ◌+◌, ◌-◌, ◌≤◌, List, ◌++◌, arith, length, take, drop, sym, ap, subst}
use Rattle.std.proofs.Common.{take_at, drop_at, length-take-le, length-append}
use Rattle.std.proofs.lemmas.List.{length-drop}
use Rattle.std.specs.Prelude.{Option, Result, Ok, Err}
use Rattle.std.specs.Io.{ReadsAtMost}
use Rattle.std.specs.Io.KnownBytes.{Consumes, ReadConsumes}
use borrow.Rule.Slice.PartMut.{put_mid, post_of}
use lib.Seq.{take-add, take-append-le}
use Rattle.ipc_format_streams.specs.Arriving.{ReadsBehind}

-- the first items, and so many of what was put behind them
put_behind : (xs buf : List ℕ) (filled n : ℕ) → filled ≤ length xs → n ≤ length buf
    → take (filled + n) (put_mid filled (length xs - filled) xs buf) ≡ take filled xs ++ take n buf
put_behind xs buf filled n within fits =
    let after = post_of filled (length xs - filled) xs in
    let size = length-take-le filled xs within in
    take-add filled n (put_mid filled (length xs - filled) xs buf)
    ∙ (λ j. take_at (take filled xs) (buf ++ after) filled size j ++ take n (drop_at (take filled xs) (buf ++ after) filled size j))
    ∙ ap (λ part. take filled xs ++ part) (take-append-le n buf after fits)

put_length : (xs buf : List ℕ) (filled : ℕ) → filled ≤ length xs → length buf ≡ length xs - filled
    → length (put_mid filled (length xs - filled) xs buf) ≡ length xs
put_length xs buf filled within size =
    let after = post_of filled (length xs - filled) xs in
    let rest : length after ≡ (length xs - filled) - (length xs - filled) =
    length-drop (length xs - filled) (drop filled xs) ∙ ap (λ n. n - (length xs - filled)) (length-drop filled xs) in
    omega (arith, length-append (take filled xs) (buf ++ after), length-append buf after, length-take-le filled xs within, rest, size)

pub reads_behind : {E : Type 0} (left left_after : Option (List ℕ)) (xs buf : List ℕ) (filled : ℕ) (result : Result ℕ E) → filled ≤ length xs
    → length buf ≡ length xs - filled → ReadsAtMost result buf
    → ReadConsumes left left_after result buf → ReadsBehind left left_after filled xs (put_mid filled (length xs - filled) xs buf) result
reads_behind left left_after xs buf filled (Ok n) within size bound bytes = let whole = put_length xs buf filled within size in (
  take n buf,
  put_behind xs buf filled n within bound.0,
  length-take-le n buf bound.0,
  omega (arith, whole, size, bound.0),
  whole,
  bytes.0,
  λ none room. bytes.1 none (omega (arith, room, size)),
)
reads_behind left left_after xs buf filled (Err error) within size bound bytes = tt

-- the same of a vector that lent its items
pub reads_behind_in : {E : Type 0} (left left_after : Option (List ℕ)) (len : ℕ) (items xs buf : List ℕ) (filled : ℕ) (result : Result ℕ E)
    → xs ≡ items → length xs ≡ len → filled ≤ length xs → length buf ≡ length xs - filled → ReadsAtMost result buf
    → ReadConsumes left left_after result buf
    → ReadsBehind left left_after filled items (take len (put_mid filled (length xs - filled) xs buf
    ++ drop (length (put_mid filled (length xs - filled) xs buf)) items)) result
reads_behind_in left left_after len items xs buf filled result same counted within size bound bytes =
    let put = put_mid filled (length xs - filled) xs buf in
    let whole = put_length xs buf filled within size in
    let kept : put ≡ take len (put ++ drop (length put) items) = sym (take_at put (drop (length put) items) len (whole ∙ counted)) in
    subst (λ (after : List ℕ). ReadsBehind left left_after filled items after result) kept
    (subst (λ (before : List ℕ). ReadsBehind left left_after filled before put result) same
    (reads_behind left left_after xs buf filled result within size bound bytes))

-- what came stands behind what was there, and before room for the next piece
abbrev pub Filled : Option (List ℕ) → Option (List ℕ) → List ℕ → List ℕ → ℕ → ℕ → Type 0
Filled left left_after before now filled count = (more : List ℕ) × (take filled now ≡ before ++ more) × (filled ≤ length now)
    × (length now ≤ count) × Consumes left left_after more
