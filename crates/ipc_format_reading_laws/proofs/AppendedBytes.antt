-- What stands in some bytes stands in them with others behind: windows, frames, and a file's footer.
use Rattle.std.proofs.Common.{◌≡◌, ◌∙◌, ℕ, zero, suc, ◌+◌, ◌-◌, ◌≤◌, ◌<◌, ◌^◌, ℤ, pos, negsuc, Bool, true, false, List, [], ◌∷◌, ◌++◌, length}
use Rattle.std.proofs.Common.{take, drop, refl, sym, ap, arith, append-nil, length-append, append_assoc, nat_le, nat_lt}
use Rattle.std.specs.Prelude.{Option, Some, if◌then◌else◌}
use Rattle.std.specs.Int.{Width, w32, byte_len, to_le_bytes}
use Rattle.std.proofs.lemmas.Bool.{le-leb, leb-true, le-ltb}
use Rattle.std.proofs.lemmas.Int.{to_z_pos}
use Rattle.std.proofs.lemmas.List.{take-append-le, drop-append-le, take-append-drop, length-take-le}
use Rattle.std.proofs.lemmas.Option.{cond_some}
use Rattle.ipc_format_laws.specs.flatbuffers.Reading.{◌>>=◌, window_at}
use Rattle.ipc_format_laws.specs.flatbuffers.FlatBuffers.{number_at, signed_at}
use Rattle.ipc_format_laws.specs.grammar.Framing.{Frame, truncated, metadata_then, frame_of, frame_behind, frame_at}
use Rattle.ipc_format_laws.specs.grammar.Files.{file_mark, stands_at, footer_bytes_in, footer_schema, footer_in}
use Rattle.ipc_format_laws.proofs.Contents.{signed_stands}
use Rattle.ipc_format_laws.proofs.Places.{Stands, front, back, window_stands}
use Rattle.ipc_format_laws.proofs.Firsts.{came_of, bind_is}

-- ---- windows

-- what a window sees lies in the bytes
pub window_inside : (bytes : List ℕ) (place n : ℕ) (part : List ℕ) → window_at bytes place n ≡ Some part
    → (place + n ≤ length bytes) × (take n (drop place bytes) ≡ part)
window_inside bytes place n part e =
    let parts = cond_some (nat_le (place + n) (length bytes)) (take n (drop place bytes)) part e in
    (leb-true (place + n) (length bytes) parts.0, parts.1)

-- a window within the bytes sees something
pub window_seen : (bytes : List ℕ) (place n : ℕ) → place + n ≤ length bytes → window_at bytes place n ≡ Some (take n (drop place bytes))
window_seen bytes place n inside =
    let is : nat_le (place + n) (length bytes) ≡ true = le-leb (place + n) (length bytes) inside in
    rw is refl

drop_length : (place : ℕ) (xs : List ℕ) → place ≤ length xs → place + length (drop place xs) ≡ length xs
drop_length zero xs inside = omega arith
drop_length (suc place) [] inside = absurd (omega arith)
drop_length (suc place) (x ∷ xs) inside = omega (arith, drop_length place xs (omega arith))

pub window_more : (xs ys : List ℕ) (place n : ℕ) (part : List ℕ) → window_at xs place n ≡ Some part → window_at (xs ++ ys) place n ≡ Some part
window_more xs ys place n part e =
    let inside = window_inside xs place n part e in
    let left : n ≤ length (drop place xs) = omega (arith, inside.0, drop_length place xs (omega (arith, inside.0))) in
    window_seen (xs ++ ys) place n (omega (arith, inside.0, length-append xs ys))
    ∙ ap Some (ap (take n) (drop-append-le place xs ys (omega (arith, inside.0))) ∙ take-append-le n (drop place xs) ys left ∙ inside.1)

-- a window before an end sees the same in bytes that are the same up to it
pub window_same : (bytes others : List ℕ) (end place n : ℕ) → end ≤ length bytes → place + n ≤ end
    → window_at (take end bytes ++ others) place n ≡ window_at bytes place n
window_same bytes others end place n inside before =
    let cut = take end bytes in
    let seen = window_seen cut place n (omega (arith, before, length-take-le end bytes inside)) in
    let part = take n (drop place cut) in
    window_more cut others place n part seen
    ∙ sym (ap (λ (whole : List ℕ). window_at whole place n) (sym (take-append-drop end bytes)) ∙ window_more cut (drop end bytes) place n part seen)

signed_more : (w : Width) (xs ys : List ℕ) (place : ℕ) (z : ℤ) → signed_at w xs place ≡ Some z
    → (signed_at w (xs ++ ys) place ≡ Some z) × (place + byte_len w ≤ length xs)
unfolding signed_at number_at
signed_more w xs ys place z e =
    let number = came_of {A = ℕ} (number_at w xs place) _ z e in
    let part = came_of {A = List ℕ} (window_at xs place (byte_len w)) _ number.0 number.1 in (
      bind_is (number_at w (xs ++ ys) place) _ number.0
          (bind_is (window_at (xs ++ ys) place (byte_len w)) _ part.0 (window_more xs ys place (byte_len w) part.0 part.1) ∙ part.2)
          ∙ number.2,
      (window_inside xs place (byte_len w) part.0 part.1).0,
    )

-- ---- frames

-- metadata stands in the bytes, behind a place
record MetadataStands (xs ys : List ℕ) (place : ℕ) (metadata : List ℕ) (next : ℕ) (there : List ℕ → Option Frame) : Type 0 where
  more : there (xs ++ ys) ≡ Some (metadata_then metadata next)
  inside : place + length metadata ≤ length xs

frame_is : (metadata others : List ℕ) (next place : ℕ) → Some (metadata_then metadata next) ≡ Some (metadata_then others place)
    → metadata ≡ others
frame_is metadata others next place e = ap metadata_found e
  where
    metadata_found : Option Frame → List ℕ
    metadata_found (Some (metadata_then found after)) = found
    metadata_found _ = metadata

frame_of_more : (xs ys : List ℕ) (size : ℤ) (place : ℕ) (metadata : List ℕ) (next : ℕ)
    → frame_of xs size place ≡ Some (metadata_then metadata next) → MetadataStands xs ys place metadata next (λ bytes. frame_of bytes size place)
frame_of_more xs ys (pos zero) place metadata next e = absurd cc
frame_of_more xs ys (pos (suc n)) place metadata next e =
    let part = came_of {A = List ℕ} (window_at xs place (suc n)) _ (metadata_then metadata next) e in
    let same : part.0 ≡ metadata = frame_is part.0 metadata (place + suc n) next part.2 in
    let inside = window_inside xs place (suc n) part.0 part.1 in
    let left : suc n ≤ length (drop place xs) = omega (arith, inside.0, drop_length place xs (omega (arith, inside.0))) in
    record {
      more = bind_is (window_at (xs ++ ys) place (suc n)) _ part.0 (window_more xs ys place (suc n) part.0 part.1) ∙ part.2;
      inside = omega (arith, inside.0, ap length same, ap length inside.1, length-take-le (suc n) (drop place xs) left);
    }
frame_of_more xs ys (negsuc n) place metadata next e = absurd cc

frame_behind_more : (xs ys : List ℕ) (first : ℤ) (place : ℕ) (metadata : List ℕ) (next : ℕ)
    → frame_behind xs first place ≡ Some (metadata_then metadata next)
    → MetadataStands xs ys (place + 4) metadata next (λ bytes. frame_behind bytes first place)
frame_behind_more xs ys (negsuc zero) place metadata next e =
    let size = came_of {A = ℤ} (signed_at w32 xs (place + 4)) _ (metadata_then metadata next) e in
    let behind = frame_of_more xs ys size.0 (place + 8) metadata next size.2 in
    record {
      more = bind_is (signed_at w32 (xs ++ ys) (place + 4)) _ size.0 (signed_more w32 xs ys (place + 4) size.0 size.1).0 ∙ behind.more;
      inside = omega (arith, behind.inside);
    }
frame_behind_more xs ys (negsuc (suc n)) place metadata next e = absurd cc
frame_behind_more xs ys (pos n) place metadata next e =
    let behind = frame_of_more xs ys (pos n) (place + 4) metadata next e in
    record { more = behind.more; inside = behind.inside }

-- metadata that stands in some bytes stands in them with others behind, and at least four bytes stand before it
pub frame_more : (xs ys : List ℕ) (place : ℕ) (metadata : List ℕ) (next : ℕ) → frame_at xs place ≡ Some (metadata_then metadata next)
    → (frame_at (xs ++ ys) place ≡ Some (metadata_then metadata next)) × (place + 4 + length metadata ≤ length xs)
unfolding frame_at
frame_more xs ys place metadata next e =
    by_length (nat_lt (length xs) (place + 4)) e
  where
    rest : List ℕ → Option Frame
    rest bytes = signed_at w32 bytes place >>= (λ first. frame_behind bytes first place)

    by_length : (test : Bool) → (if test then Some truncated else rest xs) ≡ Some (metadata_then metadata next)
        → (frame_at (xs ++ ys) place ≡ Some (metadata_then metadata next)) × (place + 4 + length metadata ≤ length xs)
    by_length true is = absurd cc
    by_length false is =
        let first = came_of {A = ℤ} (signed_at w32 xs place) _ (metadata_then metadata next) is in
        let signed = signed_more w32 xs ys place first.0 first.1 in
        let behind = frame_behind_more xs ys first.0 place metadata next first.2 in
        let long : nat_lt (length (xs ++ ys)) (place + 4) ≡ false =
        le-ltb (length (xs ++ ys)) (place + 4) (omega (arith, signed.1, length-append xs ys)) in
        (rw long (bind_is (signed_at w32 (xs ++ ys) place) _ first.0 signed.0 ∙ behind.more), behind.inside)

-- ---- footers

pub mark_stands : {bytes : List ℕ} {place : ℕ} → Stands bytes place file_mark → stands_at file_mark bytes place ≡ true
mark_stands s = rw (window_stands 6 refl s) refl

-- a footer at the end of bytes that begin with a file's mark
pub footer_behind : (before footer : List ℕ) → length footer < 2 ^ 31
    → stands_at file_mark (before ++ footer ++ to_le_bytes w32 (length footer) ++ file_mark) 0 ≡ true
    → footer_bytes_in (before ++ footer ++ to_le_bytes w32 (length footer) ++ file_mark) ≡ Some footer
unfolding footer_bytes_in
footer_behind before footer short begins =
    let size = to_le_bytes w32 (length footer) in
    let bytes = before ++ footer ++ size ++ file_mark in
    let sized = size ++ file_mark in
    let ended = footer ++ sized in
    let parts : bytes ≡ before ++ ended = append_assoc (before ++ footer) size file_mark ∙ append_assoc before footer sized in
    let whole : length bytes ≡ length before + length footer + 10 =
    omega (arith, ap length parts, length-append before ended, length-append footer sized) in
    let all : Stands bytes 0 (before ++ ended) =
    record { before = []; after = []; whole = parts ∙ sym (append-nil (before ++ ended)); at = refl } in
    let its_footer : Stands bytes (length bytes - 10 - length footer) ended =
    back before ended (length bytes - 10 - length footer) refl (omega (arith, whole)) all in
    let its_size : Stands bytes (length bytes - 10) sized = back footer sized (length bytes - 10) refl (omega (arith, whole)) its_footer in
    let its_mark : Stands bytes (length bytes - 6) file_mark = back size file_mark (length bytes - 6) refl (omega (arith, whole)) its_size in
    let long : nat_le 10 (length bytes) ≡ true = le-leb 10 (length bytes) (omega (arith, whole)) in
    let ends : stands_at file_mark bytes (length bytes - 6) ≡ true = mark_stands its_mark in
    let stated : signed_at w32 bytes (length bytes - 10) ≡ Some (pos (length footer)) =
    signed_stands w32 (length footer) (omega (arith, short)) (front size file_mark refl its_size) ∙ ap Some (to_z_pos w32 (length footer) short) in
    let inside : nat_le (length footer + 10) (length bytes) ≡ true = le-leb (length footer + 10) (length bytes) (omega (arith, whole)) in
    let seen : window_at bytes (length bytes - 10 - length footer) (length footer) ≡ Some footer =
    window_stands (length footer) refl (front footer sized refl its_footer) in
    rw (long, begins, ends, stated, inside) seen

-- files with the same footer's bytes have the same footer
pub footer_same : (bytes others : List ℕ) → footer_bytes_in bytes ≡ footer_bytes_in others → footer_in bytes ≡ footer_in others
unfolding footer_in footer_schema
footer_same bytes others same = rw same refl
