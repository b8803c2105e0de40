-- What stands in the content of a vector of numbers or structs.
use Rattle.std.proofs.Common.{◌≡◌, ℕ, ◌+◌, ◌≤◌, List, ◌++◌, length, take, drop, refl, sym, ap, ◌∙◌, arith}
use Rattle.std.specs.Prelude.{Some, nat_le}
use Rattle.std.specs.Int.{Width, to_le_bytes, cast_signed}
use Rattle.std.proofs.lemmas.Bool.{leb-true}
use Rattle.std.proofs.lemmas.Option.{cond_some}
use Rattle.std.proofs.lemmas.List.{take-append-drop, length-take-le}
use Rattle.ipc_format_grammar.specs.flatbuffers.Reading.{window_at}
use Rattle.ipc_format_grammar.specs.flatbuffers.FlatBuffers.{signed_at}
use Rattle.ipc_format_laws.specs.Theorem.{FitsWidth}
use Rattle.ipc_format_laws.specs.Answers.{ContentsRead}
use Rattle.ipc_format_laws.proofs.Places.{Stands, front, back}
use Rattle.ipc_format_laws.proofs.ByAddress.{number_stands}

-- what a window sees stands there
pub stands_window : {bytes : List ℕ} {place : ℕ} (n : ℕ) (part : List ℕ) → window_at bytes place n ≡ Some part → Stands bytes place part
stands_window {bytes} {place} n part e =
    let seen = cond_some (nat_le (place + n) (length bytes)) (take n (drop place bytes)) part e in
    let inside : place + n ≤ length bytes = leb-true (place + n) (length bytes) seen.0 in
    record {
      before = take place bytes;
      after = drop n (drop place bytes);
      whole = sym (take-append-drop place bytes) ∙ ap (λ (x : List ℕ). take place bytes ++ x)
          (sym (take-append-drop n (drop place bytes)) ∙ ap (λ (x : List ℕ). x ++ drop n (drop place bytes)) seen.1);
      at = length-take-le place bytes (omega arith);
    }

-- a number, by its bits or as a signed one
pub signed_stands : {bytes : List ℕ} {place : ℕ} (w : Width) (n : ℕ) → FitsWidth w n → Stands bytes place (to_le_bytes w n)
    → signed_at w bytes place ≡ Some (cast_signed w n)
unfolding signed_at
signed_stands w n fits s = rw (number_stands w n fits s) refl

pub contents_read : ContentsRead
contents_read bytes place before after w n fits e =
    let part : List ℕ = before ++ to_le_bytes w n ++ after in
    let whole = front (before ++ to_le_bytes w n) after refl (stands_window (length part) part e) in
    number_stands w n fits (back before (to_le_bytes w n) (place + length before) refl refl whole)
