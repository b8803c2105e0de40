-- A part stands in bytes at a place.
use Rattle.std.proofs.Common.{◌≡◌, ℕ, ◌+◌, ◌≤◌, List, ◌++◌, length, take, drop, sym, ap, ◌∙◌, arith, length-append, append_assoc, true}
use Rattle.std.proofs.Math.Seq.{take-append_seam, drop-append_seam}
use Rattle.std.specs.Prelude.{Some, nat_le}
use Rattle.std.proofs.lemmas.Bool.{le-leb}
use Rattle.ipc_format_grammar.specs.flatbuffers.Reading.{window_at}

pub record Stands (bytes : List ℕ) (place : ℕ) (part : List ℕ) : Type 0 where
  pub before : List ℕ
  pub after : List ℕ
  pub whole : bytes ≡ before ++ (part ++ after)
  pub at : length before ≡ place

-- the front of a part
pub front : {bytes : List ℕ} {place : ℕ} {part : List ℕ} (a b : List ℕ) → part ≡ a ++ b → Stands bytes place part → Stands bytes place a
front a b e s = record {
  before = s.before;
  after = b ++ s.after;
  whole = s.whole ∙ ap (λ (x : List ℕ). s.before ++ x)
      (ap (λ (x : List ℕ). x ++ s.after) e ∙ append_assoc a b s.after);
  at = s.at;
}

-- the back of a part
pub back : {bytes : List ℕ} {place : ℕ} {part : List ℕ} (a b : List ℕ) (next : ℕ) → part ≡ a ++ b → next ≡ place + length a
    → Stands bytes place part → Stands bytes next b
back a b next e n s = record {
  before = s.before ++ a;
  after = s.after;
  whole = s.whole ∙ ap (λ (x : List ℕ). s.before ++ x) (ap (λ (x : List ℕ). x ++ s.after) e ∙ append_assoc a b s.after) ∙ sym
      (append_assoc s.before a (b ++ s.after));
  at = length-append s.before a ∙ ap (λ (k : ℕ). k + length a) s.at ∙ sym n;
}

-- a part ends within the bytes
pub ends_within : {bytes : List ℕ} {place : ℕ} {part : List ℕ} → Stands bytes place part → place + length part ≤ length bytes
ends_within {bytes} {place} {part} s = omega (arith, s.at, ap length s.whole, length-append s.before (part ++ s.after), length-append part s.after)

-- what a window over a part sees
pub drop_take : (before part after : List ℕ) → take (length part) (drop (length before) (before ++ (part ++ after))) ≡ part
drop_take before part after = ap (take (length part)) (drop-append_seam before (part ++ after)) ∙ take-append_seam part after

pub window_stands : {bytes : List ℕ} {place : ℕ} {part : List ℕ} (n : ℕ) → n ≡ length part → Stands bytes place part
    → window_at bytes place n ≡ Some part
window_stands {bytes} {place} {part} n e s =
    let inside : nat_le (place + n) (length bytes) ≡ true = le-leb (place + n) (length bytes) (omega (arith, ends_within s)) in
    let seen : take n (drop place bytes) ≡ part =
    ap (λ (k : ℕ). take k (drop place bytes)) e ∙ ap (λ (k : ℕ). take (length part) (drop k bytes)) (sym s.at)
    ∙ ap (λ (b : List ℕ). take (length part) (drop (length s.before) b)) s.whole ∙ drop_take s.before part s.after in
    rw inside (ap Some seen)
