-- The first bytes of a buffer, and the validity of the first slots.
use Rattle.std.proofs.Common.{◌≡◌, ◌∙◌, ℕ, ◌+◌, ◌/◌, ◌≤◌, ◌<◌, pos, Bool, true, false, List, length, take, drop, refl, sym, ap, ap₂, subst, arith}
use Rattle.std.proofs.Common.{nat_le}
use Rattle.std.specs.Prelude.{Option, Some, None, slice_get, int_lt, if◌then◌else◌}
use Rattle.std.proofs.lemmas.Bool.{le-leb, leb-true}
use Rattle.std.proofs.lemmas.List.{take-take}
use Rattle.ipc_format_grammar.specs.flatbuffers.Reading.{◌>>=◌, guard, window_at}
use Rattle.ipc_format_grammar.specs.columns.Slots.{Slot, null, window}
use Rattle.ipc_format_grammar.specs.Messages.{FieldNode, Buffer, natural}
use Rattle.ipc_format_grammar.specs.Columns.{Source, Place, Validity, all_valid, bitmap, is_valid_in, slot_by, Marked, buffer_at, taken_of, taken_in}
use Rattle.ipc_format_grammar.specs.Columns.{validity_in, marked_in}
use Rattle.ipc_format_laws.proofs.Firsts.{came_of, bind_is, same_value, guarded, IsWithin, taken_within, taken_most, bit_take, first_same}

window_by : (bytes : List ℕ) (place n m : ℕ) (found : List ℕ) (test : Bool) → nat_le (place + n) (length bytes) ≡ test
    → (if test then Some (take n (drop place bytes)) else None) ≡ Some found → m ≤ n → window_at bytes place m ≡ Some (take m found)
window_by bytes place n m found false is e h = absurd cc
window_by bytes place n m found true is e h =
    let inside : place + n ≤ length bytes = leb-true (place + n) (length bytes) is in
    let test : nat_le (place + m) (length bytes) ≡ true = le-leb (place + m) (length bytes) (omega arith) in
    rw test (ap Some (sym (take-take m n (drop place bytes) h) ∙ ap (take m) (same_value (take n (drop place bytes)) found e)))

window_first : (bytes : List ℕ) (place n m : ℕ) (found : List ℕ) → window_at bytes place n ≡ Some found → m ≤ n
    → window_at bytes place m ≡ Some (take m found)
window_first bytes place n m found e h = window_by bytes place n m found (nat_le (place + n) (length bytes)) refl e h

-- fewer bytes of a buffer are the first of them
pub buffer_first : (source : Source) (k n m : ℕ) (found : List ℕ) → buffer_at source k n ≡ Some found → m ≤ n
    → buffer_at source k m ≡ Some (take m found)
unfolding buffer_at
buffer_first source k n m found e h =
    let buffer = came_of {A = Buffer} (slice_get source.buffers k) _ found e in
    let offset = came_of {A = ℕ} (natural buffer.0.offset) _ found buffer.2 in
    let stated = came_of {A = ℕ} (natural buffer.0.length) _ found offset.2 in
    let enough = came_of {A = Bool} (guard (nat_le n stated.0)) _ found stated.2 in
    let least : n ≤ stated.0 = leb-true n stated.0 (guarded (nat_le n stated.0) enough.0 enough.1) in
    let test : nat_le m stated.0 ≡ true = le-leb m stated.0 (omega arith) in
    let part = window_first source.room (source.origin + offset.0) n m found enough.2 h in
    bind_is (slice_get source.buffers k) _ buffer.0 buffer.1 ∙ bind_is (natural buffer.0.offset) _ offset.0 offset.1
    ∙ bind_is (natural buffer.0.length) _ stated.0 stated.1 ∙ bind_is (guard (nat_le m stated.0)) _ true (ap guard test) ∙ part

-- a buffer of which so many bytes are taken states as many
pub buffer_states : (source : Source) (k n : ℕ) (found : List ℕ) (buffer : Buffer) (size : ℕ) → buffer_at source k n ≡ Some found
    → slice_get source.buffers k ≡ Some buffer → natural buffer.length ≡ Some size → n ≤ size
unfolding buffer_at
buffer_states source k n found buffer size e at is =
    let there = came_of {A = Buffer} (slice_get source.buffers k) _ found e in
    let same : there.0 ≡ buffer = same_value there.0 buffer (sym there.1 ∙ at) in
    let offset = came_of {A = ℕ} (natural there.0.offset) _ found there.2 in
    let stated = came_of {A = ℕ} (natural there.0.length) _ found offset.2 in
    let length_is : stated.0 ≡ size = same_value stated.0 size (sym stated.1 ∙ ap (λ (b : Buffer). natural b.length) same ∙ is) in
    let enough = came_of {A = Bool} (guard (nat_le n stated.0)) _ found stated.2 in
    let least : n ≤ stated.0 = leb-true n stated.0 (guarded (nat_le n stated.0) enough.0 enough.1) in
    subst (λ (s : ℕ). n ≤ s) length_is least

-- ---- validity

-- the validity of fewer slots, the same of each of them
record ValidityFirst (source : Source) (node : FieldNode) (k few : ℕ) (validity : Validity) : Type 0 where
  first : Validity
  is : validity_in source node k few ≡ Some first
  same : (i : ℕ) → i < few → is_valid_in first i ≡ is_valid_in validity i

validity_by : (source : Source) (node : FieldNode) (k many few : ℕ) (validity : Validity) (buffer : Buffer) (test : Bool)
    → slice_get source.buffers k ≡ Some buffer → int_lt (pos 0) node.null_count ≡ test
    → (if test then (buffer_at source k ((many + 7) / 8) >>= (λ bits. Some (bitmap bits))) else Some all_valid) ≡ Some validity → few ≤ many
    → ValidityFirst source node k few validity
unfolding validity_in
validity_by source node k many few validity buffer false there is e h = record {
  first = all_valid;
  is = rw (there, is) refl;
  same = λ (i : ℕ) (inside : i < few). ap (λ v. is_valid_in v i) (same_value all_valid validity e);
}
validity_by source node k many few validity buffer true there is e h =
    let bits = came_of {A = List ℕ} (buffer_at source k ((many + 7) / 8)) _ validity e in
    let part = buffer_first source k ((many + 7) / 8) ((few + 7) / 8) bits.0 bits.1 (omega arith) in
    record {
      first = bitmap (take ((few + 7) / 8) bits.0);
      is = rw (there, is, part) refl;
      same = λ (i : ℕ) (inside : i < few).
          bit_take bits.0 few i inside ∙ ap (λ v. is_valid_in v i) (same_value (bitmap bits.0) validity bits.2);
    }

validity_first : (source : Source) (node : FieldNode) (k many few : ℕ) (validity : Validity) → validity_in source node k many ≡ Some validity
    → few ≤ many → ValidityFirst source node k few validity
unfolding validity_in
validity_first source node k many few validity e h =
    let buffer = came_of {A = Buffer} (slice_get source.buffers k) _ validity e in
    validity_by source node k many few validity buffer.0 (int_lt (pos 0) node.null_count) buffer.1 refl buffer.2 h

-- what is taken of a column under a limit within the column's own
pub record MarkedFirst (at : Place) (limit : Option ℕ) (marked : Marked) : Type 0 where
  pub first : Marked
  pub is : marked_in (record at { limit = limit }) ≡ Some first
  pub count : first.taken ≡ taken_of limit marked.taken
  pub fewer : first.taken ≤ marked.taken
  pub same : (i : ℕ) → i < first.taken → is_valid_in first.validity i ≡ is_valid_in marked.validity i

pub marked_first : (at : Place) (limit : Option ℕ) (marked : Marked) → IsWithin limit at.limit → marked_in at ≡ Some marked
    → MarkedFirst at limit marked
unfolding marked_in
marked_first at limit marked within e =
    let node = came_of {A = FieldNode} (slice_get at.source.nodes at.node) _ marked e in
    let taken = came_of {A = ℕ} (taken_in at node.0) _ marked node.2 in
    let count = came_of {A = ℕ} (natural node.0.length) _ taken.0 taken.1 in
    let taken_is : taken_of at.limit count.0 ≡ taken.0 = same_value (taken_of at.limit count.0) taken.0 count.2 in
    let validity = came_of {A = Validity} (validity_in at.source node.0 at.buffer taken.0) _ marked taken.2 in
    let marked_is : record { taken = taken.0; validity = validity.0 } ≡ marked =
    same_value (record { taken = taken.0; validity = validity.0 }) marked validity.2 in
    let few : ℕ = taken_of limit count.0 in
    let few_is : few ≡ taken_of limit taken.0 = sym (taken_within limit at.limit count.0 within) ∙ ap (taken_of limit) taken_is in
    let fewer : few ≤ taken.0 = subst (λ (n : ℕ). n ≤ taken.0) (sym few_is) (taken_most limit taken.0) in
    let first = validity_first at.source node.0 at.buffer taken.0 few validity.0 validity.1 fewer in
    subst (MarkedFirst at limit) marked_is (record {
      first = record { taken = few; validity = first.first };
      is = bind_is (slice_get at.source.nodes at.node) _ node.0 node.1
          ∙ bind_is (taken_in (record at { limit = limit }) node.0) _ few (bind_is (natural node.0.length) _ count.0 count.1)
          ∙ bind_is (validity_in at.source node.0 at.buffer few) _ first.first first.is;
      count = few_is;
      fewer = fewer;
      same = first.same;
    })

-- the first slots, by their values and validity
pub slots_first : (validity first : Validity) (value value' : ℕ → Slot) (few many : ℕ) → few ≤ many
    → ((i : ℕ) → i < few → is_valid_in first i ≡ is_valid_in validity i) → ((i : ℕ) → i < few → value' i ≡ value i)
    → window (slot_by first value') 0 few ≡ take few (window (slot_by validity value) 0 many)
slots_first validity first value value' few many h valid each =
    first_same (slot_by validity value) (slot_by first value') few many h
    (λ (i : ℕ) (inside : i < few). ap₂ (λ (b : Bool) (slot : Slot). if b then slot else null) (valid i inside) (each i inside))
