-- The slots of a table one after the other.
use Rattle.std.proofs.Common.{◌≡◌, ℕ, ◌+◌, ◌-◌, ◌*◌, ◌≤◌, List, [], ◌∷◌, ◌++◌, length, replicate, refl, sym, ap, ◌∙◌, arith, length-append}
use Rattle.std.specs.List.{flat_map}
use Rattle.std.specs.Int.{w16, w32, to_le_bytes, next_multiple_of}
use Rattle.std.proofs.lemmas.List.{length-replicate}
use Rattle.ipc_format_flatbuffers.specs.Laying.{TableSlot, absent, number, refers, Piece, after, entry_of, table_end, entries, field_start}
use Rattle.ipc_format_flatbuffers.specs.Laying.{field_bytes, child_bytes, fields, vtable, table_bytes, table_piece}
use Rattle.ipc_format_flatbuffers.proofs.Numbers.{length-to_le_bytes, padded_is, length-padded}
use Rattle.ipc_format_flatbuffers.proofs.Rest.{three_written, four_written}

-- bytes, and where references to them point
abbrev pub the_piece : List ℕ → ℕ → Piece
the_piece bytes entry = record { bytes = bytes; entry = entry }

-- a vtable has two bytes for each slot
pub length-entries : (at : ℕ) (slots : List TableSlot) → length (entries at slots) ≡ 2 * length slots
length-entries at [] = refl
length-entries at (slot ∷ slots) =
    omega (arith, length-entries (after at slot) slots, length-append (to_le_bytes w16 (entry_of at slot)) (entries (after at slot) slots))

-- a field's bytes end where the field ends
pub length-field_bytes : (at child : ℕ) (slot : TableSlot) → at + length (field_bytes at child slot) ≡ after at slot
length-field_bytes at child absent = omega arith
length-field_bytes at child (number w n) =
    let zeros = length-replicate {A = ℕ} (field_start at w - at) 0 in
    omega (arith, zeros, length-append (replicate {A = ℕ} (field_start at w - at) 0) (to_le_bytes w n), length-to_le_bytes w n)
length-field_bytes at child (refers piece) =
    let zeros = length-replicate {A = ℕ} (field_start at w32 - at) 0 in
    let distance = child + piece.entry - field_start at w32 in
    omega (arith, zeros, length-append (replicate {A = ℕ} (field_start at w32 - at) 0) (to_le_bytes w32 distance))

pub length-fields : (at child : ℕ) (slots : List TableSlot) → at + length (fields at child slots) ≡ table_end at slots
length-fields at child [] = omega arith
length-fields at child (slot ∷ slots) =
    omega (
      arith,
      length-append (field_bytes at child slot) (fields (after at slot) (child + length (child_bytes slot)) slots),
      length-field_bytes at child slot,
      length-fields (after at slot) (child + length (child_bytes slot)) slots,
    )

-- the fields end no earlier than they begin
pub table_end_after : (at : ℕ) (slots : List TableSlot) → at ≤ table_end at slots
table_end_after at slots = omega (arith, length-fields at 0 slots)

-- a vtable that was written part by part
pub vtable_written : (slots : List TableSlot) (n count : ℕ) (out o1 o2 o3 o4 : List ℕ) → n ≡ 4 + 2 * length slots → count ≡ next_multiple_of n 8 - n
    → o1 ≡ out ++ to_le_bytes w16 n → o2 ≡ o1 ++ to_le_bytes w16 (table_end 4 slots) → o3 ≡ o2 ++ entries 4 slots → o4 ≡ o3 ++ replicate count 0
    → o4 ≡ out ++ vtable slots
vtable_written slots n count out o1 o2 o3 o4 n-is count-is e1 e2 e3 e4 =
    let zeros = replicate {A = ℕ} (next_multiple_of n 8 - n) 0 in
    let parts : List ℕ = to_le_bytes w16 (4 + 2 * length slots) ++ to_le_bytes w16 (table_end 4 slots) ++ entries 4 slots in
    let size : length parts ≡ n = omega (arith, length-entries 4 slots) in
    let whole = four_written out (to_le_bytes w16 (4 + 2 * length slots)) (to_le_bytes w16 (table_end 4 slots)) (entries 4 slots) zeros o1 o2 o3 o4
    (e1 ∙ ap (λ (k : ℕ). out ++ to_le_bytes w16 k) n-is) e2 e3 (e4 ∙ ap (λ (k : ℕ). o3 ++ replicate k 0) count-is) in
    whole ∙ ap (λ (bytes : List ℕ). out ++ bytes) (padded_is parts n size)

-- a table that was written part by part behind its vtable
pub table_written : (slots : List TableSlot) (vtable_len end table_len count : ℕ) (out o1 o2 o3 : List ℕ) → vtable_len ≡ length (vtable slots)
    → end ≡ table_end 4 slots → table_len ≡ next_multiple_of end 8 → count ≡ table_len - end
    → o1 ≡ out ++ to_le_bytes w32 vtable_len → o2 ≡ o1 ++ fields 4 table_len slots → o3 ≡ o2 ++ replicate count 0 → o3 ≡ out ++ table_bytes slots
table_written slots vtable_len end table_len count out o1 o2 o3 vtable_len-is end-is table_len-is count-is e1 e2 e3 =
    let first = next_multiple_of (table_end 4 slots) 8 in
    let zeros = replicate {A = ℕ} (first - table_end 4 slots) 0 in
    let back = to_le_bytes w32 (length (vtable slots)) in
    let parts : List ℕ = back ++ fields 4 first slots in
    let size : length parts ≡ table_end 4 slots =
    omega (arith, length-append back (fields 4 first slots), length-to_le_bytes w32 (length (vtable slots)), length-fields 4 first slots) in
    let first-is : table_len ≡ first = table_len-is ∙ ap (λ (k : ℕ). next_multiple_of k 8) end-is in
    let count-first : count ≡ first - table_end 4 slots = rw (← first-is, ← end-is) count-is in
    let whole = three_written out back (fields 4 first slots) zeros o1 o2 o3 (e1 ∙ ap (λ (k : ℕ). out ++ to_le_bytes w32 k) vtable_len-is)
    (e2 ∙ ap (λ (k : ℕ). o1 ++ fields 4 k slots) first-is) (e3 ∙ ap (λ (k : ℕ). o2 ++ replicate k 0) count-first) in
    whole ∙ ap (λ (bytes : List ℕ). out ++ bytes) (padded_is parts (table_end 4 slots) size)

-- a vtable's bytes
pub length-vtable : (slots : List TableSlot) (count : ℕ) → length slots ≡ count → next_multiple_of (4 + 2 * count) 8 ≡ length (vtable slots)
length-vtable slots count e =
    let parts : List ℕ = to_le_bytes w16 (4 + 2 * length slots) ++ to_le_bytes w16 (table_end 4 slots) ++ entries 4 slots in
    let size : length parts ≡ 4 + 2 * length slots = omega (arith, length-entries 4 slots) in
    sym (length-padded parts ∙ ap (λ (k : ℕ). next_multiple_of k 8) size ∙ ap (λ (k : ℕ). next_multiple_of (4 + 2 * k) 8) e)

-- a table's own bytes
pub length-table_bytes : (slots : List TableSlot) → length (table_bytes slots) ≡ next_multiple_of (table_end 4 slots) 8
length-table_bytes slots =
    let first = next_multiple_of (table_end 4 slots) 8 in
    let back = to_le_bytes w32 (length (vtable slots)) in
    let parts : List ℕ = back ++ fields 4 first slots in
    let size : length parts ≡ table_end 4 slots =
    omega (arith, length-append back (fields 4 first slots), length-to_le_bytes w32 (length (vtable slots)), length-fields 4 first slots) in
    length-padded parts ∙ ap (λ (k : ℕ). next_multiple_of k 8) size

-- the bytes of a table with everything that it refers to
pub length-table_piece : (slots : List TableSlot) (vtable_len end table_len children : ℕ) → vtable_len ≡ length (vtable slots) → end
    ≡ table_end 4 slots
    → table_len ≡ next_multiple_of end 8 → children ≡ length (flat_map child_bytes slots)
    → length (table_piece slots).bytes ≡ vtable_len + table_len + children
unfolding table_piece
length-table_piece slots vtable_len end table_len children vtable_len-is end-is table_len-is children-is =
    let own : length (table_bytes slots) ≡ table_len =
    length-table_bytes slots ∙ ap (λ (k : ℕ). next_multiple_of k 8) (sym end-is) ∙ sym table_len-is in
    omega (
      arith,
      own,
      length-append (vtable slots ++ table_bytes slots) (flat_map child_bytes slots),
      length-append (vtable slots) (table_bytes slots),
    )

-- a table whose three parts were written
pub table_laid : (slots : List TableSlot) (entry : ℕ) (o0 o1 o2 o3 : List ℕ) → entry ≡ length (vtable slots) → o0 ≡ [] → o1 ≡ o0 ++ vtable slots
    → o2 ≡ o1 ++ table_bytes slots → o3 ≡ o2 ++ flat_map child_bytes slots
    → the_piece o3 entry ≡ table_piece slots
unfolding table_piece
table_laid slots entry o0 o1 o2 o3 entry-is e0 e1 e2 e3 = rw (e3, e2, e1, e0, entry-is) refl
