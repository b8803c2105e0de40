-- Columns of structs made of their children: their slots are those that the format gives (Arrow columnar format, "Struct Layout").
use Rattle.std.proofs.Common.{inl, inr, ◌≡◌, ◌∙◌, ℕ, zero, suc, ◌+◌, ◌<◌, Bool, true, false, List, [], ◌∷◌, get_or, map, refl, sym}
use Rattle.std.proofs.Common.{ap, ap₂, arith, add-zero, ◌==◌, ◌&&◌}
use Rattle.std.specs.Prelude.{Option, Some, None, if◌then◌else◌}
use Rattle.std.specs.List.{list_all}
use Rattle.std.proofs.lemmas.Bool.{and_from, and_parts, cases_Bool, eqb-true}
use Rattle.ipc_format_array_reading.specs.columnar_memory.declared.DataType.{DataType}
use Rattle.ipc_format_array_reading.specs.columns.Slots.{Slot, fields, in_slots, null, slot_then, window}
use Rattle.ipc_format_array_reading.specs.columns.SoundColumns.{are_sound, has_field_types, have_len, is_sound, mask_fits}
use Rattle.ipc_format_array_reading.specs.columns.StoredColumns.{Column, column_len, in_columns, records, slot_at, slots, slots_at, type_layer, unless_null}
use Rattle.ipc_format_array_reading.specs.columns.Tables.{row_at}
use Rattle.ipc_format_array_reading.proofs.Windows.{length-window, window_same}
use Rattle.ipc_format_array_reading.specs.flatbuffers.Reading.{◌>>=◌, guard}
use Rattle.ipc_format_array_reading.specs.grammar.Columns.{have_length}
use Rattle.ipc_format_array_reading.specs.Parts.{if_long, marks, sound_column}
use Rattle.ipc_format_reading.proofs.JoinedSlots.{joined_structs}

-- ---- lengths

-- columns have as many slots as their lengths say
pub lengths_same : (n : ℕ) (cs : List Column) → have_length n (map slots cs) ≡ list_all (λ column. column_len column == n) cs
lengths_same n [] = refl
lengths_same n (c ∷ cs) =
    ap₂ (λ (k : ℕ) (b : Bool). (k == n) && b) (length-window (slot_at c) 0 (column_len c)) (lengths_same n cs)

pub lens_same : (n : ℕ) (cs : List Column) → have_len (in_columns cs) n ≡ list_all (λ column. column_len column == n) cs
lens_same n [] = refl
lens_same n (c ∷ cs) = ap (λ (b : Bool). (column_len c == n) && b) (lens_same n cs)

-- ---- rows

place_after : (a i : ℕ) → a + 1 + i ≡ a + suc i
place_after a i = omega arith

-- what stands at a place of a window
pub at_window : {A : Type 0} (f : ℕ → A) (o n i : ℕ) (d : A) → i < n → get_or (window f o n) i d ≡ f (o + i)
at_window f o zero i d inside = absurd (omega arith)
at_window f o (suc n) zero d inside = ap f (sym (add-zero o))
at_window f o (suc n) (suc i) d inside = at_window f (o + 1) n i d (omega arith) ∙ ap f (place_after o i)

-- the slot at a place of a column
pub slot_there : (c : Column) (i : ℕ) (d : Slot) → i < column_len c → get_or (slots c) i d ≡ slot_at c i
slot_there c i d inside = at_window (slot_at c) 0 (column_len c) i d inside ∙ ap (slot_at c) (omega arith)

row_same : (n i : ℕ) (cs : List Column) → list_all (λ column. column_len column == n) cs ≡ true → i < n
    → in_slots (row_at (map slots cs) i) ≡ slots_at (in_columns cs) i
row_same n i [] long inside = refl
row_same n i (c ∷ cs) long inside =
    let parts = and_parts (column_len c == n) (list_all (λ column. column_len column == n) cs) long in
    ap₂ (λ slot slots. slot_then slot slots) (slot_there c i null (omega (arith, eqb-true (column_len c) n parts.0)))
    (row_same n i cs parts.1 inside)

pub structs_made : (t : DataType) (limit : Option ℕ) (taken : ℕ) (mask : Option (List Bool)) (cs : List Column)
    → has_field_types (type_layer t) (in_columns cs) ≡ true → mask_fits mask taken ≡ true → are_sound (in_columns cs) ≡ true
    → joined_structs (marks taken mask) (map slots cs)
    ≡ ((if_long (list_all (λ column. column_len column == taken) cs) (records t mask taken (in_columns cs)) >>= sound_column limit (marks taken mask))
    >>= (λ whole. Some (slots whole)))
structs_made t limit taken mask cs typed marked sound =
    let whole : Column = records t mask taken (in_columns cs) in
    let rows : List Slot = window (λ i. unless_null mask i (fields (in_slots (row_at (map slots cs) i)))) 0 taken in
    elim (cases_Bool (list_all (λ column. column_len column == taken) cs)) [
      | inl long ↦
          let test : have_length taken (map slots cs) ≡ true = lengths_same taken cs ∙ long in
          let are : have_len (in_columns cs) taken ≡ true = lens_same taken cs ∙ long in
          let is : is_sound whole ≡ true =
          and_from (has_field_types (type_layer t) (in_columns cs) && have_len (in_columns cs) taken && mask_fits mask taken)
          (are_sound (in_columns cs))
          (and_from (has_field_types (type_layer t) (in_columns cs) && have_len (in_columns cs) taken) (mask_fits mask taken)
          (and_from (has_field_types (type_layer t) (in_columns cs)) (have_len (in_columns cs) taken) typed are) marked) sound in
          let same : rows ≡ slots whole =
          window_same (λ i. unless_null mask i (fields (in_slots (row_at (map slots cs) i)))) (slot_at whole) 0 0 taken
          (λ (i : ℕ) (inside : i < taken).
          ap (λ row. unless_null mask (0 + i) (fields row)) (row_same taken (0 + i) cs long (omega arith))) in
          ap (λ (b : Bool). guard b >>= (λ _. Some rows)) test
          ∙ ap Some same
          ∙ sym (ap (λ (b : Bool). (if b then Some whole else None) >>= (λ (whole : Column). Some (slots whole))) is)
          ∙ sym (ap (λ (b : Bool). (if_long b whole >>= sound_column limit (marks taken mask)) >>= (λ whole. Some (slots whole))) long)
      | inr short ↦
          let test : have_length taken (map slots cs) ≡ false = lengths_same taken cs ∙ short in
          ap (λ (b : Bool). guard b >>= (λ _. Some rows)) test
          ∙ sym (ap (λ (b : Bool). (if_long b whole >>= sound_column limit (marks taken mask)) >>= (λ whole. Some (slots whole))) short)
    ]
