-- Columns of unions made of ids, places and children: their slots are those that the format gives (Arrow columnar format, "Union Layout").
use Rattle.std.proofs.Common.{inl, inr, ◌≡◌, ◌∙◌, ℕ, zero, suc, ◌+◌, ◌-◌, ◌≤◌, ◌<◌, ℤ, pos, Bool, true, false, ◌&&◌, List, [], ◌∷◌, length, map}
use Rattle.std.proofs.Common.{take, drop, refl, sym, ap, subst, arith, get_or, ◌==◌}
use Rattle.std.specs.Prelude.{Option, Some, None, int_le, slice_index_or, if◌then◌else◌}
use Rattle.std.specs.List.{list_all}
use Rattle.std.proofs.Math.Nat.{min-le_right}
use Rattle.std.proofs.lemmas.Bool.{and_from, and_parts, cases_Bool, eq-eqb, false_from_ne_true, le-leb, true≢false}
use Rattle.ipc_format_array_reading.specs.columnar_memory.declared.DataType.{DataType}
use Rattle.ipc_format_array_reading.specs.columnar_memory.declared.DataType.TheOpen as layer
use Rattle.ipc_format_array_reading.specs.columnar_memory.declared.Field.{Field}
use Rattle.ipc_format_array_reading.specs.columnar_memory.declared.UnionMode.{UnionMode}
use Rattle.ipc_format_array_reading.specs.columnar_memory.declared.UnionMode.TheVariants as modes
use Rattle.ipc_format_array_reading.specs.columns.Kinds.{is_signed}
use Rattle.ipc_format_array_reading.specs.columns.Slots.{Slot, window}
use Rattle.ipc_format_array_reading.specs.columns.SoundColumns.{are_sound, has_an_id_each, has_child_at, has_child_types, has_places, have_len}
use Rattle.ipc_format_array_reading.specs.columns.SoundColumns.{have_types, holds_below, is_offset, is_sound}
use Rattle.ipc_format_array_reading.specs.columns.StoredColumns.{Column, child_number, column_len, cut, in_columns, picked_at, place_of, slot_at, slots, type_layer}
use Rattle.ipc_format_array_reading.specs.columns.StoredColumns.{union_place, unions}
use Rattle.ipc_format_array_reading.proofs.Conditions.{holds_at, holds_from, parts_of_5}
use Rattle.ipc_format_array_reading.proofs.CutsOfCuts.{slots-cut}
use Rattle.ipc_format_array_reading.proofs.TypeLayers.{Layer}
use Rattle.ipc_format_array_reading.specs.flatbuffers.Reading.{◌>>=◌}
use Rattle.ipc_format_array_reading.specs.grammar.Columns.{all_of, are_as_long, have_length, taken_of}
use Rattle.ipc_format_array_reading.specs.Parts.{choices, sound_column}
use Rattle.ipc_format_reading.proofs.JoinedSlots.{AreTyped, choice_at, joined_choices, place_at, typed_each}
use Rattle.ipc_format_reading.proofs.MadeLists.{all_from}
use Rattle.ipc_format_reading.proofs.MadeRecords.{lengths_same, lens_same}
use Rattle.ipc_format_reading.proofs.UnionSlots.{IsPicked, all_there, fails_at, is_there, one_missing, pick_same}

-- whether slot i of a union has its child, with a place in it
abbrev has_slot : Layer → List ℤ → Option (List ℤ) → List Column → ℕ → Bool
has_slot x ids places cs i = is_there x cs (slice_index_or ids i (pos 0)) (place_at places i)

place_same : (places : Option (List ℤ)) (i : ℕ) → union_place places i ≡ place_of (place_at places i)
place_same None i = refl
place_same (Some places) i = refl

-- ---- under a limit

taken_within : (limit : Option ℕ) (n : ℕ) → taken_of limit n ≤ n
taken_within None n = omega arith
taken_within (Some limit) n = min-le_right limit n

drop_none : {A : Type 0} (xs : List A) → drop 0 xs ≡ xs
drop_none [] = refl
drop_none (x ∷ xs) = refl

first_slots : (c : Column) (n : ℕ) → is_sound c ≡ true → n ≤ column_len c → slots (cut c 0 n) ≡ take n (slots c)
first_slots c n sound within =
    let size : 0 + n - 0 ≡ n = omega arith in
    slots-cut c 0 n sound (omega arith) ∙ ap (λ (k : ℕ). take k (drop 0 (slots c))) size ∙ ap (take n) (drop_none (slots c))

-- ---- whether all slots are there

-- What makes a union sound: children that are long enough, and for each slot one that has it.
record IsSoundBy (long held : Bool) (whole : Column) : Type 0 where
  both : long ≡ true → held ≡ true → is_sound whole ≡ true
  first : is_sound whole ≡ true → long ≡ true
  second : is_sound whole ≡ true → held ≡ true

choices_by : (t : DataType) (us : List Field) (numbers : Option (List ℤ)) (mode : UnionMode) (limit : Option ℕ) (ids : List ℤ)
    (places : Option (List ℤ)) (cs : List Column)
    → IsSoundBy (are_as_long mode (length ids) (map slots cs)) (holds_below (length ids) (has_slot (type_layer t) ids places cs))
    (unions t ids places (in_columns cs))
    → ((id place : ℤ) → IsPicked (type_layer t) us numbers cs id place)
    → joined_choices us numbers mode limit ids places (map slots cs)
    ≡ (sound_column limit (choices ids places) (unions t ids places (in_columns cs)) >>= (λ whole. Some (slots whole)))
choices_by t us numbers mode limit ids places cs by pick =
    let whole : Column = unions t ids places (in_columns cs) in
    let n : ℕ = length ids in
    let long : Bool = are_as_long mode n (map slots cs) in
    let test : ℕ → Bool = has_slot (type_layer t) ids places cs in
    let choice : ℕ → Option Slot = choice_at us numbers ids places (map slots cs) in
    let m : ℕ = taken_of limit n in
    let none : is_sound whole ≡ false
    → (sound_column limit (choices ids places) whole >>= (λ whole. Some (slots whole))) ≡ None =
    λ unsound. ap (λ (b : Bool). (if b then Some (cut whole 0 m) else None) >>= (λ (whole : Column). Some (slots whole))) unsound in
    elim (cases_Bool long) [
      | inl is_long ↦ elim (cases_Bool (holds_below n test)) [
        | inl held ↦
            let sound : is_sound whole ≡ true = by.both is_long held in
            let all : all_of (window choice 0 n) ≡ Some (window (slot_at whole) 0 n) =
            all_there choice (slot_at whole) 0 n (λ (i : ℕ) (inside : i < n).
            there_is (0 + i) (holds_at n test (0 + i) held (omega arith))) in
            rw (is_long, all) (ap Some (sym (first_slots whole m sound (taken_within limit n)))
            ∙ sym (ap (λ (b : Bool). (if b then Some (cut whole 0 m) else None) >>= (λ (whole : Column). Some (slots whole))) sound))
        | inr missing ↦
            let at = fails_at n test missing in
            let unsound : is_sound whole ≡ false =
            false_from_ne_true (is_sound whole) (λ sound. true≢false (sym (by.second sound) ∙ missing)) in
            let gone : all_of (window choice 0 n) ≡ None = one_missing choice 0 n at.0 at.1 (not_there at.0 at.2) in
            rw (is_long, gone) (sym (none unsound))
      ]
      | inr short ↦
          let unsound : is_sound whole ≡ false =
          false_from_ne_true (is_sound whole) (λ sound. true≢false (sym (by.first sound) ∙ short)) in
          rw short (sym (none unsound))
    ]
  where
    picked_is : (i : ℕ) → (b : Bool) → has_slot (type_layer t) ids places cs i ≡ b
        → choice_at us numbers ids places (map slots cs) i
        ≡ (if b then Some (slot_at (unions t ids places (in_columns cs)) i) else None)
    picked_is i b is =
        let id : ℤ = slice_index_or ids i (pos 0) in
        pick id (place_at places i)
        ∙ ap (λ (b : Bool). if b then Some (picked_at (in_columns cs) (child_number (type_layer t) id) (place_of (place_at places i))) else None) is
        ∙ ap (λ (k : ℕ). if b then Some (picked_at (in_columns cs) (child_number (type_layer t) id) k) else None) (sym (place_same places i))

    there_is : (i : ℕ) → has_slot (type_layer t) ids places cs i ≡ true
        → choice_at us numbers ids places (map slots cs) i ≡ Some (slot_at (unions t ids places (in_columns cs)) i)
    there_is i is = picked_is i true is

    zero_more : (i : ℕ) → 0 + i ≡ i
    zero_more i = omega arith

    not_there : (i : ℕ) → has_slot (type_layer t) ids places cs i ≡ false → choice_at us numbers ids places (map slots cs) (0 + i) ≡ None
    not_there i is = ap (choice_at us numbers ids places (map slots cs)) (zero_more i) ∙ picked_is i false is

-- ---- when a union is sound

-- the tests of a union, whatever its mode
record AreUnions (t : DataType) (ids : List ℤ) (places : Option (List ℤ)) (cs : List Column) : Type 0 where
  typed : has_child_types (type_layer t) places (in_columns cs) ≡ true
  fit : list_all (is_signed 8) ids ≡ true
  sound : are_sound (in_columns cs) ≡ true

sound_from : (t : DataType) (ids : List ℤ) (places : Option (List ℤ)) (cs : List Column) → AreUnions t ids places cs
    → has_places ids places (in_columns cs) ≡ true → holds_below (length ids) (has_child_at (type_layer t) ids places (in_columns cs)) ≡ true
    → is_sound (unions t ids places (in_columns cs)) ≡ true
sound_from t ids places cs are placed held =
    let typed : Bool = has_child_types (type_layer t) places (in_columns cs) in
    let fit : Bool = list_all (is_signed 8) ids in
    let there : Bool = has_places ids places (in_columns cs) in
    let each : Bool = holds_below (length ids) (has_child_at (type_layer t) ids places (in_columns cs)) in
    and_from (typed && fit && there && each) (are_sound (in_columns cs))
    (and_from (typed && fit && there) each (and_from (typed && fit) there (and_from typed fit are.typed are.fit) placed) held) are.sound

-- a sound union has places, and for each slot its child
sound_gives : (t : DataType) (ids : List ℤ) (places : Option (List ℤ)) (cs : List Column) → is_sound (unions t ids places (in_columns cs)) ≡ true
    → (has_places ids places (in_columns cs) ≡ true)
    × (holds_below (length ids) (has_child_at (type_layer t) ids places (in_columns cs)) ≡ true)
sound_gives t ids places cs sound =
    let parts = parts_of_5 (has_child_types (type_layer t) places (in_columns cs)) (list_all (is_signed 8) ids)
    (has_places ids places (in_columns cs)) (holds_below (length ids) (has_child_at (type_layer t) ids places (in_columns cs)))
    (are_sound (in_columns cs)) sound in
    (parts.2, parts.3)

sparse_by : (t : DataType) (ids : List ℤ) (cs : List Column) → AreUnions t ids None cs
    → IsSoundBy (have_length (length ids) (map slots cs)) (holds_below (length ids) (has_slot (type_layer t) ids None cs))
    (unions t ids None (in_columns cs))
sparse_by t ids cs are =
    let n : ℕ = length ids in
    let same : have_len (in_columns cs) n ≡ have_length n (map slots cs) = lens_same n cs ∙ sym (lengths_same n cs) in
    record {
      both = λ long held. sound_from t ids None cs are (same ∙ long)
          (holds_from n (has_child_at (type_layer t) ids None (in_columns cs)) (λ (i : ℕ) (inside : i < n).
          (and_parts (int_le (pos 0) (pos i)) (has_child_at (type_layer t) ids None (in_columns cs) i)
          (holds_at n (has_slot (type_layer t) ids None cs) i held inside)).1));
      first = λ sound. sym same ∙ (sound_gives t ids None cs sound).0;
      second = λ sound. holds_from n (has_slot (type_layer t) ids None cs) (λ (i : ℕ) (inside : i < n).
          and_from (int_le (pos 0) (pos i)) (has_child_at (type_layer t) ids None (in_columns cs) i) (le-leb 0 i (omega arith))
          (holds_at n (has_child_at (type_layer t) ids None (in_columns cs)) i (sound_gives t ids None cs sound).1 inside));
    }

-- what holds of each element holds of one
passes_at : {A : Type 0} (test : A → Bool) (xs : List A) (i : ℕ) (d : A) → list_all test xs ≡ true → i < length xs → test (get_or xs i d) ≡ true
passes_at test [] i d all inside = absurd (omega arith)
passes_at test (x ∷ xs) zero d all inside = (and_parts (test x) (list_all test xs) all).0
passes_at test (x ∷ xs) (suc i) d all inside = passes_at test xs i d (and_parts (test x) (list_all test xs) all).1 (omega arith)

dense_by : (t : DataType) (ids places : List ℤ) (cs : List Column) → AreUnions t ids (Some places) cs → length places ≡ length ids
    → list_all (is_signed 32) places ≡ true
    → IsSoundBy true (holds_below (length ids) (has_slot (type_layer t) ids (Some places) cs)) (unions t ids (Some places) (in_columns cs))
dense_by t ids places cs are counted fit =
    let n : ℕ = length ids in
    let child : ℕ → Bool = has_child_at (type_layer t) ids (Some places) (in_columns cs) in
    let slot : ℕ → Bool = has_slot (type_layer t) ids (Some places) cs in
    record {
      both = λ long held. sound_from t ids (Some places) cs are
          (and_from (length places == n) (list_all is_offset places) (eq-eqb (length places) n counted)
          (all_from is_offset places (pos 0) (λ (i : ℕ) (inside : i < length places).
          let place : ℤ = get_or places i (pos 0) in
          and_from (int_le (pos 0) place) (is_signed 32 place)
          (and_parts (int_le (pos 0) place) (child i) (holds_at n slot i held (omega arith))).0
          (passes_at (is_signed 32) places i (pos 0) fit inside))))
          (holds_from n child (λ (i : ℕ) (inside : i < n).
          (and_parts (int_le (pos 0) (get_or places i (pos 0))) (child i) (holds_at n slot i held inside)).1));
      first = λ sound. refl;
      second = λ sound.
          let given = sound_gives t ids (Some places) cs sound in
          let offsets : list_all is_offset places ≡ true = (and_parts (length places == n) (list_all is_offset places) given.0).1 in
          holds_from n slot (λ (i : ℕ) (inside : i < n).
          let place : ℤ = get_or places i (pos 0) in
          and_from (int_le (pos 0) place) (child i)
          (and_parts (int_le (pos 0) place) (is_signed 32 place) (passes_at is_offset places i (pos 0) offsets (omega arith))).0
          (holds_at n child i given.1 inside));
    }

-- ---- unions

-- a union's ids, places and children, by its layer
abbrev HaveTypes : Layer → Option (List ℤ) → List Column → Type 0
HaveTypes x places cs = has_child_types x places (in_columns cs) ≡ true

pub sparse_made : (t : DataType) (us : List Field) (numbers : Option (List ℤ)) (limit : Option ℕ) (ids : List ℤ) (cs : List Column)
    → type_layer t ≡ layer.Union us numbers modes.Sparse → has_an_id_each numbers (length us) ≡ true → AreTyped us cs
    → are_sound (in_columns cs) ≡ true → list_all (is_signed 8) ids ≡ true
    → joined_choices us numbers modes.Sparse limit ids None (map slots cs)
    ≡ (sound_column limit (choices ids None) (unions t ids None (in_columns cs)) >>= (λ whole. Some (slots whole)))
sparse_made t us numbers limit ids cs is each typed sound fit =
    let here : has_child_types (layer.Union us numbers modes.Sparse) None (in_columns cs) ≡ true =
    and_from (has_an_id_each numbers (length us)) (have_types us (in_columns cs)) each (typed_each us cs typed) in
    choices_by t us numbers modes.Sparse limit ids None cs
    (sparse_by t ids cs (record { typed = subst (λ (x : Layer). HaveTypes x None cs) (sym is) here; fit = fit; sound = sound }))
    (λ id place. subst (λ (x : Layer). IsPicked x us numbers cs id place) (sym is) (pick_same us numbers modes.Sparse cs id place each typed))

pub dense_made : (t : DataType) (us : List Field) (numbers : Option (List ℤ)) (limit : Option ℕ) (ids places : List ℤ) (cs : List Column)
    → type_layer t ≡ layer.Union us numbers modes.Dense → has_an_id_each numbers (length us) ≡ true → AreTyped us cs
    → are_sound (in_columns cs) ≡ true → list_all (is_signed 8) ids ≡ true → length places ≡ length ids → list_all (is_signed 32) places ≡ true
    → joined_choices us numbers modes.Dense limit ids (Some places) (map slots cs)
    ≡ (sound_column limit (choices ids (Some places)) (unions t ids (Some places) (in_columns cs)) >>= (λ whole. Some (slots whole)))
dense_made t us numbers limit ids places cs is each typed sound fit counted small =
    let here : has_child_types (layer.Union us numbers modes.Dense) (Some places) (in_columns cs) ≡ true =
    and_from (has_an_id_each numbers (length us)) (have_types us (in_columns cs)) each (typed_each us cs typed) in
    choices_by t us numbers modes.Dense limit ids (Some places) cs
    (dense_by t ids places cs (record { typed = subst (λ (x : Layer). HaveTypes x (Some places) cs) (sym is) here; fit = fit; sound = sound })
    counted small)
    (λ id place. subst (λ (x : Layer). IsPicked x us numbers cs id place) (sym is) (pick_same us numbers modes.Dense cs id place each typed))
