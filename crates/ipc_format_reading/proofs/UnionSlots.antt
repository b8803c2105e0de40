-- The slot that a union picks from its children's slots, and slots that are all there.
use Rattle.std.proofs.Common.{inl, inr, ◌≡◌, ◌∙◌, ◌⊎◌, ℕ, zero, suc, ◌+◌, ◌≤◌, ◌<◌, ℤ, pos, negsuc, Bool, true, false, ◌&&◌, List, [], ◌∷◌, length, map}
use Rattle.std.proofs.Common.{refl, sym, ap, subst, arith, add-zero, nat_lt, slice_index}
use Rattle.std.specs.Prelude.{Option, Some, None, int_le, slice_get, if◌then◌else◌}
use Rattle.std.specs.Ordering.{int_eq}
use Rattle.std.proofs.lemmas.Bool.{and_cases, cases_Bool, cases_lt, eqb-true, le-leb, le-ltb, lt-ltb, true≢false}
use Rattle.std.proofs.lemmas.Bool.Decides.{Decides-int_eq}
use Rattle.std.proofs.lemmas.List.{get_or_past}
use Rattle.std.proofs.lemmas.Option.{slice_get-get_or, slice_get_past}
use Rattle.ipc_format_array_reading.specs.columnar_memory.declared.DataType.{DataType}
use Rattle.ipc_format_array_reading.specs.columnar_memory.declared.DataType.TheOpen as layer
use Rattle.ipc_format_array_reading.specs.columnar_memory.declared.Field.{Field}
use Rattle.ipc_format_array_reading.specs.columnar_memory.declared.UnionMode.{UnionMode}
use Rattle.ipc_format_array_reading.specs.columns.Slots.{Slot, null, pick, window}
use Rattle.ipc_format_array_reading.specs.columns.SoundColumns.{column_lens, has_an_id_each, holds_below}
use Rattle.ipc_format_array_reading.specs.columns.StoredColumns as stored
use Rattle.ipc_format_array_reading.specs.columns.StoredColumns.{Column, child_number, column_len, column_type, in_columns, picked_at, place_of, slot_at, slots}
use Rattle.ipc_format_array_reading.proofs.TypeLayers.{Layer}
use Rattle.ipc_format_array_reading.proofs.Windows.{length-window}
use Rattle.ipc_format_array_reading.specs.flatbuffers.Reading.{◌>>=◌}
use Rattle.ipc_format_array_reading.specs.grammar.Columns.{all_of, child_of, place_of_id}
use Rattle.ipc_format_array_reading.specs.grammar.Messages.{natural}
use Rattle.ipc_format_reading.proofs.JoinedSlots.{AreTyped, picked_of}
use Rattle.ipc_format_reading.proofs.MadeRecords.{slot_there}

-- ---- which child

equal_either_way : (a b : ℤ) → int_eq a b ≡ int_eq b a
equal_either_way a b = elim (cases_Bool (int_eq a b)) [
  | inl same ↦ same ∙ sym ((Decides-int_eq b a).1 (sym ((Decides-int_eq a b).0 same)))
  | inr other ↦ elim (cases_Bool (int_eq b a)) [
    | inl same ↦ absurd (true≢false (sym ((Decides-int_eq a b).1 (sym ((Decides-int_eq b a).0 same))) ∙ other))
    | inr neither ↦ other ∙ sym neither
  ]
]

-- an id stands among those of a type at its place, or nowhere
abbrev IsNamed : Option ℕ → ℕ → ℕ → Type 0
IsNamed named number count = (named ≡ Some number) ⊎ ((named ≡ None) × (count ≤ number))

id_named : (numbers : List ℤ) (id : ℤ) → IsNamed (place_of_id id numbers) (stored.place_of_id numbers id) (length numbers)
id_named [] id = inr (refl, omega arith)
id_named (first ∷ numbers) id = elim (cases_Bool (int_eq first id)) [
  | inl same ↦
      let other : int_eq id first ≡ true = equal_either_way id first ∙ same in
      inl (rw (same, other) refl)
  | inr differs ↦
      let other : int_eq id first ≡ false = equal_either_way id first ∙ differs in
      let number : stored.place_of_id (first ∷ numbers) id ≡ stored.place_of_id numbers id + 1 =
      ap (λ (b : Bool). if b then 0 else stored.place_of_id numbers id + 1) differs in
      elim (id_named numbers id) [
        | inl later ↦ inl (rw (other, differs, later) refl)
        | inr past ↦ inr (rw (other, past.0) refl, omega (arith, past.1, number))
      ]
]

-- the child that an id names, by the number that it means
pub child_named : (us : List Field) (numbers : Option (List ℤ)) (mode : UnionMode) (id : ℤ) → has_an_id_each numbers (length us) ≡ true
    → IsNamed (child_of numbers id) (child_number (layer.Union us numbers mode) id) (length us)
child_named us None mode (pos k) each = inl refl
child_named us None mode (negsuc k) each = inr (refl, omega arith)
child_named us (Some numbers) mode id each =
    let same : length numbers ≡ length us = eqb-true (length numbers) (length us) each in
    subst (λ (n : ℕ). IsNamed (place_of_id id numbers) (stored.place_of_id numbers id) n) same (id_named numbers id)

-- ---- the slot of a child

abbrev if_there : {A : Type 0} → Bool → A → Option A
if_there b x = if b then Some x else None

there_at : (c : Column) (t : DataType) (m : ℕ) → column_type c ≡ t
    → (slice_get (slots c) m >>= (λ slot. Some (pick t slot))) ≡ if_there (nat_lt m (column_len c)) (pick (column_type c) (slot_at c m))
there_at c t m typed =
    let size : length (slots c) ≡ column_len c = length-window (slot_at c) 0 (column_len c) in
    elim (cases_lt m (column_len c)) [
      | inl inside ↦
          let found : slice_get (slots c) m ≡ Some (slot_at c m) =
          slice_get-get_or (slots c) m null (omega arith) ∙ ap Some (slot_there c m null inside) in
          ap (λ (found : Option Slot). found >>= (λ slot. Some (pick t slot))) found
          ∙ ap (λ k. Some (pick k (slot_at c m))) (sym typed)
          ∙ sym (ap (λ (b : Bool). if_there b (pick (column_type c) (slot_at c m))) (lt-ltb m (column_len c) inside))
      | inr past ↦
          ap (λ (found : Option Slot). found >>= (λ slot. Some (pick t slot))) (slice_get_past (slots c) m (omega arith))
          ∙ sym (ap (λ (b : Bool). if_there b (pick (column_type c) (slot_at c m))) (le-ltb m (column_len c) past))
    ]

of_child : (us : List Field) (cs : List Column) (k m : ℕ) → AreTyped us cs
    → picked_of us (map slots cs) (Some k) (Some m)
    ≡ if_there (nat_lt m (slice_index (column_lens (in_columns cs)) k)) (picked_at (in_columns cs) k m)
of_child [] [] k m typed = sym (ap (λ (b : Bool). if_there b null) (le-ltb m 0 (omega arith)))
of_child [] (c ∷ cs) k m typed = absurd cc
of_child (u ∷ us) [] k m typed = absurd cc
of_child (u ∷ us) (c ∷ cs) zero m typed = let first : column_type c ≡ u.data_type = cc in there_at c u.data_type m first
of_child (u ∷ us) (c ∷ cs) (suc k) m typed = let others : AreTyped us cs = cc in of_child us cs k m others

lens_count : (us : List Field) (cs : List Column) → AreTyped us cs → length (column_lens (in_columns cs)) ≡ length us
lens_count [] [] typed = refl
lens_count [] (c ∷ cs) typed = absurd cc
lens_count (u ∷ us) [] typed = absurd cc
lens_count (u ∷ us) (c ∷ cs) typed = let others : AreTyped us cs = cc in ap suc (lens_count us cs others)

-- whether there is a slot for an id at a place, in columns that stand in the order of a layer's children
abbrev pub is_there : Layer → List Column → ℤ → ℤ → Bool
is_there x cs id place =
    int_le (pos 0) place && nat_lt (place_of place) (slice_index (column_lens (in_columns cs)) (child_number x id))

-- what is picked for an id at a place
abbrev pub IsPicked : Layer → List Field → Option (List ℤ) → List Column → ℤ → ℤ → Type 0
IsPicked x us numbers cs id place = picked_of us (map slots cs) (child_of numbers id) (natural place)
    ≡ if_there (is_there x cs id place) (picked_at (in_columns cs) (child_number x id) (place_of place))

nowhere : (named : Option ℕ) (us : List Field) (columns : List (List Slot)) → picked_of us columns named None ≡ None
nowhere None us columns = refl
nowhere (Some k) us columns = elsewhere (slice_get us k) (slice_get columns k)
  where
    elsewhere : {A B : Type 0} (u : Option A) (column : Option B) → ◌>>=◌ {B = Slot} u (λ u. ◌>>=◌ {B = Slot} column (λ column. None)) ≡ None
    elsewhere None column = refl
    elsewhere (Some u) None = refl
    elsewhere (Some u) (Some column) = refl

pub pick_same : (us : List Field) (numbers : Option (List ℤ)) (mode : UnionMode) (cs : List Column) (id place : ℤ)
    → has_an_id_each numbers (length us) ≡ true → AreTyped us cs → IsPicked (layer.Union us numbers mode) us numbers cs id place
pick_same us numbers mode cs id (negsuc m) each typed = nowhere (child_of numbers id) us (map slots cs)
pick_same us numbers mode cs id (pos m) each typed =
    let k : ℕ = child_number (layer.Union us numbers mode) id in
    let lens : List ℕ = column_lens (in_columns cs) in
    let whole : int_le (pos 0) (pos m) ≡ true = le-leb 0 m (omega arith) in
    let test : is_there (layer.Union us numbers mode) cs id (pos m) ≡ nat_lt m (slice_index lens k) =
    ap (λ (b : Bool). b && nat_lt m (slice_index lens k)) whole in
    elim (child_named us numbers mode id each) [
      | inl named ↦
          ap (λ (number : Option ℕ). picked_of us (map slots cs) number (Some m)) named
          ∙ of_child us cs k m typed
          ∙ sym (ap (λ (b : Bool). if_there b (picked_at (in_columns cs) k m)) test)
      | inr past ↦
          let none : slice_index lens k ≡ 0 = get_or_past lens k 0 (omega (arith, past.1, lens_count us cs typed)) in
          ap (λ (number : Option ℕ). picked_of us (map slots cs) number (Some m)) past.0
          ∙ sym (ap (λ (b : Bool). if_there b (picked_at (in_columns cs) k m))
          (test ∙ le-ltb m (slice_index lens k) (omega (arith, none))))
    ]

-- ---- values that are all there, or not

-- each is there
pub all_there : {A : Type 0} (g : ℕ → Option A) (f : ℕ → A) (o n : ℕ) → ((i : ℕ) → i < n → g (o + i) ≡ Some (f (o + i)))
    → all_of (window g o n) ≡ Some (window f o n)
all_there g f o zero each = refl
all_there g f o (suc n) each =
    let first : g o ≡ Some (f o) = ap g (sym (add-zero o)) ∙ each 0 (omega arith) ∙ ap (λ k. Some (f k)) (add-zero o) in
    let others : all_of (window g (o + 1) n) ≡ Some (window f (o + 1) n) =
    all_there g f (o + 1) n (λ (i : ℕ) (inside : i < n).
    ap g (place_after o i) ∙ each (suc i) (omega arith) ∙ ap (λ k. Some (f k)) (sym (place_after o i))) in
    rw (first, others) refl
  where
    place_after : (a i : ℕ) → a + 1 + i ≡ a + suc i
    place_after a i = omega arith

-- one is not there
pub one_missing : {A : Type 0} (g : ℕ → Option A) (o n i : ℕ) → i < n → g (o + i) ≡ None → all_of (window g o n) ≡ None
one_missing g o zero i inside gone = absurd (omega arith)
one_missing {A} g o (suc n) zero inside gone =
    let first : g o ≡ None = ap g (sym (add-zero o)) ∙ gone in
    ap (λ (x : Option A). x >>= (λ x. all_of (window g (o + 1) n) >>= (λ xs. Some (x ∷ xs)))) first
one_missing {A} g o (suc n) (suc i) inside gone =
    let later : all_of (window g (o + 1) n) ≡ None = one_missing g (o + 1) n i (omega arith) (ap g (place_after o i) ∙ gone) in
    ap (λ (others : Option (List A)). g o >>= (λ x. others >>= (λ xs. Some (x ∷ xs)))) later ∙ nothing (g o)
  where
    place_after : (a i : ℕ) → a + 1 + i ≡ a + suc i
    place_after a i = omega arith

    nothing : {A B : Type 0} (x : Option A) → ◌>>=◌ {B = B} x (λ x. None) ≡ None
    nothing None = refl
    nothing (Some x) = refl

-- a place at which a test fails
pub fails_at : (n : ℕ) (test : ℕ → Bool) → holds_below n test ≡ false → (i : ℕ) × (i < n) × (test i ≡ false)
fails_at zero test fails = absurd (true≢false fails)
fails_at (suc n) test fails = elim (and_cases (holds_below n test) (test n) fails) [
  | inl earlier ↦ let found = fails_at n test earlier in (found.0, omega (arith, found.1), found.2)
  | inr here ↦ (n, omega arith, here)
]
