-- What is made of parts and children has the slots that the format gives; where these give none, nothing is made.
use Rattle.std.proofs.Common.{◌≡◌, ◌∙◌, ℕ, ℤ, Bool, true, false, List, [], ◌∷◌, map, refl, sym, ap, subst, nat_lt, ◌==◌}
use Rattle.std.specs.Prelude.{Option, Some, None}
use Rattle.std.proofs.lemmas.Bool.{and_from, and_parts, eq-eqb, false≢true}
use Rattle.ipc_format_array_reading.specs.columnar_memory.Equality.{same_type}
use Rattle.ipc_format_array_reading.specs.columnar_memory.Layouts.{physical_type}
use Rattle.ipc_format_array_reading.specs.columnar_memory.declared.DataType.{DataType}
use Rattle.ipc_format_array_reading.specs.columnar_memory.declared.DataType.TheOpen as layer
use Rattle.ipc_format_array_reading.specs.columnar_memory.declared.DataType.TheViews.{out-DataType}
use Rattle.ipc_format_array_reading.specs.columnar_memory.declared.Field.{Field}
use Rattle.ipc_format_array_reading.specs.columnar_memory.declared.PhysicalType.{PhysicalType}
use Rattle.ipc_format_array_reading.specs.columnar_memory.declared.UnionMode.TheVariants as modes
use Rattle.ipc_format_array_reading.specs.columns.Kinds.{most_offset}
use Rattle.ipc_format_array_reading.specs.columns.SoundColumns.{are_sound, has_child_types, has_field_types, has_fixed_item_type, has_item_type, is_entry}
use Rattle.ipc_format_array_reading.specs.columns.SoundColumns.{is_sound}
use Rattle.ipc_format_array_reading.specs.columns.StoredColumns.{Column, column_type, in_columns, slots, type_layer}
use Rattle.ipc_format_array_reading.proofs.TypeLayers.{Layer, layer_layout, layout_is}
use Rattle.ipc_format_array_reading.specs.flatbuffers.Reading.{◌>>=◌}
use Rattle.ipc_format_array_reading.specs.ArrayReads.{fields_below}
use Rattle.ipc_format_array_reading.specs.Parts.{Parts, choices, joined_column, made_column, marks, sound_column, spans}
use Rattle.ipc_format_reading.proofs.JoinedSlots.{AreChildren, AreSpans, AreTyped, AreWhole, joined_lists, joined_slots, layer_arrays}
use Rattle.ipc_format_reading.proofs.JoinedSlots.{one_child, same_itself, typed_each}
use Rattle.ipc_format_reading.proofs.MadeFixedLists.{fixed_lists_made}
use Rattle.ipc_format_reading.proofs.MadeLists.{lists_made}
use Rattle.ipc_format_reading.proofs.MadeNone.{choices_gone, spans_gone}
use Rattle.ipc_format_reading.proofs.MadeRecords.{structs_made}
use Rattle.ipc_format_reading.proofs.MadeUnions.{dense_made, sparse_made}

-- what is made by a layer
abbrev made_by : Layer → DataType → Option ℕ → Parts → List Column → Option Column
made_by x t limit parts cs = joined_column x t parts cs >>= sound_column limit parts

-- what is made has the slots of its parts
abbrev HasSlots : Layer → DataType → Option ℕ → Parts → List Column → Type 0
HasSlots x t limit parts cs = joined_slots x limit parts (map slots cs) ≡ (made_by x t limit parts cs >>= (λ c. Some (slots c)))

gone : (made : Option Column) → made ≡ None → None ≡ (made >>= (λ c. Some (slots c)))
gone made none = sym (ap (λ (made : Option Column). made >>= (λ c. Some (slots c))) none)

-- ---- lists by offsets

no_spans : (x : Layer) (t : DataType) (limit : Option ℕ) (taken : ℕ) (mask : Option (List Bool)) (offsets : List ℕ) (cs : List Column)
    → type_layer t ≡ x → ((c : Column) → has_item_type x (column_type c) ≡ false)
    → None ≡ (made_by x t limit (spans taken mask offsets) cs >>= (λ c. Some (slots c)))
no_spans x t limit taken mask offsets cs is other =
    gone (made_by x t limit (spans taken mask offsets) cs) (spans_gone t limit taken mask offsets cs
    (λ c one. subst (λ (x : Layer). has_item_type x (column_type c) ≡ false) (sym is) (other c)))

no_choices : (x : Layer) (t : DataType) (limit : Option ℕ) (ids : List ℤ) (places : Option (List ℤ)) (cs : List Column)
    → type_layer t ≡ x → has_child_types x places (in_columns cs) ≡ false
    → None ≡ (made_by x t limit (choices ids places) cs >>= (λ c. Some (slots c)))
no_choices x t limit ids places cs is other =
    gone (made_by x t limit (choices ids places) cs) (choices_gone t limit ids places cs
    (subst (λ (x : Layer). has_child_types x places (in_columns cs) ≡ false) (sym is) other))

-- of a layer whose arrays are lists of a field's type
spans_made : (x : Layer) (t : DataType) (limit : Option ℕ) (u : Field) (taken : ℕ) (mask : Option (List Bool)) (offsets : List ℕ) (cs : List Column)
    → type_layer t ≡ x → AreSpans (most_offset (layer_layout x)) taken mask offsets → are_sound (in_columns cs) ≡ true → AreTyped (u ∷ []) cs
    → ((c : Column) → column_type c ≡ u.data_type → has_item_type x (column_type c) ≡ true)
    → joined_lists (spans taken mask offsets) (map slots cs) ≡ (made_by x t limit (spans taken mask offsets) cs >>= (λ c. Some (slots c)))
spans_made x t limit u taken mask offsets [] is are sound typed items = absurd cc
spans_made x t limit u taken mask offsets (c ∷ []) is are sound typed items =
    let lies : layer_layout x ≡ physical_type t = sym (layout_is t ∙ ap layer_layout is) in
    lists_made t limit taken mask offsets c
    (subst (λ (x : Layer). has_item_type x (column_type c) ≡ true) (sym is) (items c (one_child u c typed)))
    (their_layout lies are) (and_parts (is_sound c) (are_sound (in_columns [])) sound).0
  where
    their_layout : layer_layout x ≡ physical_type t → AreSpans (most_offset (layer_layout x)) taken mask offsets
        → AreSpans (most_offset (physical_type t)) taken mask offsets
    their_layout lies are = subst (λ (layout : PhysicalType). AreSpans (most_offset layout) taken mask offsets) lies are
spans_made x t limit u taken mask offsets (c ∷ d ∷ cs) is are sound typed items = absurd cc

lists_at : (item : Field) (c : Column) → column_type c ≡ item.data_type → same_type item.data_type (column_type c) ≡ true
lists_at item c typed = same_itself (column_type c) item.data_type typed

entries_at : (entry : Field) (c : Column) → is_entry (out-DataType entry.data_type) ≡ true → column_type c ≡ entry.data_type
    → has_item_type (layer.Map entry false) (column_type c) ≡ true
entries_at entry c entries typed =
    and_from (same_type entry.data_type (column_type c)) (is_entry (out-DataType (column_type c))) (lists_at entry c typed)
    (ap (λ (t : DataType). is_entry (out-DataType t)) typed ∙ entries)

-- ---- lists of one size

marks_made : (t : DataType) (limit : Option ℕ) (item : Field) (size taken : ℕ) (mask : Option (List Bool)) (cs : List Column)
    → type_layer t ≡ layer.FixedSizeList item size → nat_lt 0 size ≡ true → AreWhole (layer.FixedSizeList item size) (marks taken mask)
    → are_sound (in_columns cs) ≡ true → AreTyped (item ∷ []) cs → HasSlots (layer.FixedSizeList item size) t limit (marks taken mask) cs
marks_made t limit item size taken mask [] is sized are sound typed = absurd cc
marks_made t limit item size taken mask (c ∷ []) is sized are sound typed =
    let here : has_fixed_item_type (layer.FixedSizeList item size) size (column_type c) ≡ true =
    and_from (size == size) (same_type item.data_type (column_type c)) (eq-eqb size size refl) (lists_at item c (one_child item c typed)) in
    fixed_lists_made t limit size taken mask c
    (subst (λ (x : Layer). has_fixed_item_type x size (column_type c) ≡ true) (sym is) here) sized are
    (and_parts (is_sound c) (are_sound (in_columns [])) sound).0
marks_made t limit item size taken mask (c ∷ d ∷ cs) is sized are sound typed = absurd cc

-- ---- every layer

by_layer : (x : Layer) (t : DataType) (limit : Option ℕ) (parts : Parts) (cs : List Column) → type_layer t ≡ x → layer_arrays x ≡ true
    → AreWhole x parts → are_sound (in_columns cs) ≡ true → AreTyped (fields_below x) cs → HasSlots x t limit parts cs
by_layer (layer.List item) t limit (marks taken mask) cs is arrays are sound typed = refl
by_layer (layer.List item) t limit (spans taken mask offsets) cs is arrays are sound typed =
    spans_made (layer.List item) t limit item taken mask offsets cs is are sound typed (lists_at item)
by_layer (layer.List item) t limit (choices ids places) cs is arrays are sound typed =
    no_choices (layer.List item) t limit ids places cs is refl
by_layer (layer.LargeList item) t limit (marks taken mask) cs is arrays are sound typed = refl
by_layer (layer.LargeList item) t limit (spans taken mask offsets) cs is arrays are sound typed =
    spans_made (layer.LargeList item) t limit item taken mask offsets cs is are sound typed (lists_at item)
by_layer (layer.LargeList item) t limit (choices ids places) cs is arrays are sound typed =
    no_choices (layer.LargeList item) t limit ids places cs is refl
by_layer (layer.Map entry is_sorted) t limit (marks taken mask) cs is arrays are sound typed = refl
by_layer (layer.Map entry is_sorted) t limit (spans taken mask offsets) cs is arrays are sound typed =
    spans_made (layer.Map entry is_sorted) t limit entry taken mask offsets cs is are sound typed (λ c same. entries_at entry c arrays same)
by_layer (layer.Map entry is_sorted) t limit (choices ids places) cs is arrays are sound typed =
    no_choices (layer.Map entry is_sorted) t limit ids places cs is refl
by_layer (layer.FixedSizeList item size) t limit (marks taken mask) cs is arrays are sound typed =
    marks_made t limit item size taken mask cs is arrays are sound typed
by_layer (layer.FixedSizeList item size) t limit (spans taken mask offsets) cs is arrays are sound typed =
    no_spans (layer.FixedSizeList item size) t limit taken mask offsets cs is (λ c. refl)
by_layer (layer.FixedSizeList item size) t limit (choices ids places) cs is arrays are sound typed =
    no_choices (layer.FixedSizeList item size) t limit ids places cs is refl
by_layer (layer.Struct []) t limit parts cs is arrays are sound typed = absurd (false≢true arrays)
by_layer (layer.Struct (u ∷ us)) t limit (marks taken mask) cs is arrays are sound typed =
    structs_made t limit taken mask cs
    (subst (λ (x : Layer). has_field_types x (in_columns cs) ≡ true) (sym is) (typed_each (u ∷ us) cs typed)) are sound
by_layer (layer.Struct (u ∷ us)) t limit (spans taken mask offsets) cs is arrays are sound typed =
    no_spans (layer.Struct (u ∷ us)) t limit taken mask offsets cs is (λ c. refl)
by_layer (layer.Struct (u ∷ us)) t limit (choices ids places) cs is arrays are sound typed =
    no_choices (layer.Struct (u ∷ us)) t limit ids places cs is refl
by_layer (layer.Union us numbers modes.Sparse) t limit (marks taken mask) cs is arrays are sound typed = refl
by_layer (layer.Union us numbers modes.Sparse) t limit (spans taken mask offsets) cs is arrays are sound typed =
    no_spans (layer.Union us numbers modes.Sparse) t limit taken mask offsets cs is (λ c. refl)
by_layer (layer.Union us numbers modes.Sparse) t limit (choices ids None) cs is arrays are sound typed =
    sparse_made t us numbers limit ids cs is arrays typed sound are.fit
by_layer (layer.Union us numbers modes.Sparse) t limit (choices ids (Some places)) cs is arrays are sound typed =
    no_choices (layer.Union us numbers modes.Sparse) t limit ids (Some places) cs is refl
by_layer (layer.Union us numbers modes.Dense) t limit (marks taken mask) cs is arrays are sound typed = refl
by_layer (layer.Union us numbers modes.Dense) t limit (spans taken mask offsets) cs is arrays are sound typed =
    no_spans (layer.Union us numbers modes.Dense) t limit taken mask offsets cs is (λ c. refl)
by_layer (layer.Union us numbers modes.Dense) t limit (choices ids None) cs is arrays are sound typed =
    no_choices (layer.Union us numbers modes.Dense) t limit ids None cs is refl
by_layer (layer.Union us numbers modes.Dense) t limit (choices ids (Some places)) cs is arrays are sound typed =
    dense_made t us numbers limit ids places cs is arrays typed sound are.fit are.placed.0 are.placed.1
by_layer x t limit (marks taken mask) cs is arrays are sound typed = refl
by_layer x t limit (spans taken mask offsets) cs is arrays are sound typed = no_spans x t limit taken mask offsets cs is (λ c. refl)
by_layer x t limit (choices ids places) cs is arrays are sound typed = no_choices x t limit ids places cs is refl

-- what is made of parts and children has the slots that the format gives, and nothing is made where it gives none
pub made_has_slots : (t : DataType) (limit : Option ℕ) (parts : Parts) (cs : List Column) → layer_arrays (type_layer t) ≡ true
    → AreWhole (type_layer t) parts → AreChildren (type_layer t) cs
    → joined_slots (type_layer t) limit parts (map slots cs) ≡ (made_column t limit parts cs >>= (λ c. Some (slots c)))
made_has_slots t limit parts cs arrays whole are =
    by_layer (type_layer t) t limit parts cs refl arrays whole are.sound are.typed
