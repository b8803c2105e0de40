-- A sound column whose type is in its one form is its own under normalised types, so that its slots are read as they stand.
use Rattle.std.proofs.Common.{◌≡◌, ◌∙◌, ℕ, List, [], ◌∷◌, refl, sym, ap, true, false}
use Rattle.std.specs.Prelude.{◌==◌, ℤ, length, Option, Some, None}
use Rattle.std.specs.List.{list_all}
use Rattle.std.proofs.lemmas.Bool.{and_parts, false≢true}
use Rattle.columnar_memory_types.specs.Equality.{same_type, same_type-Decides}
use Rattle.ipc_format.specs.columnar_memory.declared.DataType.{DataType}
use Rattle.ipc_format.specs.columnar_memory.declared.DataType.TheOpen as layer
use Rattle.ipc_format.specs.columnar_memory.declared.DataType.TheViews.{out-DataType}
use Rattle.ipc_format.specs.columnar_memory.declared.Field.{Field}
use Rattle.ipc_format.specs.columnar_memory.declared.UnionMode.TheVariants as modes
use Rattle.ipc_format.specs.columns.Kinds.{is_key}
use Rattle.ipc_format.specs.columns.SoundColumns.{has_an_id_each, has_child_types, has_field_types, has_fixed_item_type}
use Rattle.ipc_format.specs.columns.SoundColumns.{has_item_type}
use Rattle.ipc_format.specs.columns.SoundColumns.{has_value_type, have_types, is_entry, is_sound, are_sound}
use Rattle.ipc_format.specs.columns.StoredColumns.{Column, Columns, nulls, flat, lists, fixed_lists, records, unions}
use Rattle.ipc_format.specs.columns.StoredColumns.{dictionary}
use Rattle.ipc_format.specs.columns.StoredColumns.{no_column, column_then, column_type, slots, type_layer}
use Rattle.ipc_format.specs.Writable.{normalised_type}
use Rattle.ipc_format.specs.reading_laws.NormalColumns.{normal_column, normal_columns}
use Rattle.ipc_format.specs.reading_laws.StoredTables.{read_slots}
use Rattle.ipc_format.proofs.NormalColumnsKept.{all_slots_normal, sound_normal, type_normal}
use Rattle.ipc_format.proofs.NormalColumnsLayers.{Layer}
use Rattle.ipc_format.proofs.StoredGivenBrought.{sound_children, sound_fields, sound_fixed_item, sound_item}
use Rattle.ipc_format.proofs.StoredGivenBrought.{sound_values}

-- ---- a layer tells the types of children

-- columns of the same types, one for one
abbrev AreAlike : Columns → Columns → Type 0
AreAlike no_column no_column = Unit {0}
AreAlike (column_then a others) (column_then b more) = (column_type a ≡ column_type b) × AreAlike others more
AreAlike _ _ = ⊥

one_type : (t a b : DataType) → same_type t a ≡ true → same_type t b ≡ true → a ≡ b
one_type t a b h k = sym ((same_type-Decides t a).0 h) ∙ (same_type-Decides t b).0 k

one_item : (x : Layer) (a b : DataType) → has_item_type x a ≡ true → has_item_type x b ≡ true → a ≡ b
one_item (layer.List item) a b h k = one_type item.data_type a b h k
one_item (layer.LargeList item) a b h k = one_type item.data_type a b h k
one_item (layer.Map entry is_sorted) a b h k =
    one_type entry.data_type a b (and_parts (same_type entry.data_type a) (is_entry (out-DataType a)) h).0
    (and_parts (same_type entry.data_type b) (is_entry (out-DataType b)) k).0
one_item _ a b h k = absurd (false≢true h)

one_fixed_item : (x : Layer) (size : ℕ) (a b : DataType) → has_fixed_item_type x size a ≡ true → has_fixed_item_type x size b ≡ true → a ≡ b
one_fixed_item (layer.FixedSizeList item own) size a b h k =
    one_type item.data_type a b (and_parts (own == size) (same_type item.data_type a) h).1 (and_parts (own == size) (same_type item.data_type b) k).1
one_fixed_item _ size a b h k = absurd (false≢true h)

one_value : (x : Layer) (keys : List ℤ) (a b : DataType) → has_value_type x keys a ≡ true → has_value_type x keys b ≡ true → a ≡ b
one_value (layer.Dictionary key value is_ordered) keys a b h k =
    one_type value a b (and_parts (same_type value a) (list_all (is_key key) keys) h).0
    (and_parts (same_type value b) (list_all (is_key key) keys) k).0
one_value _ keys a b h k = absurd (false≢true h)

each_alike : (us : List Field) (a b : Columns) → have_types us a ≡ true → have_types us b ≡ true → AreAlike a b
each_alike [] no_column no_column h k = tt
each_alike [] no_column (column_then b more) h k = absurd (false≢true k)
each_alike [] (column_then a others) b h k = absurd (false≢true h)
each_alike (u ∷ us) no_column b h k = absurd (false≢true h)
each_alike (u ∷ us) (column_then a others) no_column h k = absurd (false≢true k)
each_alike (u ∷ us) (column_then a others) (column_then b more) h k =
    let first = and_parts (same_type u.data_type (column_type a)) (have_types us others) h in
    let second = and_parts (same_type u.data_type (column_type b)) (have_types us more) k in
    (one_type u.data_type (column_type a) (column_type b) first.0 second.0, each_alike us others more first.1 second.1)

fields_alike : (x : Layer) (a b : Columns) → has_field_types x a ≡ true → has_field_types x b ≡ true → AreAlike a b
fields_alike (layer.Struct []) a b h k = absurd (false≢true h)
fields_alike (layer.Struct (u ∷ us)) a b h k = each_alike (u ∷ us) a b h k
fields_alike _ a b h k = absurd (false≢true h)

children_alike : (x : Layer) (offsets : Option (List ℤ)) (a b : Columns) → has_child_types x offsets a ≡ true → has_child_types x offsets b ≡ true
    → AreAlike a b
children_alike (layer.Union us numbers modes.Sparse) None a b h k =
    each_alike us a b (and_parts (has_an_id_each numbers (length us)) (have_types us a) h).1
    (and_parts (has_an_id_each numbers (length us)) (have_types us b) k).1
children_alike (layer.Union us numbers modes.Dense) (Some offsets) a b h k =
    each_alike us a b (and_parts (has_an_id_each numbers (length us)) (have_types us a) h).1
    (and_parts (has_an_id_each numbers (length us)) (have_types us b) k).1
children_alike _ offsets a b h k = absurd (false≢true h)

-- ---- each type below is in its one form

mutual
  kept : (c : Column) → is_sound c ≡ true → normalised_type (column_type c) ≡ column_type c → normal_column c ≡ c
  kept (nulls t n) h e = ap (λ (s : DataType). nulls s n) e
  kept (flat t mask stored) h e = ap (λ (s : DataType). flat s mask stored) e
  kept (lists t mask offsets child) h e =
      let parts = sound_item t mask offsets child h in
      let under = sound_item (normalised_type t) mask offsets (normal_column child) (sound_normal (lists t mask offsets child) h) in
      let types = one_item (type_layer t) (column_type (normal_column child)) (column_type child)
      (ap (λ (s : DataType). has_item_type (type_layer s) (column_type (normal_column child))) (sym e) ∙ under.0) parts.0 in
      let below = kept child parts.1 (sym (type_normal child) ∙ types) in
      λ j. lists (e j) mask offsets (below j)
  kept (fixed_lists t mask size child) h e =
      let parts = sound_fixed_item t mask size child h in
      let under = sound_fixed_item (normalised_type t) mask size (normal_column child) (sound_normal (fixed_lists t mask size child) h) in
      let types = one_fixed_item (type_layer t) size (column_type (normal_column child)) (column_type child)
      (ap (λ (s : DataType). has_fixed_item_type (type_layer s) size (column_type (normal_column child))) (sym e) ∙ under.0) parts.0 in
      let below = kept child parts.1 (sym (type_normal child) ∙ types) in
      λ j. fixed_lists (e j) mask size (below j)
  kept (records t mask n cs) h e =
      let parts = sound_fields t mask n cs h in
      let under = sound_fields (normalised_type t) mask n (normal_columns cs) (sound_normal (records t mask n cs) h) in
      let types = fields_alike (type_layer t) (normal_columns cs) cs
      (ap (λ (s : DataType). has_field_types (type_layer s) (normal_columns cs)) (sym e) ∙ under.0) parts.0 in
      let below = all_kept cs parts.1 types in
      λ j. records (e j) mask n (below j)
  kept (unions t own offsets cs) h e =
      let parts = sound_children t own offsets cs h in
      let under = sound_children (normalised_type t) own offsets (normal_columns cs) (sound_normal (unions t own offsets cs) h) in
      let types = children_alike (type_layer t) offsets (normal_columns cs) cs
      (ap (λ (s : DataType). has_child_types (type_layer s) offsets (normal_columns cs)) (sym e) ∙ under.0) parts.0 in
      let below = all_kept cs parts.1 types in
      λ j. unions (e j) own offsets (below j)
  kept (dictionary t mask keys values) h e =
      let parts = sound_values t mask keys values h in
      let under = sound_values (normalised_type t) mask keys (normal_column values) (sound_normal (dictionary t mask keys values) h) in
      let types = one_value (type_layer t) keys (column_type (normal_column values)) (column_type values)
      (ap (λ (s : DataType). has_value_type (type_layer s) keys (column_type (normal_column values))) (sym e) ∙ under.0) parts.0 in
      let below = kept values parts.1 (sym (type_normal values) ∙ types) in
      λ j. dictionary (e j) mask keys (below j)

  all_kept : (cs : Columns) → are_sound cs ≡ true → AreAlike (normal_columns cs) cs → normal_columns cs ≡ cs
  all_kept no_column h like = refl
  all_kept (column_then c cs) h like =
      let parts = and_parts (is_sound c) (are_sound cs) h in
      let here = kept c parts.0 (sym (type_normal c) ∙ like.0) in
      let others = all_kept cs parts.1 like.1 in
      λ j. column_then (here j) (others j)

-- its slots are read as they stand
pub slots_kept : (c : Column) → is_sound c ≡ true → normalised_type (column_type c) ≡ column_type c → read_slots c ≡ slots c
slots_kept c h e = sym (all_slots_normal c) ∙ ap slots (kept c h e)
