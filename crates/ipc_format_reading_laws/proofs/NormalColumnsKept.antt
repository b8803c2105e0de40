-- Stored columns under normalised types are sound, are written the same, and have the same slots but for the types of picks.
use Rattle.std.proofs.Common.{◌≡◌, ◌∙◌, ℕ, zero, suc, ◌+◌, ◌-◌, ◌*◌, List, [], ◌∷◌, ◌++◌, length, map, refl, sym, ap, ap₂, Bool, true, false}
use Rattle.std.specs.Prelude.{◌&&◌, ◌==◌, ◌/◌, min, nat_lt, pos, ℤ, Option, Some, None, slice_index, slice_index_or, if◌then◌else◌}
use Rattle.std.specs.List.{list_all}
use Rattle.std.specs.Int.{w8, w32}
use Rattle.std.proofs.lemmas.Bool.{and_parts, and_from, false≢true}
use Rattle.std.proofs.lemmas.List.{length-map, map-append}
use Rattle.columnar_memory_types.specs.Equality.{same_type}
use Rattle.ipc_format_laws.specs.columnar_memory.declared.DataType.{DataType}
use Rattle.ipc_format_laws.specs.columnar_memory.declared.DataType.TheOpen as layer
use Rattle.ipc_format_laws.specs.columnar_memory.declared.Field.{Field}
use Rattle.ipc_format_laws.specs.columnar_memory.declared.UnionMode.TheVariants as modes
use Rattle.ipc_format_laws.specs.columnar_memory.Layouts.{physical_type}
use Rattle.ipc_format_laws.specs.columns.Kinds.{is_signed, most_offset}
use Rattle.ipc_format_laws.specs.columns.Slots.{Slot, null, items, fields, pick, slot_then, in_slots, window}
use Rattle.ipc_format_laws.specs.columns.StoredColumns.{Stored, bits, numbers, pairs, triples, texts, byte_strings, fixed_bytes, Column, Columns}
use Rattle.ipc_format_laws.specs.columns.StoredColumns.{nulls, flat, lists, fixed_lists, records, unions, dictionary, no_column, column_then}
use Rattle.ipc_format_laws.specs.columns.StoredColumns.{is_valid_at, unless_null, stored_at, stored_len, column_type, column_len, type_layer, place_of}
use Rattle.ipc_format_laws.specs.columns.StoredColumns.{child_number, union_place, cut_list, cut_mask, cut_stored, slot_at, slots_at, picked_at, slots}
use Rattle.ipc_format_laws.specs.columns.SoundColumns.{holds_below, mask_fits, are_offsets, are_pieces, is_stored_as, has_size, has_item_type}
use Rattle.ipc_format_laws.specs.columns.SoundColumns.{has_fixed_item_type, has_value_type, have_types, has_field_types, has_an_id_each}
use Rattle.ipc_format_laws.specs.columns.SoundColumns.{has_child_types, column_lens, have_len, has_value_at, has_child_at, has_places, is_sound}
use Rattle.ipc_format_laws.specs.columns.SoundColumns.{are_sound}
use Rattle.ipc_format_laws.proofs.columns_lemmas.Conditions.{parts_of_3, parts_of_4, parts_of_5}
use Rattle.ipc_format_laws.specs.grammar.Schemas.{Ids, IdsList, ids}
use Rattle.ipc_format_laws.specs.grammar.Columns.{first_ids, other_ids, ids_below, own_id}
use Rattle.ipc_format_laws.specs.grammar.Encoding.{Encoded, column_over}
use Rattle.ipc_format_laws.specs.grammar.StoredEncoding.{mask_bytes, node_over, moved_bytes, last_offset, stored_buffers}
use Rattle.ipc_format_laws.specs.grammar.StoredEncoding.{integer_bytes, encode_range, encode_ranges, encode_wholes, encode_stored}
use Rattle.ipc_format_laws.specs.grammar.GivenDictionaries.{Given, id_or_0, given_stored, given_each}
use Rattle.ipc_format_laws.specs.grammar.Writable.{normalised_type}
use Rattle.ipc_format_laws.proofs.grammar_lemmas.NormalReports.{normal_field}
use Rattle.ipc_format_reading_laws.specs.NormalColumns.{normal_slot, normal_slots, normal_column, normal_columns, NormalColumnsStayWhole}
use Rattle.ipc_format_reading_laws.proofs.NormalColumnsLayers.{Layer, normal_layer, layer_normal, layout_normal, width_normal}
use Rattle.ipc_format_reading_laws.proofs.NormalColumnsLayers.{keys_normal, child_normal, null_normal, size_normal, types_same, items_normal}
use Rattle.ipc_format_reading_laws.proofs.NormalColumnsLayers.{fixed_items_normal, values_normal}

-- ---- types and lengths

pub type_normal : (c : Column) → column_type (normal_column c) ≡ normalised_type (column_type c)
type_normal (nulls data_type n) = refl
type_normal (flat data_type mask stored) = refl
type_normal (lists data_type mask offsets child) = refl
type_normal (fixed_lists data_type mask size child) = refl
type_normal (records data_type mask n children) = refl
type_normal (unions data_type own offsets children) = refl
type_normal (dictionary data_type mask keys values) = refl

pub len_normal : (c : Column) → column_len (normal_column c) ≡ column_len c
len_normal (nulls data_type n) = refl
len_normal (flat data_type mask stored) = refl
len_normal (lists data_type mask offsets child) = refl
len_normal (fixed_lists data_type mask size child) = ap (λ n. n / size) (len_normal child)
len_normal (records data_type mask n children) = refl
len_normal (unions data_type own offsets children) = refl
len_normal (dictionary data_type mask keys values) = refl

lens_normal : (cs : Columns) → column_lens (normal_columns cs) ≡ column_lens cs
lens_normal no_column = refl
lens_normal (column_then c cs) = λ j. len_normal c j ∷ lens_normal cs j

-- ---- slots

stored_slot : (stored : Stored) (i : ℕ) → stored_at stored i ≡ normal_slot (stored_at stored i)
stored_slot (bits values) i = refl
stored_slot (numbers kind values) i = refl
stored_slot (pairs kind values) i = refl
stored_slot (triples kind values) i = refl
stored_slot (texts offsets content) i = refl
stored_slot (byte_strings offsets content) i = refl
stored_slot (fixed_bytes size content) i = refl

slot_if : (valid : Bool) (a b : Slot) → a ≡ normal_slot b → (if valid then a else null) ≡ normal_slot (if valid then b else null)
slot_if true a b e = e
slot_if false a b e = refl

unless_normal : (mask : Option (List Bool)) (i : ℕ) (a b : Slot) → a ≡ normal_slot b → unless_null mask i a ≡ normal_slot (unless_null mask i b)
unless_normal mask i a b e = slot_if (is_valid_at mask i) a b e

-- where a function's slots are normal, so are those of its windows
in_window : (f g : ℕ → Slot) → ((i : ℕ) → f i ≡ normal_slot (g i)) → (o n : ℕ) → in_slots (window f o n) ≡ normal_slots (in_slots (window g o n))
in_window f g same o zero = refl
in_window f g same o (suc n) = λ j. slot_then (same o j) (in_window f g same (o + 1) n j)

pub window_normal : (f g : ℕ → Slot) → ((i : ℕ) → f i ≡ normal_slot (g i)) → (o n : ℕ) → window f o n ≡ map normal_slot (window g o n)
window_normal f g same o zero = refl
window_normal f g same o (suc n) = λ j. same o j ∷ window_normal f g same (o + 1) n j

mutual
  pub slot_normal : (c : Column) (i : ℕ) → slot_at (normal_column c) i ≡ normal_slot (slot_at c i)
  slot_normal (nulls data_type n) i = refl
  slot_normal (flat data_type mask stored) i = unless_normal mask i (stored_at stored i) (stored_at stored i) (stored_slot stored i)
  slot_normal (lists data_type mask offsets child) i =
      let o = slice_index offsets i in
      let n = slice_index offsets (i + 1) - slice_index offsets i in
      unless_normal mask i (items (in_slots (window (slot_at (normal_column child)) o n))) (items (in_slots (window (slot_at child) o n)))
      (ap items (in_window (slot_at (normal_column child)) (slot_at child) (λ (k : ℕ). slot_normal child k) o n))
  slot_normal (fixed_lists data_type mask size child) i =
      unless_normal mask i (items (in_slots (window (slot_at (normal_column child)) (size * i) size)))
      (items (in_slots (window (slot_at child) (size * i) size)))
      (ap items (in_window (slot_at (normal_column child)) (slot_at child) (λ (k : ℕ). slot_normal child k) (size * i) size))
  slot_normal (records data_type mask n children) i =
      unless_normal mask i (fields (slots_at (normal_columns children) i)) (fields (slots_at children i)) (ap fields (slots_normal children i))
  slot_normal (unions data_type own offsets children) i =
      ap (λ (k : ℕ). picked_at (normal_columns children) k (union_place offsets i)) (child_normal data_type (slice_index_or own i (pos 0)))
      ∙ picked_normal children (child_number (type_layer data_type) (slice_index_or own i (pos 0))) (union_place offsets i)
  slot_normal (dictionary data_type mask keys values) i =
      let k = place_of (slice_index_or keys i (pos 0)) in
      unless_normal mask i (slot_at (normal_column values) k) (slot_at values k) (slot_normal values k)

  slots_normal : (cs : Columns) (i : ℕ) → slots_at (normal_columns cs) i ≡ normal_slots (slots_at cs i)
  slots_normal no_column i = refl
  slots_normal (column_then c cs) i = λ j. slot_then (slot_normal c i j) (slots_normal cs i j)

  picked_normal : (cs : Columns) (k i : ℕ) → picked_at (normal_columns cs) k i ≡ normal_slot (picked_at cs k i)
  picked_normal no_column k i = refl
  picked_normal (column_then c cs) zero i = λ j. pick (type_normal c j) (slot_normal c i j)
  picked_normal (column_then c cs) (suc k) i = picked_normal cs k i

pub all_slots_normal : (c : Column) → slots (normal_column c) ≡ map normal_slot (slots c)
all_slots_normal c = ap (window (slot_at (normal_column c)) 0) (len_normal c)
    ∙ window_normal (slot_at (normal_column c)) (slot_at c) (λ (i : ℕ). slot_normal c i) 0 (column_len c)

-- ---- what is written

mutual
  pub range_normal : (little : Bool) (c : Column) (o n : ℕ) → encode_range little (normal_column c) o n ≡ encode_range little c o n
  range_normal little (nulls data_type count) o n = refl
  range_normal little (flat data_type mask stored) o n = ap (λ w. column_over (node_over n (cut_mask mask o n))
      (mask_bytes (cut_mask mask o n) ∷ stored_buffers little w (cut_stored stored o n)) []) (width_normal data_type)
  range_normal little (lists data_type mask offsets child) o n =
      let taken = cut_list offsets o (n + 1) in
      ap₂ (λ w below. column_over (node_over n (cut_mask mask o n)) (mask_bytes (cut_mask mask o n) ∷ moved_bytes little w taken ∷ []) (below ∷ []))
      (width_normal data_type) (range_normal little child (slice_index taken 0) (last_offset taken - slice_index taken 0))
  range_normal little (fixed_lists data_type mask size child) o n =
      ap (λ (below : Encoded). column_over (node_over n (cut_mask mask o n)) (mask_bytes (cut_mask mask o n) ∷ []) (below ∷ []))
      (range_normal little child (size * o) (size * n))
  range_normal little (records data_type mask count children) o n =
      ap (λ (below : List Encoded). column_over (node_over n (cut_mask mask o n)) (mask_bytes (cut_mask mask o n) ∷ []) below)
      (ranges_normal little children o n)
  range_normal little (unions data_type own None children) o n =
      ap (λ (below : List Encoded). column_over (n, 0) (integer_bytes little w8 (cut_list own o n) ∷ []) below) (ranges_normal little children o n)
  range_normal little (unions data_type own (Some offsets) children) o n =
      ap (λ (below : List Encoded). column_over (n, 0)
      (integer_bytes little w8 (cut_list own o n) ∷ integer_bytes little w32 (cut_list offsets o n) ∷ []) below) (wholes_normal little children)
  range_normal little (dictionary data_type mask keys values) o n = ap (λ (bytes : List ℕ). column_over (node_over n (cut_mask mask o n))
      (mask_bytes (cut_mask mask o n) ∷ bytes ∷ []) []) (keys_normal little data_type (cut_list keys o n))

  ranges_normal : (little : Bool) (cs : Columns) (o n : ℕ) → encode_ranges little (normal_columns cs) o n ≡ encode_ranges little cs o n
  ranges_normal little no_column o n = refl
  ranges_normal little (column_then c cs) o n = λ j. range_normal little c o n j ∷ ranges_normal little cs o n j

  wholes_normal : (little : Bool) (cs : Columns) → encode_wholes little (normal_columns cs) ≡ encode_wholes little cs
  wholes_normal little no_column = refl
  wholes_normal little (column_then c cs) =
      let here = ap (encode_range little (normal_column c) 0) (len_normal c) ∙ range_normal little c 0 (column_len c) in
      λ j. here j ∷ wholes_normal little cs j

pub encoded_normal : (little : Bool) (c : Column) → encode_stored little (normal_column c) ≡ encode_stored little c
encoded_normal little c = ap (encode_range little (normal_column c) 0) (len_normal c) ∙ range_normal little c 0 (column_len c)

-- ---- the dictionaries that are brought

-- a dictionary under its normalised type, with normal slots
abbrev pub normal_given : Given → Given
normal_given given = record {
  id = given.id;
  data_type = normalised_type given.data_type;
  slots = map normal_slot given.slots;
  column = given.column;
}

mutual
  pub given_normal : (here : Ids) (c : Column) → given_stored here (normal_column c) ≡ map normal_given (given_stored here c)
  given_normal here (nulls data_type n) = refl
  given_normal here (flat data_type mask stored) = refl
  given_normal here (lists data_type mask offsets child) = given_normal (first_ids (ids_below here)) child
  given_normal here (fixed_lists data_type mask size child) = given_normal (first_ids (ids_below here)) child
  given_normal here (records data_type mask n children) = each_normal (ids_below here) children
  given_normal here (unions data_type type_ids offsets children) = each_normal (ids_below here) children
  given_normal here (dictionary data_type mask keys values) =
      let inner = given_normal (ids None (ids_below here)) values in
      let given : Given = record {
        id = id_or_0 (own_id here);
        data_type = column_type values;
        slots = slots values;
        column = encode_stored true values;
      } in
      let typed = type_normal values in
      let same = all_slots_normal values in
      let written = encoded_normal true values in
      (λ j. inner j ++ record { id = id_or_0 (own_id here); data_type = typed j; slots = same j; column = written j } ∷ [])
      ∙ sym (map-append normal_given (given_stored (ids None (ids_below here)) values) (given ∷ []))

  each_normal : (below : IdsList) (cs : Columns) → given_each below (normal_columns cs) ≡ map normal_given (given_each below cs)
  each_normal below no_column = refl
  each_normal below (column_then c cs) =
      ap₂ (λ (a b : List Given). a ++ b) (given_normal (first_ids below) c) (each_normal (other_ids below) cs)
      ∙ sym (map-append normal_given (given_stored (first_ids below) c) (given_each (other_ids below) cs))

-- ---- the types of children

have_types_normal : (us : List Field) (cs : Columns) → have_types us cs ≡ true → have_types (map normal_field us) (normal_columns cs) ≡ true
have_types_normal [] no_column h = refl
have_types_normal [] (column_then c cs) h = absurd (false≢true h)
have_types_normal (u ∷ us) no_column h = absurd (false≢true h)
have_types_normal (u ∷ us) (column_then c cs) h =
    let parts = and_parts (same_type u.data_type (column_type c)) (have_types us cs) h in
    and_from (same_type (normal_field u).data_type (column_type (normal_column c))) (have_types (map normal_field us) (normal_columns cs))
    (ap (same_type (normal_field u).data_type) (type_normal c) ∙ types_same u (column_type c) parts.0) (have_types_normal us cs parts.1)

fields_same : (x : Layer) (cs : Columns) → has_field_types x cs ≡ true → has_field_types (normal_layer x) (normal_columns cs) ≡ true
fields_same (layer.Struct []) cs h = absurd (false≢true h)
fields_same (layer.Struct (u ∷ us)) cs h = have_types_normal (u ∷ us) cs h
fields_same _ cs h = absurd (false≢true h)

fields_normal : (t : DataType) (cs : Columns) → has_field_types (type_layer t) cs ≡ true
    → has_field_types (type_layer (normalised_type t)) (normal_columns cs) ≡ true
fields_normal t cs h = ap (λ (x : Layer). has_field_types x (normal_columns cs)) (layer_normal t) ∙ fields_same (type_layer t) cs h

an_id_each : (own : Option (List ℤ)) (us : List Field) (cs : Columns) → (has_an_id_each own (length us) && have_types us cs) ≡ true
    → (has_an_id_each own (length (map normal_field us)) && have_types (map normal_field us) (normal_columns cs)) ≡ true
an_id_each own us cs h =
    let parts = and_parts (has_an_id_each own (length us)) (have_types us cs) h in
    and_from (has_an_id_each own (length (map normal_field us))) (have_types (map normal_field us) (normal_columns cs))
    (ap (has_an_id_each own) (length-map us normal_field) ∙ parts.0) (have_types_normal us cs parts.1)

children_same : (x : Layer) (offsets : Option (List ℤ)) (cs : Columns) → has_child_types x offsets cs ≡ true
    → has_child_types (normal_layer x) offsets (normal_columns cs) ≡ true
children_same (layer.Union us own modes.Sparse) None cs h = an_id_each own us cs h
children_same (layer.Union us own modes.Dense) (Some offsets) cs h = an_id_each own us cs h
children_same _ offsets cs h = absurd (false≢true h)

children_normal : (t : DataType) (offsets : Option (List ℤ)) (cs : Columns) → has_child_types (type_layer t) offsets cs ≡ true
    → has_child_types (type_layer (normalised_type t)) offsets (normal_columns cs) ≡ true
children_normal t offsets cs h =
    ap (λ (x : Layer). has_child_types x offsets (normal_columns cs)) (layer_normal t) ∙ children_same (type_layer t) offsets cs h

-- ---- places

have_len_normal : (cs : Columns) (n : ℕ) → have_len (normal_columns cs) n ≡ have_len cs n
have_len_normal cs n = ap (λ (lens : List ℕ). list_all (λ len. len == n) lens) (lens_normal cs)

places_normal : (own : List ℤ) (offsets : Option (List ℤ)) (cs : Columns) → has_places own offsets (normal_columns cs) ≡ has_places own offsets cs
places_normal own None cs = have_len_normal cs (length own)
places_normal own (Some offsets) cs = refl

holds_same : (n : ℕ) (f g : ℕ → Bool) → ((i : ℕ) → f i ≡ g i) → holds_below n f ≡ holds_below n g
holds_same zero f g same = refl
holds_same (suc n) f g same = λ j. holds_same n f g same j && same n j

child_at_normal : (t : DataType) (own : List ℤ) (offsets : Option (List ℤ)) (cs : Columns) (i : ℕ)
    → has_child_at (type_layer (normalised_type t)) own offsets (normal_columns cs) i ≡ has_child_at (type_layer t) own offsets cs i
child_at_normal t own offsets cs i =
    let k = child_normal t (slice_index_or own i (pos 0)) in λ j. nat_lt (union_place offsets i) (slice_index (lens_normal cs j) (k j))

-- ---- soundness

from_3 : (a b c : Bool) → a ≡ true → b ≡ true → c ≡ true → (a && b && c) ≡ true
from_3 a b c x y z = and_from (a && b) c (and_from a b x y) z

from_4 : (a b c d : Bool) → a ≡ true → b ≡ true → c ≡ true → d ≡ true → (a && b && c && d) ≡ true
from_4 a b c d x y z w = and_from (a && b && c) d (from_3 a b c x y z) w

from_5 : (a b c d e : Bool) → a ≡ true → b ≡ true → c ≡ true → d ≡ true → e ≡ true → (a && b && c && d && e) ≡ true
from_5 a b c d e x y z w v = and_from (a && b && c && d) e (from_4 a b c d x y z w) v

mutual
  pub sound_normal : (c : Column) → is_sound c ≡ true → is_sound (normal_column c) ≡ true
  sound_normal (nulls data_type n) h = null_normal data_type ∙ h
  sound_normal (flat data_type mask stored) h =
      let parts = parts_of_3 (is_stored_as (physical_type data_type) stored) (has_size (type_layer data_type) stored)
      (mask_fits mask (stored_len stored)) h in
      let t = normalised_type data_type in
      from_3 (is_stored_as (physical_type t) stored) (has_size (type_layer t) stored) (mask_fits mask (stored_len stored))
      (ap (λ p. is_stored_as p stored) (layout_normal data_type) ∙ parts.0) (size_normal data_type stored ∙ parts.1) parts.2
  sound_normal (lists data_type mask offsets child) h =
      let parts = parts_of_4 (has_item_type (type_layer data_type) (column_type child))
      (are_offsets offsets (min (most_offset (physical_type data_type)) (column_len child))) (mask_fits mask (length offsets - 1))
      (is_sound child) h in
      let t = normalised_type data_type in
      let within = normal_column child in
      let layout = layout_normal data_type in
      let len = len_normal child in
      from_4 (has_item_type (type_layer t) (column_type within)) (are_offsets offsets (min (most_offset (physical_type t)) (column_len within)))
      (mask_fits mask (length offsets - 1)) (is_sound within)
      (ap (has_item_type (type_layer t)) (type_normal child) ∙ items_normal data_type (column_type child) parts.0)
      ((λ j. are_offsets offsets (min (most_offset (layout j)) (len j))) ∙ parts.1) parts.2 (sound_normal child parts.3)
  sound_normal (fixed_lists data_type mask size child) h =
      let parts = parts_of_4 (has_fixed_item_type (type_layer data_type) size (column_type child)) (are_pieces size (column_len child))
      (mask_fits mask (column_len child / size)) (is_sound child) h in
      let t = normalised_type data_type in
      let within = normal_column child in
      let len = len_normal child in
      from_4 (has_fixed_item_type (type_layer t) size (column_type within)) (are_pieces size (column_len within))
      (mask_fits mask (column_len within / size)) (is_sound within)
      (ap (has_fixed_item_type (type_layer t) size) (type_normal child) ∙ fixed_items_normal data_type size (column_type child) parts.0)
      (ap (are_pieces size) len ∙ parts.1) (ap (λ n. mask_fits mask (n / size)) len ∙ parts.2) (sound_normal child parts.3)
  sound_normal (records data_type mask n children) h =
      let parts = parts_of_4 (has_field_types (type_layer data_type) children) (have_len children n) (mask_fits mask n) (are_sound children) h in
      let t = normalised_type data_type in
      let within = normal_columns children in
      from_4 (has_field_types (type_layer t) within) (have_len within n) (mask_fits mask n) (are_sound within)
      (fields_normal data_type children parts.0) (have_len_normal children n ∙ parts.1) parts.2 (all_sound_normal children parts.3)
  sound_normal (unions data_type own offsets children) h =
      let parts = parts_of_5 (has_child_types (type_layer data_type) offsets children) (list_all (is_signed 8) own) (has_places own offsets children)
      (holds_below (length own) (has_child_at (type_layer data_type) own offsets children)) (are_sound children) h in
      let t = normalised_type data_type in
      let within = normal_columns children in
      from_5 (has_child_types (type_layer t) offsets within) (list_all (is_signed 8) own) (has_places own offsets within)
      (holds_below (length own) (has_child_at (type_layer t) own offsets within)) (are_sound within)
      (children_normal data_type offsets children parts.0) parts.1 (places_normal own offsets children ∙ parts.2)
      (holds_same (length own) (has_child_at (type_layer t) own offsets within) (has_child_at (type_layer data_type) own offsets children)
      (λ (i : ℕ). child_at_normal data_type own offsets children i) ∙ parts.3) (all_sound_normal children parts.4)
  sound_normal (dictionary data_type mask keys values) h =
      let parts = parts_of_4 (has_value_type (type_layer data_type) keys (column_type values)) (mask_fits mask (length keys))
      (holds_below (length keys) (has_value_at mask keys (column_len values))) (is_sound values) h in
      let t = normalised_type data_type in
      let within = normal_column values in
      from_4 (has_value_type (type_layer t) keys (column_type within)) (mask_fits mask (length keys))
      (holds_below (length keys) (has_value_at mask keys (column_len within))) (is_sound within)
      (ap (has_value_type (type_layer t) keys) (type_normal values) ∙ values_normal data_type keys (column_type values) parts.0) parts.1
      (ap (λ n. holds_below (length keys) (has_value_at mask keys n)) (len_normal values) ∙ parts.2) (sound_normal values parts.3)

  pub all_sound_normal : (cs : Columns) → are_sound cs ≡ true → are_sound (normal_columns cs) ≡ true
  all_sound_normal no_column h = refl
  all_sound_normal (column_then c cs) h =
      let parts = and_parts (is_sound c) (are_sound cs) h in
      and_from (is_sound (normal_column c)) (are_sound (normal_columns cs)) (sound_normal c parts.0) (all_sound_normal cs parts.1)

-- ---- the law

pub normal_columns_stay_whole : NormalColumnsStayWhole
normal_columns_stay_whole c h = record {
  typed = type_normal c;
  sound = sound_normal c h;
  encoded = λ (little : Bool). encoded_normal little c;
  slots_normal = all_slots_normal c;
}
