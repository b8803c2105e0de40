-- Columns of unions read back from what is written of them as they are stored, where their children do (Arrow columnar format, "Union
-- Layout").
use Rattle.std.proofs.Common.{inl, inr, ◌≡◌, ◌∙◌, ℕ, zero, suc, ◌+◌, ◌*◌, ◌≤◌, ◌<◌, ℤ, pos, negsuc, Bool, true, false, List, [], ◌∷◌, length, take}
use Rattle.std.proofs.Common.{refl, sym, ap, subst, arith, add-zero, zero-add, ◌==◌}
use Rattle.std.specs.Prelude.{Option, Some, None, int_le, slice_get, slice_index, slice_index_or, if◌then◌else◌}
use Rattle.std.specs.Int.{w8, w32}
use Rattle.std.specs.List.{list_all}
use Rattle.std.specs.Ordering.{int_eq}
use Rattle.std.proofs.lemmas.Bool.{and_parts, and_from, cases_lt, cases_Bool, eqb-true, ltb-true, true≢false, false≢true}
use Rattle.std.proofs.lemmas.Bool.Decides.{Decides-int_eq}
use Rattle.std.proofs.lemmas.List.{get_or_past}
use Rattle.ipc_format_laws.specs.columnar_memory.declared.DataType.{DataType}
use Rattle.ipc_format_laws.specs.columnar_memory.declared.DataType.TheOpen as layer
use Rattle.ipc_format_laws.specs.columnar_memory.declared.Field.{Field}
use Rattle.ipc_format_laws.specs.columnar_memory.declared.UnionMode.{UnionMode}
use Rattle.ipc_format_laws.specs.columnar_memory.declared.UnionMode.TheVariants as modes
use Rattle.ipc_format_laws.specs.columnar_memory.Equality.{same_type}
use Rattle.ipc_format_laws.specs.columns.Kinds.{is_signed}
use Rattle.ipc_format_laws.specs.columns.Slots.{Slot, window}
use Rattle.ipc_format_laws.specs.columns.StoredColumns as stored
use Rattle.ipc_format_laws.specs.columns.StoredColumns.{Columns, unions, no_column, column_then, column_type, column_len, cut_list, type_layer}
use Rattle.ipc_format_laws.specs.columns.StoredColumns.{place_of, child_number, union_place, picked_at}
use Rattle.ipc_format_laws.specs.columns.SoundColumns.{holds_below, have_types, has_an_id_each, has_child_types, column_lens, have_len, has_child_at}
use Rattle.ipc_format_laws.specs.columns.SoundColumns.{is_offset, has_places, is_sound, are_sound}
use Rattle.ipc_format_laws.proofs.columns_lemmas.Conditions.{parts_of_5, holds_at, list_all-cut_list}
use Rattle.ipc_format_laws.proofs.columns_lemmas.TypeLayers.{Layer}
use Rattle.ipc_format_laws.proofs.columns_lemmas.Windows.{get_or-cut_list, length-cut_list}
use Rattle.ipc_format_laws.specs.grammar.Messages.{V5, natural}
use Rattle.ipc_format_laws.specs.grammar.Layouts.{union_parts, before_V5}
use Rattle.ipc_format_laws.specs.grammar.Values.{signed_of, element_bytes}
use Rattle.ipc_format_laws.specs.grammar.Columns.{Place, Reader, buffer_at, taken_of, columns_below, first_below, ids_below, place_of_id, child_of}
use Rattle.ipc_format_laws.specs.grammar.Columns.{picked, all_of, union_slots}
use Rattle.ipc_format_laws.specs.grammar.Encoding.{Encoded, joined_columns, column_over}
use Rattle.ipc_format_laws.specs.grammar.StoredEncoding.{integer_bytes, encode_ranges, encode_wholes}
use Rattle.ipc_format_laws.specs.BatchMessages.{stated_node}
use Rattle.ipc_format_laws.specs.Columns.{StandsAt, StandsAmong, HoldsColumns}
use Rattle.ipc_format_laws.proofs.Buffers.{made_reads, buffer_reads}
use Rattle.ipc_format_laws.proofs.Elements.{passes_at, part_next, part_back}
use Rattle.ipc_format_reading_laws.specs.StoredColumns.{RangeReadsBack, HaveDictionaries}
use Rattle.ipc_format_reading_laws.proofs.StoredIntegers.{integers_size, id_back, place_back}
use Rattle.ipc_format_reading_laws.proofs.StoredLayers.{read_layer}
use Rattle.ipc_format_reading_laws.proofs.StoredRanges.{by_layer, same_ranges, same_wholes, windows_of, windows_long, RangesFit, RangesReadBack}
use Rattle.ipc_format_reading_laws.proofs.StoredRanges.{whole_window}
use Rattle.ipc_format_reading_laws.proofs.StoredChildren.{field_readers, columns_read, sizes_of, sizes_whole, size_of_each, picked_of_windows}
use Rattle.ipc_format_reading_laws.proofs.StoredRecords.{ranges_fit}

-- ---- which child

lens_count : (us : List Field) (columns : Columns) → have_types us columns ≡ true → length (column_lens columns) ≡ length us
lens_count [] no_column typed = refl
lens_count [] (column_then column columns) typed = absurd (false≢true typed)
lens_count (u ∷ us) no_column typed = absurd (false≢true typed)
lens_count (u ∷ us) (column_then column columns) typed =
    ap suc (lens_count us columns (and_parts (same_type u.data_type (column_type column)) (have_types us columns) typed).1)

-- a child in which there is a place
child_within : (us : List Field) (columns : Columns) (k m : ℕ) → have_types us columns ≡ true → m < slice_index (column_lens columns) k
    → k < length us
child_within us columns k m typed inside = elim (cases_lt k (length us)) [
  | inl within ↦ within
  | inr past ↦
      let none : slice_index (column_lens columns) k ≡ 0 =
      get_or_past (column_lens columns) k 0 (omega (arith, lens_count us columns typed)) in
      absurd (omega (arith, none))
]

equal_either_way : (a b : ℤ) → int_eq a b ≡ int_eq b a
equal_either_way a b = elim (cases_Bool (int_eq a b)) [
  | inl same ↦ same ∙ sym ((Decides-int_eq b a).1 (sym ((Decides-int_eq a b).0 same)))
  | inr other ↦ elim (cases_Bool (int_eq b a)) [
    | inl same ↦ absurd (true≢false (sym ((Decides-int_eq a b).1 (sym ((Decides-int_eq b a).0 same))) ∙ other))
    | inr neither ↦ other ∙ sym neither
  ]
]

one_less : (m n : ℕ) → m + 1 < suc n → m < n
one_less m n inside = omega arith

-- an id that stands among those of a type is found at its place
id_found : (numbers : List ℤ) (id : ℤ) → stored.place_of_id numbers id < length numbers
    → place_of_id id numbers ≡ Some (stored.place_of_id numbers id)
id_found [] id inside = absurd (omega arith)
id_found (first ∷ numbers) id inside = elim (cases_Bool (int_eq first id)) [
  | inl same ↦
      let other : int_eq id first ≡ true = equal_either_way id first ∙ same in
      rw (same, other) refl
  | inr differs ↦
      let other : int_eq id first ≡ false = equal_either_way id first ∙ differs in
      let later : stored.place_of_id numbers id + 1 < suc (length numbers) =
      subst (λ (b : Bool). (if b then 0 else stored.place_of_id numbers id + 1) < suc (length numbers)) differs inside in
      rw (differs, other, id_found numbers id (one_less (stored.place_of_id numbers id) (length numbers) later)) refl
]

-- the child that an id means is the one that it names
child_is : (us : List Field) (given : Option (List ℤ)) (mode : UnionMode) (id : ℤ) → has_an_id_each given (length us) ≡ true
    → child_number (layer.Union us given mode) id < length us → child_of given id ≡ Some (child_number (layer.Union us given mode) id)
child_is us None mode (pos k) each inside = refl
child_is us None mode (negsuc k) each inside = absurd (omega arith)
child_is us (Some numbers) mode id each inside =
    id_found numbers id (omega (arith, eqb-true (length numbers) (length us) each))

-- ---- the slots

all_there : {A : Type 0} (g : ℕ → Option A) (f : ℕ → A) (a o n : ℕ) → ((i : ℕ) → i < n → g (a + i) ≡ Some (f (o + i)))
    → all_of (window g a n) ≡ Some (window f o n)
all_there g f a o zero each = refl
all_there g f a o (suc n) each =
    let first : g a ≡ Some (f o) = ap g (sym (add-zero a)) ∙ each 0 (omega arith) ∙ ap (λ k. Some (f k)) (add-zero o) in
    let others : all_of (window g (a + 1) n) ≡ Some (window f (o + 1) n) =
    all_there g f (a + 1) (o + 1) n (λ (i : ℕ) (inside : i < n).
    ap g (place_after a i) ∙ each (suc i) (omega arith) ∙ ap (λ k. Some (f k)) (sym (place_after o i))) in
    rw (first, others) refl
  where
    place_after : (a i : ℕ) → a + 1 + i ≡ a + suc i
    place_after a i = omega arith

abbrev union_at : Layer → List ℤ → Option (List ℤ) → Columns → ℕ → Slot
union_at x ids offsets children i = picked_at children (child_number x (slice_index_or ids i (pos 0))) (union_place offsets i)

-- what a union's layer says of its parts
record AreUnions (us : List Field) (given : Option (List ℤ)) (mode : UnionMode) (ids : List ℤ) (offsets : Option (List ℤ))
    (children : Columns) : Type 0 where
  each : has_an_id_each given (length us) ≡ true
  typed : have_types us children ≡ true
  fit : list_all (is_signed 8) ids ≡ true
  placed : holds_below (length ids) (has_child_at (layer.Union us given mode) ids offsets children) ≡ true
  sound : are_sound children ≡ true
  reads : RangesReadBack children

-- the child of a slot's id, in which the slot has its place
record HasChild (us : List Field) (given : Option (List ℤ)) (mode : UnionMode) (ids : List ℤ) (offsets : Option (List ℤ)) (children : Columns)
    (i : ℕ) : Type 0 where
  named : child_of given (slice_index_or ids i (pos 0)) ≡ Some (child_number (layer.Union us given mode) (slice_index_or ids i (pos 0)))
  inside : union_place offsets i < slice_index (column_lens children) (child_number (layer.Union us given mode) (slice_index_or ids i (pos 0)))

has_child : (us : List Field) (given : Option (List ℤ)) (mode : UnionMode) (ids : List ℤ) (offsets : Option (List ℤ)) (children : Columns)
    (i : ℕ) → AreUnions us given mode ids offsets children → i < length ids → HasChild us given mode ids offsets children i
has_child us given mode ids offsets children i are within =
    let id : ℤ = slice_index_or ids i (pos 0) in
    let k : ℕ = child_number (layer.Union us given mode) id in
    let there : union_place offsets i < slice_index (column_lens children) k =
    ltb-true (union_place offsets i) (slice_index (column_lens children) k)
    (holds_at (length ids) (has_child_at (layer.Union us given mode) ids offsets children) i are.placed within) in
    record {
      named = child_is us given mode id are.each (child_within us children k (union_place offsets i) are.typed there);
      inside = there;
    }

-- ---- sparse unions

sparse_by : (us : List Field) (given : Option (List ℤ)) (ids : List ℤ) (children : Columns) → AreUnions us given modes.Sparse ids None children
    → have_len children (length ids) ≡ true → (o n : ℕ) (at : Place) (all : Encoded) → o + n ≤ length ids → at.source.version ≡ V5
    → HoldsColumns at.source all
    → StandsAmong all (column_over (n, 0) (integer_bytes true w8 (cut_list ids o n) ∷ []) (encode_ranges true children o n)) at.node at.buffer
    → taken_of at.limit n ≡ n → HaveDictionaries at.standing (ids_below at.ids) children
    → union_slots (field_readers us) given modes.Sparse 0 1 at
    ≡ Some (window (union_at (layer.Union us given modes.Sparse) ids None children) o n)
unfolding union_slots
sparse_by us given ids children are long o n at all within version holds stands whole standing =
    let x : Layer = layer.Union us given modes.Sparse in
    let part : List ℤ = cut_list ids o n in
    let bytes : List ℕ = integer_bytes true w8 part in
    let below : Encoded = joined_columns (encode_ranges true children o n) in
    let columns : List (List Slot) = windows_of o (λ column. n) children in
    let readers : List (Field × Reader) = field_readers us in
    let count : length part ≡ n = length-cut_list ids o n within in
    let size : length part * 1 ≡ length bytes = integers_size w8 part in
    let needed : n ≡ length bytes = omega arith in
    let fit : list_all (is_signed 8) part ≡ true = list_all-cut_list (is_signed 8) ids o n are.fit in
    let node : slice_get at.source.nodes at.node ≡ Some (stated_node (n, 0)) =
    made_reads stated_node at.source.nodes all.nodes at.node (n, 0) below.nodes holds.nodes stands.nodes in
    let first : StandsAt all.buffers (at.buffer + 0) (bytes ∷ below.buffers) =
    subst (λ (k : ℕ). StandsAt all.buffers k (bytes ∷ below.buffers)) (sym (add-zero at.buffer)) stands.buffers in
    let types : buffer_at at.source (at.buffer + 0) n ≡ Some bytes =
    buffer_reads at.source all (at.buffer + 0) n bytes below.buffers holds first needed in
    let place : Place = first_below at 1 None in
    let here : StandsAmong all below place.node place.buffer =
    record { nodes = part_next (n, 0) below.nodes stands.nodes; buffers = part_next bytes below.buffers stands.buffers } in
    let found : columns_below readers place (ids_below at.ids) ≡ Some columns =
    columns_read o (λ column. n) us children are.typed are.sound are.reads place all (ids_below at.ids)
    (ranges_fit o n (length ids) None children long within refl) version holds
    (subst (λ (es : List Encoded). StandsAmong all (joined_columns es) place.node place.buffer) (same_ranges children o n) here) standing in
    let same_length = windows_long o n children in
    let slots : all_of (window (λ i. picked readers columns (child_of given (signed_of true w8 (element_bytes 1 bytes i))) (natural (pos i))) 0 n)
    ≡ Some (window (union_at x ids None children) o n) =
    all_there (λ i. picked readers columns (child_of given (signed_of true w8 (element_bytes 1 bytes i))) (natural (pos i)))
    (union_at x ids None children) 0 o n (λ (i : ℕ) (inside : i < n).
    let child = has_child us given modes.Sparse ids None children (o + i) are (omega arith) in
    let k : ℕ = child_number x (slice_index_or ids (o + i) (pos 0)) in
    let id : signed_of true w8 (element_bytes 1 bytes i) ≡ slice_index_or ids (o + i) (pos 0) =
    id_back part i fit (omega arith) ∙ get_or-cut_list ids o n i (pos 0) inside in
    let room : i < slice_index (sizes_of (λ column. n) children) k =
    omega (arith, size_of_each n k (o + i) children child.inside) in
    ap (λ j. picked readers columns (child_of given (signed_of true w8 (element_bytes 1 bytes j))) (natural (pos j))) (zero-add i)
    ∙ ap (λ z. picked readers columns (child_of given z) (Some i)) id
    ∙ ap (λ number. picked readers columns number (Some i)) child.named
    ∙ picked_of_windows o (λ column. n) us children k i are.typed room) in
    rw (node, types, found, same_length, slots)
    (ap (λ m. Some (take m (window (union_at x ids None children) o n))) whole
    ∙ ap Some (whole_window (union_at x ids None children) o n))

-- ---- dense unions

are_signed : (offsets : List ℤ) → list_all is_offset offsets ≡ true → list_all (is_signed 32) offsets ≡ true
are_signed [] all = refl
are_signed (offset ∷ offsets) all =
    let parts = and_parts (is_offset offset) (list_all is_offset offsets) all in
    and_from (is_signed 32 offset) (list_all (is_signed 32) offsets) (and_parts (int_le (pos 0) offset) (is_signed 32 offset) parts.0).1
    (are_signed offsets parts.1)

-- an offset that isn't negative is a place
natural_place : (offset : ℤ) → is_offset offset ≡ true → natural offset ≡ Some (place_of offset)
natural_place (pos n) h = refl
natural_place (negsuc n) h = absurd (false≢true (and_parts (int_le (pos 0) (negsuc n)) (is_signed 32 (negsuc n)) h).0)

-- the whole of each of some columns
wholes_fit : (columns : Columns) → RangesFit 0 column_len None columns
wholes_fit no_column = tt
wholes_fit (column_then column columns) = (omega arith, refl, wholes_fit columns)

dense_by : (us : List Field) (given : Option (List ℤ)) (ids offsets : List ℤ) (children : Columns)
    → AreUnions us given modes.Dense ids (Some offsets) children → length offsets ≡ length ids → list_all is_offset offsets ≡ true
    → (o n : ℕ) (at : Place) (all : Encoded) → o + n ≤ length ids → at.source.version ≡ V5 → HoldsColumns at.source all
    → StandsAmong all (column_over (n, 0) (integer_bytes true w8 (cut_list ids o n) ∷ integer_bytes true w32 (cut_list offsets o n) ∷ [])
    (encode_wholes true children)) at.node at.buffer
    → taken_of at.limit n ≡ n → HaveDictionaries at.standing (ids_below at.ids) children
    → union_slots (field_readers us) given modes.Dense 0 2 at
    ≡ Some (window (union_at (layer.Union us given modes.Dense) ids (Some offsets) children) o n)
unfolding union_slots
dense_by us given ids offsets children are as_many all_offsets o n at all within version holds stands whole standing =
    let x : Layer = layer.Union us given modes.Dense in
    let part : List ℤ = cut_list ids o n in
    let places : List ℤ = cut_list offsets o n in
    let bytes : List ℕ = integer_bytes true w8 part in
    let place_bytes : List ℕ = integer_bytes true w32 places in
    let below : Encoded = joined_columns (encode_wholes true children) in
    let columns : List (List Slot) = windows_of 0 column_len children in
    let readers : List (Field × Reader) = field_readers us in
    let count : length part ≡ n = length-cut_list ids o n within in
    let place_count : length places ≡ n = length-cut_list offsets o n (omega (arith, as_many)) in
    let size : length part * 1 ≡ length bytes = integers_size w8 part in
    let place_size : length places * 4 ≡ length place_bytes = integers_size w32 places in
    let needed : n ≡ length bytes = omega arith in
    let places_needed : n * 4 ≡ length place_bytes = omega arith in
    let fit : list_all (is_signed 8) part ≡ true = list_all-cut_list (is_signed 8) ids o n are.fit in
    let places_fit : list_all (is_signed 32) places ≡ true = list_all-cut_list (is_signed 32) offsets o n (are_signed offsets all_offsets) in
    let node : slice_get at.source.nodes at.node ≡ Some (stated_node (n, 0)) =
    made_reads stated_node at.source.nodes all.nodes at.node (n, 0) below.nodes holds.nodes stands.nodes in
    let first : StandsAt all.buffers (at.buffer + 0) (bytes ∷ (place_bytes ∷ below.buffers)) =
    subst (λ (k : ℕ). StandsAt all.buffers k (bytes ∷ (place_bytes ∷ below.buffers))) (sym (add-zero at.buffer)) stands.buffers in
    let types : buffer_at at.source (at.buffer + 0) n ≡ Some bytes =
    buffer_reads at.source all (at.buffer + 0) n bytes (place_bytes ∷ below.buffers) holds first needed in
    let seconds : buffer_at at.source (at.buffer + 0 + 1) (n * 4) ≡ Some place_bytes =
    buffer_reads at.source all (at.buffer + 0 + 1) (n * 4) place_bytes below.buffers holds
    (part_next bytes (place_bytes ∷ below.buffers) first) places_needed in
    let place : Place = first_below at 2 None in
    let here : StandsAmong all below place.node place.buffer = record {
      nodes = part_next (n, 0) below.nodes stands.nodes;
      buffers = part_back (bytes ∷ place_bytes ∷ []) below.buffers (at.buffer + 2) refl stands.buffers;
    } in
    let found : columns_below readers place (ids_below at.ids) ≡ Some columns =
    columns_read 0 column_len us children are.typed are.sound are.reads place all (ids_below at.ids) (wholes_fit children) version holds
    (subst (λ (es : List Encoded). StandsAmong all (joined_columns es) place.node place.buffer) (same_wholes children) here) standing in
    let slots : all_of (window (λ i. picked readers columns (child_of given (signed_of true w8 (element_bytes 1 bytes i)))
    (natural (signed_of at.source.is_little_endian w32 (element_bytes 4 place_bytes i)))) 0 n)
    ≡ Some (window (union_at x ids (Some offsets) children) o n) =
    all_there (λ i. picked readers columns (child_of given (signed_of true w8 (element_bytes 1 bytes i)))
    (natural (signed_of at.source.is_little_endian w32 (element_bytes 4 place_bytes i))))
    (union_at x ids (Some offsets) children) 0 o n (λ (i : ℕ) (inside : i < n).
    let child = has_child us given modes.Dense ids (Some offsets) children (o + i) are (omega arith) in
    let k : ℕ = child_number x (slice_index_or ids (o + i) (pos 0)) in
    let offset : ℤ = slice_index_or offsets (o + i) (pos 0) in
    let p : ℕ = place_of offset in
    let id : signed_of true w8 (element_bytes 1 bytes i) ≡ slice_index_or ids (o + i) (pos 0) =
    id_back part i fit (omega arith) ∙ get_or-cut_list ids o n i (pos 0) inside in
    let there : signed_of true w32 (element_bytes 4 place_bytes i) ≡ offset =
    place_back places i places_fit (omega arith) ∙ get_or-cut_list offsets o n i (pos 0) inside in
    let is_place : natural offset ≡ Some p =
    natural_place offset (passes_at is_offset offsets (o + i) (pos 0) all_offsets (omega (arith, as_many))) in
    let room : p < slice_index (sizes_of column_len children) k =
    subst (λ (sizes : List ℕ). p < slice_index sizes k) (sizes_whole children) child.inside in
    ap (λ j. picked readers columns (child_of given (signed_of true w8 (element_bytes 1 bytes j)))
    (natural (signed_of at.source.is_little_endian w32 (element_bytes 4 place_bytes j)))) (zero-add i)
    ∙ ap (λ little. picked readers columns (child_of given (signed_of true w8 (element_bytes 1 bytes i)))
    (natural (signed_of little w32 (element_bytes 4 place_bytes i)))) holds.order
    ∙ ap (λ z. picked readers columns (child_of given z) (natural (signed_of true w32 (element_bytes 4 place_bytes i)))) id
    ∙ ap (λ z. picked readers columns (child_of given (slice_index_or ids (o + i) (pos 0))) (natural z)) there
    ∙ ap (λ number. picked readers columns number (natural offset)) child.named
    ∙ ap (λ found. picked readers columns (Some k) found) is_place
    ∙ picked_of_windows 0 column_len us children k p are.typed room
    ∙ ap (λ j. Some (picked_at children k j)) (zero-add p)) in
    rw (node, types, seconds, found, slots)
    (ap (λ m. Some (take m (window (union_at x ids (Some offsets) children) o n))) whole
    ∙ ap Some (whole_window (union_at x ids (Some offsets) children) o n))

-- ---- each layer

sparse_at : (x : Layer) (ids : List ℤ) (children : Columns) → has_child_types x None children ≡ true → list_all (is_signed 8) ids ≡ true
    → have_len children (length ids) ≡ true → holds_below (length ids) (has_child_at x ids None children) ≡ true → are_sound children ≡ true
    → RangesReadBack children → (o n : ℕ) (at : Place) (all : Encoded) → o + n ≤ length ids → at.source.version ≡ V5 → HoldsColumns at.source all
    → StandsAmong all (column_over (n, 0) (integer_bytes true w8 (cut_list ids o n) ∷ []) (encode_ranges true children o n)) at.node at.buffer
    → taken_of at.limit n ≡ n → HaveDictionaries at.standing (ids_below at.ids) children
    → read_layer x at ≡ Some (window (union_at x ids None children) o n)
sparse_at (layer.Union us given modes.Sparse) ids children typed fit long placed sound reads o n at all within version holds stands whole standing =
    let parts = and_parts (has_an_id_each given (length us)) (have_types us children) typed in
    ap (λ v. union_slots (field_readers us) given modes.Sparse (length (before_V5 v)) (length (union_parts v modes.Sparse)) at) version
    ∙ sparse_by us given ids children
    (record { each = parts.0; typed = parts.1; fit = fit; placed = placed; sound = sound; reads = reads }) long o n at all within version holds
    stands whole standing
sparse_at _ ids children typed fit long placed sound reads o n at all within version holds stands whole standing = absurd (false≢true typed)

dense_at : (x : Layer) (ids offsets : List ℤ) (children : Columns) → has_child_types x (Some offsets) children ≡ true
    → list_all (is_signed 8) ids ≡ true → length offsets ≡ length ids → list_all is_offset offsets ≡ true
    → holds_below (length ids) (has_child_at x ids (Some offsets) children) ≡ true → are_sound children ≡ true
    → RangesReadBack children → (o n : ℕ) (at : Place) (all : Encoded) → o + n ≤ length ids → at.source.version ≡ V5 → HoldsColumns at.source all
    → StandsAmong all (column_over (n, 0) (integer_bytes true w8 (cut_list ids o n) ∷ integer_bytes true w32 (cut_list offsets o n) ∷ [])
    (encode_wholes true children)) at.node at.buffer
    → taken_of at.limit n ≡ n → HaveDictionaries at.standing (ids_below at.ids) children
    → read_layer x at ≡ Some (window (union_at x ids (Some offsets) children) o n)
dense_at (layer.Union us given modes.Dense) ids offsets children typed fit as_many all_offsets placed sound reads o n at all within version holds
    stands whole standing =
    let parts = and_parts (has_an_id_each given (length us)) (have_types us children) typed in
    ap (λ v. union_slots (field_readers us) given modes.Dense (length (before_V5 v)) (length (union_parts v modes.Dense)) at) version
    ∙ dense_by us given ids offsets children
    (record { each = parts.0; typed = parts.1; fit = fit; placed = placed; sound = sound; reads = reads }) as_many all_offsets o n at all within
    version holds stands whole standing
dense_at _ ids offsets children typed fit as_many all_offsets placed sound reads o n at all within version holds stands whole standing =
    absurd (false≢true typed)

pub unions_reads_back : (t : DataType) (ids : List ℤ) (offsets : Option (List ℤ)) (children : Columns)
    → is_sound (unions t ids offsets children) ≡ true → RangesReadBack children → RangeReadsBack (unions t ids offsets children)
unions_reads_back t ids None children sound reads o n at all within version holds stands whole standing =
    let x : Layer = type_layer t in
    let parts = parts_of_5 (has_child_types x None children) (list_all (is_signed 8) ids) (has_places ids None children)
    (holds_below (length ids) (has_child_at x ids None children)) (are_sound children) sound in
    by_layer t at (window (union_at x ids None children) o n)
    (sparse_at x ids children parts.0 parts.1 parts.2 parts.3 parts.4 reads o n at all within version holds stands whole standing)
unions_reads_back t ids (Some offsets) children sound reads o n at all within version holds stands whole standing =
    let x : Layer = type_layer t in
    let parts = parts_of_5 (has_child_types x (Some offsets) children) (list_all (is_signed 8) ids) (has_places ids (Some offsets) children)
    (holds_below (length ids) (has_child_at x ids (Some offsets) children)) (are_sound children) sound in
    let places = and_parts (length offsets == length ids) (list_all is_offset offsets) parts.2 in
    by_layer t at (window (union_at x ids (Some offsets) children) o n)
    (dense_at x ids offsets children parts.0 parts.1 (eqb-true (length offsets) (length ids) places.0) places.1 parts.3 parts.4 reads o n at all
    within version holds stands whole standing)
