-- The column that stores some slots is written as the slots are: an induction over its type.
use Rattle.std.proofs.Common.{◌≡◌, ◌∙◌, ℕ, suc, ◌+◌, ◌-◌, ◌*◌, ◌/◌, Bool, true, false, List, [], ◌∷◌, length, map, refl, sym, ap, subst, arith}
use Rattle.std.specs.Prelude.{ℤ, nat_le, slice_index, pos, cond}
use Rattle.std.specs.List.{list_all, flat_map}
use Rattle.std.specs.Int.{Width, w32, w64}
use Rattle.std.proofs.lemmas.Bool.{and_parts}
use Rattle.std.proofs.lemmas.List.{length-map}
use Rattle.std.proofs.lemmas.List.Sums.{sum_by-cons}
use Rattle.ipc_format_grammar.specs.columnar_memory.declared.DataType.{DataType, map-DataType}
use Rattle.ipc_format_grammar.specs.columnar_memory.declared.DataType.TheOpen as layer
use Rattle.ipc_format_grammar.specs.columnar_memory.declared.DataType.TheFolds.{fold-Field, fold-roll-DataType, para-roll-DataType, fold-roll-Field}
use Rattle.ipc_format_grammar.specs.columnar_memory.declared.DataType.TheFolds.{para-roll-Field, ind-DataType}
use Rattle.ipc_format_grammar.specs.columnar_memory.declared.DataType.TheViews.{roll-DataType, roll-Field, out-DataType}
use Rattle.ipc_format_grammar.specs.columnar_memory.declared.Field.{Field, map-Field}
use Rattle.ipc_format_grammar.specs.columnar_memory.declared.IntegerType.{IntegerType}
use Rattle.ipc_format_grammar.specs.columnar_memory.declared.IntervalUnit.TheVariants as intervals
use Rattle.ipc_format_grammar.specs.columnar_memory.declared.PrimitiveType.{PrimitiveType}
use Rattle.ipc_format_grammar.specs.columnar_memory.declared.PrimitiveType.TheVariants as kinds
use Rattle.ipc_format_grammar.specs.columns.Cells.{is_null, is_bytes_of, is_list_of_size, fits_step, fits_cell}
use Rattle.ipc_format_grammar.specs.columns.Children.{items_of, fixed_items_of, joined_items, joined_fixed_items, field_of, field_slots, dictionary_values}
use Rattle.ipc_format_grammar.specs.columns.FreshColumns.{is_true, content_of, fixed_content_of, key_among, mask_of, numbers_as}
use Rattle.ipc_format_grammar.specs.columns.FreshColumns.{content_offsets}
use Rattle.ipc_format_grammar.specs.columns.FreshColumns.{item_offsets, Maker, MakerUnder, fresh_fields, fresh_lists, fresh_keys, fresh_step}
use Rattle.ipc_format_grammar.specs.columns.FreshColumns.{fresh_field_step, fresh_under, fresh}
use Rattle.ipc_format_grammar.specs.columns.FreshLaws.{buildable_step, is_buildable}
use Rattle.ipc_format_grammar.specs.columns.OpenBatch.{is_within}
use Rattle.ipc_format_grammar.specs.columns.Slots.{Slot, null}
use Rattle.ipc_format_grammar.specs.columns.SoundColumns.{is_entry}
use Rattle.ipc_format_grammar.specs.columns.StoredColumns.{bits, texts, byte_strings, fixed_bytes, flat, fixed_lists, column_len, type_layer, cut_list}
use Rattle.ipc_format_grammar.specs.columns.StoredColumns.{stored_len}
use Rattle.ipc_format_grammar.proofs.columns_lemmas.Claims.{TypeWith, FieldWith, LayerWith, bare_layer}
use Rattle.ipc_format_grammar.proofs.columns_lemmas.FreshBelow.{items_fit, no_items, fixed_items_fit, pieces_length, fixed_piece, TakeNull, fields_pass}
use Rattle.ipc_format_grammar.proofs.columns_lemmas.FreshBelow.{fields_fit}
use Rattle.ipc_format_grammar.proofs.columns_lemmas.FreshLengths.{makers_of, answers, can_all}
use Rattle.ipc_format_grammar.proofs.columns_lemmas.FreshLengths.{buildable_field, fresh_field, cell_field, buildable_layer, fresh_layer, cell_layer, unlike}
use Rattle.ipc_format_grammar.proofs.columns_lemmas.FreshLengths.{offsets_count, content_piece, of_size, fresh_counts}
use Rattle.ipc_format_grammar.proofs.columns_lemmas.Fitting.{null_fits}
use Rattle.ipc_format_grammar.proofs.columns_lemmas.TypeLayers.{Layer, is_extension, layer_itself, layer_within}
use Rattle.ipc_format_grammar.specs.Buffers.{bitmap_of, bitmap_bytes, null_count, validity_bytes, kind_bytes, offset_bytes}
use Rattle.ipc_format_grammar.specs.Encoding.{Encoder, encode, encode_step, column_over, node_of, values_column, bytes_column}
use Rattle.ipc_format_grammar.specs.Encoding.{list_column, dictionary_column, field_columns}
use Rattle.ipc_format_grammar.specs.StoredEncoding.{encode_stored, encode_range, encode_ranges, offset_width, last_offset, moved_bytes, key_bytes}
use Rattle.ipc_format_laws.specs.FreshEncodings.{FreshEncodes}
use Rattle.ipc_format_laws.proofs.FlatColumns.{bitmap_answers, whole_cut}
use Rattle.ipc_format_laws.proofs.FreshBuffers.{column_same, flat_same, is_float, numbers_same, AreOffsets, piece_offsets, whole_offsets}
use Rattle.ipc_format_laws.proofs.FreshBuffers.{offsets_same}
use Rattle.ipc_format_laws.proofs.FreshBuffers.{strings_same, keys_same}

abbrev encode_field : Field → Encoder
encode_field = fold-Field Encoder Encoder encode_step (λ field. field.data_type)

abbrev encode_layer : Layer → Encoder
encode_layer x = encode_step (map-DataType DataType Field Encoder Encoder encode encode_field x)

-- ---- the claim

record Encodes (make : Maker) (encoder : Encoder) (cell : Slot → Bool) : Type 0 where
  takes_null : cell null ≡ true
  counts : (slots : List Slot) → list_all cell slots ≡ true → column_len (make slots) ≡ length slots
  encodes : (slots : List Slot) → list_all cell slots ≡ true → encode_stored true (make slots) ≡ encoder slots

-- what is shown of a layer, whose number of slots is known
abbrev Encoding : Maker → Encoder → (Slot → Bool) → Type 0
Encoding make encoder cell = (slots : List Slot) → list_all cell slots ≡ true → encode_stored true (make slots) ≡ encoder slots

abbrev TypeEncoding : DataType → Type 0
TypeEncoding t = is_buildable t ≡ true → (whole : DataType) → type_layer whole ≡ type_layer t
    → Encoding (fresh_under t whole) (encode t) (fits_cell t)

abbrev FieldEncodes : Field → Type 0
FieldEncodes u = buildable_field u ≡ true → Encodes (fresh_field u) (encode_field u) (cell_field u)

at_roll : (x : Layer)
    → (buildable_layer x ≡ true → (whole : DataType) → type_layer whole ≡ type_layer (roll-DataType x)
    → Encoding (fresh_layer x whole) (encode_layer x) (cell_layer x)) → TypeEncoding (roll-DataType x)
at_roll x h = rw (
  para-roll-DataType Bool Bool buildable_step (λ field. field.data_type.1) x,
  para-roll-DataType MakerUnder Maker fresh_step fresh_field_step x,
  fold-roll-DataType Encoder Encoder encode_step (λ field. field.data_type) x,
  fold-roll-DataType (Slot → Bool) (Slot → Bool) fits_step (λ field. field.data_type) x,
) h

-- at a layer that is no extension
at_plain : (x : Layer) → is_extension x ≡ false
    → (buildable_layer x ≡ true → (whole : DataType) → type_layer whole ≡ x → Encoding (fresh_layer x whole) (encode_layer x) (cell_layer x))
    → TypeEncoding (roll-DataType x)
at_plain x plain h = at_roll x (λ can whole is. h can whole (is ∙ layer_itself x plain))

-- ---- without children

numbers_encode : (kind : PrimitiveType) → is_float kind ≡ false → (whole : DataType) (slots : List Slot)
    → stored_len (numbers_as kind slots) ≡ length slots
    → encode_stored true (flat whole (mask_of slots) (numbers_as kind slots)) ≡ values_column (kind_bytes kind) slots
numbers_encode kind plain whole slots size =
    flat_same whole slots (numbers_as kind slots) (flat_map (kind_bytes kind) slots ∷ []) size
    (numbers_same (offset_width (type_layer whole)) kind slots plain)

texts_encode : (w : Width) (whole : DataType) → offset_width (type_layer whole) ≡ w → (slots : List Slot)
    → encode_stored true (flat whole (mask_of slots) (texts (content_offsets slots) (flat_map content_of slots))) ≡ bytes_column w slots
texts_encode w whole width slots =
    flat_same whole slots (texts (content_offsets slots) (flat_map content_of slots)) _ (offsets_count (λ slot. length (content_of slot)) slots)
    (strings_same (offset_width (type_layer whole)) slots
    ∙ ap (λ w. offset_bytes w (map (λ slot. length (content_of slot)) slots) ∷ flat_map content_of slots ∷ []) width)

strings_encode : (w : Width) (whole : DataType) → offset_width (type_layer whole) ≡ w → (slots : List Slot)
    → encode_stored true (flat whole (mask_of slots) (byte_strings (content_offsets slots) (flat_map content_of slots))) ≡ bytes_column w slots
strings_encode w whole width slots =
    flat_same whole slots (byte_strings (content_offsets slots) (flat_map content_of slots)) _
    (offsets_count (λ slot. length (content_of slot)) slots)
    (strings_same (offset_width (type_layer whole)) slots
    ∙ ap (λ w. offset_bytes w (map (λ slot. length (content_of slot)) slots) ∷ flat_map content_of slots ∷ []) width)

-- ---- with children

lists_encode : (w : Width) (whole : DataType) → offset_width (type_layer whole) ≡ w → (item : Maker) (encoder : Encoder) (cell : Slot → Bool)
    → Encodes item encoder cell → (slots : List Slot) → list_all cell (joined_items slots) ≡ true
    → encode_stored true (fresh_lists whole item slots) ≡ list_column w encoder slots
lists_encode w whole width item encoder cell below slots fits =
    let offsets : List ℕ = item_offsets slots in
    let child = item (joined_items slots) in
    let total : ℕ = length (joined_items slots) in
    let are : AreOffsets offsets (length slots) total = piece_offsets items_of slots in
    let n : ℕ = length offsets - 1 in
    let range : (taken : List ℕ) → taken ≡ offsets
    → encode_range true child (slice_index taken 0) (last_offset taken - slice_index taken 0) ≡ encoder (joined_items slots) =
    λ taken e. ap (λ (t : List ℕ). encode_range true child (slice_index t 0) (last_offset t - slice_index t 0)) e
    ∙ (λ j. encode_range true child (are.first j) (are.last j - are.first j))
    ∙ ap (encode_range true child 0) (less_0 total ∙ sym (below.counts (joined_items slots) fits))
    ∙ below.encodes (joined_items slots) fits in
    let taken : cut_list offsets 0 (n + 1) ≡ offsets = whole_offsets offsets (length slots) total are in
    column_same slots n _ (offset_bytes w (map (λ slot. length (items_of slot)) slots) ∷ []) _ (encoder (joined_items slots) ∷ [])
    (offsets_count (λ slot. length (items_of slot)) slots)
    (ap (λ b. b ∷ []) (ap (moved_bytes true (offset_width (type_layer whole))) taken
    ∙ offsets_same (offset_width (type_layer whole)) offsets (length slots) total are
    ∙ ap (λ w. offset_bytes w (map (λ slot. length (items_of slot)) slots)) width))
    (ap (λ c. c ∷ []) (range (cut_list offsets 0 (n + 1)) taken))
  where
    less_0 : (n : ℕ) → n - 0 ≡ n
    less_0 n = omega arith

-- ---- the fields of a struct

abbrev Children : Type 0
Children = List (FieldWith FieldEncodes)

abbrev fields_of : Children → List Field
fields_of ys = map (λ e. e.0) ys

take_nulls : (ys : Children) → can_all (fields_of ys) ≡ true → TakeNull (map cell_field (fields_of ys))
take_nulls [] can = tt
take_nulls (y ∷ ys) can =
    let parts = and_parts (buildable_field y.0) (can_all (fields_of ys)) can in ((y.1 parts.0).takes_null, take_nulls ys parts.1)

children_encode : (ys : Children) → can_all (fields_of ys) ≡ true → (slots : List Slot) (k : ℕ)
    → fields_pass (map cell_field (fields_of ys)) slots k
    → encode_ranges true (fresh_fields (makers_of (fields_of ys)) slots k) 0 (length slots)
    ≡ field_columns (map encode_field (fields_of ys)) slots k
children_encode [] can slots k fit = refl
children_encode (y ∷ ys) can slots k fit =
    let parts = and_parts (buildable_field y.0) (can_all (fields_of ys)) can in
    let below = y.1 parts.0 in
    let column = fresh_field y.0 (field_slots slots k) in
    let size : length slots ≡ column_len column =
    sym (length-map slots (field_of k)) ∙ sym (below.counts (field_slots slots k) fit.0) in
    let here : encode_range true column 0 (length slots) ≡ encode_field y.0 (field_slots slots k) =
    ap (encode_range true column 0) size ∙ below.encodes (field_slots slots k) fit.0 in
    let rest = children_encode ys parts.1 slots (suc k) fit.1 in
    λ j. here j ∷ rest j

-- ---- the induction

all_nulls : (slots : List Slot) → list_all is_null slots ≡ true → length slots ≡ null_count slots
all_nulls [] fits = refl
all_nulls (slot ∷ slots) fits =
    let parts = and_parts (is_null slot) (list_all is_null slots) fits in
    ap suc (all_nulls slots parts.1) ∙ one_more (null_count slots) ∙ (λ j. cond (sym parts.0 j) 1 0 + null_count slots)
    ∙ sym (sum_by-cons (λ s. cond (is_null s) 1 0) slot slots)
  where
    one_more : (n : ℕ) → suc n ≡ 1 + n
    one_more n = omega arith

truths_same : (slots : List Slot) → bitmap_bytes (cut_list (map is_true slots) 0 (length (map is_true slots))) ≡ bitmap_of is_true slots
truths_same slots = ap bitmap_bytes (whole_cut (map is_true slots) (length (map is_true slots)) refl) ∙ sym (bitmap_answers is_true slots)

pieces_same : (content : List ℕ) (size n : ℕ) → length content ≡ size * n → cut_list content (size * 0) (size * n) ≡ content
pieces_same content size n e = ap (λ o. cut_list content o (size * n)) (times_0 size) ∙ whole_cut content (size * n) e
  where
    times_0 : (size : ℕ) → size * 0 ≡ 0
    times_0 size = omega arith

fixed_bytes_encode : (size : ℕ) → nat_le 1 size ≡ true → (whole : DataType) (slots : List Slot) → list_all (is_bytes_of size) slots ≡ true
    → encode_stored true (flat whole (mask_of slots) (fixed_bytes size (flat_map (fixed_content_of size) slots)))
    ≡ values_column (fixed_content_of size) slots
fixed_bytes_encode size at_least whole slots fits =
    let content : List ℕ = flat_map (fixed_content_of size) slots in
    let long : length content ≡ size * length slots = pieces_length (is_bytes_of size) (fixed_content_of size) size (content_piece size) slots fits in
    let count : length content / size ≡ length slots = of_size size (length content) (length slots) at_least long in
    flat_same whole slots (fixed_bytes size content) (content ∷ []) count
    (ap (λ b. b ∷ []) (pieces_same content size (length content / size) (long ∙ ap (λ n. size * n) (sym count))))

fixed_lists_encode : (size : ℕ) → nat_le 1 size ≡ true → (whole : DataType) (item : Maker) (encoder : Encoder) (cell : Slot → Bool)
    → Encodes item encoder cell → (slots : List Slot) → list_all (is_list_of_size size cell) slots ≡ true
    → encode_stored true (fixed_lists whole (mask_of slots) size (item (joined_fixed_items size slots)))
    ≡ column_over (node_of slots) (validity_bytes slots ∷ []) (encoder (joined_fixed_items size slots) ∷ [])
fixed_lists_encode size at_least whole item encoder cell below slots fits =
    let child = item (joined_fixed_items size slots) in
    let each = fixed_items_fit size cell below.takes_null slots fits in
    let long : column_len child ≡ size * length slots =
    below.counts (joined_fixed_items size slots) each
    ∙ pieces_length (is_list_of_size size cell) (fixed_items_of size) size (fixed_piece size cell) slots fits in
    let count : column_len child / size ≡ length slots = of_size size (column_len child) (length slots) at_least long in
    let range : encode_range true child (size * 0) (size * (column_len child / size)) ≡ encoder (joined_fixed_items size slots) =
    ap (λ o. encode_range true child o (size * (column_len child / size))) (times_0 size)
    ∙ ap (encode_range true child 0) (ap (λ n. size * n) count ∙ sym long)
    ∙ below.encodes (joined_fixed_items size slots) each in
    column_same slots (column_len child / size) [] [] _ (encoder (joined_fixed_items size slots) ∷ []) count refl (ap (λ c. c ∷ []) range)
  where
    times_0 : (size : ℕ) → size * 0 ≡ 0
    times_0 size = omega arith

keys_encode : (key : IntegerType) (value : DataType) (is_ordered : Bool) (whole : DataType) → type_layer whole ≡ layer.Dictionary key value is_ordered
    → (make : Maker) (slots : List Slot) → encode_stored true (fresh_keys whole make slots) ≡ dictionary_column key slots
keys_encode key value is_ordered whole is make slots =
    let keys : List ℤ = map (λ slot. pos (key_among (dictionary_values slots) slot)) slots in
    column_same slots (length keys) _ _ [] [] (length-map slots (λ slot. pos (key_among (dictionary_values slots) slot)))
    (ap (λ b. b ∷ []) (ap (λ x. key_bytes true x (cut_list keys 0 (length keys))) is ∙ keys_same key slots)) refl

encoding_step : (y : LayerWith TypeEncoding FieldEncodes) → TypeEncoding (roll-DataType (bare_layer TypeEncoding FieldEncodes y))
encoding_step layer.Null = at_plain layer.Null refl (λ can whole is slots fits. ap (λ n. column_over (length slots, n) [] []) (all_nulls slots fits))
encoding_step layer.Boolean = at_plain layer.Boolean refl (λ can whole is slots fits.
    flat_same whole slots (bits (map is_true slots)) (bitmap_of is_true slots ∷ []) (length-map slots is_true)
    (ap (λ b. b ∷ []) (truths_same slots)))
encoding_step layer.Int8 =
    at_plain layer.Int8 refl (λ can whole is slots fits. numbers_encode kinds.Int8 refl whole slots (length-map slots _))
encoding_step layer.Int16 =
    at_plain layer.Int16 refl (λ can whole is slots fits. numbers_encode kinds.Int16 refl whole slots (length-map slots _))
encoding_step layer.Int32 =
    at_plain layer.Int32 refl (λ can whole is slots fits. numbers_encode kinds.Int32 refl whole slots (length-map slots _))
encoding_step layer.Int64 =
    at_plain layer.Int64 refl (λ can whole is slots fits. numbers_encode kinds.Int64 refl whole slots (length-map slots _))
encoding_step layer.UInt8 =
    at_plain layer.UInt8 refl (λ can whole is slots fits. numbers_encode kinds.UInt8 refl whole slots (length-map slots _))
encoding_step layer.UInt16 =
    at_plain layer.UInt16 refl (λ can whole is slots fits. numbers_encode kinds.UInt16 refl whole slots (length-map slots _))
encoding_step layer.UInt32 =
    at_plain layer.UInt32 refl (λ can whole is slots fits. numbers_encode kinds.UInt32 refl whole slots (length-map slots _))
encoding_step layer.UInt64 =
    at_plain layer.UInt64 refl (λ can whole is slots fits. numbers_encode kinds.UInt64 refl whole slots (length-map slots _))
encoding_step layer.Date32 =
    at_plain layer.Date32 refl (λ can whole is slots fits. numbers_encode kinds.Int32 refl whole slots (length-map slots _))
encoding_step layer.Date64 =
    at_plain layer.Date64 refl (λ can whole is slots fits. numbers_encode kinds.Int64 refl whole slots (length-map slots _))
encoding_step (layer.Timestamp unit timezone) =
    at_plain (layer.Timestamp unit timezone) refl (λ can whole is slots fits. numbers_encode kinds.Int64 refl whole slots (length-map slots _))
encoding_step (layer.Time32 unit) =
    at_plain (layer.Time32 unit) refl (λ can whole is slots fits. numbers_encode kinds.Int32 refl whole slots (length-map slots _))
encoding_step (layer.Time64 unit) =
    at_plain (layer.Time64 unit) refl (λ can whole is slots fits. numbers_encode kinds.Int64 refl whole slots (length-map slots _))
encoding_step (layer.Duration unit) =
    at_plain (layer.Duration unit) refl (λ can whole is slots fits. numbers_encode kinds.Int64 refl whole slots (length-map slots _))
encoding_step (layer.Interval intervals.YearMonth) =
    at_plain (layer.Interval intervals.YearMonth) refl (λ can whole is slots fits. numbers_encode kinds.Int32 refl whole slots (length-map slots _))
encoding_step (layer.Interval intervals.DayTime) =
    at_plain (layer.Interval intervals.DayTime) refl (λ can whole is slots fits. numbers_encode kinds.DaysMs refl whole slots (length-map slots _))
encoding_step (layer.Interval intervals.MonthDayNano) =
    at_plain (layer.Interval intervals.MonthDayNano) refl (λ can whole is slots fits. numbers_encode kinds.MonthDayNano refl whole slots
    (length-map slots _))
encoding_step (layer.Decimal precision scale) =
    at_plain (layer.Decimal precision scale) refl (λ can whole is slots fits. numbers_encode kinds.Int128 refl whole slots (length-map slots _))
encoding_step (layer.Decimal256 precision scale) =
    at_plain (layer.Decimal256 precision scale) refl (λ can whole is slots fits. numbers_encode kinds.Int256 refl whole slots (length-map slots _))
encoding_step layer.Float16 = at_plain layer.Float16 refl (λ can whole is. absurd (unlike can))
encoding_step layer.Float32 = at_plain layer.Float32 refl (λ can whole is. absurd (unlike can))
encoding_step layer.Float64 = at_plain layer.Float64 refl (λ can whole is. absurd (unlike can))
encoding_step layer.Utf8 = at_plain layer.Utf8 refl (λ can whole is slots fits. texts_encode w32 whole (ap offset_width is) slots)
encoding_step layer.LargeUtf8 = at_plain layer.LargeUtf8 refl (λ can whole is slots fits. texts_encode w64 whole (ap offset_width is) slots)
encoding_step layer.Binary = at_plain layer.Binary refl (λ can whole is slots fits. strings_encode w32 whole (ap offset_width is) slots)
encoding_step layer.LargeBinary = at_plain layer.LargeBinary refl (λ can whole is slots fits. strings_encode w64 whole (ap offset_width is) slots)
encoding_step (layer.FixedSizeBinary size) =
    at_plain (layer.FixedSizeBinary size) refl (λ can whole is slots fits. fixed_bytes_encode size can whole slots fits)
encoding_step (layer.List item) = at_plain (layer.List item.0) refl (λ can whole is slots fits.
    lists_encode w32 whole (ap offset_width is) (fresh_field item.0) (encode_field item.0) (cell_field item.0) (item.1 can) slots
    (items_fit (cell_field item.0) slots fits))
encoding_step (layer.LargeList item) = at_plain (layer.LargeList item.0) refl (λ can whole is slots fits.
    lists_encode w64 whole (ap offset_width is) (fresh_field item.0) (encode_field item.0) (cell_field item.0) (item.1 can) slots
    (items_fit (cell_field item.0) slots fits))
encoding_step (layer.Map entry is_sorted) = at_plain (layer.Map entry.0 is_sorted) refl (λ can whole is slots fits.
    let parts = and_parts (is_entry (out-DataType entry.0.data_type)) (buildable_field entry.0) can in
    lists_encode w32 whole (ap offset_width is) (fresh_field entry.0) (encode_field entry.0) (cell_field entry.0) (entry.1 parts.1) slots
    (ap (list_all (cell_field entry.0)) (no_items slots fits)))
encoding_step (layer.FixedSizeList item size) = at_plain (layer.FixedSizeList item.0 size) refl (λ can whole is slots fits.
    let parts = and_parts (nat_le 1 size) (buildable_field item.0) can in
    fixed_lists_encode size parts.0 whole (fresh_field item.0) (encode_field item.0) (cell_field item.0) (item.1 parts.1) slots fits)
encoding_step (layer.Struct children) = at_plain (layer.Struct (fields_of children)) refl (λ can whole is slots fits.
    let parts = and_parts (nat_le 1 (length (answers (fields_of children)))) (can_all (fields_of children)) can in
    column_same slots (length slots) [] [] _ (field_columns (map encode_field (fields_of children)) slots 0) refl refl
    (children_encode children parts.1 slots 0
    (fields_fit (map cell_field (fields_of children)) slots (take_nulls children parts.1) fits)))
encoding_step (layer.Union children ids mode) =
    at_plain (layer.Union (fields_of children) ids mode) refl (λ can whole is. absurd (unlike can))
encoding_step (layer.Dictionary key value is_ordered) = at_plain (layer.Dictionary key value.0 is_ordered) refl (λ can whole is slots fits.
    keys_encode key value.0 is_ordered whole is (fresh_under value.0 value.0) slots)
encoding_step (layer.Extension name inner metadata) = at_roll (layer.Extension name inner.0 metadata) (λ can whole is.
    inner.1 can whole (is ∙ layer_within name inner.0 metadata))

field_encodes : (x : layer.Field-F DataType Field) → TypeEncoding x.data_type → FieldEncodes (roll-Field x)
field_encodes x h can =
    let ok = sym (para-roll-Field Bool Bool buildable_step (λ field. field.data_type.1) x) ∙ can in
    let here : Encodes (fresh_under x.data_type x.data_type) (encode x.data_type) (fits_cell x.data_type) = record {
      takes_null = null_fits x.data_type;
      counts = λ slots fits. fresh_counts x.data_type ok x.data_type slots fits;
      encodes = λ slots fits. h ok x.data_type refl slots fits;
    } in
    rw (
      para-roll-Field MakerUnder Maker fresh_step fresh_field_step x,
      fold-roll-Field Encoder Encoder encode_step (λ field. field.data_type) x,
      fold-roll-Field (Slot → Bool) (Slot → Bool) fits_step (λ field. field.data_type) x,
    ) here

encoding_all : (t : DataType) → TypeEncoding t
encoding_all = ind-DataType TypeEncoding FieldEncodes (λ x y is. subst (λ (x : Layer). TypeEncoding (roll-DataType x)) is (encoding_step y))
    (λ x y is. subst (λ (x : layer.Field-F DataType Field). FieldEncodes (roll-Field x)) is
    (field_encodes (map-Field (TypeWith TypeEncoding) (FieldWith FieldEncodes) DataType Field (λ e. e.0) (λ e. e.0) y) y.data_type.1))

pub encoding_of : (t : DataType) → is_buildable t ≡ true → (slots : List Slot) → list_all (fits_cell t) slots ≡ true
    → encode_stored true (fresh t slots) ≡ encode t slots
encoding_of t can slots fits = encoding_all t can t refl slots fits

pub fresh_encodes : FreshEncodes
fresh_encodes t slots can fit = encoding_of t can slots (and_parts (list_all (fits_cell t) slots) (is_within t slots) fit).0
