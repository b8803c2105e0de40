-- The buffers of the column that stores some slots are those of the slots.
use Rattle.std.proofs.Common.{◌≡◌, ◌∙◌, ℕ, suc, ◌+◌, ◌-◌, Bool, true, false, List, [], ◌∷◌, ◌++◌, length, map}
use Rattle.std.proofs.Common.{replicate, refl, sym, ap, arith, length-append}
use Rattle.std.specs.Prelude.{ℤ, pos, nat_lt, Option, Some, None, if◌then◌else◌, slice_index, slice_range, cond}
use Rattle.std.specs.List.{flat_map, list_any}
use Rattle.std.specs.Int.{Width, w8, w16, w32, w64, w128, byte_len, to_le_bytes, cast_unsigned}
use Rattle.std.proofs.lemmas.Bool.{or_parts, cases_Bool}
use Rattle.std.proofs.lemmas.List.{length-map}
use Rattle.std.proofs.lemmas.List.Sums.{sum_by-cons}
use mathlib.Core.Logic.{inl, inr}
use Rattle.ipc_format_grammar.specs.columnar_memory.declared.DataType.{DataType}
use Rattle.ipc_format_grammar.specs.columnar_memory.declared.IntegerType.{IntegerType}
use Rattle.ipc_format_grammar.specs.columnar_memory.declared.PrimitiveType.{PrimitiveType}
use Rattle.ipc_format_grammar.specs.columnar_memory.declared.PrimitiveType.TheVariants as kinds
use Rattle.ipc_format_grammar.specs.columns.Cells.{is_null}
use Rattle.ipc_format_grammar.specs.columns.Children.{dictionary_values}
use Rattle.ipc_format_grammar.specs.columns.FreshColumns.{is_valid, number_of, pair_of, triple_of, mask_of, sums_from, numbers_as, key_among}
use Rattle.ipc_format_grammar.specs.columns.FreshColumns.{content_of}
use Rattle.ipc_format_grammar.specs.columns.Slots.{Slot, number, pair, triple}
use Rattle.ipc_format_grammar.specs.columns.StoredColumns.{Stored, flat, stored_len, cut_list, cut_mask, cut_stored, type_layer}
use Rattle.ipc_format_grammar.proofs.columns_lemmas.FreshLengths.{sums_length}
use Rattle.ipc_format_grammar.specs.Buffers.{null_count, validity_bytes, bitmap_of, number_bytes, wide_bytes, days_and_ms_bytes}
use Rattle.ipc_format_grammar.specs.Buffers.{months_days_and_ns_bytes, kind_bytes, key_width, offset_bytes}
use Rattle.ipc_format_grammar.specs.Encoding.{Encoded, column_over, node_of, flat_column}
use Rattle.ipc_format_grammar.specs.StoredEncoding.{mask_nulls, mask_bytes, node_over, last_offset, moved_bytes, between_offsets}
use Rattle.ipc_format_grammar.specs.StoredEncoding.{stored_buffers, offset_width, integer_bytes, encode_stored}
use Rattle.ipc_format_laws.proofs.FlatColumns.{front_by, whole_cut}

-- ---- masks

no_null_count : (slots : List Slot) → list_any is_null slots ≡ false → null_count slots ≡ 0
no_null_count [] h = refl
no_null_count (slot ∷ slots) h =
    let parts = or_parts (is_null slot) (list_any is_null slots) h in
    sum_by-cons (λ s. cond (is_null s) 1 0) slot slots ∙ (λ j. cond (parts.0 j) 1 0 + no_null_count slots parts.1 j)

abbrev HasFront : List Slot → Option (List Bool) → ℕ → Type 0
HasFront slots mask n = (null_count slots ≡ mask_nulls (cut_mask mask 0 n)) × (validity_bytes slots ≡ mask_bytes (cut_mask mask 0 n))

front : (slots : List Slot) (n : ℕ) → n ≡ length slots → HasFront slots (mask_of slots) n
front slots n size =
    elim (cases_Bool (list_any is_null slots)) [
      | inl some ↦ subst_mask (Some (map is_valid slots)) (ap (λ b. if b then Some (map is_valid slots) else None) (sym some))
          (front_by slots (cut_list (map is_valid slots) 0 n) (sym (whole_cut (map is_valid slots) n (length-map slots is_valid ∙ sym size))))
      | inr none ↦ subst_mask None (ap (λ b. if b then Some (map is_valid slots) else None) (sym none))
          (no_null_count slots none, ap (λ k. if nat_lt 0 k then bitmap_of is_valid slots else []) (no_null_count slots none))
    ]
  where
    subst_mask : (mask : Option (List Bool)) → mask ≡ mask_of slots → HasFront slots mask n → HasFront slots (mask_of slots) n
    subst_mask mask e h = (h.0 ∙ ap (λ m. mask_nulls (cut_mask m 0 n)) e, h.1 ∙ ap (λ m. mask_bytes (cut_mask m 0 n)) e)

-- a column over what stands below it, with its node and its validity
pub column_same : (slots : List Slot) (n : ℕ) (buffers others : List (List ℕ)) (below more : List Encoded) → n ≡ length slots → buffers ≡ others
    → below ≡ more
    → column_over (node_over n (cut_mask (mask_of slots) 0 n)) (mask_bytes (cut_mask (mask_of slots) 0 n) ∷ buffers) below
    ≡ column_over (node_of slots) (validity_bytes slots ∷ others) more
column_same slots n buffers others below more size same alike =
    let parts = front slots n size in
    λ j. column_over (size j, sym parts.0 j) (sym parts.1 j ∷ same j) (alike j)

-- a column without children
pub flat_same : (whole : DataType) (slots : List Slot) (stored : Stored) (buffers : List (List ℕ)) → stored_len stored ≡ length slots
    → stored_buffers true (offset_width (type_layer whole)) (cut_stored stored 0 (stored_len stored)) ≡ buffers
    → encode_stored true (flat whole (mask_of slots) stored) ≡ flat_column buffers slots
flat_same whole slots stored buffers size same = column_same slots (stored_len stored) _ buffers [] [] size same refl

-- ---- values

mapped : {A B C : Type 0} (g : B → List C) (h : A → B) (xs : List A) → flat_map g (map h xs) ≡ flat_map (λ x. g (h x)) xs
mapped g h [] = refl
mapped g h (x ∷ xs) = ap (λ rest. g (h x) ++ rest) (mapped g h xs)

same_each : {A C : Type 0} (f g : A → List C) → ((x : A) → f x ≡ g x) → (xs : List A) → flat_map f xs ≡ flat_map g xs
same_each f g each [] = refl
same_each f g each (x ∷ xs) = λ j. each x j ++ same_each f g each xs j

-- stored values are written as the slots that they are of
pub values_same : {V : Type 0} (f : Slot → List ℕ) (g : V → List ℕ) (h : Slot → V) → ((slot : Slot) → g (h slot) ≡ f slot) → (slots : List Slot)
    → flat_map g (cut_list (map h slots) 0 (length (map h slots))) ≡ flat_map f slots
values_same f g h each slots =
    ap (flat_map g) (whole_cut (map h slots) (length (map h slots)) refl) ∙ mapped g h slots ∙ same_each (λ slot. g (h slot)) f each slots

zeros : (w : Width) → to_le_bytes w (cast_unsigned w (pos 0)) ≡ replicate (byte_len w) 0
zeros w8 = refl
zeros w16 = refl
zeros w32 = refl
zeros w64 = refl
zeros w128 = refl

number_same : (w : Width) (kind : PrimitiveType) (slot : Slot) → number_bytes w (number kind (number_of slot)) ≡ number_bytes w slot
number_same w kind (number own n) = refl
number_same w kind _ = zeros w

wide_same : (kind : PrimitiveType) (slot : Slot) → wide_bytes (number kind (number_of slot)) ≡ wide_bytes slot
wide_same kind (number own n) = refl
wide_same kind _ = refl

pair_same : (slot : Slot) → days_and_ms_bytes (pair kinds.DaysMs (pair_of slot).0 (pair_of slot).1) ≡ days_and_ms_bytes slot
pair_same (pair own days ms) = refl
pair_same _ = refl

triple_same : (slot : Slot)
    → months_days_and_ns_bytes (triple kinds.MonthDayNano (triple_of slot).0 (triple_of slot).1 (triple_of slot).2)
    ≡ months_days_and_ns_bytes slot
triple_same (triple own months days ns) = refl
triple_same _ = refl

-- a kind of which each number is written
abbrev pub is_float : PrimitiveType → Bool
is_float kinds.Float16 = true
is_float kinds.Float32 = true
is_float kinds.Float64 = true
is_float _ = false

-- a whole number of a kind
abbrev whole_bytes : PrimitiveType → ℤ → List ℕ
whole_bytes kind n = kind_bytes kind (number kind n)

pub numbers_same : (w : Width) (kind : PrimitiveType) (slots : List Slot) → is_float kind ≡ false
    → stored_buffers true w (cut_stored (numbers_as kind slots) 0 (stored_len (numbers_as kind slots))) ≡ flat_map (kind_bytes kind) slots ∷ []
numbers_same w kinds.Int8 slots plain = ap (λ b. b ∷ []) (values_same (kind_bytes kinds.Int8) (whole_bytes kinds.Int8) number_of
    (number_same w8 kinds.Int8) slots)
numbers_same w kinds.Int16 slots plain = ap (λ b. b ∷ []) (values_same (kind_bytes kinds.Int16) (whole_bytes kinds.Int16) number_of
    (number_same w16 kinds.Int16) slots)
numbers_same w kinds.Int32 slots plain = ap (λ b. b ∷ []) (values_same (kind_bytes kinds.Int32) (whole_bytes kinds.Int32) number_of
    (number_same w32 kinds.Int32) slots)
numbers_same w kinds.Int64 slots plain = ap (λ b. b ∷ []) (values_same (kind_bytes kinds.Int64) (whole_bytes kinds.Int64) number_of
    (number_same w64 kinds.Int64) slots)
numbers_same w kinds.Int128 slots plain = ap (λ b. b ∷ []) (values_same (kind_bytes kinds.Int128) (whole_bytes kinds.Int128) number_of
    (number_same w128 kinds.Int128) slots)
numbers_same w kinds.Int256 slots plain = ap (λ b. b ∷ []) (values_same (kind_bytes kinds.Int256) (whole_bytes kinds.Int256) number_of
    (wide_same kinds.Int256) slots)
numbers_same w kinds.UInt8 slots plain = ap (λ b. b ∷ []) (values_same (kind_bytes kinds.UInt8) (whole_bytes kinds.UInt8) number_of
    (number_same w8 kinds.UInt8) slots)
numbers_same w kinds.UInt16 slots plain = ap (λ b. b ∷ []) (values_same (kind_bytes kinds.UInt16) (whole_bytes kinds.UInt16) number_of
    (number_same w16 kinds.UInt16) slots)
numbers_same w kinds.UInt32 slots plain = ap (λ b. b ∷ []) (values_same (kind_bytes kinds.UInt32) (whole_bytes kinds.UInt32) number_of
    (number_same w32 kinds.UInt32) slots)
numbers_same w kinds.UInt64 slots plain = ap (λ b. b ∷ []) (values_same (kind_bytes kinds.UInt64) (whole_bytes kinds.UInt64) number_of
    (number_same w64 kinds.UInt64) slots)
numbers_same w kinds.DaysMs slots plain = ap (λ b. b ∷ []) (values_same (kind_bytes kinds.DaysMs) (λ (v : ℤ × ℤ). kind_bytes kinds.DaysMs
    (pair kinds.DaysMs v.0 v.1)) pair_of pair_same slots)
numbers_same w kinds.MonthDayNano slots plain = ap (λ b. b ∷ []) (values_same (kind_bytes kinds.MonthDayNano) (λ
    (v : ℤ × ℤ × ℤ). kind_bytes kinds.MonthDayNano (triple kinds.MonthDayNano v.0 v.1 v.2)) triple_of triple_same slots)
numbers_same w kinds.Float16 slots plain = absurd cc
numbers_same w kinds.Float32 slots plain = absurd cc
numbers_same w kinds.Float64 slots plain = absurd cc

-- ---- offsets

moved_none : (ns : List ℕ) → map (λ n. n - 0) ns ≡ ns
moved_none [] = refl
moved_none (n ∷ ns) = λ j. none n j ∷ moved_none ns j
  where
    none : (n : ℕ) → n - 0 ≡ n
    none n = omega arith

first_sum : (sum : ℕ) (ns : List ℕ) → slice_index (sums_from sum ns) 0 ≡ sum
first_sum sum [] = refl
first_sum sum (n ∷ ns) = refl

-- offsets of pieces from 0 on: their number, the first and the last
pub record AreOffsets (offsets : List ℕ) (count total : ℕ) : Type 0 where
  pub size : length offsets ≡ suc count
  pub first : slice_index offsets 0 ≡ 0
  pub last : last_offset offsets ≡ total

last_sum : {A : Type 0} (piece : Slot → List A) (sum : ℕ) (slots : List Slot)
    → slice_index (sums_from sum (map (λ slot. length (piece slot)) slots)) (length slots) ≡ sum + length (flat_map piece slots)
last_sum piece sum [] = omega arith
last_sum piece sum (slot ∷ slots) =
    last_sum piece (sum + length (piece slot)) slots
    ∙ gather sum (length (piece slot)) (length (flat_map piece slots)) (length (piece slot ++ flat_map piece slots))
    (length-append (piece slot) (flat_map piece slots))
  where
    gather : (a b c d : ℕ) → d ≡ b + c → a + b + c ≡ a + d
    gather a b c d e = omega (arith, e)

pub piece_offsets : {A : Type 0} (piece : Slot → List A) (slots : List Slot)
    → AreOffsets (sums_from 0 (map (λ slot. length (piece slot)) slots)) (length slots) (length (flat_map piece slots))
piece_offsets piece slots =
    let lengths : List ℕ = map (λ slot. length (piece slot)) slots in
    let size : length (sums_from 0 lengths) ≡ suc (length slots) = sums_length 0 lengths ∙ ap suc (length-map slots (λ slot. length (piece slot))) in
    record {
      size = size;
      first = first_sum 0 lengths;
      last = ap (λ n. slice_index (sums_from 0 lengths) (n - 1)) size ∙ ap (slice_index (sums_from 0 lengths)) (fewer (length slots))
          ∙ last_sum piece 0 slots ∙ from_0 (length (flat_map piece slots));
    }
  where
    fewer : (n : ℕ) → suc n - 1 ≡ n
    fewer n = omega arith

    from_0 : (n : ℕ) → 0 + n ≡ n
    from_0 n = omega arith

pub whole_offsets : (offsets : List ℕ) (count total : ℕ) → AreOffsets offsets count total → cut_list offsets 0 (length offsets - 1 + 1) ≡ offsets
whole_offsets offsets count total are =
    whole_cut offsets (length offsets - 1 + 1) (again (length offsets) count are.size)
  where
    again : (n count : ℕ) → n ≡ suc count → n ≡ n - 1 + 1
    again n count e = omega (arith, e)

pub offsets_same : (w : Width) (offsets : List ℕ) (count total : ℕ) → AreOffsets offsets count total
    → moved_bytes true w offsets ≡ flat_map (to_le_bytes w) offsets
offsets_same w offsets count total are =
    ap (λ first. flat_map (to_le_bytes w) (map (λ offset. offset - first) offsets)) are.first ∙ ap (flat_map (to_le_bytes w)) (moved_none offsets)

pub between_same : (offsets content : List ℕ) (count : ℕ) → AreOffsets offsets count (length content) → between_offsets offsets content ≡ content
between_same offsets content count are =
    ap (λ first. slice_range content first (last_offset offsets)) are.first ∙ ap (slice_range content 0) are.last
    ∙ ap (slice_range content 0) (from_0 (length content)) ∙ whole_cut content (length content) refl
  where
    from_0 : (n : ℕ) → n ≡ 0 + n
    from_0 n = omega arith

-- texts and bytes
pub strings_same : (w : Width) (slots : List Slot)
    → (λ (offsets : List ℕ). moved_bytes true w offsets ∷ between_offsets offsets (flat_map content_of slots) ∷ [])
    (cut_list (sums_from 0 (map (λ slot. length (content_of slot)) slots)) 0
    (length (sums_from 0 (map (λ slot. length (content_of slot)) slots)) - 1 + 1))
    ≡ offset_bytes w (map (λ slot. length (content_of slot)) slots) ∷ flat_map content_of slots ∷ []
strings_same w slots =
    let are = piece_offsets content_of slots in
    let offsets : List ℕ = sums_from 0 (map (λ slot. length (content_of slot)) slots) in
    ap (λ (taken : List ℕ). moved_bytes true w taken ∷ between_offsets taken (flat_map content_of slots) ∷ [])
    (whole_offsets offsets (length slots) (length (flat_map content_of slots)) are)
    ∙ (λ j. offsets_same w offsets (length slots) (length (flat_map content_of slots)) are j
    ∷ between_same offsets (flat_map content_of slots) (length slots) are j ∷ [])

-- ---- keys

pub keys_same : (key : IntegerType) (slots : List Slot)
    → (λ (keys : List ℤ). integer_bytes true (key_width key) (cut_list keys 0 (length keys)))
    (map (λ slot. pos (key_among (dictionary_values slots) slot)) slots)
    ≡ flat_map (λ slot. to_le_bytes (key_width key) (key_among (dictionary_values slots) slot)) slots
keys_same key slots =
    let w : Width = key_width key in
    let keys : List ℤ = map (λ slot. pos (key_among (dictionary_values slots) slot)) slots in
    ap (integer_bytes true w) (whole_cut keys (length keys) refl)
    ∙ mapped (λ n. to_le_bytes w (cast_unsigned w n)) (λ slot. pos (key_among (dictionary_values slots) slot)) slots
