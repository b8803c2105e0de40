-- Stored numbers that are the same.
use Rattle.std.proofs.Common.{◌≡◌, ◌∙◌, ◌<◌, ◌≤◌, ◌+◌, ◌-◌, ℕ, zero, suc, ℤ, Bool, List, true, false, refl, sym, ap, arith, below_more, length, map, get_or}
use Rattle.std.specs.Prelude.{◌==◌, ◌↔◌, ◌&&◌, pos, IsTrue, Some, option_map, slice_get}
use Rattle.std.specs.List.{list_all}
use Rattle.std.proofs.lemmas.Bool.{false≢true}
use Rattle.std.proofs.lemmas.Option.{get_or_from_slice_get, slice_get-map, slice_get-get_or}
use Rattle.nested_arrays_flat.specs.columnar_memory.declared.PhysicalType.{PhysicalType}
use Rattle.nested_arrays_flat.specs.columnar_memory.declared.PhysicalType.TheVariants as physical
use Rattle.nested_arrays_flat.specs.columnar_memory.declared.PrimitiveType.{PrimitiveType}
use Rattle.nested_arrays_flat.specs.columnar_memory.declared.PrimitiveType.TheVariants as kinds
use Rattle.nested_arrays_flat.specs.columnar_memory.Layouts.{physical_type}
use Rattle.nested_arrays_flat.specs.columnar_memory.Numbers.{Numbers, one, two, three, first_number, IsNative}
use Rattle.nested_arrays_flat.specs.flat_arrays.Flat.{Flat}
use Rattle.nested_arrays_flat.proofs.columns_lemmas.Conditions.{parts_of_3}
use Rattle.nested_arrays_flat.proofs.columns_lemmas.SameSlotsDecide.{same_kind-implies}
use Rattle.nested_arrays_flat.specs.columns.Kinds.{same_kind, numbers_of_kind, in_kind}
use Rattle.nested_arrays_flat.specs.columns.Slots.{Slot, number, pair, triple}
use Rattle.nested_arrays_flat.specs.columns.SoundColumns.{are_pairs, are_triples, has_size, is_sound, is_stored_as, mask_fits}
use Rattle.nested_arrays_flat.specs.columns.StoredColumns.{Column, Stored, flat, bits, numbers, pairs, triples, texts, byte_strings, fixed_bytes}
use Rattle.nested_arrays_flat.specs.columns.StoredColumns.{column_type, slot_at, stored_at, stored_len, type_layer}
use Rattle.nested_arrays_parts.specs.Forms.{bare, column_form, stored_form}
use Rattle.nested_arrays_parts.specs.Ranges.{number_slot, SameRanges, SameStored}
use Rattle.nested_arrays_flat.specs.FlatColumns.{pair_of, triple_of, stored_numbers, primitive_column}
use Rattle.nested_arrays_flat.specs.Taken.{IsOfKind}

-- numbers of a kind are told apart by their slots
pub same_native : (kind : PrimitiveType) (m n : Numbers) → IsNative kind m → IsNative kind n → number_slot kind m ≡ number_slot kind n → m ≡ n
same_native kinds.Int8 (one x) (one y) a b h = cc
same_native kinds.Int16 (one x) (one y) a b h = cc
same_native kinds.Int32 (one x) (one y) a b h = cc
same_native kinds.Int64 (one x) (one y) a b h = cc
same_native kinds.Int128 (one x) (one y) a b h = cc
same_native kinds.Int256 (one x) (one y) a b h = cc
same_native kinds.UInt8 (one x) (one y) a b h = cc
same_native kinds.UInt16 (one x) (one y) a b h = cc
same_native kinds.UInt32 (one x) (one y) a b h = cc
same_native kinds.UInt64 (one x) (one y) a b h = cc
same_native kinds.DaysMs (two x y) (two z w) a b h = cc
same_native kinds.MonthDayNano (three x y z) (three u v w) a b h = cc
same_native kinds.Int8 (one x) _ a b h = absurd b
same_native kinds.Int16 (one x) _ a b h = absurd b
same_native kinds.Int32 (one x) _ a b h = absurd b
same_native kinds.Int64 (one x) _ a b h = absurd b
same_native kinds.Int128 (one x) _ a b h = absurd b
same_native kinds.Int256 (one x) _ a b h = absurd b
same_native kinds.UInt8 (one x) _ a b h = absurd b
same_native kinds.UInt16 (one x) _ a b h = absurd b
same_native kinds.UInt32 (one x) _ a b h = absurd b
same_native kinds.UInt64 (one x) _ a b h = absurd b
same_native kinds.DaysMs (two x y) _ a b h = absurd b
same_native kinds.MonthDayNano (three x y z) _ a b h = absurd b
same_native _ _ _ a b h = absurd a

-- the number that is stored at a place
one_there : (kind : PrimitiveType) (f : Numbers → ℤ) (values : List Numbers) (i : ℕ) (n : Numbers) → slice_get values i ≡ Some n
    → get_or (map f values) i (pos 0) ≡ f n
one_there kind f values i n is =
    get_or_from_slice_get (map f values) i (f n) (pos 0) (slice_get-map f values i ∙ ap (option_map f) is)

pub stored_there : (kind : PrimitiveType) (values : List Numbers) (i : ℕ) (n : Numbers) → slice_get values i ≡ Some n
    → stored_at (stored_numbers kind values) i ≡ number_slot kind n
stored_there kinds.DaysMs values i n is = ap (λ (p : ℤ × ℤ). pair kinds.DaysMs p.0 p.1)
    (get_or_from_slice_get (map pair_of values) i (pair_of n) (pos 0, pos 0) (slice_get-map pair_of values i ∙ ap (option_map pair_of) is))
stored_there kinds.MonthDayNano values i n is = ap (λ (p : ℤ × ℤ × ℤ). triple kinds.MonthDayNano p.0 p.1 p.2)
    (get_or_from_slice_get (map triple_of values) i (triple_of n) (pos 0, pos 0, pos 0)
    (slice_get-map triple_of values i ∙ ap (option_map triple_of) is))
stored_there kinds.Int8 values i n is = ap (number kinds.Int8) (one_there kinds.Int8 first_number values i n is)
stored_there kinds.Int16 values i n is = ap (number kinds.Int16) (one_there kinds.Int16 first_number values i n is)
stored_there kinds.Int32 values i n is = ap (number kinds.Int32) (one_there kinds.Int32 first_number values i n is)
stored_there kinds.Int64 values i n is = ap (number kinds.Int64) (one_there kinds.Int64 first_number values i n is)
stored_there kinds.Int128 values i n is = ap (number kinds.Int128) (one_there kinds.Int128 first_number values i n is)
stored_there kinds.Int256 values i n is = ap (number kinds.Int256) (one_there kinds.Int256 first_number values i n is)
stored_there kinds.UInt8 values i n is = ap (number kinds.UInt8) (one_there kinds.UInt8 first_number values i n is)
stored_there kinds.UInt16 values i n is = ap (number kinds.UInt16) (one_there kinds.UInt16 first_number values i n is)
stored_there kinds.UInt32 values i n is = ap (number kinds.UInt32) (one_there kinds.UInt32 first_number values i n is)
stored_there kinds.UInt64 values i n is = ap (number kinds.UInt64) (one_there kinds.UInt64 first_number values i n is)
stored_there kinds.Float16 values i n is = ap (number kinds.Float16) (one_there kinds.Float16 first_number values i n is)
stored_there kinds.Float32 values i n is = ap (number kinds.Float32) (one_there kinds.Float32 first_number values i n is)
stored_there kinds.Float64 values i n is = ap (number kinds.Float64) (one_there kinds.Float64 first_number values i n is)

-- the same, where the value is given
pub value_there : {T : Type 0} (kind : PrimitiveType) (number_of : T → Numbers) (values : List T) (i : ℕ) (value : T) → i < length values
    → value ≡ get_or values i value → stored_at (stored_numbers kind (map number_of values)) i ≡ number_slot kind (number_of value)
value_there kind number_of values i value h is =
    let there : slice_get values i ≡ Some value = slice_get-get_or values i value h ∙ ap Some (sym is) in
    stored_there kind (map number_of values) i (number_of value) (slice_get-map number_of values i ∙ ap (option_map number_of) there)

-- ---- runs of stored values

-- whether one value more is the same
pub one_more_stored : (l r : Stored) (i j n : ℕ) (before here : Bool) → IsTrue before ↔ SameStored l i r j n
    → IsTrue here ↔ (stored_at l (i + n) ≡ stored_at r (j + n)) → IsTrue (before && here) ↔ SameStored l i r j (n + 1)
one_more_stored l r i j n true here run next = (
  λ h. below_more (λ k. stored_at l (i + k) ≡ stored_at r (j + k)) n (run.0 refl) (next.0 h),
  λ same. next.1 (same n (omega arith)),
)
one_more_stored l r i j n false here run next = (
  λ h. absurd (false≢true h),
  λ same. absurd (false≢true (run.1 (λ k h. same k (omega (arith, h))))),
)

-- a run and the one behind it
pub joined_stored : (l r : Stored) (i j n m : ℕ) → SameStored l i r j n → SameStored l (i + n) r (j + n) m → SameStored l i r j (n + m)
joined_stored l r i j n zero before after k h = before k (omega arith)
joined_stored l r i j n (suc m) before after k h =
    below_more (λ k. stored_at l (i + k) ≡ stored_at r (j + k)) (n + m)
    (joined_stored l r i j n m before (λ k h. after k (omega arith)))
    (ap (stored_at l) (omega arith) ∙ after m (omega arith) ∙ ap (stored_at r) (omega arith)) k (omega (arith, h))

-- a part of a run
pub stored_behind : (l r : Stored) (i j n m whole : ℕ) → n + m ≤ whole → SameStored l i r j whole → SameStored l (i + n) r (j + n) m
stored_behind l r i j n m whole within same k h =
    ap (stored_at l) (omega arith) ∙ same (n + k) (omega (arith, h, within)) ∙ ap (stored_at r) (omega arith)

-- a run whose beginning is the same is the same where the rest is
pub rest_of_stored : (l r : Stored) (i j n whole : ℕ) → n ≤ whole
    → (SameStored l i r j n → SameStored l (i + n) r (j + n) (whole - n) → SameStored l i r j whole)
    × (SameStored l i r j whole → SameStored l (i + n) r (j + n) (whole - n))
rest_of_stored l r i j n whole within = (
  λ before after k h. joined_stored l r i j n (whole - n) before after k (omega (arith, h, within)),
  λ same. stored_behind l r i j n (whole - n) whole (omega (arith, within)) same,
)

-- ---- numbers of another kind

-- the kind of a number
abbrev kind_in : Slot → PrimitiveType
kind_in (number kind n) = kind
kind_in (pair kind a b) = kind
kind_in (triple kind a b c) = kind
kind_in _ = kinds.Int8

stored_kind : (kind : PrimitiveType) (values : List Numbers) (i : ℕ) → kind_in (stored_at (stored_numbers kind values) i) ≡ kind
stored_kind kinds.DaysMs values i = refl
stored_kind kinds.MonthDayNano values i = refl
stored_kind kinds.Int8 values i = refl
stored_kind kinds.Int16 values i = refl
stored_kind kinds.Int32 values i = refl
stored_kind kinds.Int64 values i = refl
stored_kind kinds.Int128 values i = refl
stored_kind kinds.Int256 values i = refl
stored_kind kinds.UInt8 values i = refl
stored_kind kinds.UInt16 values i = refl
stored_kind kinds.UInt32 values i = refl
stored_kind kinds.UInt64 values i = refl
stored_kind kinds.Float16 values i = refl
stored_kind kinds.Float32 values i = refl
stored_kind kinds.Float64 values i = refl

-- the layout of stored numbers names their kind
layout_kind : (layout : PhysicalType) (stored : Stored) (i : ℕ) → is_stored_as layout stored ≡ true
    → stored_form stored ≡ 2 → layout ≡ physical.Primitive (kind_in (stored_at stored i))
layout_kind layout (bits values) i h is = absurd (omega arith)
layout_kind (physical.Primitive kind) (numbers own values) i h is =
    let parts = parts_of_3 (same_kind kind own) (numbers_of_kind own == 1) (list_all (in_kind own) values) h in
    ap physical.Primitive (same_kind-implies kind own parts.0)
layout_kind (physical.Primitive kind) (pairs own values) i h is =
    ap physical.Primitive (same_kind-implies kind own (parts_of_3 (same_kind kind own) (numbers_of_kind own == 2) (are_pairs values) h).0)
layout_kind (physical.Primitive kind) (triples own values) i h is =
    ap physical.Primitive (same_kind-implies kind own (parts_of_3 (same_kind kind own) (numbers_of_kind own == 3) (are_triples values) h).0)
layout_kind layout (texts offsets content) i h is = absurd (omega arith)
layout_kind layout (byte_strings offsets content) i h is = absurd (omega arith)
layout_kind layout (fixed_bytes size content) i h is = absurd (omega arith)
layout_kind _ _ i h is = absurd (false≢true h)

sound_kind : (c : Column) (i : ℕ) → is_sound c ≡ true → column_form c ≡ 2
    → physical_type (column_type c) ≡ physical.Primitive (kind_in (slot_at (bare c) i))
sound_kind (flat t mask stored) i h is =
    layout_kind (physical_type t) stored i
    (parts_of_3 (is_stored_as (physical_type t) stored) (has_size (type_layer t) stored) (mask_fits mask (stored_len stored)) h).0 is
sound_kind _ i h is = absurd (omega arith)

-- numbers of a kind are none of another
pub other_kind : {T : Type 0} (kind : PrimitiveType) (number_of : T → Numbers) (left : Flat T) (i : ℕ) (right : Column) (j : ℕ)
    → is_sound right ≡ true → column_form right ≡ 2 → ¬ IsOfKind kind right
    → ¬ (slot_at (bare (primitive_column kind number_of left)) i ≡ slot_at (bare right) j)
other_kind kind number_of left i right j sound is other = λ same.
    other (sound_kind right j sound is
    ∙ ap physical.Primitive (sym (ap kind_in same) ∙ stored_kind kind (map number_of left.values) i))

-- numbers of an array that is known by its parts
pub same_part : {T : Type 0} (kind : PrimitiveType) (number_of : T → Numbers) (left whole : Flat T) (right : Column) (i j n : ℕ)
    → primitive_column kind number_of whole ≡ right
    → SameStored (stored_numbers kind (map number_of left.values)) i (stored_numbers kind (map number_of whole.values)) j n
    ↔ SameRanges (bare (primitive_column kind number_of left)) i (bare right) j n
same_part kind number_of left whole right i j n is = (
  λ same k h. same k h ∙ ap (λ c. slot_at (bare c) (j + k)) is,
  λ same k h. same k h ∙ ap (λ c. slot_at (bare c) (j + k)) (sym is),
)
