-- Byte strings of one size: which parts make a sound column of them.
use Rattle.std.proofs.Common.{◌≡◌, ◌∙◌, ℕ, zero, suc, ◌+◌, ◌*◌, ◌<◌, ◌≤◌, List, [], length, replicate, Bool, true, false, refl, sym, ap, arith}
use Rattle.std.specs.Prelude.{◌&&◌, ◌==◌, ◌/◌, ◌%◌, nat_le, Option, Some, None}
use Rattle.std.specs.List.{list_all}
use Rattle.std.proofs.Math.Nat.{mod-eq-sub-mul-div, mul-div-le, mul-div_cancel_left, mul-add, mul-le-mul_left}
use Rattle.std.proofs.lemmas.Bool.{and_from, and_parts, eq-eqb, eqb-true, le-leb, leb-true, false≢true}
use Rattle.std.proofs.lemmas.List.{length-replicate}
use Rattle.flat_arrays_core.specs.columnar_memory.Layouts.{logical_type, physical_type}
use Rattle.flat_arrays_core.specs.columnar_memory.Window.{window}
use Rattle.flat_arrays_core.specs.columnar_memory.declared.DataType.{DataType}
use Rattle.flat_arrays_core.specs.columnar_memory.declared.DataType.TheOpen as layer
use Rattle.flat_arrays_core.specs.columnar_memory.declared.DataType.TheVariants as types
use Rattle.flat_arrays_core.specs.columnar_memory.declared.DataType.TheViews.{out-DataType, roll-DataType, out-roll-DataType, roll-out-DataType}
use Rattle.flat_arrays_core.specs.columnar_memory.declared.IntervalUnit.TheVariants as intervals
use Rattle.flat_arrays_core.specs.columnar_memory.declared.PhysicalType.{PhysicalType}
use Rattle.flat_arrays_core.specs.columnar_memory.declared.PhysicalType.TheVariants as physical
use Rattle.nested_arrays_columns.proofs.Conditions.{parts_of_3}
use Rattle.nested_arrays_columns.proofs.CutStored.{pieces_within}
use Rattle.nested_arrays_columns.specs.SoundColumns.{are_pieces, has_size, is_byte, is_sound, is_stored_as, mask_fits}
use Rattle.nested_arrays_columns.specs.StoredColumns.{Column, column_len, cut, cut_list, cut_mask, fixed_bytes, type_layer}
use Rattle.nested_arrays_flat.proofs.CutMasks.{cut_window}
use Rattle.nested_arrays_flat.proofs.Layers.{Layer, is_extension, layer_layout, type_lies}
use Rattle.nested_arrays_flat.specs.FlatColumns.{byte_width, fixed_column, layer_width}
use denote.Hole.Carrier

-- ---- the size of a type

-- a type of byte strings of a size
pub width_of : (t u : DataType) (size : ℕ) → u ≡ logical_type t → u ≡ types.FixedSizeBinary size → size ≡ byte_width t
unfolding roll-DataType denote.Hole.Carrier.roll
width_of t u size is h =
    sym (ap (λ d. layer_width (out-DataType d)) (sym is ∙ h) ∙ ap layer_width (out-roll-DataType (layer.FixedSizeBinary size)))

layer_other : (x : Layer) → ((size : ℕ) → x ≡ layer.FixedSizeBinary size → ⊥) → 0 ≡ layer_width x
layer_other (layer.FixedSizeBinary size) other = absurd (other size refl)
layer_other _ other = refl

-- a type of other values
pub no_width : (t u : DataType) → u ≡ logical_type t → ((size : ℕ) → u ≡ types.FixedSizeBinary size → ⊥) → 0 ≡ byte_width t
unfolding roll-DataType denote.Hole.Carrier.roll
no_width t u is other = layer_other (out-DataType (logical_type t))
    (λ size e. other size (is ∙ sym (roll-out-DataType (logical_type t)) ∙ ap roll-DataType e))

pub ruleset widths = (width_of, no_width)

-- a type with a size lies in memory as byte strings of one size
layer_of_width : (x : Layer) → 0 < layer_width x → layer_layout x ≡ physical.FixedSizeBinary
layer_of_width (layer.FixedSizeBinary size) some = refl
layer_of_width _ some = absurd (omega arith)

sized_layer : (x : Layer) (size : ℕ) (content : List ℕ) → layer_width x ≡ size → has_size x (fixed_bytes size content) ≡ true
sized_layer (layer.FixedSizeBinary size) stored content is = eq-eqb size stored is
sized_layer _ stored content is = refl

layer_sized : (x : Layer) (size : ℕ) (content : List ℕ) → is_extension x ≡ false → layer_layout x ≡ physical.FixedSizeBinary
    → has_size x (fixed_bytes size content) ≡ true → layer_width x ≡ size
layer_sized (layer.FixedSizeBinary size) stored content plain is h = eqb-true size stored h
layer_sized (layer.Interval intervals.YearMonth) stored content plain is h = absurd cc
layer_sized (layer.Interval intervals.DayTime) stored content plain is h = absurd cc
layer_sized (layer.Interval intervals.MonthDayNano) stored content plain is h = absurd cc
layer_sized (layer.Extension name inner metadata) stored content plain is h = absurd cc
layer_sized _ stored content plain is h = absurd cc

stored_layout : (layout : PhysicalType) (size : ℕ) (content : List ℕ) → is_stored_as layout (fixed_bytes size content) ≡ true
    → layout ≡ physical.FixedSizeBinary
stored_layout physical.FixedSizeBinary size content h = refl
stored_layout _ size content h = absurd (false≢true h)

-- byte strings of one size lie in memory so
pub fixed_laid : (t : DataType) (size : ℕ) (content : List ℕ) (mask : Option (List Bool)) → is_sound (fixed_column t size content mask) ≡ true
    → physical_type t ≡ physical.FixedSizeBinary
fixed_laid t size content mask h =
    let stored = fixed_bytes size content in
    stored_layout (physical_type t) size content
    (parts_of_3 (is_stored_as (physical_type t) stored) (has_size (type_layer t) stored) (mask_fits mask (length content / size)) h).0

-- ---- parts

-- what is known of the parts of a sound column
pub fixed_parts : (t : DataType) (size : ℕ) (content : List ℕ) (mask : Option (List Bool)) → is_sound (fixed_column t size content mask) ≡ true
    → (0 < size) × (size * (length content / size) ≡ length content) × (mask_fits mask (length content / size) ≡ true) × (byte_width t ≡ size)
    × (list_all is_byte content ≡ true)
fixed_parts t size content mask h =
    let stored = fixed_bytes size content in
    let parts = parts_of_3 (is_stored_as (physical_type t) stored) (has_size (type_layer t) stored) (mask_fits mask (length content / size)) h in
    let is = stored_layout (physical_type t) size content parts.0 in
    let here : (are_pieces size (length content) && list_all is_byte content) ≡ true = ap (λ layout. is_stored_as layout stored) (sym is) ∙ parts.0 in
    let stored_parts = and_parts (are_pieces size (length content)) (list_all is_byte content) here in
    let pieces = and_parts (nat_le 1 size) (size * (length content / size) == length content) stored_parts.0 in
    let lies = type_lies t in (
      leb-true 1 size pieces.0,
      eqb-true (size * (length content / size)) (length content) pieces.1,
      parts.2,
      layer_sized (type_layer t) size content lies.1 (sym lies.0 ∙ is) parts.1,
      stored_parts.1,
    )

pub fixed_sound : (t : DataType) (size : ℕ) (content : List ℕ) (mask : Option (List Bool)) → byte_width t ≡ size → 0 < size
    → size * (length content / size) ≡ length content → list_all is_byte content ≡ true → mask_fits mask (length content / size) ≡ true
    → is_sound (fixed_column t size content mask) ≡ true
fixed_sound t size content mask width some whole each fits =
    let stored = fixed_bytes size content in
    let lies = type_lies t in
    let layout : physical_type t ≡ physical.FixedSizeBinary = lies.0 ∙ layer_of_width (type_layer t) (omega (arith, width, some)) in
    and_from (is_stored_as (physical_type t) stored && has_size (type_layer t) stored) (mask_fits mask (length content / size))
    (and_from (is_stored_as (physical_type t) stored) (has_size (type_layer t) stored)
    (ap (λ l. is_stored_as l stored) layout ∙ and_from (are_pieces size (length content)) (list_all is_byte content)
    (and_from (nat_le 1 size) (size * (length content / size) == length content) (le-leb 1 size some)
    (eq-eqb (size * (length content / size)) (length content) whole)) each)
    (sized_layer (type_layer t) size content width))
    fits

-- ---- the tests of a call

pub no_size : (t : DataType) (content : List ℕ) (mask : Option (List Bool)) → byte_width t ≡ 0
    → is_sound (fixed_column t (byte_width t) content mask) ≡ true → ⊥
no_size t content mask none h = let parts = fixed_parts t (byte_width t) content mask h in omega (arith, none, parts.0)

pub not_whole : (t : DataType) (content : List ℕ) (mask : Option (List Bool)) → (length content % byte_width t ≡ 0 → ⊥)
    → is_sound (fixed_column t (byte_width t) content mask) ≡ true → ⊥
not_whole t content mask rest h =
    let parts = fixed_parts t (byte_width t) content mask h in
    rest (omega (arith, parts.1, mod-eq-sub-mul-div (length content) (byte_width t)))

pub tested : (t : DataType) (content : List ℕ) (mask : Option (List Bool)) → (byte_width t ≡ 0 → ⊥) → length content % byte_width t ≡ 0
    → list_all is_byte content ≡ true → mask_fits mask (length content / byte_width t) ≡ true
    → is_sound (fixed_column t (byte_width t) content mask) ≡ true
tested t content mask some whole each fits =
    fixed_sound t (byte_width t) content mask refl (omega (arith, some))
    (omega (arith, whole, mod-eq-sub-mul-div (length content) (byte_width t), mul-div-le (length content) (byte_width t))) each fits

pub masked_parts : (t : DataType) (content : List ℕ) (mask : Option (List Bool)) → is_sound (fixed_column t (byte_width t) content mask) ≡ true
    → mask_fits mask (length content / byte_width t) ≡ true
masked_parts t content mask h = (fixed_parts t (byte_width t) content mask h).2

pub ruleset parts = (no_size, not_whole, tested, masked_parts)

-- ---- what calls know

pub some_size : (t : DataType) (size : ℕ) (content : List ℕ) (mask : Option (List Bool)) → is_sound (fixed_column t size content mask) ≡ true
    → 0 < size
some_size t size content mask h = (fixed_parts t size content mask h).0

pub same_size : (t : DataType) (size : ℕ) (content : List ℕ) (mask : Option (List Bool)) → is_sound (fixed_column t size content mask) ≡ true
    → byte_width t ≡ size
same_size t size content mask h = (fixed_parts t size content mask h).3

-- a byte string lies within the bytes
pub string_within : (size len i : ℕ) → i < len / size → size * i + size ≤ len
string_within size len i h =
    let next : i + 1 ≤ len / size = omega (arith, h) in
    omega (arith, mul-add size i 1, mul-le-mul_left {m = i + 1} {n = len / size} size next, mul-div-le len size)

-- another mask of the same length
pub masked_sound : (t : DataType) (size : ℕ) (content : List ℕ) (old mask : Option (List Bool)) → is_sound (fixed_column t size content old) ≡ true
    → mask_fits mask (length content / size) ≡ true → is_sound (fixed_column t size content mask) ≡ true
masked_sound t size content old mask h fits =
    let stored = fixed_bytes size content in
    let typed = is_stored_as (physical_type t) stored && has_size (type_layer t) stored in
    and_from typed (mask_fits mask (length content / size)) (and_parts typed (mask_fits old (length content / size)) h).0 fits

-- another type of strings of the same size
pub retyped_sound : (t u : DataType) (size : ℕ) (content : List ℕ) (mask : Option (List Bool)) → is_sound (fixed_column t size content mask) ≡ true
    → byte_width u ≡ byte_width t → is_sound (fixed_column u size content mask) ≡ true
retyped_sound t u size content mask h same =
    let parts = fixed_parts t size content mask h in fixed_sound u size content mask (same ∙ parts.3) parts.0 parts.1 parts.4 parts.2

-- no strings
pub none_sound : (t : DataType) → 0 < byte_width t → is_sound (fixed_column t (byte_width t) [] None) ≡ true
none_sound t some =
    let zero_bytes : byte_width t * 0 ≡ 0 = omega arith in
    let none : 0 / byte_width t ≡ 0 = ap (λ n. n / byte_width t) (sym zero_bytes) ∙ mul-div_cancel_left 0 {n = byte_width t} some in
    fixed_sound t (byte_width t) [] None refl some (ap (λ k. byte_width t * k) none ∙ zero_bytes) refl refl

zeros_are_bytes : (n : ℕ) → list_all is_byte (replicate n 0) ≡ true
zeros_are_bytes zero = refl
zeros_are_bytes (suc n) = zeros_are_bytes n

-- nulls that store zeros
pub nulls_sound : (t : DataType) (count : ℕ) → 0 < byte_width t
    → is_sound (fixed_column t (byte_width t) (replicate (byte_width t * count) 0) (Some (replicate count false))) ≡ true
nulls_sound t count some =
    let size = byte_width t in
    let len : length (replicate (size * count) 0) ≡ size * count = length-replicate (size * count) 0 in
    let strings : length (replicate (size * count) 0) / size ≡ count = ap (λ n. n / size) len ∙ mul-div_cancel_left count {n = size} some in
    fixed_sound t size (replicate (size * count) 0) (Some (replicate count false)) refl some
    (ap (λ k. size * k) strings ∙ sym len) (zeros_are_bytes (size * count))
    (ap (mask_fits (Some (replicate count false))) strings ∙ eq-eqb (length (replicate count false)) count (length-replicate count false))

-- ---- cuts

-- slots of a column of such strings
pub slots_within : (before : Column) (t : DataType) (size : ℕ) (content : List ℕ) (mask : Option (List Bool)) (o n : ℕ)
    → fixed_column t size content mask ≡ before → o + n ≤ column_len before → o + n ≤ length content / size
slots_within before t size content mask o n is h =
    let len : length content / size ≡ column_len before = ap column_len is in
    omega (arith, h, len)

-- their bytes lie within the bytes
pub first_within : (size len o n : ℕ) → o + n ≤ len / size → size * o ≤ len
first_within size len o n h = omega (arith, pieces_within size len o n h)

pub count_within : (size len o n : ℕ) → o + n ≤ len / size → size * n ≤ len
count_within size len o n h = omega (arith, pieces_within size len o n h)

pub part_of_bytes : (content after : List ℕ) (o n : ℕ) → after ≡ window content o n → after ≡ cut_list content o n
part_of_bytes content after o n is = is ∙ sym (cut_window content o n)

pub ruleset byte_cuts = (first_within, count_within, pieces_within, part_of_bytes)

-- a part has the part of the column
pub fixed_cut : (before : Column) (t : DataType) (size : ℕ) (content after : List ℕ) (mask marks : Option (List Bool)) (o n : ℕ)
    → fixed_column t size content mask ≡ before → after ≡ cut_list content (size * o) (size * n) → marks ≡ cut_mask mask o n
    → fixed_column t size after marks ≡ cut before o n
fixed_cut before t size content after mask marks o n whole is masked =
    (λ j. fixed_column t size (is j) (masked j)) ∙ ap (λ column. cut column o n) whole
