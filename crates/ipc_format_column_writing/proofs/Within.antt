-- What sound columns say of the slots of their children.
use Rattle.std.proofs.Common.{◌≡◌, ◌∙◌, ℕ, ◌+◌, ◌-◌, ◌*◌, ◌/◌, ◌≤◌, Bool, true, List, length, sym, ap, subst, arith}
use Rattle.std.specs.Option.{ForSome}
use Rattle.std.specs.Prelude.{ℤ, [], Option, Some, None, min, unwrap_or, ◌==◌}
use Rattle.std.specs.List.{list_all}
use Rattle.std.proofs.lemmas.Bool.{and_parts, eqb-true}
use Rattle.std.proofs.Math.Nat.{mul-add, mul-le-mul_left}
use Rattle.ipc_format_column_reading.specs.column_bytes.columnar_memory.Layouts.{physical_type}
use Rattle.ipc_format_column_reading.specs.column_bytes.columnar_memory.Spans.{Spans, last_of, offsets_of}
use Rattle.ipc_format_column_reading.specs.column_bytes.columnar_memory.declared.DataType.{DataType}
use Rattle.ipc_format_column_reading.specs.column_bytes.columns.Kinds.{is_signed, most_offset}
use Rattle.ipc_format_column_reading.specs.column_bytes.columns.SoundColumns.{are_offsets, are_pieces, are_sound, column_lens, has_child_at, has_child_types}
use Rattle.ipc_format_column_reading.specs.column_bytes.columns.SoundColumns.{has_field_types, has_fixed_item_type, has_item_type, has_places, have_len, holds_below}
use Rattle.ipc_format_column_reading.specs.column_bytes.columns.SoundColumns.{is_offset, is_sound, mask_fits}
use Rattle.ipc_format_column_reading.specs.column_bytes.columns.StoredColumns.{Column, Columns, lists, fixed_lists, records, unions, no_column, column_then}
use Rattle.ipc_format_column_reading.specs.column_bytes.columns.StoredColumns.{column_len, column_type, type_layer}
use Rattle.ipc_format_column_reading.proofs.bytes_lemmas.columns_lemmas.Conditions.{parts_of_4, parts_of_5}
use Rattle.nested_arrays_core.specs.Parts.{column_children}
use Rattle.nested_arrays_core.specs.Places.{HaveRange}
use Rattle.nested_arrays_core.proofs.parts_lemmas.OffsetLists.{offsets_end_within}
use Rattle.ipc_format_column_writing.specs.Parts.{items_column}

-- ---- masks

held : (mask : Option (List Bool)) (len n : ℕ) → mask_fits mask len ≡ true → n ≤ len → ForSome mask (λ marks. n ≤ length marks)
held None len n fits within = λ marks is. absurd cc
held (Some marks) len n fits within = λ other is.
    let same : length marks ≡ length other = ap (λ (m : Option (List Bool)). length (unwrap_or m [])) is in
    omega (arith, same, within, eqb-true (length marks) len fits)

-- a mask has the marks of some of the slots
pub marks_held : (copied mask : Option (List Bool)) (len n : ℕ) → copied ≡ mask → mask_fits mask len ≡ true → n ≤ len
    → ForSome copied (λ marks. n ≤ length marks)
marks_held copied mask len n is fits within =
    subst (λ (m : Option (List Bool)). ForSome m (λ marks. n ≤ length marks)) (sym is) (held mask len n fits within)

pub lists_mask : (t : DataType) (mask : Option (List Bool)) (offsets : List ℕ) (child : Column) → is_sound (lists t mask offsets child) ≡ true
    → mask_fits mask (length offsets - 1) ≡ true
lists_mask t mask offsets child sound =
    (parts_of_4 (has_item_type (type_layer t) (column_type child)) (are_offsets offsets (min (most_offset (physical_type t)) (column_len child)))
    (mask_fits mask (length offsets - 1)) (is_sound child) sound).2

pub fixed_lists_mask : (t : DataType) (mask : Option (List Bool)) (size : ℕ) (child : Column) → is_sound (fixed_lists t mask size child) ≡ true
    → mask_fits mask (column_len child / size) ≡ true
fixed_lists_mask t mask size child sound =
    (parts_of_4 (has_fixed_item_type (type_layer t) size (column_type child)) (are_pieces size (column_len child))
    (mask_fits mask (column_len child / size)) (is_sound child) sound).2

pub records_mask : (t : DataType) (mask : Option (List Bool)) (n : ℕ) (children : Columns) → is_sound (records t mask n children) ≡ true
    → mask_fits mask n ≡ true
records_mask t mask n children sound =
    (parts_of_4 (has_field_types (type_layer t) children) (have_len children n) (mask_fits mask n) (are_sound children) sound).2

-- ---- children

-- lists end within their items
pub lists_end : (t : DataType) (mask : Option (List Bool)) (s : Spans) (child : Column) → is_sound (lists t mask (offsets_of s) child) ≡ true
    → last_of s ≤ column_len child
lists_end t mask s child sound =
    let limit = min (most_offset (physical_type t)) (column_len child) in
    let parts = parts_of_4 (has_item_type (type_layer t) (column_type child)) (are_offsets (offsets_of s) limit)
    (mask_fits mask (length (offsets_of s) - 1)) (is_sound child) sound in
    omega (arith, offsets_end_within s limit parts.1)

-- pieces of one size
pub pieces_within : (size o n len : ℕ) → o + n ≤ len / size → size * o + size * n ≤ len
pieces_within size o n len within =
    omega (arith, sym (mul-add size o n), mul-le-mul_left {m = o + n} {n = len / size} size within)

-- children of a length have each range within it
pub range_of_len : (cs : Columns) (len o n : ℕ) → have_len cs len ≡ true → o + n ≤ len → HaveRange cs o n
range_of_len no_column len o n long within = tt
range_of_len (column_then c cs) len o n long within =
    let parts = and_parts (column_len c == len) (list_all (λ k. k == len) (column_lens cs)) long in
    let same : column_len c ≡ len = eqb-true (column_len c) len parts.0 in
    (omega (arith, same, within), range_of_len cs len o n parts.1 within)

pub fields_range : (t : DataType) (mask : Option (List Bool)) (len : ℕ) (children : Columns) (o n : ℕ)
    → is_sound (records t mask len children) ≡ true → o + n ≤ len → HaveRange children o n
fields_range t mask len children o n sound within =
    range_of_len children len o n
    (parts_of_4 (has_field_types (type_layer t) children) (have_len children len) (mask_fits mask len) (are_sound children) sound).1 within

-- a union's parts
union_parts : (t : DataType) (ids : List ℤ) (places : Option (List ℤ)) (children : Columns) → is_sound (unions t ids places children) ≡ true
    → has_places ids places children ≡ true
union_parts t ids places children sound =
    (parts_of_5 (has_child_types (type_layer t) places children) (list_all (is_signed 8) ids) (has_places ids places children)
    (holds_below (length ids) (has_child_at (type_layer t) ids places children)) (are_sound children) sound).2

pub sparse_range : (t : DataType) (ids : List ℤ) (children : Columns) (o n : ℕ) → is_sound (unions t ids None children) ≡ true
    → o + n ≤ length ids → HaveRange children o n
sparse_range t ids children o n sound within = range_of_len children (length ids) o n (union_parts t ids None children sound) within

-- a dense union has a place for each slot
pub dense_places : (t : DataType) (ids places : List ℤ) (children : Columns) → is_sound (unions t ids (Some places) children) ≡ true
    → length places ≡ length ids
dense_places t ids places children sound =
    eqb-true (length places) (length ids)
    (and_parts (length places == length ids) (list_all is_offset places) (union_parts t ids (Some places) children sound)).0

-- ---- the same of a column that is known by its parts

same_sound : (a b : Column) → a ≡ b → is_sound a ≡ true → is_sound b ≡ true
same_sound a b is sound = sym (ap is_sound is) ∙ sound

pub named_lists_marks : (a : Column) (t : DataType) (mask copied : Option (List Bool)) (offsets : List ℕ) (child : Column) (n : ℕ)
    → a ≡ lists t mask offsets child → copied ≡ mask → is_sound a ≡ true → n ≤ column_len a → ForSome copied (λ marks. n ≤ length marks)
named_lists_marks a t mask copied offsets child n is same sound within =
    marks_held copied mask (length offsets - 1) n same (lists_mask t mask offsets child (same_sound a (lists t mask offsets child) is sound))
    (omega (arith, within, ap column_len is))

pub named_fixed_marks : (a : Column) (t : DataType) (mask copied : Option (List Bool)) (size : ℕ) (child : Column) (n : ℕ)
    → a ≡ fixed_lists t mask size child → copied ≡ mask → is_sound a ≡ true → n ≤ column_len a → ForSome copied (λ marks. n ≤ length marks)
named_fixed_marks a t mask copied size child n is same sound within =
    marks_held copied mask (column_len child / size) n same
    (fixed_lists_mask t mask size child (same_sound a (fixed_lists t mask size child) is sound)) (omega (arith, within, ap column_len is))

pub named_records_marks : (a : Column) (t : DataType) (mask copied : Option (List Bool)) (len : ℕ) (children : Columns) (n : ℕ)
    → a ≡ records t mask len children → copied ≡ mask → is_sound a ≡ true → n ≤ column_len a → ForSome copied (λ marks. n ≤ length marks)
named_records_marks a t mask copied len children n is same sound within =
    marks_held copied mask len n same (records_mask t mask len children (same_sound a (records t mask len children) is sound))
    (omega (arith, within, ap column_len is))

pub named_lists_end : (a : Column) (t : DataType) (mask : Option (List Bool)) (s : Spans) (child : Column)
    → a ≡ lists t mask (offsets_of s) child → is_sound a ≡ true → last_of s ≤ column_len (items_column a)
named_lists_end a t mask s child is sound =
    omega (
      arith,
      lists_end t mask s child (same_sound a (lists t mask (offsets_of s) child) is sound),
      ap (λ (b : Column). column_len (items_column
          b)) is,
    )

pub named_pieces : (a : Column) (t : DataType) (mask : Option (List Bool)) (size : ℕ) (child : Column) (o n : ℕ)
    → a ≡ fixed_lists t mask size child → o + n ≤ column_len a → size * o + size * n ≤ column_len (items_column a)
named_pieces a t mask size child o n is within =
    let all : size * o + size * n ≤ column_len child = pieces_within size o n (column_len child) (omega (arith, within, ap column_len is)) in
    omega (arith, all, ap (λ (b : Column). column_len (items_column b)) is)

pub named_fields : (a : Column) (t : DataType) (mask : Option (List Bool)) (len : ℕ) (children : Columns) (o n : ℕ)
    → a ≡ records t mask len children → is_sound a ≡ true → o + n ≤ column_len a → HaveRange (column_children a) o n
named_fields a t mask len children o n is sound within =
    subst (λ (cs : Columns). HaveRange cs o n) (sym (ap column_children is))
    (fields_range t mask len children o n (same_sound a (records t mask len children) is sound) (omega (arith, within, ap column_len is)))
