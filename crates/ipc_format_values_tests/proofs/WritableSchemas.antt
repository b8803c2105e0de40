-- Which schemas are written, and the one form of a schema, by computing.
use Rattle.std.proofs.Common.{◌≡◌, ◌∙◌, ℕ, zero, suc, ◌+◌, [], ◌∷◌, Bool, refl, ap, true, false, arith}
use Rattle.std.specs.Prelude.{Some, codes, pos}
use Rattle.std.specs.Fn.{iterate}
use denote.Hole.Carrier
use Rattle.ipc_format.specs.columnar_memory.declared.DataType.TheOpen as layer
use Rattle.ipc_format.specs.columnar_memory.declared.DataType.TheViews.{roll-DataType, out-DataType}
use Rattle.ipc_format.specs.columnar_memory.declared.DataType.TheFolds.{fold-roll-DataType, fold-Field, fold-roll-Field}
use Rattle.ipc_format.specs.columnar_memory.declared.DataType.TheVariants as types
use Rattle.ipc_format.specs.columnar_memory.declared.UnionMode.TheVariants as modes
use Rattle.ipc_format.specs.columnar_memory.declared.DataType.{DataType}
use Rattle.ipc_format.specs.columnar_memory.declared.Field.{Field}
use Rattle.ipc_format.specs.grammar.Schemas.{extension_name_key, extension_metadata_key}
use Rattle.ipc_format.specs.grammar.SchemaObjects.{written_pairs}
use Rattle.ipc_format.specs.grammar.Writable.{Report, plain, report_of, report_step, field_step, leaf, is_writable, normalised}
use Rattle.ipc_format.specs.grammar.Writable.{normalised_type, normalised_step}
use Rattle.ipc_format_values_tests.specs.Examples.{x_int32, field_x, schema_x, number_x, union_of, in_list, in_lists}

-- an extension's pairs stand before the others: its metadata, its name, and then a = 1
pub pairs_of_extension : written_pairs (Some (codes "e", Some (codes "m"))) ((codes "a", codes "1") ∷ [])
    ≡ (extension_metadata_key, codes "m") ∷ (extension_name_key, codes "e") ∷ (codes "a", codes "1") ∷ []
pairs_of_extension = refl

normalised_int32 : normalised_type types.Int32 ≡ types.Int32
unfolding roll-DataType denote.Hole.Carrier.roll
normalised_int32 = fold-roll-DataType DataType Field roll-DataType normalised_step layer.Int32

-- the metadata of an extension is dropped where the type is none
pub normalised_x : normalised (record x_int32 { fields = record number_x { metadata = (extension_metadata_key, codes "m") ∷ [] } ∷ [] }) ≡ x_int32
unfolding normalised out-DataType roll-DataType denote.Hole.Carrier.roll denote.Hole.Carrier.out
normalised_x = rw normalised_int32 refl

-- ---- which schemas are written

report_of_field : (field : Field) → fold-Field Report Report report_step field_step field ≡ report_of field.data_type
report_of_field field = fold-roll-Field Report Report report_step field_step
    (record { name = field.name; data_type = field.data_type; is_nullable = field.is_nullable; metadata = field.metadata })

report_of_int32 : report_of types.Int32 ≡ leaf true
unfolding roll-DataType denote.Hole.Carrier.roll
report_of_int32 = fold-roll-DataType Report Report report_step field_step layer.Int32

report_of_x : fold-Field Report Report report_step field_step number_x ≡ leaf true
report_of_x = report_of_field number_x ∙ report_of_int32

report_of_no_fields : report_of (types.Struct []) ≡ leaf false
unfolding roll-DataType denote.Hole.Carrier.roll
report_of_no_fields = fold-roll-DataType Report Report report_step field_step (layer.Struct [])

pub struct_without_fields : is_writable (schema_x (types.Struct [])) ≡ false
unfolding is_writable
struct_without_fields = rw report_of_no_fields refl

-- a type over one level of fields
abbrev over_one : Bool → Report
over_one is_allowed = record { is_allowed = is_allowed; levels = 1; dictionaries = 0; shape = plain }

report_of_distinct : report_of (union_of 5 7) ≡ over_one true
unfolding roll-DataType denote.Hole.Carrier.roll
report_of_distinct =
    fold-roll-DataType Report Report report_step field_step (layer.Union (number_x ∷ number_x ∷ []) (Some (pos 5 ∷ pos 7 ∷ [])) modes.Sparse)
    ∙ rw report_of_x refl

report_of_repeated : report_of (union_of 5 5) ≡ over_one false
unfolding roll-DataType denote.Hole.Carrier.roll
report_of_repeated =
    fold-roll-DataType Report Report report_step field_step (layer.Union (number_x ∷ number_x ∷ []) (Some (pos 5 ∷ pos 5 ∷ [])) modes.Sparse)
    ∙ rw report_of_x refl

pub distinct_ids : is_writable (schema_x (union_of 5 7)) ≡ true
unfolding is_writable
distinct_ids = rw report_of_distinct refl

pub repeated_ids : is_writable (schema_x (union_of 5 5)) ≡ false
unfolding is_writable
repeated_ids = rw report_of_repeated refl

-- a type that is allowed, over some levels of fields
abbrev nested : ℕ → Report
nested levels = record { is_allowed = true; levels = levels; dictionaries = 0; shape = plain }

report_of_list : (levels : ℕ) (inner : DataType) → report_of inner ≡ nested levels → report_of (in_list inner) ≡ nested (levels + 1)
unfolding roll-DataType denote.Hole.Carrier.roll
report_of_list levels inner known = let item : Field = field_x inner in
    fold-roll-DataType Report Report report_step field_step (layer.List item) ∙ rw (report_of_field item ∙ known) refl

-- each list adds one level
report_of_lists : (n levels : ℕ) (inner : DataType) → report_of inner ≡ nested levels → report_of (iterate in_list n inner) ≡ nested (levels + n)
report_of_lists zero levels inner known = let e : levels ≡ levels + 0 = omega arith in known ∙ ap nested e
report_of_lists (suc n) levels inner known = let e : (levels + 1) + n ≡ levels + suc n = omega arith in
    report_of_lists n (levels + 1) (in_list inner) (report_of_list levels inner known) ∙ ap nested e

report_of_63 : report_of (in_lists 63) ≡ nested 63
report_of_63 = report_of_lists 63 0 types.Int32 report_of_int32

report_of_64 : report_of (in_lists 64) ≡ nested 64
report_of_64 = report_of_lists 64 0 types.Int32 report_of_int32

-- fields nest at most 64 deep
pub in_63_lists : is_writable (schema_x (in_lists 63)) ≡ true
unfolding is_writable
in_63_lists = rw report_of_63 refl

pub in_64_lists : is_writable (schema_x (in_lists 64)) ≡ false
unfolding is_writable
in_64_lists = rw report_of_64 refl

-- for the worked values
pub ruleset writable = (struct_without_fields, distinct_ids, repeated_ids, in_63_lists, in_64_lists)
