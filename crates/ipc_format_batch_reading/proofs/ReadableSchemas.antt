-- There are arrays of every type of a schema that metadata gives.
use Rattle.std.proofs.Common.{◌≡◌, ◌∙◌, ℕ, zero, suc, ℤ, Bool, true, false, ◌&&◌, List, [], ◌∷◌, map, refl, sym, ap, subst}
use Rattle.std.specs.Prelude.{Option, Some, None, not, nat_le, slice_get}
use Rattle.std.specs.List.{list_all}
use Rattle.std.proofs.lemmas.Bool.{and_parts, and_from}
use Rattle.ipc_format_reading.specs.array_reading.ArrayReads.{Test, array_slots, is_readable}
use Rattle.ipc_format_reading.specs.columnar_memory.declared.Field.{Field}
use Rattle.ipc_format_reading.specs.columnar_memory.declared.Schema.{Schema}
use Rattle.ipc_format_reading.specs.columns.Slots.{Slot}
use Rattle.ipc_format_reading.specs.flatbuffers.FlatBuffers.{TablePlace}
use Rattle.ipc_format_reading.specs.flatbuffers.Reading.{◌>>=◌, guard}
use Rattle.ipc_format_reading.specs.grammar.Columns.{Dictionary, Source}
use Rattle.ipc_format_reading.specs.grammar.Dictionaries.{Entry, Layout, Values, dictionary_in}
use Rattle.ipc_format_reading.specs.grammar.Dictionaries.{source_in, values_of}
use Rattle.ipc_format_reading.specs.grammar.Messages.{DictionaryBatch, dictionary_batch_in}
use Rattle.ipc_format_reading.specs.grammar.SchemaGrammar.{schema_in}
use Rattle.ipc_format_reading.specs.grammar.Schemas.{Ids, IdsList, SchemaIn, any_schema_in, ids, ids_then}
use Rattle.ipc_format_reading.specs.grammar.Schemas.{no_ids}
use Rattle.ipc_format_reading.specs.grammar.Tables.{batch_in, chosen_batch_in, chosen_columns, column_place, ids_at, layout_of}
use Rattle.ipc_format_reading.specs.grammar.Writable.{is_writable, normalised, normalised_field}
use Rattle.ipc_format_reading.specs.grammar.Writable.{over_all, plain}
use Rattle.ipc_format_reading.specs.grammar.Writable.{report_of, reports_of}
use Rattle.ipc_format_reading.proofs.AlikePlaces.{both_known, both_same}
use Rattle.ipc_format_reading.proofs.FreshLengths.{unlike}
use Rattle.ipc_format_reading.proofs.NormalReports.{writable_normal}
use Rattle.ipc_format_batch_reading.specs.BatchReads.{chosen_arrays, chosen_record_arrays, ids_beside, record_arrays}
use Rattle.ipc_format_batch_reading.specs.DictionaryReads.{dictionary_array}
use Rattle.ipc_format_batch_reading.specs.Readable.{HasArrays, SchemasHaveArrays, all_of}
use Rattle.ipc_format_batch_reading.proofs.CoveredSchemas.{came_of, same_value, schemas_covered}
use Rattle.ipc_format_batch_reading.proofs.CoveredTypes.{by_type, cover_each, cover_field, covers, normal_fields_cover}
use Rattle.ipc_format_batch_reading.proofs.PlacedColumns.{all_choices_are, all_columns_are, are_readable, array_is_read}
use Rattle.ipc_format_batch_reading.proofs.ReadableTypes.{AreReadable, allowed_fields, covered_fields_find, covered_types_read}

-- ---- layouts

abbrev FindsReadable : Layout → Type 0
FindsReadable layout = (id : ℤ) (values : Values) → values_of layout.fields id layout.below ≡ Some values → AreReadable values

batches_are : (layout : Layout) → are_readable layout.fields layout.below ≡ true → (standing : List Dictionary) (entry : Entry) (table : TablePlace)
    → record_arrays layout standing None entry table ≡ batch_in layout standing entry table
unfolding batch_in
batches_are layout all standing entry table =
    both_same (source_in layout.is_little_endian entry table) (source_in layout.is_little_endian entry table) _ _ refl (λ (source : Source).
    both_same _ _ _ _ (all_columns_are layout standing source all) (λ (columns : List (List Slot)). refl))

limited_are : (layout : Layout) → are_readable layout.fields layout.below ≡ true → (standing : List Dictionary) (limit : Option ℕ) (entry : Entry)
    (table : TablePlace) → record_arrays layout standing limit entry table ≡ chosen_batch_in layout standing entry limit (all_of layout.fields) table
unfolding chosen_batch_in
limited_are layout all standing limit entry table =
    both_same (source_in layout.is_little_endian entry table) (source_in layout.is_little_endian entry table) _ _ refl (λ (source : Source).
    both_same _ _ _ _ (all_choices_are layout standing source limit all) (λ (columns : List (List Slot)). refl))

-- there are ids beside each field, and arrays of its type
beside_readable : (fields : List Field) (below : IdsList) (k : ℕ) (field : Field) → are_readable fields below ≡ true
    → slice_get fields k ≡ Some field → (ids_beside below k ≡ Some (ids_at below k)) × (is_readable field.data_type (ids_at below k) ≡ true)
beside_readable [] below zero field all found = absurd cc
beside_readable [] below (suc k) field all found = absurd cc
beside_readable (u ∷ fields) no_ids k field all found = absurd (unlike all)
beside_readable (u ∷ fields) (ids_then first others) zero field all found =
    let parts = and_parts (is_readable u.data_type first) (are_readable fields others) all in
    (refl, subst (λ (field : Field). is_readable field.data_type first ≡ true) (same_value u field found) parts.0)
beside_readable (u ∷ fields) (ids_then first others) (suc k) field all found =
    beside_readable fields others k field (and_parts (is_readable u.data_type first) (are_readable fields others) all).1 found

chosen_are : (layout : Layout) → are_readable layout.fields layout.below ≡ true → (standing : List Dictionary) (source : Source) (limit : Option ℕ)
    (columns : List ℕ)
    → chosen_arrays layout standing source limit columns ≡ chosen_columns layout standing source limit columns
chosen_are layout all standing source limit [] = refl
chosen_are layout all standing source limit (k ∷ columns) =
    both_known (slice_get layout.fields k) (slice_get layout.fields k) _ _ refl (λ (field : Field) found.
    let here = beside_readable layout.fields layout.below k field all found in
    ap (λ (ids : Option Ids). ids >>= (λ here. array_slots field.data_type
    (record (column_place layout standing source limit k) { ids = here }) >>= (λ column.
    chosen_arrays layout standing source limit columns >>= (λ others. Some (column ∷ others))))) here.0
    ∙ both_same _ _ _ _ (array_is_read field.data_type (column_place layout standing source limit k) here.1) (λ (column : List Slot).
    both_same _ _ _ _ (chosen_are layout all standing source limit columns) (λ (others : List (List Slot)). refl)))

choices_are : (layout : Layout) → are_readable layout.fields layout.below ≡ true → (standing : List Dictionary) (limit : Option ℕ)
    (columns : List ℕ) (entry : Entry) (table : TablePlace)
    → chosen_record_arrays layout standing limit columns entry table ≡ chosen_batch_in layout standing entry limit columns table
unfolding chosen_batch_in
choices_are layout all standing limit columns entry table =
    both_same (source_in layout.is_little_endian entry table) (source_in layout.is_little_endian entry table) _ _ refl (λ (source : Source).
    both_same _ _ _ _ (chosen_are layout all standing source limit columns) (λ (columns : List (List Slot)). refl))

dictionaries_are : (layout : Layout) → FindsReadable layout → (standing : List Dictionary) (entry : Entry) (table : TablePlace)
    → dictionary_array layout standing entry table ≡ dictionary_in layout standing entry table
unfolding dictionary_in
dictionaries_are layout finds standing entry table =
    both_same (dictionary_batch_in entry.metadata table) (dictionary_batch_in entry.metadata table) _ _ refl (λ (batch : DictionaryBatch).
    both_same (guard (not batch.is_delta)) (guard (not batch.is_delta)) _ _ refl (λ (passed : Bool).
    both_same (source_in layout.is_little_endian entry batch.values) (source_in layout.is_little_endian entry batch.values) _ _ refl
    (λ (source : Source).
    both_known (values_of layout.fields batch.id layout.below) (values_of layout.fields batch.id layout.below) _ _ refl
    (λ (values : Values) found.
    both_same _ _ _ _ (array_is_read values.data_type
    (record { source = source; standing = standing; limit = None; node = 0; buffer = 0; ids = ids None values.below })
    (finds batch.id values found)) (λ (slots : List Slot). refl)))))

pub layout_reads : (layout : Layout) → are_readable layout.fields layout.below ≡ true → FindsReadable layout → HasArrays layout
layout_reads layout all finds = record {
  batches = batches_are layout all;
  limited = limited_are layout all;
  choices = choices_are layout all;
  dictionaries = dictionaries_are layout finds;
}

-- ---- schemas

abbrev tests_of : List Field → List Test
tests_of fields = map (λ (u : Field). covers u.data_type) fields

fields_read : (fields : List Field) (below : IdsList) → allowed_fields fields ≡ true → cover_each (tests_of fields) below ≡ true
    → are_readable fields below ≡ true
fields_read [] below allowed covered = refl
fields_read (u ∷ fields) no_ids allowed covered = absurd (unlike covered)
fields_read (u ∷ fields) (ids_then first others) allowed covered =
    let allows = and_parts (report_of u.data_type).is_allowed (allowed_fields fields) allowed in
    let both = and_parts (covers u.data_type first) (cover_each (tests_of fields) others) covered in
    and_from (is_readable u.data_type first) (are_readable fields others) (covered_types_read u.data_type allows.0 first both.0)
    (fields_read fields others allows.1 both.1)

fields_covered : (fields : List Field) → map cover_field fields ≡ tests_of fields
fields_covered [] = refl
fields_covered (u ∷ fields) = λ i. by_type u i ∷ fields_covered fields i

-- what is written is allowed
allowed : (schema : Schema) → is_writable schema ≡ true → allowed_fields schema.fields ≡ true
unfolding is_writable
allowed schema is =
    let all = over_all true plain (reports_of schema.fields) in
    let first = and_parts (all.is_allowed && nat_le all.levels 64) (nat_le all.dictionaries 65536) is in
    let second = and_parts all.is_allowed (nat_le all.levels 64) first.0 in
    (and_parts true (allowed_fields schema.fields) second.0).1

guarded : (test : Bool) (found : Bool) → guard test ≡ Some found → test ≡ true
guarded true found e = refl
guarded false found e = absurd cc

normal_reads : (found : SchemaIn) → is_writable found.schema ≡ true → cover_each (tests_of found.schema.fields) found.ids ≡ true
    → HasArrays (layout_of found)
unfolding normalised
normal_reads found is covered =
    let normal = allowed (normalised found.schema) (writable_normal found.schema ∙ is) in
    let same = ap (λ tests. cover_each tests found.ids) (normal_fields_cover found.schema.fields) ∙ covered in
    layout_reads (layout_of found) (fields_read (map normalised_field found.schema.fields) found.ids normal same)
    (covered_fields_find (map normalised_field found.schema.fields) found.ids normal same)

pub schemas_have_arrays : SchemasHaveArrays
unfolding schema_in
schemas_have_arrays bytes table found e =
    let any = came_of (any_schema_in None bytes table) _ found e in
    let some = came_of _ _ found any.2 in
    let is = same_value any.0 found some.2 in
    let whole : any_schema_in None bytes table ≡ Some found = any.1 ∙ ap Some is in
    let written : is_writable found.schema ≡ true =
    subst (λ (found : SchemaIn). is_writable found.schema ≡ true) is (guarded (is_writable any.0.schema) some.0 some.1) in
    normal_reads found written
    (ap (λ tests. cover_each tests found.ids) (sym (fields_covered found.schema.fields)) ∙ schemas_covered bytes table found whole)
