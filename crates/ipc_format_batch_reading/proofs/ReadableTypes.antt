-- There are arrays of every type that is written, with ids beside each field below it, and so of the values of each dictionary in it.
use Rattle.std.proofs.Common.{◌≡◌, ◌∙◌, ℕ, zero, suc, ℤ, Bool, true, false, ◌&&◌, List, [], ◌∷◌, length, map, refl, sym, ap, subst}
use Rattle.std.specs.Prelude.{Option, Some, None, nat_le, nat_lt, ◌==◌, if◌then◌else◌}
use Rattle.std.specs.List.{list_all}
use Rattle.std.specs.Ordering.{int_eq}
use Rattle.std.proofs.lemmas.Bool.{and_parts, and_from}
use Rattle.std.proofs.lemmas.List.{length-map}
use Rattle.ipc_format_reading.specs.array_reading.ArrayReads.{Test, fields_below, has_arrays, is_readable, pass_each}
use Rattle.ipc_format_reading.specs.array_reading.ArrayReads.{readable_step}
use Rattle.ipc_format_reading.specs.columnar_memory.declared.DataType.{DataType, map-DataType}
use Rattle.ipc_format_reading.specs.columnar_memory.declared.DataType.TheOpen as layer
use Rattle.ipc_format_reading.specs.columnar_memory.declared.DataType.TheViews.{roll-DataType}
use Rattle.ipc_format_reading.specs.columnar_memory.declared.DataType.TheViews.{roll-Field}
use Rattle.ipc_format_reading.specs.columnar_memory.declared.DataType.TheViews.{out-DataType}
use Rattle.ipc_format_reading.specs.columnar_memory.declared.DataType.TheViews.{out-Field}
use Rattle.ipc_format_reading.specs.columnar_memory.declared.DataType.TheViews.{out-roll-DataType}
use Rattle.ipc_format_reading.specs.columnar_memory.declared.DataType.TheViews.{roll-out-Field}
use Rattle.ipc_format_reading.specs.columnar_memory.declared.DataType.TheFolds.{fold-Field}
use Rattle.ipc_format_reading.specs.columnar_memory.declared.DataType.TheFolds.{para-Field}
use Rattle.ipc_format_reading.specs.columnar_memory.declared.DataType.TheFolds.{fold-roll-DataType}
use Rattle.ipc_format_reading.specs.columnar_memory.declared.DataType.TheFolds.{fold-roll-Field}
use Rattle.ipc_format_reading.specs.columnar_memory.declared.DataType.TheFolds.{ind-DataType}
use Rattle.ipc_format_reading.specs.columnar_memory.declared.DataType.TheFolds.{para-roll-DataType}
use Rattle.ipc_format_reading.specs.columnar_memory.declared.DataType.TheFolds.{para-roll-Field}
use Rattle.ipc_format_reading.specs.columnar_memory.declared.Field.{Field, map-Field}
use Rattle.ipc_format_reading.specs.columnar_memory.declared.IntegerType.{IntegerType}
use Rattle.ipc_format_reading.specs.columns.SoundColumns.{has_an_id_each, is_entry}
use Rattle.ipc_format_reading.specs.grammar.Columns.{first_ids, ids_below, other_ids}
use Rattle.ipc_format_reading.specs.grammar.Dictionaries.{Finder, Values, find_field_step, find_step}
use Rattle.ipc_format_reading.specs.grammar.Dictionaries.{first_found, or_else, values_if, values_in}
use Rattle.ipc_format_reading.specs.grammar.Dictionaries.{values_of}
use Rattle.ipc_format_reading.specs.grammar.Schemas.{Ids, IdsList, ids, ids_then, no_ids}
use Rattle.ipc_format_reading.specs.grammar.Writable.{Report, are_distinct, are_union_ids}
use Rattle.ipc_format_reading.specs.grammar.Writable.{field_step, fits_i32}
use Rattle.ipc_format_reading.specs.grammar.Writable.{is_size, is_struct_of_two, is_union_id}
use Rattle.ipc_format_reading.specs.grammar.Writable.{report_of}
use Rattle.ipc_format_reading.specs.grammar.Writable.{report_step}
use Rattle.ipc_format_reading.proofs.Claims.{TypeWith, FieldWith, LayerWith, bare_layer}
use Rattle.ipc_format_reading.proofs.FreshLengths.{unlike}
use Rattle.ipc_format_batch_reading.proofs.CoveredTypes.{Layer, cover_each, cover_field, cover_step, covered_layer, covers}
use Rattle.ipc_format_batch_reading.proofs.CoveredSchemas.{came_of, same_value}

-- ---- what is shown of each type

abbrev report_field : Field → Report
report_field = fold-Field Report Report report_step field_step

abbrev readable_field : Field → Test
readable_field = para-Field Test Test readable_step (λ field. field.data_type.1)

abbrev field_finder : Field → Finder
field_finder = para-Field Finder Finder find_step find_field_step

-- values of which there are arrays
abbrev pub AreReadable : Values → Type 0
AreReadable values = is_readable values.data_type (ids None values.below) ≡ true

-- what is found has arrays
abbrev FindsReadable : (ℤ → Option Values) → Type 0
FindsReadable find = (id : ℤ) (values : Values) → find id ≡ Some values → AreReadable values

-- What is shown of a type by its report, by whether ids cover it, by whether there are arrays of it, by what finds values in it, and by whether it
-- is one of entries.
record Reads (report : Report) (covered readable : Test) (find : Finder) (entry : Bool) : Type 0 where
  arrays : report.is_allowed ≡ true → (here : Ids) → covered here ≡ true → readable here ≡ true
  finds : report.is_allowed ≡ true → (here : Ids) → covered here ≡ true → FindsReadable (λ id. find id here)
  enters : is_struct_of_two report.shape ≡ true → entry ≡ true

abbrev TypeReads : DataType → Type 0
TypeReads t = Reads (report_of t) (covers t) (is_readable t) (values_in t) (is_entry (out-DataType t))

abbrev FieldReads : Field → Type 0
FieldReads u = Reads (report_field u) (cover_field u) (readable_field u) (field_finder u) (is_entry (out-DataType u.data_type))

abbrev readable_layer : Layer → layer.DataType-F (DataType × Test) (Field × Test)
readable_layer x = map-DataType DataType Field (DataType × Test) (Field × Test) (λ t. (t, is_readable t)) (λ u. (u, readable_field u)) x

abbrev finder_layer : Layer → layer.DataType-F (DataType × Finder) (Field × Finder)
finder_layer x = map-DataType DataType Field (DataType × Finder) (Field × Finder) (λ t. (t, values_in t)) (λ u. (u, field_finder u)) x

at_roll : (x : Layer)
    → Reads (report_step (map-DataType DataType Field Report Report report_of report_field x)) (cover_step (covered_layer x))
    (readable_step (readable_layer x)) (find_step (finder_layer x)) (is_entry x) → TypeReads (roll-DataType x)
at_roll x h = rw (
  fold-roll-DataType Report Report report_step field_step x,
  fold-roll-DataType Test Test cover_step (λ field. field.data_type) x,
  para-roll-DataType Test Test readable_step (λ field. field.data_type.1) x,
  para-roll-DataType Finder Finder find_step find_field_step x,
  out-roll-DataType x,
) h

-- ---- types without fields below them

leaf : (report : Report) (covered : Test) (readable : Test) (find : Finder) (entry : Bool)
    → is_struct_of_two report.shape ≡ false → ((here : Ids) → readable here ≡ true) → ((id : ℤ) (here : Ids) → find id here ≡ None)
    → Reads report covered readable find entry
leaf report covered readable find entry other all none = record {
  arrays = λ allowed here is. all here;
  finds = λ allowed here is id values found. absurd (no_value values (sym (none id here) ∙ found));
  enters = λ two. absurd (unlike (sym other ∙ two));
}
  where
    no_value : (values : Values) → None ≡ Some values → ⊥
    no_value values e = cc

-- ---- fields below a type

abbrev Children : Type 0
Children = List (FieldWith FieldReads)

abbrev fields_in : Children → List Field
fields_in ys = map (λ e. e.0) ys

abbrev allowed_all : List Report → Bool
allowed_all reports = list_all (λ (child : Report). child.is_allowed) reports

children_pass : (ys : Children) (below : IdsList) → allowed_all (map report_field (fields_in ys)) ≡ true
    → cover_each (map cover_field (fields_in ys)) below ≡ true
    → pass_each (map (λ u. (u, readable_field u)) (fields_in ys)) below ≡ true
children_pass [] below allowed covered = refl
children_pass (y ∷ ys) no_ids allowed covered = absurd (unlike covered)
children_pass (y ∷ ys) (ids_then first others) allowed covered =
    let allows = and_parts (report_field y.0).is_allowed (allowed_all (map report_field (fields_in ys))) allowed in
    let covers = and_parts (cover_field y.0 first) (cover_each (map cover_field (fields_in ys)) others) covered in
    and_from (readable_field y.0 first) (pass_each (map (λ u. (u, readable_field u)) (fields_in ys)) others) (y.1.arrays allows.0 first covers.0)
    (children_pass ys others allows.1 covers.1)

-- the first of two that is there
first_of : (first second : Option Values) (values : Values) → (first ≡ Some values → AreReadable values)
    → (second ≡ Some values → AreReadable values) → or_else first second ≡ Some values → AreReadable values
first_of (Some found) second values here there e = here e
first_of None second values here there e = there e

children_find : (ys : Children) (below : IdsList) → allowed_all (map report_field (fields_in ys)) ≡ true
    → cover_each (map cover_field (fields_in ys)) below ≡ true
    → FindsReadable (λ id. first_found (map (λ u. (u, field_finder u)) (fields_in ys)) id below)
children_find [] below allowed covered id values found = absurd cc
children_find (y ∷ ys) no_ids allowed covered id values found = absurd (unlike covered)
children_find (y ∷ ys) (ids_then first others) allowed covered id values found =
    let allows = and_parts (report_field y.0).is_allowed (allowed_all (map report_field (fields_in ys))) allowed in
    let covers = and_parts (cover_field y.0 first) (cover_each (map cover_field (fields_in ys)) others) covered in
    first_of (field_finder y.0 id first) (first_found (map (λ u. (u, field_finder u)) (fields_in ys)) id others) values
    (y.1.finds allows.0 first covers.0 id values) (children_find ys others allows.1 covers.1 id values) found

-- a type over some fields, of which there are arrays where it is allowed
over : (report : Report) (ys : Children) (readable : Test) (find : Finder) (has : Bool) (entry : Bool)
    → ((here : Ids) → readable here ≡ (has && pass_each (map (λ u. (u, readable_field u)) (fields_in ys)) (ids_below here)))
    → ((id : ℤ) (here : Ids) → find id here ≡ first_found (map (λ u. (u, field_finder u)) (fields_in ys)) id (ids_below here))
    → (report.is_allowed ≡ true → has ≡ true) → (report.is_allowed ≡ true → allowed_all (map report_field (fields_in ys)) ≡ true)
    → (is_struct_of_two report.shape ≡ true → entry ≡ true)
    → Reads report (λ here. cover_each (map cover_field (fields_in ys)) (ids_below here)) readable find entry
over report ys readable find has entry reads finds has_some allows enters = record {
  arrays = λ allowed here is.
      reads here ∙ and_from has (pass_each (map (λ u. (u, readable_field u)) (fields_in ys)) (ids_below here)) (has_some allowed)
      (children_pass ys (ids_below here) (allows allowed) is);
  finds = λ allowed here is id values found.
      children_find ys (ids_below here) (allows allowed) is id values (sym (finds id here) ∙ found);
  enters = enters;
}

-- one field
one_allowed : (u : Field) → (report_field u).is_allowed ≡ true → allowed_all (map report_field (u ∷ [])) ≡ true
one_allowed u allowed = and_from (report_field u).is_allowed true allowed refl

-- a size from 1 on
some_size : (size : ℕ) → is_size size ≡ true → nat_lt 0 size ≡ true
some_size size is = (and_parts (nat_le 1 size) (fits_i32 size) is).0

-- as many ids as children
ids_each : (numbers : Option (List ℤ)) (count n : ℕ) → count ≡ n → are_union_ids numbers count ≡ true → has_an_id_each numbers n ≡ true
ids_each None count n same is = refl
ids_each (Some numbers) count n same is =
    let first = and_parts ((length numbers == count) && list_all is_union_id numbers) (are_distinct numbers) is in
    let second = and_parts (length numbers == count) (list_all is_union_id numbers) first.0 in
    ap (λ m. length numbers == m) (sym same) ∙ second.0

-- ---- structs

some_struct : (ys : Children) (readable : Test) (entry : Bool)
    → ((here : Ids) → readable here ≡ (true && pass_each (map (λ u. (u, readable_field u)) (fields_in ys)) (ids_below here)))
    → (is_struct_of_two (report_step (layer.Struct (map report_field (fields_in ys)))).shape ≡ true → entry ≡ true)
    → Reads (report_step (layer.Struct (map report_field (fields_in ys)))) (λ here. cover_each (map cover_field (fields_in ys)) (ids_below here))
    readable (find_step (finder_layer (layer.Struct (fields_in ys)))) entry
some_struct ys readable entry reads enters =
    over (report_step (layer.Struct (map report_field (fields_in ys)))) ys readable (find_step (finder_layer (layer.Struct (fields_in ys)))) true
    entry
    reads (λ id here. refl) (λ allowed. refl)
    (λ allowed. (and_parts (nat_le 1 (length (map report_field (fields_in ys)))) (allowed_all (map report_field (fields_in ys))) allowed).1) enters

struct_reads : (ys : Children) → Reads (report_step (layer.Struct (map report_field (fields_in ys))))
    (λ here. cover_each (map cover_field (fields_in ys)) (ids_below here)) (readable_step (readable_layer (layer.Struct (fields_in ys))))
    (find_step (finder_layer (layer.Struct (fields_in ys)))) (is_entry (layer.Struct (fields_in ys)))
struct_reads [] = record {
  arrays = λ allowed here is. absurd (unlike allowed);
  finds = λ allowed here is id values found. absurd (unlike allowed);
  enters = λ two. absurd (unlike two);
}
struct_reads (y ∷ []) = some_struct (y ∷ [])
    (readable_step (readable_layer (layer.Struct (fields_in (y ∷ []))))) (is_entry (layer.Struct (fields_in (y ∷ [])))) (λ here. refl)
    (λ two. absurd (unlike two))
struct_reads (y ∷ z ∷ []) = some_struct (y ∷ z ∷ [])
    (readable_step (readable_layer (layer.Struct (fields_in (y ∷ z ∷ []))))) (is_entry (layer.Struct (fields_in (y ∷ z ∷ [])))) (λ here. refl)
    (λ two. refl)
struct_reads (y ∷ z ∷ w ∷ ys) = some_struct (y ∷ z ∷ w ∷ ys)
    (readable_step (readable_layer (layer.Struct (fields_in (y ∷ z ∷ w ∷ ys))))) (is_entry (layer.Struct (fields_in (y ∷ z ∷ w ∷ ys))))
    (λ here. refl) (λ two. absurd (unlike two))

-- ---- dictionaries

-- the values with the id, or some within them
dictionary_finds : (value : DataType) (own : Option ℤ) (below : IdsList) (id : ℤ) (values : Values)
    → is_readable value (ids None below) ≡ true → FindsReadable (λ id. values_in value id (ids None below))
    → or_else (values_if own id (record { data_type = value; below = below })) (values_in value id (ids None below)) ≡ Some values
    → AreReadable values
dictionary_finds value None below id values here inner found = inner id values found
dictionary_finds value (Some own) below id values here inner found =
    first_of (values_if (Some own) id (record { data_type = value; below = below })) (values_in value id (ids None below)) values
    (own_values (int_eq id own)) (inner id values) found
  where
    own_values : (test : Bool) → (if test then Some (record { data_type = value; below = below }) else None) ≡ Some values → AreReadable values
    own_values true e = subst AreReadable (same_value (record { data_type = value; below = below }) values e) here
    own_values false e = absurd cc

-- ---- one layer

type_step : (y : LayerWith TypeReads FieldReads) → TypeReads (roll-DataType (bare_layer TypeReads FieldReads y))
type_step (layer.List item) = at_roll (layer.List item.0) (over _ (item ∷ []) _ _ true _ (λ here. refl) (λ id here. refl) (λ allowed. refl)
    (λ allowed. one_allowed item.0 (and_parts true (report_field item.0).is_allowed allowed).1) (λ two. absurd (unlike two)))
type_step (layer.LargeList item) = at_roll (layer.LargeList item.0) (over _ (item ∷ []) _ _ true _ (λ here. refl) (λ id here. refl)
    (λ allowed. refl) (λ allowed. one_allowed item.0 (and_parts true (report_field item.0).is_allowed allowed).1) (λ two. absurd (unlike two)))
type_step (layer.FixedSizeList item size) = at_roll (layer.FixedSizeList item.0 size) (over _ (item ∷ []) _ _ (nat_lt 0 size) _ (λ here. refl)
    (λ id here. refl) (λ allowed. some_size size (and_parts (is_size size) (report_field item.0).is_allowed allowed).0)
    (λ allowed. one_allowed item.0 (and_parts (is_size size) (report_field item.0).is_allowed allowed).1) (λ two. absurd (unlike two)))
type_step (layer.Map entry is_sorted) = at_roll (layer.Map entry.0 is_sorted) (over _ (entry ∷ []) _ _ (is_entry (out-DataType entry.0.data_type)) _
    (λ here. refl) (λ id here. refl)
    (λ allowed. entry.1.enters (and_parts (is_struct_of_two (report_field entry.0).shape) (report_field entry.0).is_allowed allowed).0)
    (λ allowed. one_allowed entry.0 (and_parts (is_struct_of_two (report_field entry.0).shape) (report_field entry.0).is_allowed allowed).1)
    (λ two. absurd (unlike two)))
type_step (layer.Struct children) = at_roll (layer.Struct (fields_in children)) (struct_reads children)
type_step (layer.Union children numbers mode) =
    let us : List Field = fields_in children in
    let reports : List Report = map report_field us in
    at_roll (layer.Union us numbers mode) (over _ children _ _ (has_an_id_each numbers (length (map (λ u. (u, readable_field u)) us))) _
    (λ here. refl) (λ id here. refl)
    (λ allowed. ids_each numbers (length reports) (length (map (λ u. (u, readable_field u)) us))
    (length-map us report_field ∙ sym (length-map us (λ u. (u, readable_field u))))
    (and_parts (nat_le 1 (length reports)) (are_union_ids numbers (length reports))
    (and_parts (nat_le 1 (length reports) && are_union_ids numbers (length reports)) (allowed_all reports) allowed).0).1)
    (λ allowed. (and_parts (nat_le 1 (length reports) && are_union_ids numbers (length reports)) (allowed_all reports) allowed).1)
    (λ two. absurd (unlike two)))
type_step (layer.Dictionary key value is_ordered) = at_roll (layer.Dictionary key value.0 is_ordered) (record {
  arrays = λ allowed here is. refl;
  finds = λ allowed here is id values found. within key value is_ordered allowed here is id values found;
  enters = λ two. absurd (unlike two);
})
  where
    within : (key : IntegerType) (value : TypeWith TypeReads) (is_ordered : Bool)
        → (report_step (layer.Dictionary key (report_of value.0) is_ordered)).is_allowed ≡ true → (here : Ids)
        → covers value.0 (ids None (ids_below here)) ≡ true
        → FindsReadable (λ id. find_step (finder_layer (layer.Dictionary key value.0 is_ordered)) id here)
    within key value is_ordered allowed (ids own below) is id values found =
        let allows = (and_parts (report_of value.0).is_allowed _ allowed).0 in
        dictionary_finds value.0 own below id values (value.1.arrays allows (ids None below) is) (value.1.finds allows (ids None below) is) found
type_step (layer.Extension name inner metadata) = at_roll (layer.Extension name inner.0 metadata) (record {
  arrays = λ allowed here is. inner.1.arrays (and_parts (report_of inner.0).is_allowed _ allowed).0 here is;
  finds = λ allowed here is. inner.1.finds (and_parts (report_of inner.0).is_allowed _ allowed).0 here is;
  enters = λ two. absurd (unlike two);
})
type_step (layer.FixedSizeBinary size) = at_roll (layer.FixedSizeBinary size) (record {
  arrays = λ allowed here is. and_from (nat_lt 0 size) true (some_size size allowed) refl;
  finds = λ allowed here is id values found. absurd cc;
  enters = λ two. absurd (unlike two);
})
type_step layer.Float16 = at_roll layer.Float16 (record {
  arrays = λ allowed here is. absurd (unlike allowed);
  finds = λ allowed here is id values found. absurd (unlike allowed);
  enters = λ two. absurd (unlike two);
})
type_step layer.Float32 = at_roll layer.Float32 (record {
  arrays = λ allowed here is. absurd (unlike allowed);
  finds = λ allowed here is id values found. absurd (unlike allowed);
  enters = λ two. absurd (unlike two);
})
type_step layer.Float64 = at_roll layer.Float64 (record {
  arrays = λ allowed here is. absurd (unlike allowed);
  finds = λ allowed here is id values found. absurd (unlike allowed);
  enters = λ two. absurd (unlike two);
})
type_step y = at_roll (bare_layer TypeReads FieldReads y) (leaf _ _ _ _ _ refl (λ here. refl) (λ id here. refl))

field_step_reads : (x : layer.Field-F DataType Field) → TypeReads x.data_type → FieldReads (roll-Field x)
field_step_reads x h = rw (
  fold-roll-Field Report Report report_step field_step x,
  fold-roll-Field Test Test cover_step (λ field. field.data_type) x,
  para-roll-Field Test Test readable_step (λ field. field.data_type.1) x,
  para-roll-Field Finder Finder find_step find_field_step x,
) h

type_reads : (t : DataType) → TypeReads t
type_reads = ind-DataType TypeReads FieldReads (λ x y is. subst (λ (x : Layer). TypeReads (roll-DataType x)) is (type_step y))
    (λ x y is. subst (λ (x : layer.Field-F DataType Field). FieldReads (roll-Field x)) is
    (field_step_reads (map-Field (TypeWith TypeReads) (FieldWith FieldReads) DataType Field (λ e. e.0) (λ e. e.0) y) y.data_type.1))

-- ---- the law

-- there are arrays of a type that is allowed and covered
pub covered_types_read : (t : DataType) → (report_of t).is_allowed ≡ true → (here : Ids) → covers t here ≡ true → is_readable t here ≡ true
covered_types_read t allowed here is = (type_reads t).arrays allowed here is

-- and of the values that are found in it
pub covered_types_find : (t : DataType) → (report_of t).is_allowed ≡ true → (here : Ids) → covers t here ≡ true
    → (id : ℤ) (values : Values) → values_in t id here ≡ Some values → AreReadable values
covered_types_find t allowed here is id values found = (type_reads t).finds allowed here is id values found

-- of some fields
abbrev pub allowed_fields : List Field → Bool
allowed_fields fields = list_all (λ (child : Report). child.is_allowed) (map (λ (u : Field). report_of u.data_type) fields)

pub covered_fields_find : (fields : List Field) (below : IdsList) → allowed_fields fields ≡ true
    → cover_each (map (λ (u : Field). covers u.data_type) fields) below ≡ true
    → (id : ℤ) (values : Values) → values_of fields id below ≡ Some values → AreReadable values
covered_fields_find [] below allowed covered id values found = absurd cc
covered_fields_find (u ∷ fields) no_ids allowed covered id values found = absurd (unlike covered)
covered_fields_find (u ∷ fields) (ids_then first others) allowed covered id values found =
    let allows = and_parts (report_of u.data_type).is_allowed (allowed_fields fields) allowed in
    let both = and_parts (covers u.data_type first) (cover_each (map (λ (u : Field). covers u.data_type) fields) others) covered in
    first_of (values_in u.data_type id first) (values_of fields id others) values
    (covered_types_find u.data_type allows.0 first both.0 id values) (covered_fields_find fields others allows.1 both.1 id values) found
