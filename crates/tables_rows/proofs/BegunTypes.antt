-- Each type of a schema that may be sealed has a builder.
use Rattle.std.proofs.Common.{◌≡◌, ◌∙◌, ℕ, zero, suc, Bool, true, false, List, [], ◌∷◌, length, map, refl, sym, ap, subst, arith}
use Rattle.std.specs.Prelude.{◌&&◌, ◌||◌, ◌==◌, not, is_none, nat_le, Option}
use Rattle.std.specs.List.{list_all, list_any}
use Rattle.std.proofs.lemmas.Bool.{and_parts, and_from, ne_eqb, false≢true}
use Rattle.std.proofs.lemmas.List.{length-map}
use Rattle.tables_chunks.specs.ipc_format.columnar_memory.declared.DataType.{DataType, map-DataType}
use Rattle.tables_chunks.specs.ipc_format.columnar_memory.declared.DataType.TheOpen as layer
use Rattle.tables_chunks.specs.ipc_format.columnar_memory.declared.DataType.TheFolds.{fold-Field, para-Field, fold-roll-DataType}
use Rattle.tables_chunks.specs.ipc_format.columnar_memory.declared.DataType.TheFolds.{fold-roll-Field, para-roll-DataType, para-roll-Field}
use Rattle.tables_chunks.specs.ipc_format.columnar_memory.declared.DataType.TheFolds.{ind-DataType}
use Rattle.tables_chunks.specs.ipc_format.columnar_memory.declared.DataType.TheViews.{roll-DataType, roll-Field}
use Rattle.tables_chunks.specs.ipc_format.columnar_memory.declared.Field.{Field, map-Field}
use Rattle.tables_chunks.specs.ipc_format.columnar_memory.declared.IntegerType.{IntegerType}
use Rattle.tables_chunks.specs.ipc_format.columnar_memory.declared.IntervalUnit.TheVariants as intervals
use Rattle.tables_chunks.specs.ipc_format.columnar_memory.declared.PhysicalType.{PhysicalType}
use Rattle.tables_chunks.specs.ipc_format.columnar_memory.declared.Schema.{Schema}
use Rattle.tables_chunks.specs.ipc_format.columnar_memory.Layouts.{physical_step, physical_type}
use Rattle.tables_chunks.specs.ipc_format.columns.Sealing.{Bars, bars_step, bars_of, schema_bars, first_bar}
use Rattle.nested_arrays_cells.specs.builders.BuiltTypes.{floats_step, has_floats, is_keyed}
use Rattle.nested_arrays_cells.specs.builders.BuiltTypes.{invalid_step, is_invalid}
use Rattle.nested_arrays_cells.specs.builders.BuiltTypes.{has_builder, have_builders}
use Rattle.tables_chunks.specs.ipc_format.Seals.{is_sealable}
use Rattle.tables_chunks.specs.ipc_format.Writable.{Report, is_dictionary, is_plain, is_size, shape_of_struct, Shape}
use Rattle.tables_chunks.specs.ipc_format.Writable.{plain, dictionary, extension, struct_of_two}
use Rattle.tables_chunks.specs.ipc_format.Writable.{report_step, field_step, report_of, reports_of, over_all, is_writable}
use Rattle.tables_chunks.proofs.ipc_format_lemmas.Claims.{TypeWith, FieldWith, LayerWith, bare_layer}
use Rattle.tables_chunks.proofs.ipc_format_lemmas.SealedTypes.{storable}

-- ---- what stands for fields

abbrev Layer : Type 0
Layer = layer.DataType-F DataType Field

abbrev report_field : Field → Report
report_field = fold-Field Report Report report_step field_step

abbrev bars_field : Field → Bars
bars_field = fold-Field Bars Bars bars_step (λ field. field.data_type)

abbrev floats_field : Field → Bool
floats_field = fold-Field Bool Bool floats_step (λ field. field.data_type)

abbrev invalid_field : Field → Bool
invalid_field = para-Field Bool Bool invalid_step (λ field. field.data_type.1)

abbrev layout_field : Field → Unit {0}
layout_field = fold-Field PhysicalType (Unit {0}) physical_step (λ f. tt)

abbrev are_none : Bars → Bool
are_none bars = not bars.has_map && not bars.has_union && not bars.has_ordered && not bars.has_empty

-- ---- the claim: of an allowed type no floats and nothing invalid stand where no bar does, and its shape says whether it is a dictionary

record Begins (report : Report) (bars : Bars) (floats invalid keyed : Bool) : Type 0 where
  plain_of : report.is_allowed ≡ true → floats ≡ false
  valid : report.is_allowed ≡ true → are_none bars ≡ true → invalid ≡ false
  shaped : report.is_allowed ≡ true → keyed ≡ is_dictionary report.shape

abbrev TypeBegins : DataType → Type 0
TypeBegins t = Begins (report_of t) (bars_of t) (has_floats t) (is_invalid t) (is_keyed (physical_type t))

record FieldBegins (u : Field) : Type 0 where
  plain_of : (report_field u).is_allowed ≡ true → floats_field u ≡ false
  valid : (report_field u).is_allowed ≡ true → are_none (bars_field u) ≡ true → invalid_field u ≡ false

at_roll : (x : Layer) → Begins (report_step (map-DataType DataType Field Report Report report_of report_field x))
    (bars_step (map-DataType DataType Field Bars Bars bars_of bars_field x))
    (floats_step (map-DataType DataType Field Bool Bool has_floats floats_field x))
    (invalid_step (map-DataType DataType Field (DataType × Bool) (Field × Bool) (λ t. (t, is_invalid t)) (λ u. (u, invalid_field u)) x))
    (is_keyed (physical_step (map-DataType DataType Field PhysicalType (Unit {0}) physical_type layout_field x))) → TypeBegins (roll-DataType x)
at_roll x h = rw (
  fold-roll-DataType Report Report report_step field_step x,
  fold-roll-DataType Bars Bars bars_step (λ field. field.data_type) x,
  fold-roll-DataType Bool Bool floats_step (λ field. field.data_type) x,
  para-roll-DataType Bool Bool invalid_step (λ field. field.data_type.1) x,
  fold-roll-DataType PhysicalType (Unit {0}) physical_step (λ f. tt) x,
) h

-- a layer with nothing below it
leaf_begins : (report : Report) (bars : Bars) → is_dictionary report.shape ≡ false → Begins report bars false false false
leaf_begins report bars shape = record { plain_of = λ allowed. refl; valid = λ allowed free. refl; shaped = λ allowed. sym shape }

-- a layer over one child, which has the same of it
over_begins : (y : FieldWith FieldBegins) (report : Report) → (report.is_allowed ≡ true → (report_field y.0).is_allowed ≡ true)
    → is_dictionary report.shape ≡ false → Begins report (bars_field y.0) (floats_field y.0) (invalid_field y.0) false
over_begins y report allows shape = record {
  plain_of = λ allowed. y.1.plain_of (allows allowed);
  valid = λ allowed free. y.1.valid (allows allowed) free;
  shaped = λ allowed. sym shape;
}

refused : {P : Type 0} → false ≡ true → P
refused e = absurd (false≢true e)

-- a size that is allowed isn't 0
sized : (size : ℕ) → is_size size ≡ true → (size == 0) ≡ false
sized zero h = refused h
sized (suc size) h = ne_eqb (suc size) 0 (λ e. absurd (omega arith))

-- ---- structs

abbrev Children : Type 0
Children = List (FieldWith FieldBegins)

abbrev fields_of : Children → List Field
fields_of ys = map (λ e. e.0) ys

abbrev allowed_each : Children → Bool
allowed_each ys = list_all (λ (child : Report). child.is_allowed) (map report_field (fields_of ys))

abbrev invalid_answers : List Field → List (Field × Bool)
invalid_answers us = map (λ u. (u, invalid_field u)) us

children_plain : (ys : Children) → allowed_each ys ≡ true → list_any (λ (b : Bool). b) (map floats_field (fields_of ys)) ≡ false
children_plain [] allowed = refl
children_plain (y ∷ ys) allowed =
    let parts = and_parts (report_field y.0).is_allowed (allowed_each ys) allowed in
    λ j. y.1.plain_of parts.0 j || children_plain ys parts.1 j

-- what stands in none of some types stands in none of the first, and in none of the others
none_parts : (a b c d e f g h : Bool) → (not (a || e) && not (b || f) && not (c || g) && not (d || h)) ≡ true
    → ((not a && not b && not c && not d) ≡ true) × ((not e && not f && not g && not h) ≡ true)
none_parts true b c d e f g h is = refused is
none_parts false true c d true f g h is = refused is
none_parts false true c d false f g h is = refused is
none_parts false false true d true f g h is = refused is
none_parts false false true d false true g h is = refused is
none_parts false false true d false false g h is = refused is
none_parts false false false true true f g h is = refused is
none_parts false false false true false true g h is = refused is
none_parts false false false true false false true h is = refused is
none_parts false false false true false false false h is = refused is
none_parts false false false false e f g h is = (refl, is)

children_valid : (ys : Children) → allowed_each ys ≡ true → are_none (record {
  has_map = list_any (λ (bars : Bars). bars.has_map) (map bars_field (fields_of ys));
  has_union = list_any (λ (bars : Bars). bars.has_union) (map bars_field (fields_of ys));
  has_ordered = list_any (λ (bars : Bars). bars.has_ordered) (map bars_field (fields_of ys));
  has_empty = list_any (λ (bars : Bars). bars.has_empty) (map bars_field (fields_of ys));
}) ≡ true → list_any (λ (child : Field × Bool). child.1) (invalid_answers (fields_of ys)) ≡ false
children_valid [] allowed free = refl
children_valid (y ∷ ys) allowed free =
    let parts = and_parts (report_field y.0).is_allowed (allowed_each ys) allowed in
    let others = map bars_field (fields_of ys) in
    let first = bars_field y.0 in
    let nones = none_parts first.has_map first.has_union first.has_ordered first.has_empty (list_any (λ (bars : Bars). bars.has_map) others)
    (list_any (λ (bars : Bars). bars.has_union) others) (list_any (λ (bars : Bars). bars.has_ordered) others)
    (list_any (λ (bars : Bars). bars.has_empty) others) free in
    λ j. y.1.valid parts.0 nones.0 j || children_valid ys parts.1 nones.1 j

many : (ys : Children) → length (invalid_answers (fields_of ys)) ≡ length (map report_field (fields_of ys))
many ys = length-map (fields_of ys) (λ u. (u, invalid_field u)) ∙ sym (length-map (fields_of ys) report_field)

some_fields : (k : ℕ) → nat_le 1 k ≡ true → (k == 0) ≡ false
some_fields zero h = refused h
some_fields (suc k) h = ne_eqb (suc k) 0 (λ e. absurd (omega arith))

struct_shape : (reports : List Report) → is_dictionary (shape_of_struct reports) ≡ false
struct_shape [] = refl
struct_shape (a ∷ []) = refl
struct_shape (a ∷ b ∷ []) = refl
struct_shape (a ∷ b ∷ c ∷ more) = refl

struct_begins : (y : FieldWith FieldBegins) (ys : Children) → TypeBegins (roll-DataType (layer.Struct (fields_of (y ∷ ys))))
struct_begins y ys =
    let all = y ∷ ys in
    let reports = map report_field (fields_of all) in
    let parts = λ (allowed : (nat_le 1 (length reports) && allowed_each all) ≡ true).
    and_parts (nat_le 1 (length reports)) (allowed_each all) allowed in
    at_roll (layer.Struct (fields_of all)) (record {
      plain_of = λ allowed. children_plain all (parts allowed).1;
      valid = λ allowed free.
          let few = ap (λ k. k == 0) (many all) ∙ some_fields (length reports) (parts allowed).0 in
          let none = children_valid all (parts allowed).1 free in
          λ j. few j || none j;
      shaped = λ allowed. sym (struct_shape reports);
    })

-- ---- dictionaries and extensions

loose : (a b c d ordered : Bool) → (not a && not b && not (c || ordered) && not d) ≡ true
    → (ordered ≡ false) × ((not a && not b && not c && not d) ≡ true)
loose true b c d ordered h = refused h
loose false true c d ordered h = refused h
loose false false true d ordered h = refused h
loose false false false d true h = refused h
loose false false false d false h = (refl, h)

is_not : (b : Bool) → not b ≡ true → b ≡ false
is_not true h = refused h
is_not false h = refl

not_keyed : (shape : Shape) → is_plain shape ≡ true → is_dictionary shape ≡ false
not_keyed plain h = refl
not_keyed dictionary h = refused h
not_keyed extension h = refused h
not_keyed struct_of_two h = refl

dictionary_begins : (key : IntegerType) (value : TypeWith TypeBegins) (is_ordered : Bool)
    → TypeBegins (roll-DataType (layer.Dictionary key value.0 is_ordered))
dictionary_begins key value is_ordered =
    let report = report_of value.0 in
    let bars = bars_of value.0 in
    let parts = λ (allowed : (report.is_allowed && not (is_dictionary report.shape)) ≡ true).
    and_parts report.is_allowed (not (is_dictionary report.shape)) allowed in
    at_roll (layer.Dictionary key value.0 is_ordered) (record {
      plain_of = λ allowed. value.1.plain_of (parts allowed).0;
      valid = λ allowed free.
          let frees = loose bars.has_map bars.has_union bars.has_ordered bars.has_empty is_ordered free in
          let keyed = value.1.shaped (parts allowed).0 ∙ is_not (is_dictionary report.shape) (parts allowed).1 in
          let below = value.1.valid (parts allowed).0 frees.1 in
          λ j. frees.0 j || (keyed j || below j);
      shaped = λ allowed. refl;
    })

extension_begins : (name : List ℕ) (inner : TypeWith TypeBegins) (metadata : Option (List ℕ))
    → TypeBegins (roll-DataType (layer.Extension name inner.0 metadata))
extension_begins name inner metadata =
    let report = report_of inner.0 in
    let parts = λ (allowed : (report.is_allowed && is_plain report.shape) ≡ true). and_parts report.is_allowed (is_plain report.shape) allowed in
    at_roll (layer.Extension name inner.0 metadata) (record {
      plain_of = λ allowed. inner.1.plain_of (parts allowed).0;
      valid = λ allowed free. inner.1.valid (parts allowed).0 free;
      shaped = λ allowed. inner.1.shaped (parts allowed).0 ∙ not_keyed report.shape (parts allowed).1;
    })

-- ---- the induction

no_leaf : (report : Report) (bars : Bars) (floats invalid keyed : Bool) → report.is_allowed ≡ false → Begins report bars floats invalid keyed
no_leaf report bars floats invalid keyed not_allowed = record {
  plain_of = λ allowed. refused (sym not_allowed ∙ allowed);
  valid = λ allowed free. refused (sym not_allowed ∙ allowed);
  shaped = λ allowed. refused (sym not_allowed ∙ allowed);
}

union_free : (a c d : Bool) → (not a && false && not c && not d) ≡ true → false ≡ true
union_free true c d h = h
union_free false c d h = h

begin_step : (y : LayerWith TypeBegins FieldBegins) → TypeBegins (roll-DataType (bare_layer TypeBegins FieldBegins y))
begin_step layer.Float16 = at_roll layer.Float16 (no_leaf _ _ true false false refl)
begin_step layer.Float32 = at_roll layer.Float32 (no_leaf _ _ true false false refl)
begin_step layer.Float64 = at_roll layer.Float64 (no_leaf _ _ true false false refl)
begin_step (layer.FixedSizeBinary size) = at_roll (layer.FixedSizeBinary size)
    (record { plain_of = λ allowed. refl; valid = λ allowed free. sized size allowed; shaped = λ allowed. refl })
begin_step (layer.List item) = at_roll (layer.List item.0) (over_begins item _ (λ allowed. allowed) refl)
begin_step (layer.LargeList item) = at_roll (layer.LargeList item.0) (over_begins item _ (λ allowed. allowed) refl)
begin_step (layer.FixedSizeList item size) = at_roll (layer.FixedSizeList item.0 size)
    (let parts = λ (allowed : (is_size size && (report_field item.0).is_allowed) ≡ true).
    and_parts (is_size size) (report_field item.0).is_allowed allowed in record {
      plain_of = λ allowed. item.1.plain_of (parts allowed).1;
      valid = λ allowed free.
          let some = sized size (parts allowed).0 in
          let below = item.1.valid (parts allowed).1 free in
          λ j. some j || below j;
      shaped = λ allowed. refl;
    })
begin_step (layer.Map entry is_sorted) = at_roll (layer.Map entry.0 is_sorted) (record {
  plain_of = λ allowed. entry.1.plain_of (and_parts _ (report_field entry.0).is_allowed allowed).1;
  valid = λ allowed free. refused free;
  shaped = λ allowed. refl;
})
begin_step (layer.Struct []) = at_roll (layer.Struct []) (no_leaf _ _ false true false refl)
begin_step (layer.Struct (y ∷ ys)) = struct_begins y ys
begin_step (layer.Union children ids mode) = at_roll (layer.Union (fields_of children) ids mode) (record {
  plain_of = λ allowed. children_plain children (and_parts _ (allowed_each children) allowed).1;
  valid = λ allowed free. refused (union_free _ _ _ free);
  shaped = λ allowed. refl;
})
begin_step (layer.Dictionary key value is_ordered) = dictionary_begins key value is_ordered
begin_step (layer.Extension name inner metadata) = extension_begins name inner metadata
begin_step (layer.Interval intervals.YearMonth) = at_roll (layer.Interval intervals.YearMonth) (leaf_begins _ _ refl)
begin_step (layer.Interval intervals.DayTime) = at_roll (layer.Interval intervals.DayTime) (leaf_begins _ _ refl)
begin_step (layer.Interval intervals.MonthDayNano) = at_roll (layer.Interval intervals.MonthDayNano) (leaf_begins _ _ refl)
begin_step y = at_roll (bare_layer TypeBegins FieldBegins y) (leaf_begins _ _ refl)

field_begins : (x : layer.Field-F DataType Field) → TypeBegins x.data_type → FieldBegins (roll-Field x)
field_begins x h = record {
  plain_of = λ allowed. fold-roll-Field Bool Bool floats_step (λ field. field.data_type) x
      ∙ h.plain_of (ap (λ (r : Report). r.is_allowed) (sym (fold-roll-Field Report Report report_step field_step x)) ∙ allowed);
  valid = λ allowed free. para-roll-Field Bool Bool invalid_step (λ field. field.data_type.1) x
      ∙ h.valid (ap (λ (r : Report). r.is_allowed) (sym (fold-roll-Field Report Report report_step field_step x)) ∙ allowed)
      (ap are_none (sym (fold-roll-Field Bars Bars bars_step (λ field. field.data_type) x)) ∙ free);
}

type_begins : (t : DataType) → TypeBegins t
type_begins = ind-DataType TypeBegins FieldBegins (λ x y is. subst (λ (x : Layer). TypeBegins (roll-DataType x)) is (begin_step y))
    (λ x y is. subst (λ (x : layer.Field-F DataType Field). FieldBegins (roll-Field x)) is
    (field_begins (map-Field (TypeWith TypeBegins) (FieldWith FieldBegins) DataType Field (λ e. e.0) (λ e. e.0) y) y.data_type.1))

-- ---- schemas

no_bar : (has_map has_union has_ordered has_empty written : Bool)
    → is_none (first_bar (record { has_map = has_map; has_union = has_union; has_ordered = has_ordered; has_empty = has_empty }) written) ≡ true
    → (not has_map && not has_union && not has_ordered && not has_empty) ≡ true
no_bar true union ordered empty written h = refused h
no_bar false true ordered empty written h = refused h
no_bar false false true empty written h = refused h
no_bar false false false true written h = refused h
no_bar false false false false written h = refl

all_begin : (us : List Field) → list_all (λ (child : Report). child.is_allowed) (reports_of us) ≡ true → are_none (schema_bars us) ≡ true
    → have_builders us ≡ true
all_begin [] allowed free = refl
all_begin (u ∷ us) allowed free =
    let parts = and_parts (report_of u.data_type).is_allowed (list_all (λ (child : Report). child.is_allowed) (reports_of us)) allowed in
    let first = bars_of u.data_type in
    let others = schema_bars us in
    let nones = none_parts first.has_map first.has_union first.has_ordered first.has_empty (others.has_map || false) (others.has_union || false)
    (others.has_ordered || false) (others.has_empty || false) free in
    let rest = none_parts others.has_map others.has_union others.has_ordered others.has_empty false false false false nones.1 in
    let begins = type_begins u.data_type in
    and_from (has_builder u.data_type) (have_builders us)
    (λ j. not (begins.plain_of parts.0 j || begins.valid parts.0 nones.0 j)) (all_begin us parts.1 rest.0)

types_allowed : (schema : Schema) → is_writable schema ≡ true → list_all (λ (child : Report). child.is_allowed) (reports_of schema.fields) ≡ true
unfolding is_writable
types_allowed schema h =
    let all = over_all true plain (reports_of schema.fields) in
    let first = and_parts (all.is_allowed && nat_le all.levels 64) (nat_le all.dictionaries 65536) h in
    let second = and_parts all.is_allowed (nat_le all.levels 64) first.0 in
    (and_parts true (list_all (λ (child : Report). child.is_allowed) (reports_of schema.fields)) second.0).1

-- each field's type has a builder
pub sealable_begins : (schema : Schema) → is_sealable schema ≡ true → have_builders schema.fields ≡ true
sealable_begins schema can =
    let bars = schema_bars schema.fields in
    all_begin schema.fields (types_allowed schema (storable schema can).written)
    (no_bar bars.has_map bars.has_union bars.has_ordered bars.has_empty (is_writable schema) can)
