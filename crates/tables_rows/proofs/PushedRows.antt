-- Rows that are pushed to open columns.
use Rattle.std.proofs.Common.{◌≡◌, ◌∙◌, ℕ, ◌+◌, ◌<◌, true, List, [], ◌∷◌, ◌++◌, length, map, refl, sym, ap, subst, arith, ◌&&◌, ◌||◌, ◌==◌, not}
use Rattle.std.specs.Prelude.{nat_lt, Result, Ok, Err}
use Rattle.std.specs.List.{list_all}
use Rattle.std.proofs.lemmas.Bool.{and_from, eq-eqb, lt-ltb}
use Rattle.std.proofs.lemmas.List.{length-map, nil_from_length}
use Rattle.columnar_memory_types.specs.declared.data_type.Field.{Field}
use Rattle.columnar_memory_types.specs.declared.error.Error.TheVariants as errors
use Rattle.tables_chunks.specs.StoredTables.{Stored}
use Rattle.tables_chunks.specs.declared.fault.Fault.{Fault}
use Rattle.tables_chunks.specs.declared.fault.Fault.TheVariants as faults
use Rattle.tables_chunks.specs.ipc_format.columns.Cells.{fits_cell}
use Rattle.tables_chunks.specs.ipc_format.columns.OpenBatch.{fits}
use Rattle.tables_chunks.specs.ipc_format.columns.Rows.{Cell, cell_slot, columns_of_rows, columns_fit, is_row_of}
use Rattle.tables_chunks.specs.ipc_format.columns.Slots.{Slot}
use Rattle.nested_arrays_cells.specs.parts.Open.{Open}
use Rattle.tables_rows.specs.Building.{seen}
use Rattle.tables_rows.specs.Columns.{are_taken, field_types, is_fitting, open_count, rows_of, slots_of_each, slots_overflow, types_of, with_each}
use Rattle.tables_rows.specs.Columns.{AreLong, AreOpen, IsShort, PushesEach}
use Rattle.tables_rows.specs.Pushing.{cells_fit, row_overflows, IsRowFault, PushesRow}
use Rattle.tables_rows.proofs.OpenRows.{as_many, columns_are, count_is, each_count, fitting_is, long_more, rows_more, types_more}

-- the slots of cells are the slots of what they stand for
pub slots_of_cells : {A : Type 0} (f : A → Cell) (row : List A) → map (λ cell. cell_slot (f cell)) row ≡ map cell_slot (map f row)
slots_of_cells f [] = refl
slots_of_cells f (cell ∷ row) = ap (λ slots. cell_slot (f cell) ∷ slots) (slots_of_cells f row)

-- ---- open columns with one row more

pub open_more : (fields : List Field) (columns : List Open) (slots : List Slot) → 0 < length columns → length slots ≡ length columns
    → AreOpen fields columns → AreOpen fields (with_each columns slots)
open_more fields columns slots some many are =
    let count = open_count columns in
    let long = long_more count columns slots many are.long in
    let counted : open_count (with_each columns slots) ≡ count + 1 =
    count_is (count + 1) (with_each columns slots) (omega (arith, some, each_count columns slots)) long in
    record {
      types = types_more columns slots ∙ are.types;
      long = subst (λ (n : ℕ). AreLong n (with_each columns slots)) (sym counted) long;
    }

pub still_open : {U : Type 0} (fields : List Field) (columns new : List Open) (slots : List Slot) (r : Result U Fault) → 0 < length columns
    → length slots ≡ length columns → AreOpen fields columns → PushesEach columns slots new r → AreOpen fields new
still_open fields columns new slots (Ok done) some many are pushed =
    subst (AreOpen fields) (sym pushed.0) (open_more fields columns slots some many are)
still_open fields columns new slots (Err fault) some many are pushed = subst (AreOpen fields) (sym pushed.0) are

-- ---- what fits

-- the columns of the rows with one more are those with one slot more
more_columns : (fields : List Field) (columns : List Open) (slots : List Slot) → 0 < length columns → length slots ≡ length columns
    → AreOpen fields columns → columns_of_rows fields (rows_of columns ++ slots ∷ []) ≡ slots_of_each (with_each columns slots)
more_columns fields columns slots some many are =
    let more = open_more fields columns slots some many are in
    ap (columns_of_rows fields) (sym (rows_more columns slots some many are.long))
    ∙ columns_are fields (with_each columns slots) (as_many fields (with_each columns slots) more.types) more.long

-- so they fit where these do
more_fits : (fields : List Field) (columns : List Open) (slots : List Slot) → 0 < length columns → length slots ≡ length columns
    → AreOpen fields columns
    → columns_fit fields (columns_of_rows fields (rows_of columns ++ slots ∷ [])) ≡ list_all is_fitting (with_each columns slots)
more_fits fields columns slots some many are =
    ap (columns_fit fields) (more_columns fields columns slots some many are)
    ∙ fitting_is fields (with_each columns slots) (open_more fields columns slots some many are).types

cells_taken : (fields : List Field) (columns : List Open) (row : List Cell) → types_of columns ≡ field_types fields
    → cells_fit fields row ≡ are_taken columns (map cell_slot row)
cells_taken [] [] row types = refl
cells_taken [] (column ∷ columns) row types = absurd cc
cells_taken (field ∷ fields) [] row types = absurd cc
cells_taken (field ∷ fields) (column ∷ columns) [] types = refl
cells_taken (field ∷ fields) (column ∷ columns) (cell ∷ row) types =
    let first : field.data_type ≡ column.data_type = cc in
    let others : types_of columns ≡ field_types fields = cc in
    λ j. fits_cell (first j) (cell_slot cell) && cells_taken fields columns row others j

-- the slots of cells overflow where the row does
row_overflow : (fields : List Field) (columns : List Open) (row : List Cell) → types_of columns ≡ field_types fields
    → row_overflows fields (slots_of_each (with_each columns (map cell_slot row))) row ≡ slots_overflow columns (map cell_slot row)
row_overflow [] [] row types = refl
row_overflow [] (column ∷ columns) row types = absurd cc
row_overflow (field ∷ fields) [] row types = absurd cc
row_overflow (field ∷ fields) (column ∷ columns) [] types = refl
row_overflow (field ∷ fields) (column ∷ columns) (cell ∷ row) types =
    let first : field.data_type ≡ column.data_type = cc in
    let others : types_of columns ≡ field_types fields = cc in
    λ j. fits_cell (first j) (cell_slot cell)
    && (not (fits (first j) (column.slots ++ cell_slot cell ∷ [])) || row_overflow fields columns row others j)

row_of : {A : Type 0} (fields : List Field) (row : List A) → 0 < length fields → length row ≡ length fields → is_row_of fields row ≡ true
row_of fields row some many =
    and_from (nat_lt 0 (length fields)) (length row == length fields) (lt-ltb 0 (length fields) some) (eq-eqb (length row) (length fields) many)

-- ---- rows

-- why the slots of a row are not taken is why the row is not
row_fault : (table : Stored) (columns : List Open) (row : List Cell) (fault : Fault) → 0 < length columns → length row ≡ length columns
    → AreOpen table.schema.fields columns → IsShort columns (map cell_slot row) fault → IsRowFault (seen table columns) row fault
row_fault table columns row faults.Memory some many are short =
    let count = as_many table.schema.fields columns are.types in
    row_of table.schema.fields row (omega (arith, some, count)) (many ∙ count)
row_fault table columns row (faults.Lower (errors.InvalidArgumentError what)) some many are short =
    let count = as_many table.schema.fields columns are.types in (
      row_of table.schema.fields row (omega (arith, some, count)) (many ∙ count),
      cells_taken table.schema.fields columns row are.types ∙ short,
    )
row_fault table columns row (faults.Lower errors.Overflow) some many are short =
    let count = as_many table.schema.fields columns are.types in (
      row_of table.schema.fields row (omega (arith, some, count)) (many ∙ count),
      ap (λ held. row_overflows table.schema.fields held row)
          (more_columns table.schema.fields columns (map cell_slot row) some (length-map row cell_slot ∙ many) are)
          ∙ row_overflow table.schema.fields columns row are.types ∙ short,
    )
row_fault table columns row _ some many are short = absurd short

pub pushes_row : {U : Type 0} (table : Stored) (columns new : List Open) (slots : List Slot) (row : List Cell) (r : Result U Fault)
    → slots ≡ map cell_slot row → 0 < length columns → length row ≡ length columns → AreOpen table.schema.fields columns
    → PushesEach columns slots new r → PushesRow (seen table columns) row r (seen table new)
pushes_row table columns new slots row (Ok done) is some many are pushed =
    let fields = table.schema.fields in
    let own : List Slot = map cell_slot row in
    let long : length own ≡ length columns = length-map row cell_slot ∙ many in
    let count = as_many fields columns are.types in
    let grown : new ≡ with_each columns own = pushed.0 ∙ ap (with_each columns) is in
    let fit : list_all is_fitting (with_each columns own) ≡ true =
    ap (λ (ss : List Slot). list_all is_fitting (with_each columns ss)) (sym is) ∙ pushed.1 in (
      ap (λ rows. record { schema = table.schema; batches = table.batches; rows = rows })
          (ap rows_of grown ∙ rows_more columns own some long are.long),
      and_from (is_row_of fields row) (columns_fit fields (columns_of_rows fields (rows_of columns ++ own ∷ [])))
          (row_of fields row (omega (arith, some, count)) (many ∙ count)) (more_fits fields columns own some long are ∙ fit),
    )
pushes_row table columns new slots row (Err fault) is some many are pushed = (
  ap (seen table) pushed.0,
  row_fault table columns row fault some many are (subst (λ (ss : List Slot). IsShort columns ss fault) is pushed.1),
)

-- ---- rows of another width

pub without_columns : (fields : List Field) (columns : List Open) → AreOpen fields columns → length columns ≡ 0 → fields ≡ []
without_columns fields columns are none =
    nil_from_length fields (sym (as_many fields columns are.types) ∙ none)

pub with_columns : (fields : List Field) (columns : List Open) → AreOpen fields columns → 0 < length columns → fields ≡ [] → ⊥
with_columns fields columns are some none =
    let count = as_many fields columns are.types in
    let length_is : length fields ≡ 0 = ap length none in
    absurd (omega (arith, some, count, length_is))
