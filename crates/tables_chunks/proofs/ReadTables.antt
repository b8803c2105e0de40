-- The table of the batches that were read of a stream.
use Rattle.std.proofs.Common.{◌≡◌, suc, true, List, [], ◌∷◌, map, refl, sym, ap, arith, All}
use Rattle.std.specs.List.{list_all}
use Rattle.std.proofs.lemmas.Bool.{and_from}
use Rattle.columnar_memory_types.specs.Equality.{same_type, same_type-Decides}
use Rattle.ipc_format.specs.columnar_memory.declared.DataType.{DataType}
use Rattle.ipc_format.specs.columnar_memory.declared.Field.{Field}
use Rattle.ipc_format.specs.columns.StoredColumns.{Column, column_type}
use Rattle.tables_chunks.specs.Messages.{AreOfFields, type_of}
use Rattle.tables_chunks.specs.StoredTables.{is_of_fields}

abbrev first_or : DataType → List DataType → DataType
first_or other [] = other
first_or other (t ∷ ts) = t

abbrev others : List DataType → List DataType
others [] = []
others (t ∷ ts) = ts

-- columns that have the types of fields are of these fields
fits_each : (fields : List Field) (columns : List Column) → map column_type columns ≡ map type_of fields → is_of_fields fields columns ≡ true
fits_each [] [] e = refl
fits_each [] (column ∷ columns) e = absurd cc
fits_each (field ∷ fields) [] e = absurd cc
fits_each (field ∷ fields) (column ∷ columns) e =
    and_from (same_type field.data_type (column_type column)) (is_of_fields fields columns)
    ((same_type-Decides field.data_type (column_type column)).1 (ap (first_or (column_type column)) (sym e)))
    (fits_each fields columns (ap others e))

pub fit_fields : (fields : List Field) (batches : List (List Column)) → All (AreOfFields fields) batches
    → list_all (is_of_fields fields) batches ≡ true
fit_fields fields [] all = refl
fit_fields fields (batch ∷ batches) all =
    and_from (is_of_fields fields batch) (list_all (is_of_fields fields) batches) (fits_each fields batch (all 0 batch (omega arith)).0)
    (fit_fields fields batches (λ k d within. all (suc k) d (omega arith)))
