-- Open columns before any slot.
use Rattle.std.proofs.Common.{◌≡◌, ◌∙◌, ℕ, zero, suc, List, [], ◌∷◌, refl, sym, ap, ap₂, subst, arith}
use Rattle.columnar_memory_types.specs.declared.data_type.Field.{Field}
use Rattle.columnar_memory_types.specs.declared.schema.Schema.{Schema}
use Rattle.tables_chunks.specs.StoredTables.{Stored}
use Rattle.tables_chunks.specs.ipc_format.columns.Slots.{Slot}
use Rattle.nested_arrays_cells.specs.builders.Begun.{opened_none}
use Rattle.nested_arrays_cells.specs.parts.Open.{Open, opened}
use Rattle.tables_rows.specs.Building.{empty, seen}
use Rattle.tables_rows.specs.Columns.{field_types, open_count, rows_of, types_of, AreLong, AreOpen}

begun_types : (fields : List Field) → types_of (opened_none fields) ≡ field_types fields
begun_types [] = refl
begun_types (field ∷ fields) = ap (λ types. field.data_type ∷ types) (begun_types fields)

begun_long : (fields : List Field) → AreLong 0 (opened_none fields)
begun_long [] = λ k d inside. absurd (omega arith)
begun_long (field ∷ fields) = each (begun_long fields)
  where
    each : AreLong 0 (opened_none fields) → AreLong 0 (opened field.data_type [] ∷ opened_none fields)
    each others zero d inside = refl
    each others (suc k) d inside = others k d (omega arith)

begun_count : (fields : List Field) → open_count (opened_none fields) ≡ 0
begun_count [] = refl
begun_count (field ∷ fields) = refl

begun_rows : (fields : List Field) → rows_of (opened_none fields) ≡ []
begun_rows [] = refl
begun_rows (field ∷ fields) = refl

pub begun_open : (fields : List Field) (columns : List Open) → columns ≡ opened_none fields → AreOpen fields columns
begun_open fields columns is = subst (AreOpen fields) (sym is) (record {
  types = begun_types fields;
  long = subst (λ (n : ℕ). AreLong n (opened_none fields)) (sym (begun_count fields)) (begun_long fields);
})

pub begun_seen : (table : Stored) (schema : Schema) (columns : List Open) → table ≡ record { schema = schema; batches = [] }
    → columns ≡ opened_none schema.fields → seen table columns ≡ empty schema
begun_seen table schema columns made is =
    ap₂ (λ (stored : Stored) (rows : List (List Slot)). record { schema = stored.schema; batches = stored.batches; rows = rows }) made
    (ap rows_of is ∙ begun_rows schema.fields)
