-- What is read at a place of a column that is known by its parts.
use Rattle.std.proofs.Common.{◌≡◌, ◌∙◌, ℕ, List, Bool, true, ap, subst, sym}
use Rattle.std.specs.Prelude.{Option, Result}
use Rattle.std.specs.List.{list_all}
use Rattle.nested_arrays_builder_arrays.specs.arrays.columnar_memory.declared.Error.{Error}
use Rattle.nested_arrays_builder_arrays.specs.arrays.columns.Slots.{Slot, null, fields, in_slots, items, window}
use Rattle.nested_arrays_builder_arrays.specs.arrays.columns.StoredColumns.{Column, column_type, in_columns, slot_at, slots_at}
use Rattle.nested_arrays_builder_arrays.specs.parts.Scalars.{scalar_slot}
use Rattle.nested_arrays_scalars.specs.declared.scalars.AnyScalar.{AnyScalar}
use Rattle.nested_arrays_scalars.specs.declared.scalars.AnyScalar.TheVariants as variant
use Rattle.nested_arrays_cells.specs.ArrayCells.{has_cell, has_cell_at, IsCellAt, IsCellOf}
use Rattle.nested_arrays_cells.specs.Inside.{AreCellFields, AreCellItems, IsCellValue}
use Rattle.nested_arrays_cells.proofs.CellForms.{null_cell_slot}
use Rattle.nested_arrays_cells.proofs.CellPlaces.{null_is_cell}

same_answer : (has own : Bool) (slot other : Slot) (r : Result (Option AnyScalar) Error) → has ≡ own → slot ≡ other → IsCellOf has slot r
    → IsCellOf own other r
same_answer has own slot other r e f read = subst (λ s. IsCellOf own s r) f (subst (λ b. IsCellOf b slot r) e read)

module _ (c d : Column) (i : ℕ) (is : c ≡ d) where
  pub column_read : (r : Result (Option AnyScalar) Error) → IsCellAt c i r → IsCellAt d i r
  column_read r read = subst (λ (e : Column). IsCellAt e i r) is read

  pub null_read : slot_at c i ≡ null → (has_cell_at i d ≡ true) × (scalar_slot variant.Null ≡ slot_at d i)
  null_read none =
      let there : slot_at d i ≡ null = ap (λ e. slot_at e i) (sym is) ∙ none in
      (null_is_cell d i there, null_cell_slot ∙ sym there)

  pub items_read : (child : Column) (start len : ℕ) (r : Result (Option AnyScalar) Error) → AreCellItems c i child start len
      → IsCellOf (list_all (has_cell (column_type child)) (window (slot_at child) start len)) (items (in_slots (window (slot_at child) start len))) r
      → IsCellAt d i r
  items_read child start len r own read = column_read r (same_answer _ _ _ _ r (sym own.cell) (sym own.items.shown) read)

  pub fields_read : (children : List Column) (r : Result (Option AnyScalar) Error) → AreCellFields c i children
      → IsCellOf (list_all (has_cell_at i) children) (fields (slots_at (in_columns children) i)) r → IsCellAt d i r
  fields_read children r own read = column_read r (same_answer _ _ _ _ r (sym own.cell) (sym own.fields.shown) read)

  pub value_read : (values : Column) (place : ℕ) (r : Result (Option AnyScalar) Error) → IsCellValue c i values place → IsCellAt values place r
      → IsCellAt d i r
  value_read values place r own read = column_read r (same_answer _ _ _ _ r (sym own.cell) (sym own.shown) read)
