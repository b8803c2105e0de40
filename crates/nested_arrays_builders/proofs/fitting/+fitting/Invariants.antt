use Rattle.std.proofs.Common.{◌≡◌, take, drop, length, map, true}
use Rattle.std.specs.List.{list_all}
use Rattle.nested_arrays_builder_values.specs.parts.arrays.columnar_memory.declared.Field.{Field}
use Rattle.nested_arrays_builder_values.specs.parts.arrays.columns.Cells.{fit_each, fits_cell}
use Rattle.nested_arrays_builder_values.specs.parts.arrays.columns.Slots.{in_slots}
use Rattle.nested_arrays_builder_values.specs.parts.Scalars.{scalar_slot}
use Rattle.nested_arrays_builders.proofs.fitting.+fitting.Given as goal

-- the first cells fit
abbrev pub invariant-are_cells_of-loop-cell : goal.invariant-are_cells_of-loop-cell
invariant-are_cells_of-loop-cell l = list_all (fits_cell l.data_type) (map scalar_slot (take l.cell-index l.cells)) ≡ true

-- the others decide, as the first fields fit
abbrev pub invariant-are_fields_of-loop-place : goal.invariant-are_fields_of-loop-place
invariant-are_fields_of-loop-place l = record {
  counted : length l.fields ≡ length l.cells;
  rest : fit_each (map (λ (field : Field). fits_cell field.data_type) (drop l.place l.fields)) (in_slots (map scalar_slot (drop l.place l.cells)))
      ≡ fit_each (map (λ (field : Field). fits_cell field.data_type) l.fields) (in_slots (map scalar_slot l.cells));
}
