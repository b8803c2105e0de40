-- The slots of cells, layer by layer, and the cell of a slot.
use Rattle.std.proofs.Common.{◌≡◌, ◌∙◌, pos, List, [], ◌∷◌, map, Bool, true, false, refl, sym, ap}
use Rattle.std.proofs.lemmas.Bool.{false≢true}
use Rattle.nested_arrays_builder_parts.specs.arrays.columnar_memory.declared.PrimitiveType.TheVariants as kinds
use Rattle.nested_arrays_builder_parts.specs.arrays.columns.Rows.{Cell, cell_slot, cell_slots}
use Rattle.nested_arrays_builder_parts.specs.arrays.columns.Slots.{
  Slot,
  Slots,
  null,
  truth,
  number,
  pair,
  triple,
  text,
  bytes,
  items,
  fields,
  in_slots,
  no_slot,
  slot_then,
}
use Rattle.nested_arrays_builder_parts.specs.Scalars.{in_cells, cell_step, cell_of, scalar_slot}
use Rattle.nested_arrays_scalars.specs.declared.scalars.AnyScalar.{AnyScalar, map-AnyScalar}
use Rattle.nested_arrays_scalars.specs.declared.scalars.AnyScalar.TheFolds.{fold-roll-AnyScalar}
use Rattle.nested_arrays_scalars.specs.declared.scalars.AnyScalar.TheOpen as layer
use Rattle.nested_arrays_scalars.specs.declared.scalars.AnyScalar.TheVariants as variant
use Rattle.nested_arrays_scalars.specs.declared.scalars.AnyScalar.TheViews.{roll-AnyScalar, out-AnyScalar, roll-out-AnyScalar}
use denote.Hole.Carrier

-- a layer of a cell, where each inside stands as what it is
abbrev pub cells_in : layer.AnyScalar-F AnyScalar → layer.AnyScalar-F Cell
cells_in x = map-AnyScalar AnyScalar Cell cell_of x

pub slot_roll : (x : layer.AnyScalar-F AnyScalar) → scalar_slot (roll-AnyScalar x) ≡ cell_slot (cell_step (cells_in x))
slot_roll x = ap cell_slot (fold-roll-AnyScalar Cell cell_step x)

slots_of_cells : (cells : List AnyScalar) → cell_slots (in_cells (map cell_of cells)) ≡ in_slots (map scalar_slot cells)
slots_of_cells [] = refl
slots_of_cells (cell ∷ cells) = ap (λ rest. slot_then (scalar_slot cell) rest) (slots_of_cells cells)

pub list_slot : (cells : List AnyScalar) → scalar_slot (variant.List cells) ≡ items (in_slots (map scalar_slot cells))
unfolding roll-AnyScalar denote.Hole.Carrier.roll
list_slot cells = slot_roll (layer.List cells) ∙ ap items (slots_of_cells cells)

pub record_slot : (cells : List AnyScalar) → scalar_slot (variant.Record cells) ≡ fields (in_slots (map scalar_slot cells))
unfolding roll-AnyScalar denote.Hole.Carrier.roll
record_slot cells = slot_roll (layer.Record cells) ∙ ap fields (slots_of_cells cells)

-- ---- the cell of a slot

abbrev mutual
  back : Slot → AnyScalar
  back (truth b) = variant.Boolean b
  back (number kinds.Int8 n) = variant.Int8 n
  back (number kinds.Int16 n) = variant.Int16 n
  back (number kinds.Int32 n) = variant.Int32 n
  back (number kinds.Int64 n) = variant.Int64 n
  back (number kinds.Int128 n) = variant.Int128 n
  back (number kinds.Int256 n) = variant.Int256 n
  back (number kinds.UInt8 (pos n)) = variant.UInt8 n
  back (number kinds.UInt16 (pos n)) = variant.UInt16 n
  back (number kinds.UInt32 (pos n)) = variant.UInt32 n
  back (number kinds.UInt64 (pos n)) = variant.UInt64 n
  back (pair kind days ms) = variant.DaysMs (days, ms)
  back (triple kind months days ns) = variant.MonthsDaysNs (months, days, ns)
  back (text content) = variant.Text content
  back (bytes content) = variant.Bytes content
  back (items ys) = variant.List (backs ys)
  back (fields ys) = variant.Record (backs ys)
  back _ = variant.Null

  backs : Slots → List AnyScalar
  backs no_slot = []
  backs (slot_then y ys) = back y ∷ backs ys

abbrev is_items : Slot → Bool
is_items (items ys) = true
is_items _ = false

abbrev is_fields : Slot → Bool
is_fields (fields ys) = true
is_fields _ = false

abbrev inside : Slot → Slots
inside (items ys) = ys
inside (fields ys) = ys
inside _ = no_slot

abbrev first_of : Slots → Slot
first_of no_slot = null
first_of (slot_then y ys) = y

abbrev rest_of : Slots → Slots
rest_of no_slot = no_slot
rest_of (slot_then y ys) = ys

abbrev is_empty : Slots → Bool
is_empty no_slot = true
is_empty (slot_then y ys) = false

mutual
  unfolding roll-AnyScalar denote.Hole.Carrier.roll

  back_of : (s : Slot) (x : layer.AnyScalar-F AnyScalar) → scalar_slot (roll-AnyScalar x) ≡ s → back s ≡ roll-AnyScalar x
  back_of s layer.Null e = ap back (sym e ∙ slot_roll layer.Null)
  back_of s (layer.Boolean b) e = ap back (sym e ∙ slot_roll (layer.Boolean b))
  back_of s (layer.Int8 n) e = ap back (sym e ∙ slot_roll (layer.Int8 n))
  back_of s (layer.Int16 n) e = ap back (sym e ∙ slot_roll (layer.Int16 n))
  back_of s (layer.Int32 n) e = ap back (sym e ∙ slot_roll (layer.Int32 n))
  back_of s (layer.Int64 n) e = ap back (sym e ∙ slot_roll (layer.Int64 n))
  back_of s (layer.Int128 n) e = ap back (sym e ∙ slot_roll (layer.Int128 n))
  back_of s (layer.Int256 n) e = ap back (sym e ∙ slot_roll (layer.Int256 n))
  back_of s (layer.UInt8 n) e = ap back (sym e ∙ slot_roll (layer.UInt8 n))
  back_of s (layer.UInt16 n) e = ap back (sym e ∙ slot_roll (layer.UInt16 n))
  back_of s (layer.UInt32 n) e = ap back (sym e ∙ slot_roll (layer.UInt32 n))
  back_of s (layer.UInt64 n) e = ap back (sym e ∙ slot_roll (layer.UInt64 n))
  back_of s (layer.DaysMs value) e = ap back (sym e ∙ slot_roll (layer.DaysMs value))
  back_of s (layer.MonthsDaysNs value) e = ap back (sym e ∙ slot_roll (layer.MonthsDaysNs value))
  back_of s (layer.Text content) e = ap back (sym e ∙ slot_roll (layer.Text content))
  back_of s (layer.Bytes content) e = ap back (sym e ∙ slot_roll (layer.Bytes content))
  back_of (items ys) (layer.List cells) e = ap variant.List (backs_of ys cells (ap inside (sym (list_slot cells) ∙ e)))
  back_of _ (layer.List cells) e = absurd (false≢true (sym (ap is_items (sym (list_slot cells) ∙ e))))
  back_of (fields ys) (layer.Record cells) e = ap variant.Record (backs_of ys cells (ap inside (sym (record_slot cells) ∙ e)))
  back_of _ (layer.Record cells) e = absurd (false≢true (sym (ap is_fields (sym (record_slot cells) ∙ e))))

  backs_of : (ys : Slots) (cells : List AnyScalar) → in_slots (map scalar_slot cells) ≡ ys → backs ys ≡ cells
  backs_of no_slot [] e = refl
  backs_of no_slot (cell ∷ cells) e = absurd (false≢true (ap is_empty e))
  backs_of (slot_then y ys) [] e = absurd (false≢true (sym (ap is_empty e)))
  backs_of (slot_then y ys) (cell ∷ cells) e =
      let one = back_of y (out-AnyScalar cell) (ap scalar_slot (roll-out-AnyScalar cell) ∙ ap first_of e) ∙ roll-out-AnyScalar cell in
      λ j. one j ∷ backs_of ys cells (ap rest_of e) j

cell_back : (cell : AnyScalar) → back (scalar_slot cell) ≡ cell
cell_back cell = back_of (scalar_slot cell) (out-AnyScalar cell) (ap scalar_slot (roll-out-AnyScalar cell)) ∙ roll-out-AnyScalar cell

-- cells that become the same slot are the same
pub slot_tells : (a b : AnyScalar) → scalar_slot a ≡ scalar_slot b → a ≡ b
slot_tells a b e = sym (cell_back a) ∙ ap back e ∙ cell_back b
