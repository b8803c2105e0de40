-- The column that stores some slots has a slot for each.
use Rattle.std.proofs.Common.{◌≡◌, ◌∙◌, ℕ, suc, ◌+◌, ◌-◌, ◌*◌, ◌/◌, Bool, true, false, List, [], ◌∷◌, length, map, refl, sym, ap}
use Rattle.std.proofs.Common.{subst, arith, ◌==◌}
use Rattle.std.specs.Prelude.{nat_le}
use Rattle.std.specs.List.{list_all, flat_map}
use Rattle.std.proofs.Math.Nat.{mul-div_cancel_left}
use Rattle.std.proofs.lemmas.Bool.{and_parts, eqb-true, leb-true}
use Rattle.std.proofs.lemmas.List.{length-map, length-replicate}
use Rattle.columnar_memory_core.specs.declared.DataType.{DataType, map-DataType}
use Rattle.columnar_memory_core.specs.declared.DataType.TheOpen as layer
use Rattle.columnar_memory_core.specs.declared.DataType.TheFolds.{fold-Field, para-Field, fold-roll-DataType, para-roll-DataType, fold-roll-Field}
use Rattle.columnar_memory_core.specs.declared.DataType.TheFolds.{para-roll-Field, ind-DataType}
use Rattle.columnar_memory_core.specs.declared.DataType.TheViews.{roll-DataType, roll-Field}
use Rattle.columnar_memory_core.specs.declared.Field.{Field, map-Field}
use Rattle.columnar_memory_core.specs.declared.IntervalUnit.TheVariants as intervals
use Rattle.columnar_memory_core.specs.declared.PrimitiveType.{PrimitiveType}
use Rattle.columnar_memory_core.specs.declared.PrimitiveType.TheVariants as kinds
use Rattle.nested_arrays_columns.specs.Cells.{is_bytes_of, is_list_of_size, fits_step, fits_cell}
use Rattle.nested_arrays_columns.specs.Children.{joined_fixed_items, fixed_items_of}
use Rattle.nested_arrays_columns.specs.FreshColumns.{fixed_content_of, sums_from, numbers_as, Maker, MakerUnder, fresh_step, fresh_field_step}
use Rattle.nested_arrays_columns.specs.FreshColumns.{fresh_under}
use Rattle.nested_arrays_columns.specs.FreshLaws.{buildable_step, is_buildable}
use Rattle.nested_arrays_columns.specs.Slots.{Slot, null, bytes}
use Rattle.nested_arrays_columns.specs.StoredColumns.{column_len, stored_len}
use Rattle.nested_arrays_columns.proofs.Claims.{TypeWith, FieldWith, LayerWith, bare_layer}
use Rattle.nested_arrays_columns.proofs.FreshBelow.{fixed_items_fit, pieces_length, fixed_piece}

-- ---- what stands for fields

abbrev pub Layer : Type 0
Layer = layer.DataType-F DataType Field

abbrev pub buildable_field : Field → Bool
buildable_field = para-Field Bool Bool buildable_step (λ field. field.data_type.1)

abbrev pub fresh_field : Field → Maker
fresh_field = para-Field MakerUnder Maker fresh_step fresh_field_step

abbrev pub cell_field : Field → Slot → Bool
cell_field = fold-Field (Slot → Bool) (Slot → Bool) fits_step (λ field. field.data_type)

-- a layer of a type, whose types below stand as what is said of each
abbrev pub buildable_layer : Layer → Bool
buildable_layer x =
    buildable_step (map-DataType DataType Field (DataType × Bool) (Field × Bool) (λ t. (t, is_buildable t)) (λ u. (u, buildable_field u)) x)

abbrev pub fresh_layer : Layer → MakerUnder
fresh_layer x =
    fresh_step (map-DataType DataType Field (DataType × MakerUnder) (Field × Maker) (λ t. (t, fresh_under t)) (λ u. (u, fresh_field u)) x)

abbrev pub cell_layer : Layer → Slot → Bool
cell_layer x = fits_step (map-DataType DataType Field (Slot → Bool) (Slot → Bool) fits_cell cell_field x)

-- the fields of a struct: what makes their columns, and whether each is built
abbrev pub makers_of : List Field → List (Field × Maker)
makers_of us = map (λ u. (u, fresh_field u)) us

abbrev pub answers : List Field → List (Field × Bool)
answers us = map (λ u. (u, buildable_field u)) us

abbrev pub can_all : List Field → Bool
can_all us = list_all (λ (child : Field × Bool). child.1) (answers us)

pub unlike : false ≡ true → ⊥
unlike e = absurd cc

-- ---- the claim

record Counts (make : Maker) (cell : Slot → Bool) : Type 0 where
  takes_null : cell null ≡ true
  counts : (slots : List Slot) → list_all cell slots ≡ true → column_len (make slots) ≡ length slots

abbrev TypeCounts : DataType → Type 0
TypeCounts t = is_buildable t ≡ true → (whole : DataType) → Counts (fresh_under t whole) (fits_cell t)

abbrev FieldCounts : Field → Type 0
FieldCounts u = buildable_field u ≡ true → Counts (fresh_field u) (cell_field u)

at_roll : (x : Layer) → (buildable_layer x ≡ true → (whole : DataType) → Counts (fresh_layer x whole) (cell_layer x)) → TypeCounts (roll-DataType x)
at_roll x h = rw (
  para-roll-DataType Bool Bool buildable_step (λ field. field.data_type.1) x,
  para-roll-DataType MakerUnder Maker fresh_step fresh_field_step x,
  fold-roll-DataType (Slot → Bool) (Slot → Bool) fits_step (λ field. field.data_type) x,
) h

-- ---- offsets and pieces

pub sums_length : (sum : ℕ) (ns : List ℕ) → length (sums_from sum ns) ≡ suc (length ns)
sums_length sum [] = refl
sums_length sum (n ∷ ns) = ap suc (sums_length (sum + n) ns)

pub offsets_count : {A : Type 0} (f : A → ℕ) (xs : List A) → length (sums_from 0 (map f xs)) - 1 ≡ length xs
offsets_count f xs = ap (λ n. n - 1) (sums_length 0 (map f xs) ∙ ap suc (length-map xs f)) ∙ fewer (length xs)
  where
    fewer : (n : ℕ) → suc n - 1 ≡ n
    fewer n = omega arith

pub content_piece : (size : ℕ) (slot : Slot) → is_bytes_of size slot ≡ true → length (fixed_content_of size slot) ≡ size
content_piece size null h = length-replicate size 0
content_piece size (bytes content) h = eqb-true (length content) size (and_parts (length content == size) _ h).0
content_piece size _ h = absurd cc

pub of_size : (size n k : ℕ) → nat_le 1 size ≡ true → n ≡ size * k → n / size ≡ k
of_size size n k at_least e = ap (λ m. m / size) e ∙ mul-div_cancel_left k (leb-true 1 size at_least)

numbers_count : (kind : PrimitiveType) (slots : List Slot) → stored_len (numbers_as kind slots) ≡ length slots
numbers_count kinds.DaysMs slots = length-map slots _
numbers_count kinds.MonthDayNano slots = length-map slots _
numbers_count kinds.Int8 slots = length-map slots _
numbers_count kinds.Int16 slots = length-map slots _
numbers_count kinds.Int32 slots = length-map slots _
numbers_count kinds.Int64 slots = length-map slots _
numbers_count kinds.Int128 slots = length-map slots _
numbers_count kinds.Int256 slots = length-map slots _
numbers_count kinds.UInt8 slots = length-map slots _
numbers_count kinds.UInt16 slots = length-map slots _
numbers_count kinds.UInt32 slots = length-map slots _
numbers_count kinds.UInt64 slots = length-map slots _
numbers_count kinds.Float16 slots = length-map slots _
numbers_count kinds.Float32 slots = length-map slots _
numbers_count kinds.Float64 slots = length-map slots _

-- where the number of slots does not depend on what they are
plainly : (make : Maker) (cell : Slot → Bool) → cell null ≡ true → ((slots : List Slot) → column_len (make slots) ≡ length slots) → Counts make cell
plainly make cell takes each = record { takes_null = takes; counts = λ slots fits. each slots }

numbers_as_many : (kind : PrimitiveType) (x : Layer) → cell_layer x null ≡ true → (whole : DataType)
    → ((slots : List Slot) → column_len (fresh_layer x whole slots) ≡ stored_len (numbers_as kind slots))
    → Counts (fresh_layer x whole) (cell_layer x)
numbers_as_many kind x takes whole same =
    plainly (fresh_layer x whole) (cell_layer x) takes (λ slots. same slots ∙ numbers_count kind slots)

alone : (b : Bool) → b ≡ true → b ≡ true
alone b h = h

-- ---- the induction

counts_step : (y : LayerWith TypeCounts FieldCounts) → TypeCounts (roll-DataType (bare_layer TypeCounts FieldCounts y))
counts_step layer.Null = at_roll layer.Null (λ can whole. plainly _ _ refl (λ slots. refl))
counts_step layer.Boolean = at_roll layer.Boolean (λ can whole. plainly _ _ refl (λ slots. length-map slots _))
counts_step layer.Int8 = at_roll layer.Int8 (λ can whole. numbers_as_many kinds.Int8 layer.Int8 refl whole (λ slots. refl))
counts_step layer.Int16 = at_roll layer.Int16 (λ can whole. numbers_as_many kinds.Int16 layer.Int16 refl whole (λ slots. refl))
counts_step layer.Int32 = at_roll layer.Int32 (λ can whole. numbers_as_many kinds.Int32 layer.Int32 refl whole (λ slots. refl))
counts_step layer.Int64 = at_roll layer.Int64 (λ can whole. numbers_as_many kinds.Int64 layer.Int64 refl whole (λ slots. refl))
counts_step layer.UInt8 = at_roll layer.UInt8 (λ can whole. numbers_as_many kinds.UInt8 layer.UInt8 refl whole (λ slots. refl))
counts_step layer.UInt16 = at_roll layer.UInt16 (λ can whole. numbers_as_many kinds.UInt16 layer.UInt16 refl whole (λ slots. refl))
counts_step layer.UInt32 = at_roll layer.UInt32 (λ can whole. numbers_as_many kinds.UInt32 layer.UInt32 refl whole (λ slots. refl))
counts_step layer.UInt64 = at_roll layer.UInt64 (λ can whole. numbers_as_many kinds.UInt64 layer.UInt64 refl whole (λ slots. refl))
counts_step layer.Float16 = at_roll layer.Float16 (λ can whole. absurd (unlike can))
counts_step layer.Float32 = at_roll layer.Float32 (λ can whole. absurd (unlike can))
counts_step layer.Float64 = at_roll layer.Float64 (λ can whole. absurd (unlike can))
counts_step (layer.Timestamp unit timezone) =
    at_roll (layer.Timestamp unit timezone) (λ can whole. numbers_as_many kinds.Int64 (layer.Timestamp unit timezone) refl whole (λ slots. refl))
counts_step layer.Date32 = at_roll layer.Date32 (λ can whole. numbers_as_many kinds.Int32 layer.Date32 refl whole (λ slots. refl))
counts_step layer.Date64 = at_roll layer.Date64 (λ can whole. numbers_as_many kinds.Int64 layer.Date64 refl whole (λ slots. refl))
counts_step (layer.Time32 unit) =
    at_roll (layer.Time32 unit) (λ can whole. numbers_as_many kinds.Int32 (layer.Time32 unit) refl whole (λ slots. refl))
counts_step (layer.Time64 unit) =
    at_roll (layer.Time64 unit) (λ can whole. numbers_as_many kinds.Int64 (layer.Time64 unit) refl whole (λ slots. refl))
counts_step (layer.Duration unit) =
    at_roll (layer.Duration unit) (λ can whole. numbers_as_many kinds.Int64 (layer.Duration unit) refl whole (λ slots. refl))
counts_step (layer.Interval intervals.YearMonth) = at_roll (layer.Interval intervals.YearMonth) (λ can whole.
    numbers_as_many kinds.Int32 (layer.Interval intervals.YearMonth) refl whole (λ slots. refl))
counts_step (layer.Interval intervals.DayTime) = at_roll (layer.Interval intervals.DayTime) (λ can whole.
    numbers_as_many kinds.DaysMs (layer.Interval intervals.DayTime) refl whole (λ slots. refl))
counts_step (layer.Interval intervals.MonthDayNano) = at_roll (layer.Interval intervals.MonthDayNano) (λ can whole.
    numbers_as_many kinds.MonthDayNano (layer.Interval intervals.MonthDayNano) refl whole (λ slots. refl))
counts_step (layer.Decimal precision scale) = at_roll (layer.Decimal precision scale) (λ can whole.
    numbers_as_many kinds.Int128 (layer.Decimal precision scale) refl whole (λ slots. refl))
counts_step (layer.Decimal256 precision scale) = at_roll (layer.Decimal256 precision scale) (λ can whole.
    numbers_as_many kinds.Int256 (layer.Decimal256 precision scale) refl whole (λ slots. refl))
counts_step layer.Utf8 = at_roll layer.Utf8 (λ can whole. plainly _ _ refl (λ slots. offsets_count _ slots))
counts_step layer.LargeUtf8 = at_roll layer.LargeUtf8 (λ can whole. plainly _ _ refl (λ slots. offsets_count _ slots))
counts_step layer.Binary = at_roll layer.Binary (λ can whole. plainly _ _ refl (λ slots. offsets_count _ slots))
counts_step layer.LargeBinary = at_roll layer.LargeBinary (λ can whole. plainly _ _ refl (λ slots. offsets_count _ slots))
counts_step (layer.FixedSizeBinary size) = at_roll (layer.FixedSizeBinary size) (λ can whole. record {
  takes_null = refl;
  counts = λ slots fits. of_size size (length (flat_map (fixed_content_of size) slots)) (length slots) can
      (pieces_length (is_bytes_of size) (fixed_content_of size) size (content_piece size) slots fits);
})
counts_step (layer.List item) = at_roll (layer.List item.0) (λ can whole. plainly _ _ refl (λ slots. offsets_count _ slots))
counts_step (layer.LargeList item) = at_roll (layer.LargeList item.0) (λ can whole. plainly _ _ refl (λ slots. offsets_count _ slots))
counts_step (layer.Map entry is_sorted) = at_roll (layer.Map entry.0 is_sorted) (λ can whole. plainly _ _ refl (λ slots. offsets_count _ slots))
counts_step (layer.FixedSizeList item size) = at_roll (layer.FixedSizeList item.0 size) (λ can whole.
    let parts = and_parts (nat_le 1 size) (buildable_field item.0) can in
    let below = item.1 parts.1 in
    record {
      takes_null = refl;
      counts = λ slots fits. of_size size (column_len (fresh_field item.0 (joined_fixed_items size slots))) (length slots) parts.0
          (below.counts (joined_fixed_items size slots) (fixed_items_fit size (cell_field item.0) below.takes_null slots fits)
          ∙ pieces_length (is_list_of_size size (cell_field item.0)) (fixed_items_of size) size (fixed_piece size (cell_field item.0)) slots fits);
    })
counts_step (layer.Struct children) = at_roll (layer.Struct (map (λ e. e.0) children)) (λ can whole. plainly _ _ refl (λ slots. refl))
counts_step (layer.Union children ids mode) = at_roll (layer.Union (map (λ e. e.0) children) ids mode) (λ can whole. absurd (unlike can))
counts_step (layer.Dictionary key value is_ordered) = at_roll (layer.Dictionary key value.0 is_ordered) (λ can whole.
    plainly _ _ (value.1 can whole).takes_null (λ slots. length-map slots _))
counts_step (layer.Extension name inner metadata) = at_roll (layer.Extension name inner.0 metadata) (λ can whole. inner.1 can whole)

field_counts : (x : layer.Field-F DataType Field) → TypeCounts x.data_type → FieldCounts (roll-Field x)
field_counts x h can =
    rw (
      para-roll-Field MakerUnder Maker fresh_step fresh_field_step x,
      fold-roll-Field (Slot → Bool) (Slot → Bool) fits_step (λ field. field.data_type) x,
    ) (h (sym (para-roll-Field Bool Bool buildable_step (λ field. field.data_type.1) x) ∙ can) x.data_type)

counts_all : (t : DataType) → TypeCounts t
counts_all = ind-DataType TypeCounts FieldCounts (λ x y is. subst (λ (x : Layer). TypeCounts (roll-DataType x)) is (counts_step y))
    (λ x y is. subst (λ (x : layer.Field-F DataType Field). FieldCounts (roll-Field x)) is
    (field_counts (map-Field (TypeWith TypeCounts) (FieldWith FieldCounts) DataType Field (λ e. e.0) (λ e. e.0) y) y.data_type.1))

pub fresh_counts : (t : DataType) → is_buildable t ≡ true → (whole : DataType) (slots : List Slot) → list_all (fits_cell t) slots ≡ true
    → column_len (fresh_under t whole slots) ≡ length slots
fresh_counts t can whole slots fits = (counts_all t can whole).counts slots fits
