-- Masks of columns that grow, and of which nothing is stored.
use Rattle.std.proofs.Common.{◌≡◌, ◌∙◌, ℕ, List, length, Bool, true, false, refl, sym, ap}
use Rattle.std.specs.Prelude.{Option, None}
use Rattle.nested_arrays_core.specs.arrays.columnar_memory.declared.DataType.{DataType}
use Rattle.nested_arrays_core.specs.arrays.columns.StoredColumns.{slots}
use Rattle.nested_arrays_core.specs.arrays.flat.ColumnMasks.{column_mask}
use Rattle.nested_arrays_builder_parts.specs.Growing.{Growing, nothing, truths, whole, strings, sized, grown_column, is_nothing}
use Rattle.nested_arrays_builder_parts.specs.GrowingNodes.{growing_of}
use Rattle.nested_arrays_builder_parts.specs.KeptValues.{kept_column, open_of, AreKeptAs}
use Rattle.nested_arrays_builder_parts.specs.Marks.{mask_of_marks}
use Rattle.nested_arrays_builder_parts.specs.Open.{Open, column_of}
use Rattle.nested_arrays_builder_parts.specs.declared.values.ValuesNode.{ValuesNode}
use Rattle.nested_arrays_builder_parts.specs.declared.values.ValuesNode.TheVariants as variant
use Rattle.nested_arrays_builder_parts.proofs.KeptSlots.{kept_is_fresh}

pub something : (node : ValuesNode) → (node ≡ variant.Nulls → ⊥) → is_nothing (growing_of node) ≡ false
something variant.Nulls other = absurd (other refl)
something (variant.Truths bits) other = refl
something (variant.Int8 values) other = refl
something (variant.Int16 values) other = refl
something (variant.Int32 values) other = refl
something (variant.Int64 values) other = refl
something (variant.Int128 values) other = refl
something (variant.Int256 values) other = refl
something (variant.UInt8 values) other = refl
something (variant.UInt16 values) other = refl
something (variant.UInt32 values) other = refl
something (variant.UInt64 values) other = refl
something (variant.DaysMs values) other = refl
something (variant.MonthsDaysNs values) other = refl
something (variant.Binary values) other = refl
something (variant.LargeBinary values) other = refl
something (variant.FixedSizeBinary size content) other = refl
something (variant.Utf8 values) other = refl
something (variant.LargeUtf8 values) other = refl

grown_mask : (t : DataType) (n : ℕ) (mask : Option (List Bool)) (values : Growing) → is_nothing values ≡ false
    → column_mask (grown_column t n mask values) ≡ mask
grown_mask t n mask nothing some = absurd cc
grown_mask t n mask (truths values) some = refl
grown_mask t n mask (whole kind values) some = refl
grown_mask t n mask (strings of_text is_large values) some = refl
grown_mask t n mask (sized size content) some = refl

no_mask : (t : DataType) (n : ℕ) (mask : Option (List Bool)) (values : Growing) → is_nothing values ≡ true
    → column_mask (grown_column t n mask values) ≡ None
no_mask t n mask nothing none = refl
no_mask t n mask (truths values) none = absurd cc
no_mask t n mask (whole kind values) none = absurd cc
no_mask t n mask (strings of_text is_large values) none = absurd cc
no_mask t n mask (sized size content) none = absurd cc

module _ (t : DataType) (marks : List Bool) (values : Growing) (o : Open) (view : open_of t marks values ≡ o)
    (kept : AreKeptAs t marks values (slots (kept_column t marks values))) where
  column_is : column_mask (kept_column t marks values) ≡ column_mask (column_of o)
  column_is =
      ap column_mask (kept_is_fresh t marks values (slots (kept_column t marks values)) kept) ∙ ap (λ (o : Open). column_mask (column_of o)) view

  pub own_mask : (mask : Option (List Bool)) → is_nothing values ≡ false → mask ≡ mask_of_marks marks → mask ≡ column_mask (column_of o)
  own_mask mask some is = is ∙ sym (grown_mask t (length marks) (mask_of_marks marks) values some) ∙ column_is

  pub nulls_mask : is_nothing values ≡ true → None ≡ column_mask (column_of o)
  nulls_mask none = sym (no_mask t (length marks) (mask_of_marks marks) values none) ∙ column_is
