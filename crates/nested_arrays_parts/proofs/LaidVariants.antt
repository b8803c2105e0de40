-- How arrays of each variant without children lie in memory.
use Rattle.std.proofs.Common.{◌≡◌, ◌∙◌, true, false, refl, sym, ap}
use Rattle.std.proofs.lemmas.Bool.{false≢true}
use Rattle.nested_arrays_flat.specs.columnar_memory.Layouts.{physical_type}
use Rattle.nested_arrays_flat.specs.columnar_memory.declared.DataType.{DataType}
use Rattle.nested_arrays_flat.specs.columnar_memory.declared.PhysicalType.{PhysicalType}
use Rattle.nested_arrays_flat.specs.columnar_memory.declared.PhysicalType.TheVariants as physical
use Rattle.nested_arrays_flat.specs.columns.StoredColumns.{Column, column_type}
use Rattle.nested_arrays_flat.specs.Primitives.{is_primitive}
use Rattle.nested_arrays_parts.specs.FlatLayouts.{is_of_numbers, layout_in, lies_as, lies_well}
use Rattle.nested_arrays_parts.specs.FlatNodes.{flat_column}
use Rattle.nested_arrays_parts.specs.declared.flats.FlatNode.{FlatNode}
use Rattle.nested_arrays_parts.specs.declared.flats.FlatNode.TheVariants as variant

-- an array whose type lies in memory as its variant says
pub laid_as : (node inside : FlatNode) (t : DataType) (known : PhysicalType) → node ≡ inside → t ≡ column_type (flat_column inside)
    → physical_type t ≡ known → lies_as inside known ≡ true → lies_well node ≡ true
laid_as node inside t known is typed lies may =
    ap lies_well is ∙ ap (λ d. lies_as inside (physical_type d)) (sym typed) ∙ ap (lies_as inside) lies ∙ may

numbers_lie : (array : Column) (layout : PhysicalType) → is_primitive layout ≡ true → lies_as (variant.Primitive array) layout ≡ true
numbers_lie array (physical.Primitive kind) h = refl
numbers_lie array _ h = absurd (false≢true h)

pub numbers_laid : (node : FlatNode) (array : Column) (t : DataType) → node ≡ variant.Primitive array → t ≡ column_type array
    → is_primitive (physical_type t) ≡ true → lies_well node ≡ true
numbers_laid node array t is typed fits =
    ap lies_well is ∙ ap (λ d. lies_as (variant.Primitive array) (physical_type d)) (sym typed) ∙ numbers_lie array (physical_type t) fits

-- an array lies in memory in no way in which its variant does not
pub lies_not : (node : FlatNode) (layout : PhysicalType) → lies_well node ≡ true → lies_as node layout ≡ false
    → layout_in (flat_column node) ≡ layout → ⊥
lies_not node layout well not_so is = false≢true (sym not_so ∙ ap (lies_as node) (sym is) ∙ well)

no_numbers : (node : FlatNode) (layout : PhysicalType) → is_of_numbers node ≡ false → lies_as node layout ≡ true → is_primitive layout ≡ false
no_numbers (variant.Primitive array) layout other h = absurd (false≢true (sym other))
no_numbers (variant.Null array) physical.Null other h = refl
no_numbers (variant.Boolean array) physical.Boolean other h = refl
no_numbers (variant.Binary array) physical.Binary other h = refl
no_numbers (variant.LargeBinary array) physical.LargeBinary other h = refl
no_numbers (variant.FixedSizeBinary array) physical.FixedSizeBinary other h = refl
no_numbers (variant.Utf8 array) physical.Utf8 other h = refl
no_numbers (variant.LargeUtf8 array) physical.LargeUtf8 other h = refl
no_numbers _ layout other h = absurd (false≢true h)

-- an array of another variant is not of numbers
pub numbers_not : (node : FlatNode) → lies_well node ≡ true → is_of_numbers node ≡ false → is_primitive (layout_in (flat_column node)) ≡ true → ⊥
numbers_not node well other is = false≢true (sym (no_numbers node (layout_in (flat_column node)) other well) ∙ is)

-- what is not of numbers is not of numbers of a kind
pub no_kind : (layout known : PhysicalType) → ¬ (is_primitive layout ≡ true) → is_primitive known ≡ true → ¬ (layout ≡ known)
no_kind layout known other is same = other (ap is_primitive same ∙ is)
