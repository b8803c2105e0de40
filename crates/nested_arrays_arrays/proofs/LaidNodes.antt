-- How arrays of each variant lie in memory.
use Rattle.std.proofs.Common.{◌≡◌, ◌∙◌, ℕ, ℤ, List, length, Bool, true, false, refl, sym, ap}
use Rattle.std.specs.Prelude.{◌/◌, Option}
use Rattle.std.specs.List.{list_all}
use Rattle.std.proofs.lemmas.Bool.{false≢true}
use Rattle.nested_arrays_parts.specs.columnar_memory.Layouts.{physical_type}
use Rattle.nested_arrays_parts.specs.columnar_memory.declared.DataType.{DataType}
use Rattle.nested_arrays_parts.specs.columnar_memory.declared.DataType.TheOpen as layer
use Rattle.nested_arrays_parts.specs.columnar_memory.declared.PhysicalType.{PhysicalType}
use Rattle.nested_arrays_parts.specs.columnar_memory.declared.PhysicalType.TheVariants as physical
use Rattle.nested_arrays_parts.proofs.columns_lemmas.Conditions.{parts_of_4, parts_of_5}
use Rattle.nested_arrays_parts.specs.columns.Kinds.{is_signed}
use Rattle.nested_arrays_parts.specs.columns.SoundColumns.{are_pieces, are_sound, has_child_at, has_child_types, has_field_types, has_fixed_item_type}
use Rattle.nested_arrays_parts.specs.columns.SoundColumns.{has_places, have_len, holds_below, is_sound, mask_fits}
use Rattle.nested_arrays_parts.specs.columns.StoredColumns.{Column, Columns, column_len, column_type, fixed_lists, records, type_layer, unions}
use Rattle.nested_arrays_parts.proofs.flat_lemmas.Layers.{Layer, layer_layout, type_lies}
use Rattle.nested_arrays_parts.specs.Childless.{is_childless}
use Rattle.nested_arrays_parts.specs.Keys.{AreKeysOf}
use Rattle.nested_arrays_parts.specs.Widths.{layout_of}
use Rattle.nested_arrays_parts.specs.declared.offsets.ListOffsets.{ListOffsets}
use Rattle.nested_arrays_parts.specs.declared.offsets.ListOffsets.TheVariants as width
use Rattle.nested_arrays_arrays.specs.AnyColumns.{column_of}
use Rattle.nested_arrays_arrays.specs.Variants.{is_flat_node, is_keyed, lies_well, may_lie}
use Rattle.nested_arrays_parts.specs.FlatLayouts.{layout_in}
use Rattle.nested_arrays_arrays.specs.declared.any.ListNode.{ListNode}
use Rattle.nested_arrays_arrays.specs.declared.any.Node.{Node}
use Rattle.nested_arrays_arrays.specs.declared.any.Node.TheVariants as variant

struct_layer : (x : Layer) (children : Columns) → has_field_types x children ≡ true → layer_layout x ≡ physical.Struct
struct_layer (layer.Struct fields) children h = refl
struct_layer _ children h = absurd (false≢true h)

pub records_laid : (t : DataType) (mask : Option (List Bool)) (n : ℕ) (children : Columns) → is_sound (records t mask n children) ≡ true
    → physical_type t ≡ physical.Struct
records_laid t mask n children h =
    let parts = parts_of_4 (has_field_types (type_layer t) children) (have_len children n) (mask_fits mask n) (are_sound children) h in
    (type_lies t).0 ∙ struct_layer (type_layer t) children parts.0

fixed_layer : (x : Layer) (size : ℕ) (child : DataType) → has_fixed_item_type x size child ≡ true → layer_layout x ≡ physical.FixedSizeList
fixed_layer (layer.FixedSizeList item stored) size child h = refl
fixed_layer _ size child h = absurd (false≢true h)

pub fixed_lists_laid : (t : DataType) (mask : Option (List Bool)) (size : ℕ) (child : Column) → is_sound (fixed_lists t mask size child) ≡ true
    → physical_type t ≡ physical.FixedSizeList
fixed_lists_laid t mask size child h =
    let parts = parts_of_4 (has_fixed_item_type (type_layer t) size (column_type child)) (are_pieces size (column_len child))
    (mask_fits mask (column_len child / size)) (is_sound child) h in
    (type_lies t).0 ∙ fixed_layer (type_layer t) size (column_type child) parts.0

union_layer : (x : Layer) (offsets : Option (List ℤ)) (children : Columns) → has_child_types x offsets children ≡ true
    → layer_layout x ≡ physical.Union
union_layer (layer.Union fields ids mode) offsets children h = refl
union_layer _ offsets children h = absurd (false≢true h)

pub unions_laid : (t : DataType) (ids : List ℤ) (offsets : Option (List ℤ)) (children : Columns) → is_sound (unions t ids offsets children) ≡ true
    → physical_type t ≡ physical.Union
unions_laid t ids offsets children h =
    let parts = parts_of_5 (has_child_types (type_layer t) offsets children) (list_all (is_signed 8) ids) (has_places ids offsets children)
    (holds_below (length ids) (has_child_at (type_layer t) ids offsets children)) (are_sound children) h in
    (type_lies t).0 ∙ union_layer (type_layer t) offsets children parts.0

pub fixed_lists_lies : (node : Node) (array : Column) → node ≡ variant.FixedSizeList array → layout_in array ≡ physical.FixedSizeList
    → lies_well node ≡ true
fixed_lists_lies node array is lies = ap lies_well is ∙ ap (may_lie (variant.FixedSizeList array)) lies

pub struct_lies : (node : Node) (array : Column) → node ≡ variant.Struct array → layout_in array ≡ physical.Struct → lies_well node ≡ true
struct_lies node array is lies = ap lies_well is ∙ ap (may_lie (variant.Struct array)) lies

pub map_lies : (node : Node) (array : Column) → node ≡ variant.Map array → layout_in array ≡ physical.Map → lies_well node ≡ true
map_lies node array is lies = ap lies_well is ∙ ap (may_lie (variant.Map array)) lies

pub union_lies : (node : Node) (array : Column) → node ≡ variant.Union array → layout_in array ≡ physical.Union → lies_well node ≡ true
union_lies node array is lies = ap lies_well is ∙ ap (may_lie (variant.Union array)) lies

-- lists lie in memory as their offsets say, and dictionaries as their keys do
list_lies : (node : Node) (offsets : ListOffsets) (layout : PhysicalType) → may_lie node physical.List ≡ true
    → may_lie node physical.LargeList ≡ true → layout ≡ layout_of offsets → may_lie node layout ≡ true
list_lies node (width.Small offsets) layout small large is = ap (may_lie node) is ∙ small
list_lies node (width.Large offsets) layout small large is = ap (may_lie node) is ∙ large

pub lists_lie : (node : Node) (list : ListNode) → node ≡ variant.List list → physical_type list.data_type ≡ layout_of list.offsets
    → lies_well node ≡ true
lists_lie node list is fit = ap lies_well is ∙ list_lies (variant.List list) list.offsets (physical_type list.data_type) refl refl fit

pub keys_lie : (layout : PhysicalType) (keys : Column) → AreKeysOf layout keys → is_keyed layout ≡ true
keys_lie (physical.Dictionary key) keys h = refl
keys_lie _ keys h = absurd h

-- an array lies in memory in no way in which its variant may not
pub lies_not : (node : Node) (layout : PhysicalType) → lies_well node ≡ true → may_lie node layout ≡ false
    → layout_in (column_of node) ≡ layout → ⊥
lies_not node layout well not_so is = false≢true (sym not_so ∙ ap (may_lie node) (sym is) ∙ well)

has_children : (node : Node) (layout : PhysicalType) → is_flat_node node ≡ false → may_lie node layout ≡ true → is_childless layout ≡ false
has_children (variant.Flat array) layout other h = absurd (false≢true (sym other))
has_children (variant.List node) physical.List other h = refl
has_children (variant.List node) physical.LargeList other h = refl
has_children (variant.FixedSizeList array) physical.FixedSizeList other h = refl
has_children (variant.Struct array) physical.Struct other h = refl
has_children (variant.Map array) physical.Map other h = refl
has_children (variant.Union array) physical.Union other h = refl
has_children (variant.Dictionary node) (physical.Dictionary key) other h = refl
has_children _ layout other h = absurd (false≢true h)

-- an array of a variant with children is not without
pub flat_not : (node : Node) → lies_well node ≡ true → is_flat_node node ≡ false → is_childless (layout_in (column_of node)) ≡ true → ⊥
flat_not node well other is = false≢true (sym (has_children node (layout_in (column_of node)) other well) ∙ is)
