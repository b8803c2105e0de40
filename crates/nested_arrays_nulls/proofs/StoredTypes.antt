-- Types that are stored in the same way, as an extension and the type in it.
use Rattle.std.proofs.Common.{◌≡◌, ◌∙◌, sym, ap, ℕ, List, Bool}
use Rattle.std.specs.Prelude.{Option}
use Rattle.nested_arrays_iterators.specs.columnar_memory.Layouts.{logical_type, physical_step, physical_type}
use Rattle.nested_arrays_iterators.specs.columnar_memory.declared.DataType.{DataType}
use Rattle.nested_arrays_iterators.specs.columnar_memory.declared.DataType.TheFolds.{fold-roll-DataType}
use Rattle.nested_arrays_iterators.specs.columnar_memory.declared.DataType.TheOpen as layer
use Rattle.nested_arrays_iterators.specs.columnar_memory.declared.DataType.TheVariants as types
use Rattle.nested_arrays_iterators.specs.columnar_memory.declared.DataType.TheViews.{out-DataType, roll-DataType, out-roll-DataType}
use Rattle.nested_arrays_iterators.specs.columnar_memory.declared.Field.{Field}
use Rattle.nested_arrays_iterators.specs.columnar_memory.declared.IntegerType.{IntegerType}
use Rattle.nested_arrays_iterators.specs.columnar_memory.declared.PhysicalType.{PhysicalType}
use Rattle.nested_arrays_iterators.specs.columnar_memory.declared.PhysicalType.TheVariants as physical
use Rattle.nested_arrays_iterators.proofs.columnar_memory_lemmas.types_lemmas.LogicalTypes.{logical_type-Extension, logical_type-other}
use Rattle.nested_arrays_iterators.specs.arrays.Lengths.{layer_size, size_of}
use Rattle.nested_arrays_iterators.proofs.flat_lemmas.Layers.{layer_layout, type_lies}
use denote.Hole.Carrier

-- they lie in memory in the same way
stored_alike : (t u : DataType) → logical_type t ≡ logical_type u → physical_type t ≡ physical_type u
stored_alike t u same = (type_lies t).0 ∙ ap (λ d. layer_layout (out-DataType d)) same ∙ sym (type_lies u).0

list_lies : (item : Field) → physical_type (types.List item) ≡ physical.List
unfolding roll-DataType denote.Hole.Carrier.roll
list_lies item = fold-roll-DataType PhysicalType (Unit {0}) physical_step (λ f. tt) (layer.List item)

pub stored_as_lists : (whole t : DataType) (item : Field) → logical_type whole ≡ logical_type t → t ≡ types.List item
    → physical_type whole ≡ physical.List
stored_as_lists whole t item same is = stored_alike whole t same ∙ ap physical_type is ∙ list_lies item

large_list_lies : (item : Field) → physical_type (types.LargeList item) ≡ physical.LargeList
unfolding roll-DataType denote.Hole.Carrier.roll
large_list_lies item = fold-roll-DataType PhysicalType (Unit {0}) physical_step (λ f. tt) (layer.LargeList item)

pub stored_as_large_lists : (whole t : DataType) (item : Field) → logical_type whole ≡ logical_type t → t ≡ types.LargeList item
    → physical_type whole ≡ physical.LargeList
stored_as_large_lists whole t item same is = stored_alike whole t same ∙ ap physical_type is ∙ large_list_lies item

map_lies : (entry : Field) (is_sorted : Bool) → physical_type (types.Map entry is_sorted) ≡ physical.Map
unfolding roll-DataType denote.Hole.Carrier.roll
map_lies entry is_sorted = fold-roll-DataType PhysicalType (Unit {0}) physical_step (λ f. tt) (layer.Map entry is_sorted)

pub stored_as_maps : (whole t : DataType) (entry : Field) (is_sorted : Bool) → logical_type whole ≡ logical_type t
    → t ≡ types.Map entry is_sorted → physical_type whole ≡ physical.Map
stored_as_maps whole t entry is_sorted same is = stored_alike whole t same ∙ ap physical_type is ∙ map_lies entry is_sorted

dictionary_lies : (key : IntegerType) (value : DataType) (is_ordered : Bool)
    → physical_type (types.Dictionary key value is_ordered) ≡ physical.Dictionary key
unfolding roll-DataType denote.Hole.Carrier.roll
dictionary_lies key value is_ordered =
    fold-roll-DataType PhysicalType (Unit {0}) physical_step (λ f. tt) (layer.Dictionary key value is_ordered)

pub stored_as_dictionaries : (whole t : DataType) (key : IntegerType) (value : DataType) (is_ordered : Bool)
    → logical_type whole ≡ logical_type t → t ≡ types.Dictionary key value is_ordered → physical_type whole ≡ physical.Dictionary key
stored_as_dictionaries whole t key value is_ordered same is =
    stored_alike whole t same ∙ ap physical_type is ∙ dictionary_lies key value is_ordered

fixed_lists_are_logical : (item : Field) (size : ℕ) → logical_type (types.FixedSizeList item size) ≡ types.FixedSizeList item size
unfolding roll-DataType denote.Hole.Carrier.roll
fixed_lists_are_logical item size = logical_type-other (types.FixedSizeList item size) (λ name inner more e. absurd cc)

sized : (item : Field) (size : ℕ) → layer_size (out-DataType (types.FixedSizeList item size)) ≡ size
unfolding roll-DataType denote.Hole.Carrier.roll
sized item size = ap layer_size (out-roll-DataType (layer.FixedSizeList item size))

pub stored_with_size : (whole t : DataType) (item : Field) (size : ℕ) → logical_type whole ≡ logical_type t → t ≡ types.FixedSizeList item size
    → size_of whole ≡ size
stored_with_size whole t item size same is =
    ap (λ d. layer_size (out-DataType d)) (same ∙ ap logical_type is ∙ fixed_lists_are_logical item size) ∙ sized item size

-- an extension is stored as the type in it
pub stored_within : (whole t : DataType) (name : List ℕ) (inner own : DataType) (more : Option (List ℕ)) → logical_type whole ≡ logical_type t
    → t ≡ types.Extension name inner more → own ≡ inner → logical_type whole ≡ logical_type own
stored_within whole t name inner own more same is got =
    same ∙ ap logical_type is ∙ logical_type-Extension name inner more ∙ ap logical_type (sym got)
