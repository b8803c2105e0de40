-- What keeps a schema from being sealed.
use Rattle.std.specs.Prelude.{Bool, true, false, ◌||◌, List, [], ◌∷◌, Option, Some, None, if◌then◌else◌}
use Rattle.std.specs.List.{list_any}
use Rattle.columnar_memory_core.specs.declared.DataType.{DataType}
use Rattle.columnar_memory_core.specs.declared.DataType.TheOpen as layer
use Rattle.columnar_memory_core.specs.declared.DataType.TheFolds.{fold-DataType}
use Rattle.columnar_memory_core.specs.declared.Field.{Field}
use Rattle.columnar_memory_core.specs.declared.Schema.{Schema}

-- the bars, in the order in which they are named
pub data Bar : Type 0 where
  map_bar : Bar
  union_bar : Bar
  -- a dictionary whose keys have the order of its values
  ordered_bar : Bar
  -- a struct without fields
  empty_bar : Bar
  not_writable_bar : Bar

-- which of the bars stand in a type
pub record Bars : Type 0 where
  pub has_map : Bool
  pub has_union : Bool
  pub has_ordered : Bool
  pub has_empty : Bool

abbrev pub no_bars : Bars
no_bars = record { has_map = false; has_union = false; has_ordered = false; has_empty = false }

-- the bars of several types
abbrev pub any_bars : List Bars → Bars
any_bars below = record {
  has_map = list_any (λ (bars : Bars). bars.has_map) below;
  has_union = list_any (λ (bars : Bars). bars.has_union) below;
  has_ordered = list_any (λ (bars : Bars). bars.has_ordered) below;
  has_empty = list_any (λ (bars : Bars). bars.has_empty) below;
}

-- one layer of a type, where each type below stands as its bars
abbrev pub bars_step : layer.DataType-F Bars Bars → Bars
bars_step (layer.List item) = item
bars_step (layer.LargeList item) = item
bars_step (layer.FixedSizeList item size) = item
bars_step (layer.Map entry is_sorted) = record entry { has_map = true }
bars_step (layer.Struct []) = record no_bars { has_empty = true }
bars_step (layer.Struct (child ∷ children)) = any_bars (child ∷ children)
bars_step (layer.Union children ids mode) = record (any_bars children) { has_union = true }
bars_step (layer.Dictionary key value is_ordered) = record value { has_ordered = value.has_ordered || is_ordered }
bars_step (layer.Extension name inner metadata) = inner
bars_step _ = no_bars

abbrev pub bars_of : DataType → Bars
bars_of = fold-DataType Bars Bars bars_step (λ field. field.data_type)

-- the bars anywhere in a schema
abbrev pub schema_bars : List Field → Bars
schema_bars [] = no_bars
schema_bars (field ∷ fields) = any_bars (bars_of field.data_type ∷ schema_bars fields ∷ [])

-- the first of the bars
abbrev pub first_bar : Bars → Bool → Option Bar
first_bar bars is_writable =
    if bars.has_map then Some map_bar
    else if bars.has_union then Some union_bar
    else if bars.has_ordered then Some ordered_bar
    else if bars.has_empty then Some empty_bar
    else if is_writable then None
    else Some not_writable_bar

-- What keeps a schema from being sealed, or nothing: the first bar that stands anywhere in it, and then that it isn't writable.
abbrev pub seal_bar : Schema → Bool → Option Bar
seal_bar schema is_writable = first_bar (schema_bars schema.fields) is_writable
