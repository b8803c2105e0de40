-- How wide offsets are, by how arrays of a type lie in memory.
use Rattle.std.proofs.Common.{◌≡◌, ◌∙◌, false, refl, sym, ap, subst}
use Rattle.std.specs.Int.{Width, w32, w64}
use Rattle.ipc_format_streams.specs.columnar_memory.Layouts.{physical_type}
use Rattle.ipc_format_streams.specs.columnar_memory.declared.DataType.{DataType}
use Rattle.ipc_format_streams.specs.columnar_memory.declared.DataType.TheOpen as layer
use Rattle.ipc_format_streams.specs.columnar_memory.declared.DataType.TheViews.{roll-DataType}
use Rattle.ipc_format_streams.specs.columnar_memory.declared.DataType.TheFolds.{ind-DataType}
use Rattle.ipc_format_streams.specs.columnar_memory.declared.IntervalUnit.TheVariants as interval
use Rattle.ipc_format_streams.specs.columnar_memory.declared.PhysicalType.{PhysicalType}
use Rattle.ipc_format_streams.specs.columnar_memory.declared.PhysicalType.TheVariants as physical
use Rattle.ipc_format_streams.specs.columns.StoredColumns.{type_layer}
use Rattle.ipc_format_streams.specs.grammar.StoredEncoding.{offset_width}
use Rattle.ipc_format_streams.proofs.columns_lemmas.Claims.{LayerWith, NoClaim, bare_layer}
use Rattle.ipc_format_streams.proofs.columns_lemmas.TypeLayers.{Layer, is_extension, layer_itself, layer_layout, layer_within, layout_is}

-- ---- a type's layer is no extension

abbrev IsPlain : DataType → Type 0
IsPlain t = is_extension (type_layer t) ≡ false

roll_plain : (y : LayerWith IsPlain NoClaim) → IsPlain (roll-DataType (bare_layer IsPlain NoClaim y))
roll_plain (layer.Extension name inner metadata) = ap is_extension (layer_within name inner.0 metadata) ∙ inner.1
roll_plain y = ap is_extension (layer_itself (bare_layer IsPlain NoClaim y) refl)

pub plain_layer : (t : DataType) → is_extension (type_layer t) ≡ false
plain_layer = ind-DataType IsPlain NoClaim (λ x y is. subst (λ (x : Layer). IsPlain (roll-DataType x)) is (roll_plain y)) (λ x y is. tt)

-- ---- widths

-- how wide the offsets of arrays are that lie in memory so
abbrev pub layout_width : PhysicalType → Width
layout_width physical.LargeBinary = w64
layout_width physical.LargeUtf8 = w64
layout_width physical.LargeList = w64
layout_width _ = w32

layer_widths : (x : Layer) → is_extension x ≡ false → offset_width x ≡ layout_width (layer_layout x)
layer_widths (layer.Interval interval.YearMonth) plain = refl
layer_widths (layer.Interval interval.DayTime) plain = refl
layer_widths (layer.Interval interval.MonthDayNano) plain = refl
layer_widths (layer.Extension name inner metadata) plain = absurd cc
layer_widths _ plain = refl

pub width_is : (t : DataType) (layout : PhysicalType) → physical_type t ≡ layout → offset_width (type_layer t) ≡ layout_width layout
width_is t layout lies = layer_widths (type_layer t) (plain_layer t) ∙ ap layout_width (sym (layout_is t) ∙ lies)
