-- The numbers of nodes and buffers of types, by computing.
use Rattle.std.proofs.Common.{◌≡◌, ◌∙◌, ℕ, [], ◌∷◌, refl}
use Rattle.std.specs.Prelude.{None}
use denote.Hole.Carrier
use Rattle.ipc_format.specs.columnar_memory.declared.DataType.TheOpen as layer
use Rattle.ipc_format.specs.columnar_memory.declared.DataType.TheViews.{roll-DataType}
use Rattle.ipc_format.specs.columnar_memory.declared.DataType.TheFolds.{fold-roll-DataType, fold-Field, fold-roll-Field}
use Rattle.ipc_format.specs.columnar_memory.declared.DataType.TheVariants as types
use Rattle.ipc_format.specs.columnar_memory.declared.UnionMode.TheVariants as modes
use Rattle.ipc_format.specs.columnar_memory.declared.Field.{Field}
use Rattle.ipc_format.specs.grammar.Messages.{Version, V4, V5}
use Rattle.ipc_format.specs.grammar.Layouts.{node_count, buffer_count, node_step, buffer_step}
use Rattle.ipc_format_values_tests.specs.Examples.{number_x, one_union}

-- ---- nodes

nodes_of_field : (field : Field) → fold-Field ℕ ℕ node_step (λ field. field.data_type) field ≡ node_count field.data_type
nodes_of_field field = fold-roll-Field ℕ ℕ node_step (λ field. field.data_type)
    (record { name = field.name; data_type = field.data_type; is_nullable = field.is_nullable; metadata = field.metadata })

nodes_of_int32 : node_count types.Int32 ≡ 1
unfolding roll-DataType denote.Hole.Carrier.roll
nodes_of_int32 = fold-roll-DataType ℕ ℕ node_step (λ field. field.data_type) layer.Int32

nodes_of_x : fold-Field ℕ ℕ node_step (λ field. field.data_type) number_x ≡ 1
nodes_of_x = nodes_of_field number_x ∙ nodes_of_int32

pub nodes_of_union : node_count (one_union) ≡ 2
unfolding roll-DataType denote.Hole.Carrier.roll
nodes_of_union =
    fold-roll-DataType ℕ ℕ node_step (λ field. field.data_type) (layer.Union (number_x ∷ []) None modes.Sparse)
    ∙ rw nodes_of_x refl

pub nodes_of_fixed_size_list : node_count (types.FixedSizeList number_x 4) ≡ 2
unfolding roll-DataType denote.Hole.Carrier.roll
nodes_of_fixed_size_list =
    fold-roll-DataType ℕ ℕ node_step (λ field. field.data_type) (layer.FixedSizeList number_x 4)
    ∙ rw nodes_of_x refl

pub nodes_of_struct : node_count (types.Struct (number_x ∷ number_x ∷ [])) ≡ 3
unfolding roll-DataType denote.Hole.Carrier.roll
nodes_of_struct =
    fold-roll-DataType ℕ ℕ node_step (λ field. field.data_type) (layer.Struct (number_x ∷ number_x ∷ []))
    ∙ rw nodes_of_x refl

-- ---- buffers

buffers_of_field : (version : Version) (field : Field) → fold-Field ℕ ℕ (buffer_step version) (λ field. field.data_type) field
    ≡ buffer_count version field.data_type
buffers_of_field version field = fold-roll-Field ℕ ℕ (buffer_step version) (λ field. field.data_type)
    (record { name = field.name; data_type = field.data_type; is_nullable = field.is_nullable; metadata = field.metadata })

buffers_of_int32 : (version : Version) → buffer_count version types.Int32 ≡ 2
unfolding roll-DataType denote.Hole.Carrier.roll
buffers_of_int32 version = fold-roll-DataType ℕ ℕ (buffer_step version) (λ field. field.data_type) layer.Int32

buffers_of_x : (version : Version) → fold-Field ℕ ℕ (buffer_step version) (λ field. field.data_type) number_x ≡ 2
buffers_of_x version = buffers_of_field version number_x ∙ buffers_of_int32 version

pub buffers_of_union : buffer_count V5 (one_union) ≡ 3
unfolding roll-DataType denote.Hole.Carrier.roll
buffers_of_union =
    fold-roll-DataType ℕ ℕ (buffer_step V5) (λ field. field.data_type) (layer.Union (number_x ∷ []) None modes.Sparse)
    ∙ rw (buffers_of_x V5) refl

pub buffers_of_older_union : buffer_count V4 (one_union) ≡ 4
unfolding roll-DataType denote.Hole.Carrier.roll
buffers_of_older_union =
    fold-roll-DataType ℕ ℕ (buffer_step V4) (λ field. field.data_type) (layer.Union (number_x ∷ []) None modes.Sparse)
    ∙ rw (buffers_of_x V4) refl

pub buffers_of_fixed_size_list : buffer_count V5 (types.FixedSizeList number_x 4) ≡ 3
unfolding roll-DataType denote.Hole.Carrier.roll
buffers_of_fixed_size_list =
    fold-roll-DataType ℕ ℕ (buffer_step V5) (λ field. field.data_type) (layer.FixedSizeList number_x 4)
    ∙ rw (buffers_of_x V5) refl

pub buffers_of_struct : buffer_count V5 (types.Struct (number_x ∷ number_x ∷ [])) ≡ 5
unfolding roll-DataType denote.Hole.Carrier.roll
buffers_of_struct =
    fold-roll-DataType ℕ ℕ (buffer_step V5) (λ field. field.data_type) (layer.Struct (number_x ∷ number_x ∷ []))
    ∙ rw (buffers_of_x V5) refl

-- for the worked values
pub ruleset counts = (
  nodes_of_union,
  nodes_of_fixed_size_list,
  nodes_of_struct,
  buffers_of_union,
  buffers_of_older_union,
  buffers_of_fixed_size_list,
  buffers_of_struct,
)
