-- A type's columns are read, and their nodes and buffers counted, by its layer once its extensions are taken off.
use Rattle.std.proofs.Common.{◌≡◌, ◌∙◌, ℕ, ◌+◌, false, [], ◌∷◌, refl, sym, ap, subst, arith}
use Rattle.ipc_format_laws.specs.columnar_memory.declared.DataType.{DataType, map-DataType}
use Rattle.ipc_format_laws.specs.columnar_memory.declared.DataType.TheOpen as layer
use Rattle.ipc_format_laws.specs.columnar_memory.declared.DataType.TheViews.{roll-DataType, roll-Field, out-Field, roll-out-Field}
use Rattle.ipc_format_laws.specs.columnar_memory.declared.DataType.TheFolds.{fold-Field, para-Field, fold-roll-DataType, para-roll-DataType, fold-roll-Field}
use Rattle.ipc_format_laws.specs.columnar_memory.declared.DataType.TheFolds.{para-roll-Field, ind-DataType}
use Rattle.ipc_format_laws.specs.columnar_memory.declared.Field.{Field}
use Rattle.ipc_format_laws.specs.columns.StoredColumns.{type_layer}
use Rattle.ipc_format_laws.proofs.columns_lemmas.Claims.{LayerWith, NoClaim, bare_layer}
use Rattle.ipc_format_laws.proofs.columns_lemmas.TypeLayers.{Layer, is_extension, layer_itself, layer_within}
use Rattle.ipc_format_laws.specs.grammar.Messages.{V5}
use Rattle.ipc_format_laws.specs.grammar.Layouts.{total, node_step, node_count, buffer_step, buffer_count}
use Rattle.ipc_format_laws.specs.grammar.Columns.{Reader, read_step, read_field_step, slots_in}
use denote.Hole.Carrier

-- ---- fields

-- a function of a field's type, as a fold or a reading has it, is that of its type
abbrev read_field : Field → Reader
read_field = para-Field Reader Reader read_step read_field_step

abbrev field_nodes : Field → ℕ
field_nodes = fold-Field ℕ ℕ node_step (λ field. field.data_type)

abbrev field_buffers : Field → ℕ
field_buffers = fold-Field ℕ ℕ (buffer_step V5) (λ field. field.data_type)

pub rolled_type : (x : layer.Field-F DataType Field) → (roll-Field x).data_type ≡ x.data_type
unfolding roll-DataType denote.Hole.Carrier.roll
rolled_type x = refl

-- what is so of a field of a layer's type is so of each field
pub of_each : (Q : Field → Type 0) → ((x : layer.Field-F DataType Field) → Q (roll-Field x)) → (u : Field) → Q u
of_each Q rolled u = subst Q (roll-out-Field u) (rolled (out-Field u))

pub read_field_is : (u : Field) → read_field u ≡ slots_in u.data_type
read_field_is = of_each (λ u. read_field u ≡ slots_in u.data_type)
    (λ x. para-roll-Field Reader Reader read_step read_field_step x ∙ ap slots_in (sym (rolled_type x)))

pub field_nodes_is : (u : Field) → field_nodes u ≡ node_count u.data_type
field_nodes_is = of_each (λ u. field_nodes u ≡ node_count u.data_type)
    (λ x. fold-roll-Field ℕ ℕ node_step (λ field. field.data_type) x ∙ ap node_count (sym (rolled_type x)))

pub field_buffers_is : (u : Field) → field_buffers u ≡ buffer_count V5 u.data_type
field_buffers_is = of_each (λ u. field_buffers u ≡ buffer_count V5 u.data_type)
    (λ x. fold-roll-Field ℕ ℕ (buffer_step V5) (λ field. field.data_type) x ∙ ap (buffer_count V5) (sym (rolled_type x)))

-- ---- reading

-- what reads the columns of a layer
abbrev pub read_layer : Layer → Reader
read_layer x =
    read_step (map-DataType DataType Field (DataType × Reader) (Field × Reader) (λ t. (t, slots_in t)) (λ u. (u, slots_in u.data_type)) x)

pub rolled_reads : (x : Layer) → slots_in (roll-DataType x) ≡ read_layer x
rolled_reads x =
    para-roll-DataType Reader Reader read_step read_field_step x
    ∙ (λ j. read_step (map-DataType DataType Field (DataType × Reader) (Field × Reader) (λ t. (t, slots_in t)) (λ u. (u, read_field_is u j)) x))

abbrev Reads : DataType → Type 0
Reads t = slots_in t ≡ read_layer (type_layer t)

plain_reads : (x : Layer) → is_extension x ≡ false → Reads (roll-DataType x)
plain_reads x plain = rolled_reads x ∙ ap read_layer (sym (layer_itself x plain))

roll_reads : (y : LayerWith Reads NoClaim) → Reads (roll-DataType (bare_layer Reads NoClaim y))
roll_reads (layer.Extension name inner metadata) =
    rolled_reads (layer.Extension name inner.0 metadata) ∙ inner.1 ∙ ap read_layer (sym (layer_within name inner.0 metadata))
roll_reads y = plain_reads (bare_layer Reads NoClaim y) refl

-- a column is read by its type's layer
pub layer_reads : (t : DataType) → slots_in t ≡ read_layer (type_layer t)
layer_reads = ind-DataType Reads NoClaim (λ x y is. subst (λ (x : Layer). Reads (roll-DataType x)) is (roll_reads y)) (λ x y is. tt)

-- ---- counting

-- the nodes and the buffers of the columns of a layer
abbrev pub layer_nodes : Layer → ℕ
layer_nodes x = node_step (map-DataType DataType Field ℕ ℕ node_count (λ u. node_count u.data_type) x)

abbrev pub layer_buffers : Layer → ℕ
layer_buffers x = buffer_step V5 (map-DataType DataType Field ℕ ℕ (buffer_count V5) (λ u. buffer_count V5 u.data_type) x)

record Counts (t : DataType) : Type 0 where
  nodes : node_count t ≡ layer_nodes (type_layer t)
  buffers : buffer_count V5 t ≡ layer_buffers (type_layer t)
  plain : is_extension (type_layer t) ≡ false

pub rolled_nodes : (x : Layer) → node_count (roll-DataType x) ≡ layer_nodes x
rolled_nodes x =
    fold-roll-DataType ℕ ℕ node_step (λ field. field.data_type) x
    ∙ (λ j. node_step (map-DataType DataType Field ℕ ℕ node_count (λ u. field_nodes_is u j) x))

rolled_buffers : (x : Layer) → buffer_count V5 (roll-DataType x) ≡ layer_buffers x
rolled_buffers x =
    fold-roll-DataType ℕ ℕ (buffer_step V5) (λ field. field.data_type) x
    ∙ (λ j. buffer_step V5 (map-DataType DataType Field ℕ ℕ (buffer_count V5) (λ u. field_buffers_is u j) x))

plain_counts : (x : Layer) → is_extension x ≡ false → Counts (roll-DataType x)
plain_counts x plain = record {
  nodes = rolled_nodes x ∙ ap layer_nodes (sym (layer_itself x plain));
  buffers = rolled_buffers x ∙ ap layer_buffers (sym (layer_itself x plain));
  plain = ap is_extension (layer_itself x plain) ∙ plain;
}

nothing_more : (n : ℕ) → 0 + total (n ∷ []) ≡ n
nothing_more n = omega arith

roll_counts : (y : LayerWith Counts NoClaim) → Counts (roll-DataType (bare_layer Counts NoClaim y))
roll_counts (layer.Extension name inner metadata) = record {
  nodes = rolled_nodes (layer.Extension name inner.0 metadata) ∙ nothing_more (node_count inner.0) ∙ inner.1.nodes
      ∙ ap layer_nodes (sym (layer_within name inner.0 metadata));
  buffers = rolled_buffers (layer.Extension name inner.0 metadata) ∙ nothing_more (buffer_count V5 inner.0) ∙ inner.1.buffers
      ∙ ap layer_buffers (sym (layer_within name inner.0 metadata));
  plain = ap is_extension (layer_within name inner.0 metadata) ∙ inner.1.plain;
}
roll_counts y = plain_counts (bare_layer Counts NoClaim y) refl

type_counts : (t : DataType) → Counts t
type_counts = ind-DataType Counts NoClaim (λ x y is. subst (λ (x : Layer). Counts (roll-DataType x)) is (roll_counts y)) (λ x y is. tt)

pub type_nodes : (t : DataType) → node_count t ≡ layer_nodes (type_layer t)
type_nodes t = (type_counts t).nodes

pub type_buffers : (t : DataType) → buffer_count V5 t ≡ layer_buffers (type_layer t)
type_buffers t = (type_counts t).buffers

-- a type's layer is no extension
pub layer_plain : (t : DataType) → is_extension (type_layer t) ≡ false
layer_plain t = (type_counts t).plain
