-- A column is read, and its nodes and buffers are counted, by its type's layer once the extensions are taken off.
use Rattle.std.proofs.Common.{◌≡◌, ◌∙◌, ℕ, ◌+◌, false, [], ◌∷◌, refl, sym, ap, subst, arith}
use Rattle.ipc_format_column_writing.specs.column_reading.columnar_memory.declared.DataType.{DataType, map-DataType}
use Rattle.ipc_format_column_writing.specs.column_reading.columnar_memory.declared.DataType.TheOpen as layer
use Rattle.ipc_format_column_writing.specs.column_reading.columnar_memory.declared.DataType.TheViews.{roll-DataType, roll-Field, out-Field, roll-out-Field}
use Rattle.ipc_format_column_writing.specs.column_reading.columnar_memory.declared.DataType.TheFolds.{fold-Field, para-Field, fold-roll-DataType, para-roll-DataType, fold-roll-Field}
use Rattle.ipc_format_column_writing.specs.column_reading.columnar_memory.declared.DataType.TheFolds.{para-roll-Field, ind-DataType}
use Rattle.ipc_format_column_writing.specs.column_reading.columnar_memory.declared.Field.{Field}
use Rattle.ipc_format_column_writing.specs.column_reading.columns.StoredColumns.{type_layer}
use Rattle.ipc_format_column_writing.proofs.reading_lemmas.columns_lemmas.Claims.{LayerWith, NoClaim, bare_layer}
use Rattle.ipc_format_column_writing.proofs.reading_lemmas.columns_lemmas.TypeLayers.{Layer, is_extension, layer_itself, layer_within}
use Rattle.ipc_format_column_writing.specs.column_reading.grammar.Messages.{Version}
use Rattle.ipc_format_column_writing.specs.column_reading.grammar.Layouts.{total, node_step, node_count, buffer_step, buffer_count}
use Rattle.ipc_format_column_writing.specs.column_reading.grammar.Columns.{Reader, read_step, read_field_step, slots_in}
use Rattle.ipc_format_array_reading.specs.ArrayReads.{Test, readable_step, is_readable}
use denote.Hole.Carrier

-- ---- fields

abbrev read_field : Field → Reader
read_field = para-Field Reader Reader read_step read_field_step

abbrev test_field : Field → Test
test_field = para-Field Test Test readable_step (λ field. field.data_type.1)

abbrev field_nodes : Field → ℕ
field_nodes = fold-Field ℕ ℕ node_step (λ field. field.data_type)

abbrev field_buffers : Version → Field → ℕ
field_buffers version = fold-Field ℕ ℕ (buffer_step version) (λ field. field.data_type)

rolled_type : (x : layer.Field-F DataType Field) → (roll-Field x).data_type ≡ x.data_type
unfolding roll-DataType denote.Hole.Carrier.roll
rolled_type x = refl

-- what is so of a field of a layer's type is so of each field
of_each : (Q : Field → Type 0) → ((x : layer.Field-F DataType Field) → Q (roll-Field x)) → (u : Field) → Q u
of_each Q rolled u = subst Q (roll-out-Field u) (rolled (out-Field u))

read_field_is : (u : Field) → read_field u ≡ slots_in u.data_type
read_field_is = of_each (λ u. read_field u ≡ slots_in u.data_type)
    (λ x. para-roll-Field Reader Reader read_step read_field_step x ∙ ap slots_in (sym (rolled_type x)))

test_field_is : (u : Field) → test_field u ≡ is_readable u.data_type
test_field_is = of_each (λ u. test_field u ≡ is_readable u.data_type)
    (λ x. para-roll-Field Test Test readable_step (λ field. field.data_type.1) x ∙ ap is_readable (sym (rolled_type x)))

pub field_nodes_is : (u : Field) → field_nodes u ≡ node_count u.data_type
field_nodes_is = of_each (λ u. field_nodes u ≡ node_count u.data_type)
    (λ x. fold-roll-Field ℕ ℕ node_step (λ field. field.data_type) x ∙ ap node_count (sym (rolled_type x)))

pub field_buffers_is : (version : Version) (u : Field) → field_buffers version u ≡ buffer_count version u.data_type
field_buffers_is version = of_each (λ u. field_buffers version u ≡ buffer_count version u.data_type)
    (λ x. fold-roll-Field ℕ ℕ (buffer_step version) (λ field. field.data_type) x ∙ ap (buffer_count version) (sym (rolled_type x)))

-- ---- one layer

-- what reads the columns of a layer
abbrev pub read_layer : Layer → Reader
read_layer x =
    read_step (map-DataType DataType Field (DataType × Reader) (Field × Reader) (λ t. (t, slots_in t)) (λ u. (u, slots_in u.data_type)) x)

-- what says whether a layer has arrays
abbrev pub test_layer : Layer → Test
test_layer x = readable_step
    (map-DataType DataType Field (DataType × Test) (Field × Test) (λ t. (t, is_readable t)) (λ u. (u, is_readable u.data_type)) x)

-- the nodes and the buffers of the columns of a layer
abbrev pub layer_nodes : Layer → ℕ
layer_nodes x = node_step (map-DataType DataType Field ℕ ℕ node_count (λ u. node_count u.data_type) x)

abbrev pub layer_buffers : Version → Layer → ℕ
layer_buffers version x =
    buffer_step version (map-DataType DataType Field ℕ ℕ (buffer_count version) (λ u. buffer_count version u.data_type) x)

rolled_reads : (x : Layer) → slots_in (roll-DataType x) ≡ read_layer x
rolled_reads x =
    para-roll-DataType Reader Reader read_step read_field_step x
    ∙ (λ j. read_step (map-DataType DataType Field (DataType × Reader) (Field × Reader) (λ t. (t, slots_in t)) (λ u. (u, read_field_is u j)) x))

rolled_tests : (x : Layer) → is_readable (roll-DataType x) ≡ test_layer x
rolled_tests x =
    para-roll-DataType Test Test readable_step (λ field. field.data_type.1) x
    ∙ (λ j. readable_step
    (map-DataType DataType Field (DataType × Test) (Field × Test) (λ t. (t, is_readable t)) (λ u. (u, test_field_is u j)) x))

rolled_nodes : (x : Layer) → node_count (roll-DataType x) ≡ layer_nodes x
rolled_nodes x =
    fold-roll-DataType ℕ ℕ node_step (λ field. field.data_type) x
    ∙ (λ j. node_step (map-DataType DataType Field ℕ ℕ node_count (λ u. field_nodes_is u j) x))

rolled_buffers : (version : Version) (x : Layer) → buffer_count version (roll-DataType x) ≡ layer_buffers version x
rolled_buffers version x =
    fold-roll-DataType ℕ ℕ (buffer_step version) (λ field. field.data_type) x
    ∙ (λ j. buffer_step version (map-DataType DataType Field ℕ ℕ (buffer_count version) (λ u. field_buffers_is version u j) x))

-- ---- every type

record Lies (t : DataType) : Type 0 where
  reads : slots_in t ≡ read_layer (type_layer t)
  tests : is_readable t ≡ test_layer (type_layer t)
  nodes : node_count t ≡ layer_nodes (type_layer t)
  buffers : (version : Version) → buffer_count version t ≡ layer_buffers version (type_layer t)
  plain : is_extension (type_layer t) ≡ false

plain_lies : (x : Layer) → is_extension x ≡ false → Lies (roll-DataType x)
plain_lies x plain =
    let itself = sym (layer_itself x plain) in
    record {
      reads = rolled_reads x ∙ ap read_layer itself;
      tests = rolled_tests x ∙ ap test_layer itself;
      nodes = rolled_nodes x ∙ ap layer_nodes itself;
      buffers = λ version. rolled_buffers version x ∙ ap (layer_buffers version) itself;
      plain = ap is_extension (layer_itself x plain) ∙ plain;
    }

nothing_more : (n : ℕ) → 0 + total (n ∷ []) ≡ n
nothing_more n = omega arith

roll_lies : (y : LayerWith Lies NoClaim) → Lies (roll-DataType (bare_layer Lies NoClaim y))
roll_lies (layer.Extension name inner metadata) =
    let over : Layer = layer.Extension name inner.0 metadata in
    let inside = sym (layer_within name inner.0 metadata) in
    record {
      reads = rolled_reads over ∙ inner.1.reads ∙ ap read_layer inside;
      tests = rolled_tests over ∙ inner.1.tests ∙ ap test_layer inside;
      nodes = rolled_nodes over ∙ nothing_more (node_count inner.0) ∙ inner.1.nodes ∙ ap layer_nodes inside;
      buffers = λ version. rolled_buffers version over ∙ nothing_more (buffer_count version inner.0) ∙ inner.1.buffers version
          ∙ ap (layer_buffers version) inside;
      plain = ap is_extension (layer_within name inner.0 metadata) ∙ inner.1.plain;
    }
roll_lies y = plain_lies (bare_layer Lies NoClaim y) refl

lies : (t : DataType) → Lies t
lies = ind-DataType Lies NoClaim (λ x y is. subst (λ (x : Layer). Lies (roll-DataType x)) is (roll_lies y)) (λ x y is. tt)

-- a column is read by its type's layer
pub layer_reads : (t : DataType) → slots_in t ≡ read_layer (type_layer t)
layer_reads t = (lies t).reads

pub layer_tests : (t : DataType) → is_readable t ≡ test_layer (type_layer t)
layer_tests t = (lies t).tests

pub type_nodes : (t : DataType) → node_count t ≡ layer_nodes (type_layer t)
type_nodes t = (lies t).nodes

pub type_buffers : (version : Version) (t : DataType) → buffer_count version t ≡ layer_buffers version (type_layer t)
type_buffers version t = (lies t).buffers version

-- a type's layer is no extension
pub layer_plain : (t : DataType) → is_extension (type_layer t) ≡ false
layer_plain t = (lies t).plain
