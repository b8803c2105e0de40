-- The normal form of a type has as many nodes and buffers as the type.
use Rattle.std.proofs.Common.{◌≡◌, ◌∙◌, ℕ, List, [], ◌∷◌, map, refl, sym, ap, subst}
use Rattle.ipc_format_laws.specs.columnar_memory.declared.DataType.{DataType, map-DataType}
use Rattle.ipc_format_laws.specs.columnar_memory.declared.DataType.TheOpen as layer
use Rattle.ipc_format_laws.specs.columnar_memory.declared.DataType.TheViews.{roll-DataType, roll-Field}
use Rattle.ipc_format_laws.specs.columnar_memory.declared.DataType.TheFolds.{fold-DataType, fold-Field, fold-roll-DataType, fold-roll-Field, ind-DataType}
use Rattle.ipc_format_laws.specs.columnar_memory.declared.Field.{Field, map-Field}
use Rattle.ipc_format_laws.specs.grammar.Messages.{Version}
use Rattle.ipc_format_laws.specs.grammar.Layouts.{node_step, node_count, buffer_step, buffer_count}
use Rattle.ipc_format_laws.specs.grammar.Writable.{normalised_type, normalised_step, normalised_pairs}
use Rattle.ipc_format_laws.proofs.grammar_lemmas.Claims.{TypeWith, FieldWith, LayerWith, bare_layer}
use Rattle.ipc_format_laws.proofs.grammar_lemmas.NormalReports.{normal_field}

abbrev Layer : Type 0
Layer = layer.DataType-F DataType Field

abbrev FieldLayer : Type 0
FieldLayer = layer.Field-F DataType Field

-- a layer over normal forms, and a field over one
abbrev normal_layer : Layer → Layer
normal_layer x = map-DataType DataType Field DataType Field normalised_type normal_field x

abbrev normal_field_layer : FieldLayer → FieldLayer
normal_field_layer x =
    record x { data_type = normalised_type x.data_type; metadata = normalised_pairs (normalised_type x.data_type) x.metadata }

-- a count by layers, where a field counts as its type
module _ (step : layer.DataType-F ℕ ℕ → ℕ) where
  abbrev count : DataType → ℕ
  count = fold-DataType ℕ ℕ step (λ field. field.data_type)

  abbrev count_field : Field → ℕ
  count_field = fold-Field ℕ ℕ step (λ field. field.data_type)

  abbrev SameType : DataType → Type 0
  SameType t = count (normalised_type t) ≡ count t

  abbrev SameField : Field → Type 0
  SameField u = count_field (normal_field u) ≡ count_field u

  abbrev counted : Layer → layer.DataType-F ℕ ℕ
  counted x = map-DataType DataType Field ℕ ℕ count count_field x

  at_roll : (x : Layer) → step (counted (normal_layer x)) ≡ step (counted x) → SameType (roll-DataType x)
  at_roll x e =
      ap count (fold-roll-DataType DataType Field roll-DataType normalised_step x)
      ∙ fold-roll-DataType ℕ ℕ step (λ field. field.data_type) (normal_layer x) ∙ e
      ∙ sym (fold-roll-DataType ℕ ℕ step (λ field. field.data_type) x)

  same_all : (ys : List (FieldWith SameField)) → map count_field (map normal_field (map (λ e. e.0) ys)) ≡ map count_field (map (λ e. e.0) ys)
  same_all [] = refl
  same_all (y ∷ ys) = λ i. y.1 i ∷ same_all ys i

  type_step : (y : LayerWith SameType SameField) → SameType (roll-DataType (bare_layer SameType SameField y))
  type_step (layer.List item) = at_roll (layer.List item.0) (ap (λ (n : ℕ). step (layer.List n)) item.1)
  type_step (layer.LargeList item) = at_roll (layer.LargeList item.0) (ap (λ (n : ℕ). step (layer.LargeList n)) item.1)
  type_step (layer.FixedSizeList item size) = at_roll (layer.FixedSizeList item.0 size)
      (ap (λ (n : ℕ). step (layer.FixedSizeList n size)) item.1)
  type_step (layer.Map entry is_sorted) = at_roll (layer.Map entry.0 is_sorted) (ap (λ (n : ℕ). step (layer.Map n is_sorted)) entry.1)
  type_step (layer.Struct children) = at_roll (layer.Struct (map (λ e. e.0) children))
      (ap (λ (ns : List ℕ). step (layer.Struct ns)) (same_all children))
  type_step (layer.Union children numbers mode) = at_roll (layer.Union (map (λ e. e.0) children) numbers mode)
      (ap (λ (ns : List ℕ). step (layer.Union ns numbers mode)) (same_all children))
  type_step (layer.Dictionary key value is_ordered) = at_roll (layer.Dictionary key value.0 is_ordered)
      (ap (λ (n : ℕ). step (layer.Dictionary key n is_ordered)) value.1)
  type_step (layer.Extension name inner metadata) = at_roll (layer.Extension name inner.0 metadata)
      (ap (λ (n : ℕ). step (layer.Extension name n metadata)) inner.1)
  type_step y = at_roll (bare_layer SameType SameField y) refl

  field_step : (x : FieldLayer) → SameType x.data_type → SameField (roll-Field x)
  field_step x h =
      ap count_field (fold-roll-Field DataType Field roll-DataType normalised_step x)
      ∙ fold-roll-Field ℕ ℕ step (λ field. field.data_type) (normal_field_layer x) ∙ h
      ∙ sym (fold-roll-Field ℕ ℕ step (λ field. field.data_type) x)

  pub counts_same : (t : DataType) → SameType t
  counts_same = ind-DataType SameType SameField (λ x y is. subst (λ (x : Layer). SameType (roll-DataType x)) is (type_step y))
      (λ x y is. subst (λ (x : FieldLayer). SameField (roll-Field x)) is
      (field_step (map-Field (TypeWith SameType) (FieldWith SameField) DataType Field (λ e. e.0) (λ e. e.0) y) y.data_type.1))

pub nodes_same : (t : DataType) → node_count (normalised_type t) ≡ node_count t
nodes_same = counts_same node_step

pub buffers_same : (version : Version) (t : DataType) → buffer_count version (normalised_type t) ≡ buffer_count version t
buffers_same version = counts_same (buffer_step version)
