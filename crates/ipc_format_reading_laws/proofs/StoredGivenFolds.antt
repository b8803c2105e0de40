-- What a fold over types says of a type, by the type's layer without extensions; and that it says the same of the normalised type.
use Rattle.std.proofs.Common.{◌≡◌, ◌∙◌, ℕ, List, [], ◌∷◌, map, refl, sym, ap, subst, false}
use Rattle.std.specs.Prelude.{Option}
use Rattle.ipc_format_laws.specs.columnar_memory.declared.DataType.{DataType, map-DataType}
use Rattle.ipc_format_laws.specs.columnar_memory.declared.DataType.TheOpen as layer
use Rattle.ipc_format_laws.specs.columnar_memory.declared.DataType.TheViews.{roll-DataType, roll-Field, out-Field, roll-out-Field}
use Rattle.ipc_format_laws.specs.columnar_memory.declared.DataType.TheFolds.{fold-DataType, fold-Field, fold-roll-DataType, fold-roll-Field, ind-DataType}
use Rattle.ipc_format_laws.specs.columnar_memory.declared.Field.{Field}
use Rattle.ipc_format_laws.specs.columns.StoredColumns.{type_layer}
use Rattle.ipc_format_laws.proofs.columns_lemmas.Claims.{FieldWith, LayerWith, NoClaim, bare_layer}
use Rattle.ipc_format_laws.proofs.columns_lemmas.TypeLayers.{is_extension, layer_itself, layer_within}
use Rattle.ipc_format_laws.specs.grammar.Writable.{normalised_type}
use Rattle.ipc_format_laws.proofs.grammar_lemmas.NormalReports.{normal_field}
use Rattle.ipc_format_reading_laws.proofs.NormalColumnsLayers.{Layer, normal_layer, normal_roll, field_type}

module _ {A : Type 0} (step : layer.DataType-F A A → A) where
  abbrev pub fold : DataType → A
  fold = fold-DataType A A step (λ field. field.data_type)

  abbrev pub foldf : Field → A
  foldf = fold-Field A A step (λ field. field.data_type)

  -- what it says of a layer
  abbrev pub at_layer : Layer → A
  at_layer x = step (map-DataType DataType Field A A fold foldf x)

  pub fold_roll : (x : Layer) → fold (roll-DataType x) ≡ at_layer x
  fold_roll x = fold-roll-DataType A A step (λ field. field.data_type) x

  -- of a field it says what it says of the field's type
  pub fold_field : (u : Field) → foldf u ≡ fold u.data_type
  fold_field u = subst (λ (v : Field). foldf v ≡ fold v.data_type) (roll-out-Field u)
      (fold-roll-Field A A step (λ field. field.data_type) (out-Field u))

  -- ---- the same of normalised types

  abbrev SameType : DataType → Type 0
  SameType t = fold (normalised_type t) ≡ fold t

  abbrev SameField : Field → Type 0
  SameField u = foldf (normal_field u) ≡ foldf u

  all_same : (ys : List (FieldWith SameField))
      → map foldf (map normal_field (map (λ (e : FieldWith SameField). e.0) ys)) ≡ map foldf (map (λ (e : FieldWith SameField). e.0) ys)
  all_same [] = refl
  all_same (y ∷ ys) = λ j. y.1 j ∷ all_same ys j

  layers_same : (y : LayerWith SameType SameField)
      → map-DataType DataType Field A A fold foldf (normal_layer (bare_layer SameType SameField y))
      ≡ map-DataType DataType Field A A fold foldf (bare_layer SameType SameField y)
  layers_same (layer.List item) = ap layer.List item.1
  layers_same (layer.LargeList item) = ap layer.LargeList item.1
  layers_same (layer.FixedSizeList item size) = ap (λ (a : A). layer.FixedSizeList a size) item.1
  layers_same (layer.Map entry is_sorted) = ap (λ (a : A). layer.Map a is_sorted) entry.1
  layers_same (layer.Struct children) = ap layer.Struct (all_same children)
  layers_same (layer.Union children numbers mode) = ap (λ (as_all : List A). layer.Union as_all numbers mode) (all_same children)
  layers_same (layer.Dictionary key value is_ordered) = ap (λ (a : A). layer.Dictionary key a is_ordered) value.1
  layers_same (layer.Extension name inner metadata) = ap (λ (a : A). layer.Extension name a metadata) inner.1
  layers_same _ = refl

  roll_same : (y : LayerWith SameType SameField) → SameType (roll-DataType (bare_layer SameType SameField y))
  roll_same y =
      let x = bare_layer SameType SameField y in
      ap fold (normal_roll x) ∙ fold_roll (normal_layer x) ∙ ap step (layers_same y) ∙ sym (fold_roll x)

  field_same : (u : Field) → SameType u.data_type → SameField u
  field_same u h = fold_field (normal_field u) ∙ ap fold (field_type u) ∙ h ∙ sym (fold_field u)

  pub fold_normal : (t : DataType) → fold (normalised_type t) ≡ fold t
  fold_normal = ind-DataType SameType SameField (λ x y is. subst (λ (x : Layer). SameType (roll-DataType x)) is (roll_same y))
      (λ x y is. field_same (roll-Field x) (subst SameType (ap (λ (x : layer.Field-F DataType Field). x.data_type) is) y.data_type.1))

-- ---- by the layer without extensions

module _ {A C : Type 0} (step : layer.DataType-F A A → A) (part : A → C)
    (through : (name : List ℕ) (inner : A) (metadata : Option (List ℕ)) → part (step (layer.Extension name inner metadata)) ≡ part inner) where
  abbrev IsAtLayer : DataType → Type 0
  IsAtLayer t = part (fold step t) ≡ part (at_layer step (type_layer t))

  plain_at : (x : Layer) → is_extension x ≡ false → IsAtLayer (roll-DataType x)
  plain_at x plain = ap part (fold_roll step x) ∙ ap (λ (x : Layer). part (at_layer step x)) (sym (layer_itself x plain))

  roll_at : (y : LayerWith IsAtLayer NoClaim) → IsAtLayer (roll-DataType (bare_layer IsAtLayer NoClaim y))
  roll_at (layer.Extension name inner metadata) =
      ap part (fold_roll step (layer.Extension name inner.0 metadata)) ∙ through name (fold step inner.0) metadata ∙ inner.1
      ∙ ap (λ (x : Layer). part (at_layer step x)) (sym (layer_within name inner.0 metadata))
  roll_at y = plain_at (bare_layer IsAtLayer NoClaim y) refl

  pub fold_at_layer : (t : DataType) → part (fold step t) ≡ part (at_layer step (type_layer t))
  fold_at_layer = ind-DataType IsAtLayer NoClaim (λ x y is. subst (λ (x : Layer). IsAtLayer (roll-DataType x)) is (roll_at y)) (λ x y is. tt)

-- ---- no extension is left

abbrev IsTaken : DataType → Type 0
IsTaken t = is_extension (type_layer t) ≡ false

roll_taken : (y : LayerWith IsTaken NoClaim) → IsTaken (roll-DataType (bare_layer IsTaken NoClaim y))
roll_taken (layer.Extension name inner metadata) = ap is_extension (layer_within name inner.0 metadata) ∙ inner.1
roll_taken y = ap is_extension (layer_itself (bare_layer IsTaken NoClaim y) refl)

pub none_left : (t : DataType) → is_extension (type_layer t) ≡ false
none_left = ind-DataType IsTaken NoClaim (λ x y is. subst (λ (x : Layer). IsTaken (roll-DataType x)) is (roll_taken y)) (λ x y is. tt)
