-- One layer of a normalised type: the type's own, over normalised types and fields.
use Rattle.std.proofs.Common.{◌≡◌, ◌∙◌, ℕ, List, [], ◌∷◌, refl, sym, ap, subst, Bool, true, false}
use Rattle.std.specs.Prelude.{◌==◌, ℤ, Some, None}
use Rattle.std.specs.List.{list_all}
use Rattle.std.proofs.lemmas.Bool.{and_parts, and_from, false≢true}
use Rattle.std.proofs.lemmas.List.{length-map}
use Rattle.columnar_memory_types.specs.Equality.{same_type, same_type-Decides}
use Rattle.ipc_format_laws.specs.columnar_memory.declared.DataType.{DataType, map-DataType}
use Rattle.ipc_format_laws.specs.columnar_memory.declared.DataType.TheOpen as layer
use Rattle.ipc_format_laws.specs.columnar_memory.declared.DataType.TheViews.{roll-DataType, out-DataType, out-Field, out-roll-DataType, roll-out-DataType}
use Rattle.ipc_format_laws.specs.columnar_memory.declared.DataType.TheViews.{roll-out-Field}
use Rattle.ipc_format_laws.specs.columnar_memory.declared.DataType.TheFolds.{fold-roll-DataType, fold-roll-Field, ind-DataType}
use Rattle.ipc_format_laws.specs.columnar_memory.declared.Field.{Field}
use Rattle.ipc_format_laws.specs.columnar_memory.declared.PhysicalType.{PhysicalType}
use Rattle.ipc_format_laws.specs.columnar_memory.Layouts.{physical_step, physical_type}
use Rattle.ipc_format_laws.specs.columns.Kinds.{is_key}
use Rattle.ipc_format_laws.specs.columns.StoredColumns.{Stored, type_layer, child_number, place_below}
use Rattle.ipc_format_laws.specs.columns.SoundColumns.{has_size, is_null_type, is_entry, has_item_type, has_fixed_item_type, has_value_type}
use Rattle.ipc_format_laws.proofs.columns_lemmas.Claims.{LayerWith, NoClaim, bare_layer}
use Rattle.ipc_format_laws.proofs.columns_lemmas.TypeLayers.{is_extension, layer_itself, layer_within, layer_layout}
use Rattle.ipc_format_laws.specs.grammar.StoredEncoding.{offset_width, key_bytes}
use Rattle.ipc_format_laws.specs.grammar.Writable.{normalised_type, normalised_step}
use Rattle.ipc_format_laws.proofs.grammar_lemmas.NormalReports.{normal_field}

abbrev pub Layer : Type 0
Layer = layer.DataType-F DataType Field

-- a layer over normalised types and fields
abbrev pub normal_layer : Layer → Layer
normal_layer x = map-DataType DataType Field DataType Field normalised_type normal_field x

pub normal_roll : (x : Layer) → normalised_type (roll-DataType x) ≡ roll-DataType (normal_layer x)
normal_roll x = fold-roll-DataType DataType Field roll-DataType normalised_step x

-- the type of a normalised field
pub field_type : (u : Field) → (normal_field u).data_type ≡ normalised_type u.data_type
field_type u = subst (λ (v : Field). (normal_field v).data_type ≡ normalised_type v.data_type) (roll-out-Field u)
    (ap (λ (v : Field). v.data_type) (fold-roll-Field DataType Field roll-DataType normalised_step (out-Field u)))

-- ---- the layer, and the layout, of a normalised type

abbrev HasLayer : DataType → Type 0
HasLayer t = type_layer (normalised_type t) ≡ normal_layer (type_layer t)

plain_layer : (x : Layer) → is_extension x ≡ false → is_extension (normal_layer x) ≡ false → HasLayer (roll-DataType x)
plain_layer x plain still =
    ap type_layer (normal_roll x) ∙ layer_itself (normal_layer x) still ∙ ap normal_layer (sym (layer_itself x plain))

roll_layer : (y : LayerWith HasLayer NoClaim) → HasLayer (roll-DataType (bare_layer HasLayer NoClaim y))
roll_layer (layer.Extension name inner metadata) =
    ap type_layer (normal_roll (layer.Extension name inner.0 metadata)) ∙ layer_within name (normalised_type inner.0) metadata
    ∙ inner.1 ∙ ap normal_layer (sym (layer_within name inner.0 metadata))
roll_layer y = plain_layer (bare_layer HasLayer NoClaim y) refl refl

pub layer_normal : (t : DataType) → type_layer (normalised_type t) ≡ normal_layer (type_layer t)
layer_normal = ind-DataType HasLayer NoClaim (λ x y is. subst (λ (x : Layer). HasLayer (roll-DataType x)) is (roll_layer y)) (λ x y is. tt)

pub out_normal : (t : DataType) → out-DataType (normalised_type t) ≡ normal_layer (out-DataType t)
out_normal t = ap (λ (s : DataType). out-DataType (normalised_type s)) (sym (roll-out-DataType t))
    ∙ ap out-DataType (normal_roll (out-DataType t)) ∙ out-roll-DataType (normal_layer (out-DataType t))

abbrev LiesSame : DataType → Type 0
LiesSame t = physical_type (normalised_type t) ≡ physical_type t

at_roll : (x : Layer) → layer_layout (normal_layer x) ≡ layer_layout x → LiesSame (roll-DataType x)
at_roll x e =
    ap physical_type (normal_roll x) ∙ fold-roll-DataType PhysicalType (Unit {0}) physical_step (λ f. tt) (normal_layer x) ∙ e
    ∙ sym (fold-roll-DataType PhysicalType (Unit {0}) physical_step (λ f. tt) x)

roll_lies : (y : LayerWith LiesSame NoClaim) → LiesSame (roll-DataType (bare_layer LiesSame NoClaim y))
roll_lies (layer.Extension name inner metadata) = at_roll (layer.Extension name inner.0 metadata) inner.1
roll_lies y = at_roll (bare_layer LiesSame NoClaim y) refl

pub layout_normal : (t : DataType) → physical_type (normalised_type t) ≡ physical_type t
layout_normal = ind-DataType LiesSame NoClaim (λ x y is. subst (λ (x : Layer). LiesSame (roll-DataType x)) is (roll_lies y)) (λ x y is. tt)

-- ---- what a layer tells is told by it over normalised types

width_same : (x : Layer) → offset_width (normal_layer x) ≡ offset_width x
width_same layer.LargeBinary = refl
width_same layer.LargeUtf8 = refl
width_same (layer.LargeList item) = refl
width_same _ = refl

pub width_normal : (t : DataType) → offset_width (type_layer (normalised_type t)) ≡ offset_width (type_layer t)
width_normal t = ap offset_width (layer_normal t) ∙ width_same (type_layer t)

keys_same : (little : Bool) (x : Layer) (keys : List ℤ) → key_bytes little (normal_layer x) keys ≡ key_bytes little x keys
keys_same little (layer.Dictionary key value is_ordered) keys = refl
keys_same little _ keys = refl

pub keys_normal : (little : Bool) (t : DataType) (keys : List ℤ)
    → key_bytes little (type_layer (normalised_type t)) keys ≡ key_bytes little (type_layer t) keys
keys_normal little t keys =
    ap (λ (x : Layer). key_bytes little x keys) (layer_normal t) ∙ keys_same little (type_layer t) keys

child_same : (x : Layer) (id : ℤ) → child_number (normal_layer x) id ≡ child_number x id
child_same (layer.Union children None mode) id = ap (λ n. place_below n id) (length-map children normal_field)
child_same (layer.Union children (Some ids) mode) id = refl
child_same _ id = refl

pub child_normal : (t : DataType) (id : ℤ) → child_number (type_layer (normalised_type t)) id ≡ child_number (type_layer t) id
child_normal t id = ap (λ (x : Layer). child_number x id) (layer_normal t) ∙ child_same (type_layer t) id

null_same : (x : Layer) → is_null_type (normal_layer x) ≡ is_null_type x
null_same layer.Null = refl
null_same _ = refl

pub null_normal : (t : DataType) → is_null_type (type_layer (normalised_type t)) ≡ is_null_type (type_layer t)
null_normal t = ap is_null_type (layer_normal t) ∙ null_same (type_layer t)

size_same : (x : Layer) (stored : Stored) → has_size (normal_layer x) stored ≡ has_size x stored
size_same (layer.FixedSizeBinary size) stored = refl
size_same _ stored = refl

pub size_normal : (t : DataType) (stored : Stored) → has_size (type_layer (normalised_type t)) stored ≡ has_size (type_layer t) stored
size_normal t stored = ap (λ (x : Layer). has_size x stored) (layer_normal t) ∙ size_same (type_layer t) stored

-- ---- the types of children

-- where a field's type is a type, the normalised field's is the normalised type
pub types_same : (u : Field) (t : DataType) → same_type u.data_type t ≡ true → same_type (normal_field u).data_type (normalised_type t) ≡ true
types_same u t h = (same_type-Decides (normal_field u).data_type (normalised_type t)).1
    (field_type u ∙ ap normalised_type ((same_type-Decides u.data_type t).0 h))

entry_same : (x : Layer) → is_entry (normal_layer x) ≡ is_entry x
entry_same (layer.Struct []) = refl
entry_same (layer.Struct (key ∷ [])) = refl
entry_same (layer.Struct (key ∷ value ∷ [])) = refl
entry_same (layer.Struct (key ∷ value ∷ other ∷ others)) = refl
entry_same _ = refl

items_same : (x : Layer) (child : DataType) → has_item_type x child ≡ true → has_item_type (normal_layer x) (normalised_type child) ≡ true
items_same (layer.List item) child h = types_same item child h
items_same (layer.LargeList item) child h = types_same item child h
items_same (layer.Map entry is_sorted) child h =
    let parts = and_parts (same_type entry.data_type child) (is_entry (out-DataType child)) h in
    and_from (same_type (normal_field entry).data_type (normalised_type child)) (is_entry (out-DataType (normalised_type child)))
    (types_same entry child parts.0) (ap is_entry (out_normal child) ∙ entry_same (out-DataType child) ∙ parts.1)
items_same _ child h = absurd (false≢true h)

pub items_normal : (t child : DataType) → has_item_type (type_layer t) child ≡ true
    → has_item_type (type_layer (normalised_type t)) (normalised_type child) ≡ true
items_normal t child h =
    ap (λ (x : Layer). has_item_type x (normalised_type child)) (layer_normal t) ∙ items_same (type_layer t) child h

fixed_items_same : (x : Layer) (size : ℕ) (child : DataType) → has_fixed_item_type x size child ≡ true
    → has_fixed_item_type (normal_layer x) size (normalised_type child) ≡ true
fixed_items_same (layer.FixedSizeList item own) size child h =
    let parts = and_parts (own == size) (same_type item.data_type child) h in
    and_from (own == size) (same_type (normal_field item).data_type (normalised_type child)) parts.0 (types_same item child parts.1)
fixed_items_same _ size child h = absurd (false≢true h)

pub fixed_items_normal : (t : DataType) (size : ℕ) (child : DataType) → has_fixed_item_type (type_layer t) size child ≡ true
    → has_fixed_item_type (type_layer (normalised_type t)) size (normalised_type child) ≡ true
fixed_items_normal t size child h =
    ap (λ (x : Layer). has_fixed_item_type x size (normalised_type child)) (layer_normal t) ∙ fixed_items_same (type_layer t) size child h

values_same : (x : Layer) (keys : List ℤ) (values : DataType) → has_value_type x keys values ≡ true
    → has_value_type (normal_layer x) keys (normalised_type values) ≡ true
values_same (layer.Dictionary key value is_ordered) keys values h =
    let parts = and_parts (same_type value values) (list_all (is_key key) keys) h in
    and_from (same_type (normalised_type value) (normalised_type values)) (list_all (is_key key) keys)
    ((same_type-Decides (normalised_type value) (normalised_type values)).1 (ap normalised_type ((same_type-Decides value values).0 parts.0)))
    parts.1
values_same _ keys values h = absurd (false≢true h)

pub values_normal : (t : DataType) (keys : List ℤ) (values : DataType) → has_value_type (type_layer t) keys values ≡ true
    → has_value_type (type_layer (normalised_type t)) keys (normalised_type values) ≡ true
values_normal t keys values h =
    ap (λ (x : Layer). has_value_type x keys (normalised_type values)) (layer_normal t) ∙ values_same (type_layer t) keys values h
