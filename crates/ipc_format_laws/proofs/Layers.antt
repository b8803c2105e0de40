-- Two functions that agree on what stands below a type agree on its layer.
use Rattle.std.proofs.Common.{◌≡◌, List, [], ◌∷◌, map, refl, ap, Bool, true}
use Rattle.std.proofs.lemmas.Bool.{and_parts}
use Rattle.ipc_format_grammar.specs.columnar_memory.declared.DataType.{DataType, map-DataType}
use Rattle.ipc_format_grammar.specs.columnar_memory.declared.DataType.TheOpen as layer
use Rattle.ipc_format_grammar.specs.columnar_memory.declared.Field.{Field}
use Rattle.ipc_format_laws.specs.NormalForm.{valid_step, all_of}

map-map : {A B C : Type 0} (f : B → C) (g : A → B) (xs : List A) → map f (map g xs) ≡ map (λ x. f (g x)) xs
map-map f g [] = refl
map-map f g (x ∷ xs) = ap (λ rest. f (g x) ∷ rest) (map-map f g xs)

-- two maps of a layer are one
pub two_maps : {A B C D : Type 0} (f : DataType → A) (f_field : Field → B) (g : A → C) (g_field : B → D) (x : layer.DataType-F DataType Field)
    → map-DataType A B C D g g_field (map-DataType DataType Field A B f f_field x)
    ≡ map-DataType DataType Field C D (λ t. g (f t)) (λ u. g_field (f_field u)) x
two_maps f f_field g g_field (layer.Struct children) = ap layer.Struct (map-map g_field f_field children)
two_maps f f_field g g_field (layer.Union children ids mode) = ap (λ more. layer.Union more ids mode) (map-map g_field f_field children)
two_maps f f_field g g_field _ = refl

-- the same where they agree on what is valid
module _ {A B : Type 0} (v : DataType → Bool) (v_field : Field → Bool) (f g : DataType → A) (f_field g_field : Field → B) where
  abbrev pub ValidType : Type 0
  ValidType = (t : DataType) × (v t ≡ true → f t ≡ g t)

  abbrev pub ValidField : Type 0
  ValidField = (u : Field) × (v_field u ≡ true → f_field u ≡ g_field u)

  valid_lists : (ys : List ValidField) → all_of (map v_field (map (λ e. e.0) ys)) ≡ true → map f_field (map (λ e. e.0) ys)
      ≡ map g_field (map (λ e. e.0) ys)
  valid_lists [] h = refl
  valid_lists (y ∷ ys) h =
      let parts = and_parts (v_field y.0) (all_of (map v_field (map (λ e. e.0) ys))) h in λ j. y.1 parts.0 j ∷ valid_lists ys parts.1 j

  pub valid_layers : (y : layer.DataType-F ValidType ValidField)
      → valid_step (map-DataType DataType Field Bool Bool v v_field (map-DataType ValidType ValidField DataType Field (λ e. e.0) (λ e. e.0) y))
      ≡ true
      → map-DataType DataType Field A B f f_field (map-DataType ValidType ValidField DataType Field (λ e. e.0) (λ e. e.0) y)
      ≡ map-DataType DataType Field A B g g_field (map-DataType ValidType ValidField DataType Field (λ e. e.0) (λ e. e.0) y)
  valid_layers (layer.List item) h = ap layer.List (item.1 h)
  valid_layers (layer.LargeList item) h = ap layer.LargeList (item.1 h)
  valid_layers (layer.FixedSizeList item size) h = ap (λ item. layer.FixedSizeList item size) (item.1 h)
  valid_layers (layer.Map entry is_sorted) h = ap (λ entry. layer.Map entry is_sorted) (entry.1 h)
  valid_layers (layer.Struct children) h = ap layer.Struct (valid_lists children h)
  valid_layers (layer.Union children ids mode) h = ap (λ children. layer.Union children ids mode) (valid_lists children h)
  valid_layers (layer.Dictionary key value is_ordered) h = ap (λ value. layer.Dictionary key value is_ordered) (value.1 h)
  valid_layers (layer.Extension name inner metadata) h = ap (λ inner. layer.Extension name inner metadata) (inner.1 h)
  valid_layers _ h = refl
