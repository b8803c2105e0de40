-- What each layer of a type keeps, every type has.
use Rattle.std.proofs.Common.{◌≡◌, List, [], ◌∷◌, map, refl, sym, ap, ◌∙◌, subst}
use Rattle.columnar_memory_core.specs.declared.DataType.{DataType, map-DataType}
use Rattle.columnar_memory_core.specs.declared.DataType.TheOpen as layer
use Rattle.columnar_memory_core.specs.declared.DataType.TheFolds.{fold-DataType, fold-Field, fold-roll-DataType, fold-roll-Field, ind-DataType}
use Rattle.columnar_memory_core.specs.declared.DataType.TheViews.{roll-DataType, roll-Field}
use Rattle.columnar_memory_core.specs.declared.Field.{Field, map-Field}

map-map : {A B C : Type 0} (f : B → C) (g : A → B) (xs : List A) → map f (map g xs) ≡ map (λ x. f (g x)) xs
map-map f g [] = refl
map-map f g (x ∷ xs) = ap (λ rest. f (g x) ∷ rest) (map-map f g xs)

-- two maps of a layer are one
map-map-DataType : (D F X Y A B : Type 0) (f : D → X) (ff : F → Y) (g : X → A) (gf : Y → B) (y : layer.DataType-F D F)
    → map-DataType X Y A B g gf (map-DataType D F X Y f ff y) ≡ map-DataType D F A B (λ d. g (f d)) (λ d. gf (ff d)) y
map-map-DataType D F X Y A B f ff g gf (layer.Struct children) = ap layer.Struct (map-map gf ff children)
map-map-DataType D F X Y A B f ff g gf (layer.Union children ids mode) = ap (λ more. layer.Union more ids mode) (map-map gf ff children)
map-map-DataType D F X Y A B f ff g gf _ = refl

module _ {A B : Type 0} (step : layer.DataType-F A B → A) (field_step : layer.Field-F A B → B) (R : A → Type 0) (S : B → Type 0)
    (keeps : (z : layer.DataType-F ((a : A) × R a) ((b : B) × S b))
    → R (step (map-DataType ((a : A) × R a) ((b : B) × S b) A B (λ e. e.0) (λ e. e.0) z)))
    (field_keeps : (z : layer.Field-F ((a : A) × R a) ((b : B) × S b))
    → S (field_step (map-Field ((a : A) × R a) ((b : B) × S b) A B (λ e. e.0) (λ e. e.0) z))) where
  abbrev pub fold : DataType → A
  fold = fold-DataType A B step field_step

  abbrev pub foldf : Field → B
  foldf = fold-Field A B step field_step

  abbrev D : Type 0
  D = (t : DataType) × R (fold t)

  abbrev F : Type 0
  F = (f : Field) × S (foldf f)

  layer_keeps : (x : layer.DataType-F DataType Field) (y : layer.DataType-F D F) → map-DataType D F DataType Field (λ e. e.0) (λ e. e.0) y ≡ x
      → R (fold (roll-DataType x))
  layer_keeps x y is =
      let z = map-DataType D F ((a : A) × R a) ((b : B) × S b) (λ e. (fold e.0, e.1)) (λ e. (foldf e.0, e.1)) y in
      let over : map-DataType DataType Field A B fold foldf x ≡ map-DataType ((a : A) × R a) ((b : B) × S b) A B (λ e. e.0) (λ e. e.0) z =
      ap (map-DataType DataType Field A B fold foldf) (sym is) ∙ map-map-DataType D F DataType Field A B (λ e. e.0) (λ e. e.0) fold foldf y
      ∙ sym (map-map-DataType D F ((a : A) × R a) ((b : B) × S b) A B (λ e. (fold e.0, e.1)) (λ e. (foldf e.0, e.1)) (λ e. e.0) (λ e. e.0) y) in
      subst R (sym (fold-roll-DataType A B step field_step x ∙ ap step over)) (keeps z)

  field_layer_keeps : (x : layer.Field-F DataType Field) (y : layer.Field-F D F) → map-Field D F DataType Field (λ e. e.0) (λ e. e.0) y ≡ x
      → S (foldf (roll-Field x))
  field_layer_keeps x y is =
      let z = map-Field D F ((a : A) × R a) ((b : B) × S b) (λ e. (fold e.0, e.1)) (λ e. (foldf e.0, e.1)) y in
      let over : map-Field DataType Field A B fold foldf x ≡ map-Field ((a : A) × R a) ((b : B) × S b) A B (λ e. e.0) (λ e. e.0) z =
      ap (map-Field DataType Field A B fold foldf) (sym is) in
      subst S (sym (fold-roll-Field A B step field_step x ∙ ap field_step over)) (field_keeps z)

  pub fold_keeps : (t : DataType) → R (fold t)
  fold_keeps = ind-DataType (λ t. R (fold t)) (λ f. S (foldf f)) (λ x y is. layer_keeps x y is) (λ x y is. field_layer_keeps x y is)
