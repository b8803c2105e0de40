-- Types and fields with what is shown of each, for inductions over types.
use Rattle.columnar_memory_core.specs.declared.DataType.{DataType, map-DataType}
use Rattle.columnar_memory_core.specs.declared.DataType.TheOpen as layer
use Rattle.columnar_memory_core.specs.declared.Field.{Field}

-- a type, and a field, with what is shown of it
abbrev pub TypeWith : (DataType → Type 0) → Type 0
TypeWith P = (t : DataType) × P t

abbrev pub FieldWith : (Field → Type 0) → Type 0
FieldWith Q = (u : Field) × Q u

-- where nothing is shown of fields
abbrev pub NoClaim : Field → Type 0
NoClaim u = Unit {0}

-- a layer over such types and fields, and a field over them
abbrev pub LayerWith : (DataType → Type 0) → (Field → Type 0) → Type 0
LayerWith P Q = layer.DataType-F (TypeWith P) (FieldWith Q)

abbrev pub FieldLayerWith : (DataType → Type 0) → (Field → Type 0) → Type 0
FieldLayerWith P Q = layer.Field-F (TypeWith P) (FieldWith Q)

-- the layer alone
abbrev pub bare_layer : (P : DataType → Type 0) (Q : Field → Type 0) → LayerWith P Q → layer.DataType-F DataType Field
bare_layer P Q y = map-DataType (TypeWith P) (FieldWith Q) DataType Field (λ e. e.0) (λ e. e.0) y
