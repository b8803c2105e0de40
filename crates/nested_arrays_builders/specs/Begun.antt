-- Builders before any slot is pushed.
use Rattle.std.specs.Prelude.{◌≡◌, ◌⊎◌, ◌+◌, ℕ, true, false, List, [], ◌∷◌, Result, MatchResult}
use Rattle.nested_arrays_builder_values.specs.parts.arrays.columnar_memory.declared.DataType.{DataType}
use Rattle.nested_arrays_builder_values.specs.parts.arrays.columnar_memory.declared.Error.{Error}
use Rattle.nested_arrays_builder_values.specs.parts.arrays.columnar_memory.declared.Field.{Field}
use Rattle.nested_arrays_builder_values.specs.parts.arrays.columnar_memory.Layouts.{physical_type}
use Rattle.nested_arrays_builder_values.specs.parts.arrays.columnar_memory.Error.{IsInvalidArgument, IsNotYetImplemented, IsOutOfMemory}
use Rattle.nested_arrays_builder_values.specs.parts.arrays.columns.FreshLaws.{are_buildable, is_buildable}
use Rattle.nested_arrays_builder_values.specs.parts.NewValues.{is_of_floats}
use Rattle.nested_arrays_builder_values.specs.parts.Open.{Open, opened}
use Rattle.nested_arrays_builder_values.specs.parts.arrays.parts.Childless.{is_childless}
use Rattle.nested_arrays_builders.specs.BuiltTypes.{are_invalid, has_builder, has_floats, have_builders, have_floats, is_invalid}
use Rattle.nested_arrays_builders.specs.Parts.{Parts, type_size, IsKept}

-- why a type has no builder: floats stand in it, or something else that has none, or memory ran out
abbrev pub IsNoBuilder : DataType → Error → Type 0
IsNoBuilder t e = IsOutOfMemory e ⊎ (IsNotYetImplemented e × (has_floats t ≡ true)) ⊎ (IsInvalidArgument e × (is_invalid t ≡ true))

-- no slots of a type that has a builder
abbrev pub IsBegun : DataType → Result Open Error → Type 0
IsBegun t r = MatchResult r (λ o. (o ≡ opened t []) × (has_builder t ≡ true)) (IsNoBuilder t)

-- no slots of the type of each field
abbrev pub opened_none : List Field → List Open
opened_none [] = []
opened_none (field ∷ fields) = opened field.data_type [] ∷ opened_none fields

-- why the type of some field has no builder
abbrev pub AreNoBuilders : List Field → Error → Type 0
AreNoBuilders fields e =
    IsOutOfMemory e ⊎ (IsNotYetImplemented e × (have_floats fields ≡ true)) ⊎ (IsInvalidArgument e × (are_invalid fields ≡ true))

abbrev pub AreBegun : {V : Type 0} → (V → List Open) → List Field → Result V Error → Type 0
AreBegun held fields r =
    MatchResult r (λ v. (held v ≡ opened_none fields) × (have_builders fields ≡ true) × (are_buildable fields ≡ true)) (AreNoBuilders fields)

-- a type with a builder and without children, of no floats, and with strings of a byte at least
pub record IsPlain (t : DataType) : Type 0 where
  pub built : has_builder t ≡ true
  pub can : is_buildable t ≡ true
  pub childless : is_childless (physical_type t) ≡ true
  pub whole : is_of_floats (physical_type t) ≡ false

-- what stands below a builder of a type that has one, before any slot is pushed
pub record CanBegin (t : DataType) (parts : Parts) : Type 0 where
  pub built : has_builder t ≡ true
  pub kept : IsKept t [] parts []

-- how many columns the types of some fields have
abbrev pub fields_size : List Field → ℕ
fields_size [] = 0
fields_size (field ∷ fields) = type_size field.data_type + fields_size fields
