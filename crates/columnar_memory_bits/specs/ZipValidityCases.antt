-- Values of which all are there, or that stand beside their validity bits.
use Rattle.std.specs.Prelude.{◌≡◌, Bool, Option, Some, option_map}
use Rattle.std.specs.Iterator.{Count, count_min}
use Rattle.columnar_memory_bits.specs.ZipValidity.{StepsBoth}
use Rattle.columnar_memory_bits.specs.declared.zip_validity.ZipValidity.{ZipValidity}
use Rattle.columnar_memory_bits.specs.declared.zip_validity.ZipValidity.TheVariants.{Required, Optional}

module _ {T I V : Type 0} (values : I → Option T → I → Type 0) (validity : V → Option Bool → V → Type 0) where
  -- a step gives a value that is there, or a slot of the values and their bits
  abbrev pub StepsEither : ZipValidity T I V → Option (Option T) → ZipValidity T I V → Type 0
  StepsEither (Required before) result (Required after) = (value : Option T) × values before value after × (result
      ≡ option_map (λ (x : T). Some x) value)
  StepsEither (Required before) result (Optional after) = ⊥
  StepsEither (Optional before) result (Required after) = ⊥
  StepsEither (Optional before) result (Optional after) = StepsBoth values validity before result after

module _ {T I V : Type 0} (values : I → Type 0) (validity : V → Type 0) where
  -- each side that is there may be asked
  abbrev pub CanStepEither : ZipValidity T I V → Type 0
  CanStepEither (Required left) = values left
  CanStepEither (Optional left) = values left.0 × validity left.1

module _ {T I V : Type 0} (values : I → Count) (validity : V → Count) where
  abbrev pub count_either : ZipValidity T I V → Count
  count_either (Required left) = values left
  count_either (Optional left) = count_min (values left.0) (validity left.1)

abbrev pub IsRequired : {T I V : Type 0} → ZipValidity T I V → Type 0
IsRequired (Required left) = Unit {0}
IsRequired (Optional left) = ⊥

abbrev pub IsOptional : {T I V : Type 0} → ZipValidity T I V → Type 0
IsOptional (Required left) = ⊥
IsOptional (Optional left) = Unit {0}
