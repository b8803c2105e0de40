-- Values of which an array of a type is made.
use Rattle.std.specs.Prelude.{◌≡◌, ℕ, Bool, true, List, Option}
use Rattle.std.specs.List.{list_all}
use Rattle.std.specs.Str.{is_utf8}
use Rattle.nested_arrays_core.specs.arrays.columnar_memory.declared.DataType.{DataType}
use Rattle.nested_arrays_core.specs.arrays.columns.SoundColumns.{is_sound, mask_fits}
use Rattle.nested_arrays_builder_parts.specs.Growing.{Growing, nothing, truths, whole, strings, sized, grown_column, HoldsAll}
use Rattle.nested_arrays_builder_parts.specs.KeptValues.{IsTyped}

-- texts are in UTF-8, each by itself
abbrev pub AreTexts : Growing → Type 0
AreTexts (strings true is_large values) = list_all is_utf8 values ≡ true
AreTexts _ = Unit {0}

-- a value for each of n slots, and a mask that fits
pub record IsFreezable (data_type : DataType) (n : ℕ) (mask : Option (List Bool)) (values : Growing) : Type 0 where
  pub typed : IsTyped data_type values
  pub all : HoldsAll values n
  pub masked : mask_fits mask n ≡ true
  pub texts : AreTexts values
  pub sound : is_sound (grown_column data_type n mask values) ≡ true
