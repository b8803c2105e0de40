-- Values that are stored, as slots.
use Rattle.std.proofs.Common.{◌≡◌, ℕ, Bool, false, ap}
use Rattle.std.specs.Prelude.{Some, slice_get}
use Rattle.std.proofs.lemmas.Option.{get_or_from_slice_get}
use Rattle.nested_arrays_builder_arrays.specs.arrays.columns.Slots.{truth}
use Rattle.nested_arrays_builder_arrays.specs.arrays.columns.StoredColumns.{slot_at}
use Rattle.nested_arrays_builder_arrays.specs.arrays.flat_arrays.Flat.{Flat}
use Rattle.nested_arrays_builder_arrays.specs.arrays.flat.FlatColumns.{boolean_column}
use Rattle.nested_arrays_builder_arrays.specs.arrays.parts.Forms.{bare}
use Rattle.nested_arrays_builder_arrays.proofs.arrays_lemmas.flat_lemmas.SoundStrings.{strings_len, texts_len}
use Rattle.nested_arrays_builder_arrays.proofs.arrays_lemmas.parts_lemmas.SameForms.{null_slot, null_there, valid_slot}
use Rattle.nested_arrays_builder_arrays.proofs.arrays_lemmas.parts_lemmas.StoredForms.{bytes_there, text_there}

pub truth_there : (array : Flat Bool) (i : ℕ) (value : Bool) → slice_get array.values i ≡ Some value
    → slot_at (bare (boolean_column array)) i ≡ truth value
truth_there array i value is = ap truth (get_or_from_slice_get array.values i value false is)

pub ruleset stored = (null_there, text_there, texts_len, bytes_there, strings_len)

pub ruleset marked = (valid_slot, null_slot)
