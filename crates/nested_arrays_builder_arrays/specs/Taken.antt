-- Arrays that are taken out of builders.
use Rattle.std.specs.Prelude.{◌≡◌, [], Result}
use Rattle.nested_arrays_builders.specs.columnar_memory.declared.Error.{Error}
use Rattle.nested_arrays_builders.specs.columnar_memory.Results.{OrOutOfMemory}
use Rattle.nested_arrays_builders.specs.columns.StoredColumns.{Column}
use Rattle.nested_arrays_builders.specs.parts.Open.{Open, opened, column_of}

-- The builder is left empty. The array stores its slots and nothing else, or memory ran out.
abbrev pub IsTaken : {A : Type 0} → Open → Open → (A → Column) → Result A Error → Type 0
IsTaken old new content r = (new ≡ opened old.data_type []) × OrOutOfMemory r (λ a. content a ≡ column_of old)
