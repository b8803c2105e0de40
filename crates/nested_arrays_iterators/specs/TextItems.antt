-- Arrays of texts, as items.
use Rattle.std.specs.Prelude.{◌≡◌, Option, Result, MatchOption, MatchResult}
use Rattle.std.specs.Borrow.{Bor}
use Rattle.nested_arrays_core.specs.columnar_memory.Error.{IsInvalidArgument}
use Rattle.nested_arrays_core.specs.columnar_memory.declared.Error.{Error}
use Rattle.nested_arrays_core.specs.columnar_memory.declared.PhysicalType.{PhysicalType}
use Rattle.nested_arrays_core.specs.flat_arrays.ByteStrings.{ByteStrings}
use Rattle.nested_arrays_core.specs.columns.StoredColumns.{Column}
use Rattle.nested_arrays_core.specs.flat.FlatColumns.{text_column}
use Rattle.nested_arrays_core.specs.parts.FlatLayouts.{layout_in}
use Rattle.nested_arrays_core.specs.access.Nulls.{null_count_of}

-- the texts of an array, or none where it lies in memory otherwise
abbrev pub ShowsTexts : PhysicalType → Column → Option (Bor ByteStrings) → Type 0
ShowsTexts layout column r = MatchOption r (¬ (layout_in column ≡ layout))
    (λ texts. (text_column texts.now ≡ column) × (layout_in column ≡ layout))

-- the texts, or a refusal where one of them is null
abbrev pub AreThere : ByteStrings → Result (Bor ByteStrings) Error → Type 0
AreThere texts r = MatchResult r (λ whole. (whole.now ≡ texts) × (null_count_of (text_column texts) ≡ 0))
    (λ e. IsInvalidArgument e × ¬ (null_count_of (text_column texts) ≡ 0))
