-- Builders of byte strings and of texts as columns, and with one null more.
use Rattle.std.specs.Prelude.{◌≡◌, ◌⊎◌, ◌<◌, ◌≤◌, [], None, drop, Result, MatchResult}
use Rattle.nested_arrays_builder_parts.specs.arrays.flat.FlatColumns.{binary_column, text_column}
use Rattle.flat_arrays.specs.ByteStrings.{ByteStrings, byte_strings, len_of}
use Rattle.flat_arrays.specs.Growing.{with_slot}
use Rattle.nested_arrays_builder_parts.specs.arrays.columnar_memory.declared.Error.{Error}
use Rattle.nested_arrays_builder_parts.specs.arrays.columnar_memory.Error.{IsOutOfMemory, IsOverflow}
use Rattle.nested_arrays_builder_parts.specs.arrays.columnar_memory.Spans.{no_spans}
use Rattle.nested_arrays_builder_parts.specs.arrays.columns.Kinds.{most_slots}
use Rattle.nested_arrays_builder_parts.specs.arrays.columns.StoredColumns.{Column}

-- The same slots with offsets from 0 on: the bytes in front of the first slot are left out.
abbrev pub from_zero : ByteStrings → ByteStrings
from_zero a = byte_strings a.data_type (record { start = 0; lengths = a.offsets.lengths }) (drop a.offsets.start a.bytes) a.validity

-- the columns that builders of byte strings and of texts would be frozen to
abbrev pub open_binary : ByteStrings → Column
open_binary a = binary_column (from_zero a)

abbrev pub open_text : ByteStrings → Column
open_text a = text_column (from_zero a)

-- no slots are left, and no mask
abbrev pub LeavesNoBytes : ByteStrings → ByteStrings → Type 0
LeavesNoBytes old new = from_zero new ≡ byte_strings old.data_type no_spans [] None

-- A null stands behind the other slots. Or nothing has changed: memory ran out, or there are as many slots as a column may have.
abbrev pub AddsByteNull : {U : Type 0} → ByteStrings → ByteStrings → Result U Error → Type 0
AddsByteNull old new r =
    MatchResult r (λ _. (new ≡ with_slot old None) × (len_of old < most_slots))
    (λ e. (new ≡ old) × (IsOutOfMemory e ⊎ (IsOverflow e × (most_slots ≤ len_of old))))

-- The slots are the same, with offsets from 0 on. Or nothing has changed: memory ran out.
abbrev pub Rebases : {U : Type 0} → ByteStrings → ByteStrings → Result U Error → Type 0
Rebases old new r = MatchResult r (λ _. new ≡ from_zero old) (λ e. (new ≡ old) × IsOutOfMemory e)
