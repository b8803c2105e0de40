-- What calls that write columns answer.
use Rattle.std.specs.Prelude.{◌≡◌, ◌+◌, ◌-◌, ◌≤◌, ℕ, Bool, [], ◌∷◌, Option, Some, None, Result, Ok, Err, slice_index}
use Rattle.std.specs.Int.{Width, w32, w64}
use Rattle.nested_arrays_core.specs.declared.ListOffsets.{ListOffsets}
use Rattle.nested_arrays_core.specs.declared.ListOffsets.TheVariants as width
use Rattle.ipc_format_column_reading.specs.column_bytes.Bodies.{Parts, Adds, Settles, both, of_buffers, with_column}
use Rattle.ipc_format_column_reading.specs.column_bytes.columnar_memory.Error.{IsNotYetImplemented}
use Rattle.ipc_format_column_reading.specs.column_bytes.columnar_memory.Spans.{Spans, last_of, offsets_of}
use Rattle.ipc_format_column_reading.specs.column_bytes.columnar_memory.declared.Error.{Error}
use Rattle.ipc_format_column_reading.specs.column_bytes.columns.StoredColumns.{cut_list}
use Rattle.ipc_format_column_reading.specs.column_bytes.grammar.Encoding.{Encoded}
use Rattle.ipc_format_column_reading.specs.column_bytes.grammar.StoredEncoding.{last_offset, moved_bytes}
use Rattle.ipc_format_column_writing.specs.declared.serialize.Compression.{Compression}

-- a column's own part stands behind others, and with the rest of it that is to come it is the whole
pub record IsBegun (before after : Parts) (rest whole : Encoded) : Type 0 where
  pub own : Encoded
  pub stands : after ≡ with_column before own
  pub makes : both own rest ≡ whole

-- a column is begun, by what is answered of the rest; or it is refused, and something stands there
abbrev pub Begins : {A : Type 0} → Result A Error → Parts → Parts → (A → Encoded) → Encoded → Type 0
Begins (Ok answer) before after rest whole = IsBegun before after (rest answer) whole
Begins (Err error) before after rest whole = Adds (Err error) before after whole

-- the offsets of n spans from span o on stand behind others, and the answer is where these begin and how much they span; or they are refused
abbrev pub AddsSpans : Result (ℕ × ℕ) Error → Parts → Parts → Bool → Width → Spans → ℕ → ℕ → Type 0
AddsSpans (Ok items) before after little w spans o n = let taken = cut_list (offsets_of spans) o (n + 1) in
    (after ≡ with_column before (of_buffers (moved_bytes little w taken ∷ []))) × (items.0 ≡ slice_index taken 0)
    × (items.1 ≡ last_offset taken - slice_index taken 0) × (items.0 + items.1 ≤ last_of spans)
AddsSpans (Err error) before after little w spans o n =
    Adds (Err error) before after (of_buffers (moved_bytes little w (cut_list (offsets_of spans) o (n + 1)) ∷ []))

-- a column stands behind others, or is refused, and all is as it was; no column is written compressed
abbrev pub Writes : Option Compression → Result (Unit {0}) Error → Parts → Parts → Encoded → Type 0
Writes None result before after column = Settles result before after column
Writes (Some compression) (Ok _) before after column = ⊥
Writes (Some compression) (Err error) before after column = IsNotYetImplemented error × (after ≡ before)

-- how wide the offsets of lists are
abbrev pub list_width : ListOffsets → Width
list_width (width.Small offsets) = w32
list_width (width.Large offsets) = w64
