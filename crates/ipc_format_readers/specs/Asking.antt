-- Columns that a reader is asked for, in any order, and how it keeps them (Arrow IPC, "RecordBatch message").
use Rattle.std.specs.Prelude.{◌≡◌, ℕ, true, List, length, Option, Some, None}
use Rattle.std.specs.List.{All, Contains}
use Rattle.std.specs.Option.{option_map}
use Rattle.std.specs.declared.alloc.Global.{Global}
use Rattle.std.specs.declared.vec.Vec.{Vec}
use Rattle.ipc_format_chunk_writing.specs.BatchReads.{asked_fields, rise_below}
use Rattle.ipc_format_chunk_writing.specs.Projections.{fits_map, is_choice, put_back}
use Rattle.ipc_format_chunk_writing.specs.columnar_memory.declared.Schema.{Schema}
use Rattle.ipc_format_chunk_writing.specs.grammar.Writable.{normalised}
use Rattle.ipc_format_readers.specs.declared.asking.Asked.{Asked}

-- all columns, or some of so many, each at most once
abbrev pub IsAsked : ℕ → Option (List ℕ) → Type 0
IsAsked width None = Unit {0}
IsAsked width (Some columns) = is_choice width columns ≡ true

-- the columns of a projection that is given
abbrev pub given_columns : Option (Vec ℕ Global) → Option (List ℕ)
given_columns projection = option_map (λ (columns : Vec ℕ Global). columns.items) projection

-- the schema of the columns that are asked for, in its one form
abbrev pub asked_schema : Option (List ℕ) → Schema → Schema
asked_schema columns schema = record (normalised schema) { fields = asked_fields columns (normalised schema).fields }

-- ---- as a reader keeps them

-- the columns in the order in which they are asked for
abbrev pub asked_columns : Asked → List ℕ
asked_columns asked = put_back asked.places.entries asked.rising.items

-- the same, or all
abbrev pub asked_of : Option Asked → Option (List ℕ)
asked_of asked = option_map asked_columns asked

-- the columns in the order in which they stand, or all
abbrev pub rising_of : Option Asked → Option (List ℕ)
rising_of asked = option_map (λ (some : Asked). some.rising.items) asked

-- Kept columns are ready to be read of so many: they rise, each was asked for, and each place is one of theirs.
pub record IsReady (width : ℕ) (asked : Asked) : Type 0 where
  pub rise : rise_below width asked.rising.items ≡ true
  pub wanted : All (Contains (asked_columns asked)) asked.rising.items
  pub fit : fits_map (length asked.rising.items) asked.places.entries ≡ true

abbrev pub AreReady : ℕ → Option Asked → Type 0
AreReady width None = Unit {0}
AreReady width (Some asked) = IsReady width asked

-- what is asked for of a schema in its one form, kept so that it is ready, and the schema of it
pub record IsAskedOf (whole : Schema) (columns : Option (List ℕ)) (found : Option Asked × Schema) : Type 0 where
  pub ready : AreReady (length whole.fields) found.0
  pub same : asked_of found.0 ≡ columns
  pub schema : found.1 ≡ record whole { fields = asked_fields columns whole.fields }

-- as many columns as are kept, or any number where all are asked for
abbrev pub HasKept : {A : Type 0} → Option Asked → List A → Type 0
HasKept None columns = Unit {0}
HasKept (Some asked) columns = fits_map (length columns) asked.places.entries ≡ true

-- columns in the order in which they stand, put where they were asked for
abbrev pub as_asked : {A : Type 0} → Option Asked → List A → List A
as_asked None columns = columns
as_asked (Some asked) columns = put_back asked.places.entries columns
