-- The ids of dictionaries in written schemas (Schema.fbs, DictionaryEncoding).
use Rattle.std.specs.Prelude.{ℕ, ◌+◌, pos, Bool, true, false, ◌&&◌, ℤ, List, [], ◌∷◌, Option, Some, None}
use Rattle.nested_arrays_columns.specs.columnar_memory.declared.DataType.{DataType}
use Rattle.nested_arrays_columns.specs.columnar_memory.declared.DataType.TheOpen as layer
use Rattle.nested_arrays_columns.specs.columnar_memory.declared.DataType.TheFolds.{fold-DataType}
use Rattle.nested_arrays_columns.specs.columnar_memory.declared.Field.{Field}
use Rattle.nested_arrays_columns.specs.Kinds.{is_signed}
use Rattle.ipc_format_grammar.specs.Schemas.{Ids, IdsList, ids, no_ids, ids_then}
use Rattle.ipc_format_grammar.specs.Columns.{ids_below}
use Rattle.ipc_format_grammar.specs.Layouts.{below}

-- ---- numbering from 0, an outer dictionary before those within its values

-- what numbers the dictionaries of a field, from a first number on, and the next number
abbrev pub Numbering : Type 0
Numbering = ℕ → Ids × ℕ

abbrev pub number_each : List Numbering → ℕ → IdsList × ℕ
number_each [] n = (no_ids, n)
number_each (first ∷ others) n =
    let here = first n in
    let rest = number_each others here.1 in
    (ids_then here.0 rest.0, rest.1)

abbrev pub without_own : IdsList × ℕ → Ids × ℕ
without_own found = (ids None found.0, found.1)

-- a dictionary's own id, with the ids below its values
abbrev pub with_own : ℕ → Ids × ℕ → Ids × ℕ
with_own n found = (ids (Some (pos n)) (ids_below found.0), found.1)

abbrev pub number_step : layer.DataType-F Numbering Numbering → Numbering
number_step (layer.Dictionary key value is_ordered) n = with_own n (value (n + 1))
number_step (layer.Extension name inner metadata) n = inner n
number_step type_layer n = without_own (number_each (below type_layer) n)

abbrev pub numbered : DataType → Numbering
numbered = fold-DataType Numbering Numbering number_step (λ field. field.data_type)

abbrev pub number_fields : List Field → ℕ → IdsList × ℕ
number_fields [] n = (no_ids, n)
number_fields (field ∷ fields) n =
    let here = numbered field.data_type n in
    let rest = number_fields fields here.1 in
    (ids_then here.0 rest.0, rest.1)

-- the ids of a schema's dictionaries, from 0 on in pre-order
unfoldable pub default_ids : List Field → IdsList
default_ids fields = (number_fields fields 0).0

-- ---- whether ids fit a schema: one at each field, an own id exactly where the field has a dictionary

abbrev pub Fitting : Type 0
Fitting = Ids → Bool

abbrev pub fit_each : List Fitting → IdsList → Bool
fit_each [] no_ids = true
fit_each (test ∷ tests) (ids_then first others) = test first && fit_each tests others
fit_each _ _ = false

abbrev pub has_no_own : Ids → Bool
has_no_own (ids None below) = true
has_no_own (ids (Some id) below) = false

abbrev pub fit_value : Fitting → Ids → Bool
fit_value value (ids None below) = false
fit_value value (ids (Some id) below) = value (ids None below)

abbrev pub fit_step : layer.DataType-F Fitting Fitting → Fitting
fit_step (layer.Dictionary key value is_ordered) here = fit_value value here
fit_step (layer.Extension name inner metadata) here = inner here
fit_step type_layer here = has_no_own here && fit_each (below type_layer) (ids_below here)

abbrev pub ids_fit : DataType → Fitting
ids_fit = fold-DataType Fitting Fitting fit_step (λ field. field.data_type)

abbrev pub ids_fit_fields : List Field → IdsList → Bool
ids_fit_fields [] no_ids = true
ids_fit_fields (field ∷ fields) (ids_then first others) = ids_fit field.data_type first && ids_fit_fields fields others
ids_fit_fields _ _ = false

-- ---- whether ids are signed numbers of eight bytes

abbrev pub is_id : Option ℤ → Bool
is_id None = true
is_id (Some id) = is_signed 64 id

abbrev mutual
  -- the ids beside a field, at any depth
  pub are_ids : Ids → Bool
  are_ids (ids own below) = is_id own && all_are_ids below

  pub all_are_ids : IdsList → Bool
  all_are_ids no_ids = true
  all_are_ids (ids_then first others) = are_ids first && all_are_ids others
