-- The ids that a schema's dictionaries have where none are given.
use Rattle.std.specs.Prelude.{◌≡◌, ℕ, zero, suc, ℤ, pos, true, List, [], ◌∷◌, ◌++◌, sum_by, Option, Some, None}
use Rattle.ipc_format_grammar.specs.columnar_memory.declared.Schema.{Schema}
use Rattle.ipc_format_grammar.specs.Schemas.{Ids, IdsList, ids, no_ids, ids_then}
use Rattle.ipc_format_grammar.specs.Writable.{Report, reports_of, is_writable}
use Rattle.ipc_format_grammar.specs.Ids.{default_ids, ids_fit_fields}

abbrev pub own_list : Option ℤ → List ℤ
own_list None = []
own_list (Some id) = id ∷ []

-- the ids beside a field in pre-order: its own before those below it
abbrev mutual
  pub ids_in_order : Ids → List ℤ
  ids_in_order (ids own below) = own_list own ++ all_in_order below

  pub all_in_order : IdsList → List ℤ
  all_in_order no_ids = []
  all_in_order (ids_then first others) = ids_in_order first ++ all_in_order others

-- so many ids from a number on
abbrev pub ids_from : ℕ → ℕ → List ℤ
ids_from n zero = []
ids_from n (suc count) = pos n ∷ ids_from (suc n) count

-- how many dictionaries a schema has
abbrev pub dictionary_count : Schema → ℕ
dictionary_count schema = sum_by (λ (report : Report). report.dictionaries) (reports_of schema.fields)

-- the default ids of a schema that is written fit it
abbrev pub DefaultsFit : Type 0
DefaultsFit = (schema : Schema) → is_writable schema ≡ true → ids_fit_fields schema.fields (default_ids schema.fields) ≡ true

-- they are 0, 1, 2 .. in pre-order, one for each dictionary
abbrev pub DefaultsCount : Type 0
DefaultsCount = (schema : Schema) → is_writable schema ≡ true → all_in_order (default_ids schema.fields) ≡ ids_from 0 (dictionary_count schema)
