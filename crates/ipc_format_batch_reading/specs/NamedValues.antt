-- The values of all ids of some fields (Arrow IPC, "Dictionary Messages").
use Rattle.std.specs.Prelude.{◌≡◌, ℤ, List, Option}
use Rattle.std.specs.BTreeMap.{BTreeMap}
use Rattle.std.specs.Map.{lookup}
use Rattle.std.specs.Option.{option_map}
use Rattle.std.specs.Ordering.{int_eq}
use Rattle.ipc_format_reading.specs.columnar_memory.declared.Field.{Field}
use Rattle.ipc_format_reading.specs.grammar.Dictionaries.{Values, or_else, values_of}
use Rattle.ipc_format_reading.specs.grammar.Schemas.{IdsList}
use Rattle.ipc_format_reading.specs.metadata.Views.{ids_views}
use Rattle.ipc_format_batch_reading.specs.declared.named_values.KnownValues.{KnownValues}

-- values as the definitions have them
abbrev pub known_view : KnownValues → Values
known_view values = record { data_type = values.data_type; below = ids_views values.ipc_fields }

-- what stands under an id
abbrev pub values_under : BTreeMap ℤ KnownValues → ℤ → Option Values
values_under found id = option_map known_view (lookup (int_eq id) found.entries)

-- under each id stands what stood there, or else what is found for it
abbrev pub GainsValues : BTreeMap ℤ KnownValues → BTreeMap ℤ KnownValues → (ℤ → Option Values) → Type 0
GainsValues old new finds = (id : ℤ) → values_under new id ≡ or_else (values_under old id) (finds id)

-- under each id stand the values that it names in some fields
abbrev pub AreValuesOf : List Field → IdsList → BTreeMap ℤ KnownValues → Type 0
AreValuesOf fields below found = (id : ℤ) → values_under found id ≡ values_of fields id below
