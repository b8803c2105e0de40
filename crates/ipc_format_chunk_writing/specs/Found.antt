-- The dictionaries that are found in columns.
use Rattle.std.specs.Prelude.{◌≡◌, List, ◌++◌, map, Result, Ok, Err}
use Rattle.columnar_memory_types.specs.Error.{IsOutOfMemory}
use Rattle.ipc_format_batch_reading.specs.columnar_memory.declared.Error.{Error}
use Rattle.ipc_format_batch_reading.specs.grammar.GivenDictionaries.{Given}
use Rattle.ipc_format_chunk_writing.specs.Tracking.{given_of}
use Rattle.ipc_format_chunk_writing.specs.declared.found.Found.{Found}

abbrev pub given_in : Found → Given
given_in found = given_of found.id found.values.now

-- these stand behind those that were found before, or memory ran out
abbrev pub Finds : Result (Unit {0}) Error → List Found → List Found → List Given → Type 0
Finds (Ok _) old new given = map given_in new ≡ map given_in old ++ given
Finds (Err error) old new given = IsOutOfMemory error
