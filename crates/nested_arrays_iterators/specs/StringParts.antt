-- The offsets and bytes of arrays of byte strings and texts (Arrow columnar format, "Variable-size Binary Layout").
use Rattle.std.specs.Prelude.{ℕ, List, []}
use Rattle.nested_arrays_core.specs.columns.StoredColumns.{Column, flat, texts, byte_strings, fixed_bytes}

-- where byte strings or texts begin, and the last one ends
abbrev pub string_offsets : Column → List ℕ
string_offsets (flat data_type mask (texts offsets content)) = offsets
string_offsets (flat data_type mask (byte_strings offsets content)) = offsets
string_offsets _ = []

-- the bytes of all strings
abbrev pub string_bytes : Column → List ℕ
string_bytes (flat data_type mask (texts offsets content)) = content
string_bytes (flat data_type mask (byte_strings offsets content)) = content
string_bytes (flat data_type mask (fixed_bytes size content)) = content
string_bytes _ = []
