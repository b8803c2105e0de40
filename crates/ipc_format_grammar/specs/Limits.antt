-- The limits of schemas, of dictionaries and of batches (own; docs/FORMAT.md, "Limits").
use Rattle.std.specs.Prelude.{ℕ, ◌^◌}

-- how deep fields nest at most
abbrev pub most_levels : ℕ
most_levels = 64

-- how many fields of a schema have dictionaries at most, and how many dictionary messages stand in a row in a stream, or in a file
abbrev pub most_dictionaries : ℕ
most_dictionaries = 65536

-- how many rows a batch of a seal has at most
abbrev pub most_batch_rows : ℕ
most_batch_rows = 65536

-- a file has fewer bytes than this, since the place of a message is written in its footer as a signed number of eight bytes
abbrev pub file_limit : ℕ
file_limit = 2 ^ 63

-- each number of slots and of rows is below this, since it is written as a signed number of eight bytes
abbrev pub length_limit : ℕ
length_limit = 2 ^ 63
