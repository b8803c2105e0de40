-- Columns and limits among the words of a command line.
use Rattle.std.specs.Prelude.{ℕ, Bool, ◌||◌, List, codes, nat_eq, Option, Some, None, if◌then◌else◌}
use Rattle.std.specs.List.{filter_map, list_all, slice_split}
use Rattle.std.specs.Option.{option_map}
use Rattle.std.specs.Str.{bytes_eq}
use Rattle.tables.specs.Number.{is_number, number_of}

-- what stands between the commas of a word
abbrev pub pieces : List ℕ → List (List ℕ)
pieces word = slice_split (λ b. nat_eq b 44) word

-- the word is numbers with commas between them, or `-` for none
abbrev pub names_columns : List ℕ → Bool
names_columns word = bytes_eq word (codes "-") || list_all is_number (pieces word)

-- the columns that it names, in their order
abbrev pub columns_in : List ℕ → List ℕ
columns_in word = filter_map number_of (pieces word)

-- the limit that a word names: a number, or `-` for none
abbrev pub limit_of : List ℕ → Option (Option ℕ)
limit_of word = if bytes_eq word (codes "-") then Some None else option_map (λ limit. Some limit) (number_of word)
