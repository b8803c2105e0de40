-- Which form slots have, and those that columns store, by numbers.
use Rattle.std.specs.Prelude.{ℕ, None}
use Rattle.nested_arrays_flat.specs.columns.Slots.{Slot, null, truth, number, pair, triple, text, bytes, items, fields, pick}
use Rattle.nested_arrays_flat.specs.columns.StoredColumns.{Column, Stored, nulls, flat, bits, numbers, pairs, triples, texts, byte_strings, fixed_bytes}
use Rattle.nested_arrays_flat.specs.ColumnMasks.{with_mask}

-- the forms by numbers, each its own, and one for numbers of every kind
abbrev pub slot_form : Slot → ℕ
slot_form null = 0
slot_form (truth b) = 1
slot_form (number kind n) = 2
slot_form (pair kind a b) = 2
slot_form (triple kind a b c) = 2
slot_form (text content) = 3
slot_form (bytes content) = 4
slot_form (items slots) = 5
slot_form (fields slots) = 6
slot_form (pick data_type slot) = 7

abbrev pub stored_form : Stored → ℕ
stored_form (bits values) = 1
stored_form (numbers kind values) = 2
stored_form (pairs kind values) = 2
stored_form (triples kind values) = 2
stored_form (texts offsets content) = 3
stored_form (byte_strings offsets content) = 4
stored_form (fixed_bytes size content) = 4

-- the form of the values that a column without children stores; a column with children has a number past these
abbrev pub column_form : Column → ℕ
column_form (nulls data_type n) = 0
column_form (flat data_type mask stored) = stored_form stored
column_form _ = 8

-- a column whose stored values are all seen, those under nulls too
abbrev pub bare : Column → Column
bare column = with_mask column None
