-- A code for columns, by which proofs tell them apart: the parts that a column is made of, one after another, each before its children's.
use Rattle.std.specs.Prelude.{◌≡◌, ℕ, zero, suc, ℤ, Bool, List, [], ◌∷◌, drop, Option, None}
use Rattle.std.proofs.Common.{refl, ap, ◌∙◌}
use Rattle.std.specs.Coded.{Coded, code_by, coded×, coded_list, coded_option, coded_ℕ, coded_ℤ, coded_bool}
use Rattle.columnar_memory_core.specs.declared.DataType.{DataType}
use Rattle.columnar_memory_core.specs.declared.DataType.TheVariants as types
use Rattle.columnar_memory_core.specs.contracts.DataType as data_type
use Rattle.columnar_memory_core.specs.declared.PrimitiveType.{PrimitiveType}
use Rattle.columnar_memory_core.specs.declared.PrimitiveType.TheVariants as kinds
use Rattle.columnar_memory_core.specs.contracts.PrimitiveType as primitive_type
use Rattle.nested_arrays_columns.specs.StoredColumns.{Stored, bits, numbers, pairs, triples, texts, byte_strings, fixed_bytes, Column, Columns}
use Rattle.nested_arrays_columns.specs.StoredColumns.{nulls, flat, lists, fixed_lists, records, unions, dictionary, no_column, column_then}

-- ---- stored values

-- which of its cases stored values are, and what each case has
abbrev pub StoredParts : Type 0
StoredParts = (ℕ × PrimitiveType) × ((List Bool × List ℤ) × ((List (ℤ × ℤ) × List (ℤ × (ℤ × ℤ))) × (ℕ × (List ℕ × List ℕ))))

abbrev pub coded_stored_parts : Coded StoredParts
coded_stored_parts = coded× (coded× coded_ℕ primitive_type.the_row.coded)
    (coded× (coded× (coded_list coded_bool) (coded_list coded_ℤ))
    (coded× (coded× (coded_list (coded× coded_ℤ coded_ℤ)) (coded_list (coded× coded_ℤ (coded× coded_ℤ coded_ℤ))))
    (coded× coded_ℕ (coded× (coded_list coded_ℕ) (coded_list coded_ℕ)))))

abbrev pub nested : List (ℤ × ℤ × ℤ) → List (ℤ × (ℤ × ℤ))
nested [] = []
nested (value ∷ values) = (value.0, (value.1, value.2)) ∷ nested values

abbrev pub unnested : List (ℤ × (ℤ × ℤ)) → List (ℤ × ℤ × ℤ)
unnested [] = []
unnested (value ∷ values) = (value.0, value.1.0, value.1.1) ∷ unnested values

pub unnested-nested : (values : List (ℤ × ℤ × ℤ)) → unnested (nested values) ≡ values
unnested-nested [] = refl
unnested-nested (value ∷ values) = ap (λ rest. value ∷ rest) (unnested-nested values)

abbrev pub stored_parts : Stored → StoredParts
stored_parts (bits values) = ((0, kinds.Int8), ((values, []), (([], []), (0, ([], [])))))
stored_parts (numbers kind values) = ((1, kind), (([], values), (([], []), (0, ([], [])))))
stored_parts (pairs kind values) = ((2, kind), (([], []), ((values, []), (0, ([], [])))))
stored_parts (triples kind values) = ((3, kind), (([], []), (([], nested values), (0, ([], [])))))
stored_parts (texts offsets content) = ((4, kinds.Int8), (([], []), (([], []), (0, (offsets, content)))))
stored_parts (byte_strings offsets content) = ((5, kinds.Int8), (([], []), (([], []), (0, (offsets, content)))))
stored_parts (fixed_bytes size content) = ((6, kinds.Int8), (([], []), (([], []), (size, ([], content)))))

abbrev pub stored_of_case : ℕ → StoredParts → Stored
stored_of_case zero parts = bits parts.1.0.0
stored_of_case (suc zero) parts = numbers parts.0.1 parts.1.0.1
stored_of_case (suc (suc zero)) parts = pairs parts.0.1 parts.1.1.0.0
stored_of_case (suc (suc (suc zero))) parts = triples parts.0.1 (unnested parts.1.1.0.1)
stored_of_case (suc (suc (suc (suc zero)))) parts = texts parts.1.1.1.1.0 parts.1.1.1.1.1
stored_of_case (suc (suc (suc (suc (suc zero))))) parts = byte_strings parts.1.1.1.1.0 parts.1.1.1.1.1
stored_of_case (suc (suc (suc (suc (suc (suc n)))))) parts = fixed_bytes parts.1.1.1.0 parts.1.1.1.1.1

abbrev pub stored_of_parts : StoredParts → Stored
stored_of_parts parts = stored_of_case parts.0.0 parts

pub stored_of_parts-stored_parts : (stored : Stored) → stored_of_parts (stored_parts stored) ≡ stored
stored_of_parts-stored_parts (bits values) = refl
stored_of_parts-stored_parts (numbers kind values) = refl
stored_of_parts-stored_parts (pairs kind values) = refl
stored_of_parts-stored_parts (triples kind values) = ap (triples kind) (unnested-nested values)
stored_of_parts-stored_parts (texts offsets content) = refl
stored_of_parts-stored_parts (byte_strings offsets content) = refl
stored_of_parts-stored_parts (fixed_bytes size content) = refl

abbrev pub stored_code : Coded Stored
stored_code = code_by StoredParts coded_stored_parts stored_parts stored_of_parts stored_of_parts-stored_parts

-- ---- columns

-- a column without its children: which case it is and its type, its mask and stored values, its length or size and the number of its
-- children, its ids or keys and its offsets
abbrev pub Part : Type 0
Part = (ℕ × DataType) × ((Option (List Bool) × Stored) × ((ℕ × ℕ) × (List ℤ × (List ℕ × Option (List ℤ)))))

abbrev pub coded_part : Coded Part
coded_part = coded× (coded× coded_ℕ data_type.the_row.coded)
    (coded× (coded× (coded_option (coded_list coded_bool)) stored_code)
    (coded× (coded× coded_ℕ coded_ℕ)
    (coded× (coded_list coded_ℤ) (coded× (coded_list coded_ℕ) (coded_option (coded_list coded_ℤ))))))

abbrev pub columns_count : Columns → ℕ
columns_count no_column = 0
columns_count (column_then column columns) = suc (columns_count columns)

-- the parts of a column before some others
abbrev mutual
  pub parts_then : Column → List Part → List Part
  parts_then (nulls data_type n) others = ((0, data_type), ((None, bits []), ((n, 0), ([], ([], None))))) ∷ others
  parts_then (flat data_type mask stored) others = ((1, data_type), ((mask, stored), ((0, 0), ([], ([], None))))) ∷ others
  parts_then (lists data_type mask offsets child) others = ((2, data_type), ((mask, bits []), ((0, 0), ([], (offsets, None))))) ∷ parts_then
      child others
  parts_then (fixed_lists data_type mask size child) others =
      ((3, data_type), ((mask, bits []), ((size, 0), ([], ([], None))))) ∷ parts_then child others
  parts_then (records data_type mask n children) others = ((4, data_type), ((mask, bits []), ((n, columns_count children), ([], ([], None))))) ∷
      all_parts_then children others
  parts_then (unions data_type ids offsets children) others =
      ((5, data_type), ((None, bits []), ((0, columns_count children), (ids, ([], offsets))))) ∷ all_parts_then children others
  parts_then (dictionary data_type mask keys values) others =
      ((6, data_type), ((mask, bits []), ((0, 0), (keys, ([], None))))) ∷ parts_then values others

  pub all_parts_then : Columns → List Part → List Part
  all_parts_then no_column others = others
  all_parts_then (column_then column columns) others = parts_then column (all_parts_then columns others)

-- the first so many columns, and the others
abbrev pub first_columns : ℕ → List Column → Columns
first_columns zero columns = no_column
first_columns (suc n) [] = no_column
first_columns (suc n) (column ∷ columns) = column_then column (first_columns n columns)

-- a column over the first one
abbrev pub over_first : (Column → Column) → List Column → List Column
over_first make [] = []
over_first make (column ∷ columns) = make column ∷ columns

-- the column of a part, over the first of the columns of later parts
abbrev pub with_part : ℕ → Part → List Column → List Column
with_part zero part columns = nulls part.0.1 part.1.1.0.0 ∷ columns
with_part (suc zero) part columns = flat part.0.1 part.1.0.0 part.1.0.1 ∷ columns
with_part (suc (suc zero)) part columns = over_first (lists part.0.1 part.1.0.0 part.1.1.1.1.0) columns
with_part (suc (suc (suc zero))) part columns = over_first (fixed_lists part.0.1 part.1.0.0 part.1.1.0.0) columns
with_part (suc (suc (suc (suc zero)))) part columns = records part.0.1 part.1.0.0 part.1.1.0.0 (first_columns part.1.1.0.1 columns) ∷ drop
    part.1.1.0.1 columns
with_part (suc (suc (suc (suc (suc zero))))) part columns = unions part.0.1 part.1.1.1.0 part.1.1.1.1.1 (first_columns part.1.1.0.1 columns) ∷
    drop part.1.1.0.1 columns
with_part (suc (suc (suc (suc (suc (suc n)))))) part columns = over_first (dictionary part.0.1 part.1.0.0 part.1.1.1.0) columns

abbrev pub columns_of_parts : List Part → List Column
columns_of_parts [] = []
columns_of_parts (part ∷ parts) = with_part part.0.0 part (columns_of_parts parts)

abbrev pub before : Columns → List Column → List Column
before no_column others = others
before (column_then column columns) others = column ∷ before columns others

first_columns-before : (cs : Columns) (others : List Column) → first_columns (columns_count cs) (before cs others) ≡ cs
first_columns-before no_column others = refl
first_columns-before (column_then c cs) others = ap (column_then c) (first_columns-before cs others)

drop-before : (cs : Columns) (others : List Column) → drop (columns_count cs) (before cs others) ≡ others
drop-before no_column others = refl
drop-before (column_then c cs) others = drop-before cs others

-- children, and the columns after them
children_back : (make : Columns → Column) (cs : Columns) (parts : List Column) (others : List Column) → parts ≡ before cs others
    → make (first_columns (columns_count cs) parts) ∷ drop (columns_count cs) parts ≡ make cs ∷ others
children_back make cs parts others e =
    ap (λ columns. make (first_columns (columns_count cs) columns) ∷ drop (columns_count cs) columns) e
    ∙ (λ i. make (first_columns-before cs others i) ∷ drop-before cs others i)

mutual
  columns_of_parts_then : (c : Column) (others : List Part) → columns_of_parts (parts_then c others) ≡ c ∷ columns_of_parts others
  columns_of_parts_then (nulls data_type n) others = refl
  columns_of_parts_then (flat data_type mask stored) others = refl
  columns_of_parts_then (lists data_type mask offsets child) others =
      ap (over_first (lists data_type mask offsets)) (columns_of_parts_then child others)
  columns_of_parts_then (fixed_lists data_type mask size child) others =
      ap (over_first (fixed_lists data_type mask size)) (columns_of_parts_then child others)
  columns_of_parts_then (records data_type mask n children) others =
      children_back (records data_type mask n) children (columns_of_parts (all_parts_then children others)) (columns_of_parts others)
      (columns_of_all_parts_then children others)
  columns_of_parts_then (unions data_type ids offsets children) others =
      children_back (unions data_type ids offsets) children (columns_of_parts (all_parts_then children others)) (columns_of_parts others)
      (columns_of_all_parts_then children others)
  columns_of_parts_then (dictionary data_type mask keys values) others =
      ap (over_first (dictionary data_type mask keys)) (columns_of_parts_then values others)

  columns_of_all_parts_then : (cs : Columns) (others : List Part) → columns_of_parts (all_parts_then cs others) ≡ before cs (columns_of_parts others)
  columns_of_all_parts_then no_column others = refl
  columns_of_all_parts_then (column_then c cs) others =
      columns_of_parts_then c (all_parts_then cs others) ∙ ap (λ columns. c ∷ columns) (columns_of_all_parts_then cs others)

abbrev pub parts_of : Column → List Part
parts_of column = parts_then column []

abbrev pub first_or_none : List Column → Column
first_or_none [] = nulls types.Null 0
first_or_none (column ∷ columns) = column

abbrev pub column_of : List Part → Column
column_of parts = first_or_none (columns_of_parts parts)

pub column_of-parts_of : (c : Column) → column_of (parts_of c) ≡ c
column_of-parts_of c = ap first_or_none (columns_of_parts_then c [])

abbrev pub column_code : Coded Column
column_code = code_by (List Part) (coded_list coded_part) parts_of column_of column_of-parts_of
