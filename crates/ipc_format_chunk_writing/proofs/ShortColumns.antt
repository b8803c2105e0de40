-- The nodes of columns that are short, and those of the dictionaries that they bring, are within the lengths of arrays.
use Rattle.std.proofs.Common.{◌≡◌, ◌∙◌, ℕ, zero, suc, ◌+◌, ◌-◌, ◌*◌, ◌/◌, ◌≤◌, ◌<◌, Bool, true, false, not, ◌&&◌, List, [], ◌∷◌, ◌++◌, length, take}
use Rattle.std.proofs.Common.{drop, map, refl, sym, ap, subst, arith}
use Rattle.std.specs.Prelude.{ℤ, Option, Some, None, min, ◌==◌, nat_le, nat_lt, slice_index, slice_range, count_by}
use Rattle.std.specs.List.{list_all, flat_map}
use Rattle.std.proofs.lemmas.Bool.{and_from, and_parts, eqb-true, false_from_ne_true, leb-true, lt-ltb, ltb-true}
use Rattle.std.proofs.lemmas.List.{length-take}
use Rattle.std.proofs.lemmas.List.Folds.{list_all-append}
use Rattle.std.proofs.lemmas.List.Sums.{count_by-le-length}
use Rattle.std.proofs.Math.Nat.{mul-le-mul_left}
use Rattle.ipc_format_batch_reading.proofs.ColumnSizes.{slots_lengths}
use Rattle.ipc_format_batch_reading.proofs.Conditions.{parts_of_3, parts_of_4, parts_of_5}
use Rattle.ipc_format_batch_reading.specs.columnar_memory.Layouts.{physical_type}
use Rattle.ipc_format_batch_reading.specs.columnar_memory.declared.DataType.{DataType}
use Rattle.ipc_format_batch_reading.specs.columns.Kinds.{most_offset, is_signed}
use Rattle.ipc_format_batch_reading.specs.columns.SoundColumns.{are_offsets, are_pieces, are_sound, column_lens, has_child_at}
use Rattle.ipc_format_batch_reading.specs.columns.SoundColumns.{has_child_types, has_field_types}
use Rattle.ipc_format_batch_reading.specs.columns.SoundColumns.{has_fixed_item_type, has_item_type, has_places, has_value_at}
use Rattle.ipc_format_batch_reading.specs.columns.SoundColumns.{has_value_type, have_len, holds_below}
use Rattle.ipc_format_batch_reading.specs.columns.SoundColumns.{is_sound, mask_fits, rises_at}
use Rattle.ipc_format_batch_reading.specs.columns.StoredColumns.{Column, Columns, nulls, flat, lists, fixed_lists, records, unions}
use Rattle.ipc_format_batch_reading.specs.columns.StoredColumns.{dictionary, no_column}
use Rattle.ipc_format_batch_reading.specs.columns.StoredColumns.{column_then, column_len, in_columns, column_type, cut_list, cut_mask}
use Rattle.ipc_format_batch_reading.specs.columns.StoredColumns.{slots, type_layer}
use Rattle.ipc_format_batch_reading.specs.grammar.Columns.{first_ids, other_ids, ids_below, own_id}
use Rattle.ipc_format_batch_reading.specs.grammar.Encoding.{Encoded, joined_columns}
use Rattle.ipc_format_batch_reading.specs.grammar.GivenDictionaries.{Given, given_each, given_stored, id_or_0}
use Rattle.ipc_format_batch_reading.specs.grammar.Limits.{length_limit}
use Rattle.ipc_format_batch_reading.specs.grammar.Schemas.{Ids, IdsList, ids}
use Rattle.ipc_format_batch_reading.specs.grammar.StoredEncoding.{encode_range, encode_ranges, encode_stored, encode_wholes}
use Rattle.ipc_format_batch_reading.specs.grammar.StoredEncoding.{last_offset, mask_nulls, node_over}
use Rattle.ipc_format_batch_reading.specs.grammar.WrittenStreams.{Batch, batch_of_stored, given_of_stored, has_nodes_in_room}
use Rattle.ipc_format_batch_reading.specs.grammar.WrittenStreams.{is_in_room, is_node, rows_of_stored}
use Rattle.ipc_format_batch_reading.specs.nested_arrays.Childless.{is_childless}
use Rattle.ipc_format_chunk_writing.proofs.Bare.{IsBare, bare}
use Rattle.ipc_format_chunk_writing.specs.ShortColumns.{are_short, is_short}

-- ---- lists

all_take : {A : Type 0} (test : A → Bool) (n : ℕ) (xs : List A) → list_all test xs ≡ true → list_all test (take n xs) ≡ true
all_take test zero xs all = refl
all_take test (suc n) [] all = refl
all_take test (suc n) (x ∷ xs) all = let parts = and_parts (test x) (list_all test xs) all in
    and_from (test x) (list_all test (take n xs)) parts.0 (all_take test n xs parts.1)

all_drop : {A : Type 0} (test : A → Bool) (n : ℕ) (xs : List A) → list_all test xs ≡ true → list_all test (drop n xs) ≡ true
all_drop test zero xs all = all
all_drop test (suc n) [] all = refl
all_drop test (suc n) (x ∷ xs) all = all_drop test n xs (and_parts (test x) (list_all test xs) all).1

-- a number of a list whose numbers are all up to a limit
number_within : (limit : ℕ) (ns : List ℕ) (i : ℕ) → list_all (λ n. nat_le n limit) ns ≡ true → slice_index ns i ≤ limit
number_within limit [] i all = omega arith
number_within limit (n ∷ ns) zero all = leb-true n limit (and_parts (nat_le n limit) (list_all (λ m. nat_le m limit) ns) all).0
number_within limit (n ∷ ns) (suc i) all = number_within limit ns i (and_parts (nat_le n limit) (list_all (λ m. nat_le m limit) ns) all).1

-- ---- nodes

mask_count : (mask : Option (List Bool)) (o n : ℕ) → mask_nulls (cut_mask mask o n) ≤ n
mask_count None o n = omega arith
mask_count (Some marks) o n = let taken = slice_range marks o (o + n) in
    let size : length taken ≡ min (o + n - o) (length (drop o marks)) = length-take (o + n - o) (drop o marks) in
    omega (arith, count_by-le-length not taken, size)

node_fits : (n k : ℕ) → n < length_limit → k ≤ n → is_node (n, k) ≡ true
node_fits n k small within =
    and_from (nat_lt n length_limit) (nat_lt k length_limit) (lt-ltb n length_limit small) (lt-ltb k length_limit (omega (arith, small, within)))

over_node : (mask : Option (List Bool)) (o n : ℕ) → n < length_limit → is_node (node_over n (cut_mask mask o n)) ≡ true
over_node mask o n small = node_fits n (mask_nulls (cut_mask mask o n)) small (mask_count mask o n)

first_short : (n : ℕ) (rest : Bool) → (nat_lt n length_limit && rest) ≡ true → (n < length_limit) × (rest ≡ true)
first_short n rest h = let parts = and_parts (nat_lt n length_limit) rest h in (ltb-true n length_limit parts.0, parts.1)

-- one column below a node
below_one : (node : ℕ × ℕ) (child : Encoded) → is_node node ≡ true → has_nodes_in_room child ≡ true
    → list_all is_node (node ∷ (joined_columns (child ∷ [])).nodes) ≡ true
below_one node child here below =
    and_from (is_node node) (list_all is_node (child.nodes ++ [])) here
    (list_all-append is_node child.nodes [] ∙ and_from (list_all is_node child.nodes) true below refl)

two_in_room : (first : Encoded) (others : List Encoded) → has_nodes_in_room first ≡ true → has_nodes_in_room (joined_columns others) ≡ true
    → has_nodes_in_room (joined_columns (first ∷ others)) ≡ true
two_in_room first others here rest =
    list_all-append is_node first.nodes (joined_columns others).nodes
    ∙ and_from (list_all is_node first.nodes) (list_all is_node (joined_columns others).nodes) here rest

items_within : (data_type : DataType) (offsets : List ℕ) (child : Column) (o n : ℕ)
    → are_offsets offsets (min (most_offset (physical_type data_type)) (column_len child)) ≡ true
    → last_offset (cut_list offsets o n) - slice_index (cut_list offsets o n) 0 ≤ column_len child
items_within data_type offsets child o n fits =
    let limit = min (most_offset (physical_type data_type)) (column_len child) in
    let all = (parts_of_3 (nat_le 1 (length offsets)) (holds_below (length offsets - 1) (rises_at offsets))
    (list_all (λ offset. nat_le offset limit) offsets) fits).2 in
    let taken = cut_list offsets o n in
    let end : last_offset taken ≤ limit = number_within limit taken (length taken - 1)
    (all_take (λ offset. nat_le offset limit) (o + n - o) (drop o offsets) (all_drop (λ offset. nat_le offset limit) o offsets all)) in
    omega (arith, end)

pieces_within : (size n len : ℕ) → are_pieces size len ≡ true → n ≤ len / size → size * n ≤ len
pieces_within size n len pieces within =
    let whole : size * (len / size) ≡ len = eqb-true (size * (len / size)) len (and_parts (nat_le 1 size) (size * (len / size) == len) pieces).1 in
    omega (arith, whole, mul-le-mul_left {m = n} {n = len / size} size within)

-- a node over columns below it
over_all : (node : ℕ × ℕ) (below : List Encoded) → is_node node ≡ true → has_nodes_in_room (joined_columns below) ≡ true
    → list_all is_node (node ∷ (joined_columns below).nodes) ≡ true
over_all node below here rest = and_from (is_node node) (list_all is_node (joined_columns below).nodes) here rest

alone : (node : ℕ × ℕ) → is_node node ≡ true → list_all is_node (node ∷ []) ≡ true
alone node here = and_from (is_node node) true here refl

lists_parts : (t : DataType) (mask : Option (List Bool)) (offsets : List ℕ) (child : Column) → is_sound (lists t mask offsets child) ≡ true
    → (are_offsets offsets (min (most_offset (physical_type t)) (column_len child)) ≡ true) × (is_sound child ≡ true)
lists_parts t mask offsets child sound =
    let parts = parts_of_4 (has_item_type (type_layer t) (column_type child))
    (are_offsets offsets (min (most_offset (physical_type t)) (column_len child))) (mask_fits mask (length offsets - 1)) (is_sound child) sound in
    (parts.1, parts.3)

fixed_parts : (t : DataType) (mask : Option (List Bool)) (size : ℕ) (child : Column) → is_sound (fixed_lists t mask size child) ≡ true
    → (are_pieces size (column_len child) ≡ true) × (is_sound child ≡ true)
fixed_parts t mask size child sound =
    let parts = parts_of_4 (has_fixed_item_type (type_layer t) size (column_type child)) (are_pieces size (column_len child))
    (mask_fits mask (column_len child / size)) (is_sound child) sound in
    (parts.1, parts.3)

records_parts : (t : DataType) (mask : Option (List Bool)) (n : ℕ) (children : Columns) → is_sound (records t mask n children) ≡ true
    → (have_len children n ≡ true) × (are_sound children ≡ true)
records_parts t mask n children sound =
    let parts = parts_of_4 (has_field_types (type_layer t) children) (have_len children n) (mask_fits mask n) (are_sound children) sound in
    (parts.1, parts.3)

unions_parts : (t : DataType) (type_ids : List ℤ) (offsets : Option (List ℤ)) (children : Columns)
    → is_sound (unions t type_ids offsets children) ≡ true
    → (has_places type_ids offsets children ≡ true) × (are_sound children ≡ true)
unions_parts t type_ids offsets children sound =
    let parts = parts_of_5 (has_child_types (type_layer t) offsets children) (list_all (is_signed 8) type_ids) (has_places type_ids offsets children)
    (holds_below (length type_ids) (has_child_at (type_layer t) type_ids offsets children)) (are_sound children) sound in
    (parts.2, parts.4)

dictionary_parts : (t : DataType) (mask : Option (List Bool)) (keys : List ℤ) (values : Column)
    → is_sound (dictionary t mask keys values) ≡ true → is_sound values ≡ true
dictionary_parts t mask keys values sound =
    (parts_of_4 (has_value_type (type_layer t) keys (column_type values)) (mask_fits mask (length keys))
    (holds_below (length keys) (has_value_at mask keys (column_len values))) (is_sound values) sound).3

first_long : (c : Column) (cs : Columns) (len : ℕ) → have_len (column_then c cs) len ≡ true → (column_len c ≡ len) × (have_len cs len ≡ true)
first_long c cs len long =
    let parts = and_parts (column_len c == len) (list_all (λ k. k == len) (column_lens cs)) long in
    (eqb-true (column_len c) len parts.0, parts.1)

mutual
  pub range_in_room : (c : Column) (o n : ℕ) → is_sound c ≡ true → is_short c ≡ true → n ≤ column_len c
      → has_nodes_in_room (encode_range true c o n) ≡ true
  range_in_room (nulls t k) o n sound short within =
      alone (n, n) (node_fits n n (omega (arith, ltb-true k length_limit short, within)) (omega arith))
  range_in_room (flat t mask stored) o n sound short within =
      alone (node_over n (cut_mask mask o n))
      (over_node mask o n (omega (arith, ltb-true (column_len (flat t mask stored)) length_limit short, within)))
  range_in_room (lists t mask offsets child) o n sound short within =
      let parts = lists_parts t mask offsets child sound in
      let small = first_short (length offsets - 1) (is_short child) short in
      let taken = cut_list offsets o (n + 1) in
      below_one (node_over n (cut_mask mask o n))
      (encode_range true child (slice_index taken 0) (last_offset taken - slice_index taken 0)) (over_node mask o n (omega (arith, small.0, within)))
      (range_in_room child (slice_index taken 0) (last_offset taken - slice_index taken 0) parts.1 small.1
      (items_within t offsets child o (n + 1) parts.0))
  range_in_room (fixed_lists t mask size child) o n sound short within =
      let parts = fixed_parts t mask size child sound in
      let small = first_short (column_len child / size) (is_short child) short in
      below_one (node_over n (cut_mask mask o n)) (encode_range true child (size * o) (size * n))
      (over_node mask o n (omega (arith, small.0, within)))
      (range_in_room child (size * o) (size * n) parts.1 small.1 (pieces_within size n (column_len child) parts.0 within))
  range_in_room (records t mask count children) o n sound short within =
      let parts = records_parts t mask count children sound in
      let small = first_short count (are_short children) short in
      over_all (node_over n (cut_mask mask o n)) (encode_ranges true children o n) (over_node mask o n (omega (arith, small.0, within)))
      (ranges_in_room children o n count parts.1 small.1 parts.0 within)
  range_in_room (unions t type_ids None children) o n sound short within =
      let parts = unions_parts t type_ids None children sound in
      let small = first_short (length type_ids) (are_short children) short in
      over_all (n, 0) (encode_ranges true children o n) (node_fits n 0 (omega (arith, small.0, within)) (omega arith))
      (ranges_in_room children o n (length type_ids) parts.1 small.1 parts.0 within)
  range_in_room (unions t type_ids (Some offsets) children) o n sound short within =
      let parts = unions_parts t type_ids (Some offsets) children sound in
      let small = first_short (length type_ids) (are_short children) short in
      over_all (n, 0) (encode_wholes true children) (node_fits n 0 (omega (arith, small.0, within)) (omega arith))
      (wholes_in_room children parts.1 small.1)
  range_in_room (dictionary t mask keys values) o n sound short within =
      let small = first_short (length keys) (is_short values) short in
      alone (node_over n (cut_mask mask o n)) (over_node mask o n (omega (arith, small.0, within)))

  ranges_in_room : (cs : Columns) (o n len : ℕ) → are_sound cs ≡ true → are_short cs ≡ true → have_len cs len ≡ true → n ≤ len
      → has_nodes_in_room (joined_columns (encode_ranges true cs o n)) ≡ true
  ranges_in_room no_column o n len sound short long within = refl
  ranges_in_room (column_then c cs) o n len sound short long within =
      let sounds = and_parts (is_sound c) (are_sound cs) sound in
      let shorts = and_parts (is_short c) (are_short cs) short in
      let longs = first_long c cs len long in
      two_in_room (encode_range true c o n) (encode_ranges true cs o n)
      (range_in_room c o n sounds.0 shorts.0 (omega (arith, longs.0, within))) (ranges_in_room cs o n len sounds.1 shorts.1 longs.1 within)

  wholes_in_room : (cs : Columns) → are_sound cs ≡ true → are_short cs ≡ true → has_nodes_in_room (joined_columns (encode_wholes true cs)) ≡ true
  wholes_in_room no_column sound short = refl
  wholes_in_room (column_then c cs) sound short =
      let sounds = and_parts (is_sound c) (are_sound cs) sound in
      let shorts = and_parts (is_short c) (are_short cs) short in
      two_in_room (encode_range true c 0 (column_len c)) (encode_wholes true cs)
      (range_in_room c 0 (column_len c) sounds.0 shorts.0 (omega arith)) (wholes_in_room cs sounds.1 shorts.1)

len_short : (c : Column) → is_short c ≡ true → column_len c < length_limit
len_short (nulls t n) short = ltb-true n length_limit short
len_short (flat t mask stored) short = ltb-true (column_len (flat t mask stored)) length_limit short
len_short (lists t mask offsets child) short = (first_short (length offsets - 1) (is_short child) short).0
len_short (fixed_lists t mask size child) short = (first_short (column_len child / size) (is_short child) short).0
len_short (records t mask n children) short = (first_short n (are_short children) short).0
len_short (unions t type_ids offsets children) short = (first_short (length type_ids) (are_short children) short).0
len_short (dictionary t mask keys values) short = (first_short (length keys) (is_short values) short).0

-- ---- dictionaries

abbrev given_fits : Given → Bool
given_fits given = has_nodes_in_room given.column && nat_lt (length given.slots) length_limit

given_more : (a b : List Given) → list_all given_fits a ≡ true → list_all given_fits b ≡ true → list_all given_fits (a ++ b) ≡ true
given_more a b first second = list_all-append given_fits a b ∙ and_from (list_all given_fits a) (list_all given_fits b) first second

mutual
  given_in_room : (here : Ids) (c : Column) → is_sound c ≡ true → is_short c ≡ true → list_all given_fits (given_stored here c) ≡ true
  given_in_room here (nulls t n) sound short = refl
  given_in_room here (flat t mask stored) sound short = refl
  given_in_room here (lists t mask offsets child) sound short =
      given_in_room (first_ids (ids_below here)) child (lists_parts t mask offsets child sound).1
      (first_short (length offsets - 1) (is_short child) short).1
  given_in_room here (fixed_lists t mask size child) sound short =
      given_in_room (first_ids (ids_below here)) child (fixed_parts t mask size child sound).1
      (first_short (column_len child / size) (is_short child) short).1
  given_in_room here (records t mask n children) sound short =
      each_in_room (ids_below here) children (records_parts t mask n children sound).1 (first_short n (are_short children) short).1
  given_in_room here (unions t type_ids offsets children) sound short =
      each_in_room (ids_below here) children (unions_parts t type_ids offsets children sound).1
      (first_short (length type_ids) (are_short children) short).1
  given_in_room here (dictionary t mask keys values) sound short =
      let sounds = dictionary_parts t mask keys values sound in
      let small = first_short (length keys) (is_short values) short in
      let count : nat_lt (length (slots values)) length_limit ≡ true =
      ap (λ (n : ℕ). nat_lt n length_limit) (slots_lengths values) ∙ lt-ltb (column_len values) length_limit (len_short values small.1) in
      given_more (given_stored (ids None (ids_below here)) values) _ (given_in_room (ids None (ids_below here)) values sounds small.1)
      (and_from (has_nodes_in_room (encode_stored true values) && nat_lt (length (slots values)) length_limit) true
      (and_from (has_nodes_in_room (encode_stored true values)) (nat_lt (length (slots values)) length_limit)
      (range_in_room values 0 (column_len values) sounds small.1 (omega arith)) count) refl)

  each_in_room : (below : IdsList) (cs : Columns) → are_sound cs ≡ true → are_short cs ≡ true → list_all given_fits (given_each below cs) ≡ true
  each_in_room below no_column sound short = refl
  each_in_room below (column_then c cs) sound short =
      let sounds = and_parts (is_sound c) (are_sound cs) sound in
      let shorts = and_parts (is_short c) (are_short cs) short in
      given_more (given_stored (first_ids below) c) (given_each (other_ids below) cs) (given_in_room (first_ids below) c sounds.0 shorts.0)
      (each_in_room (other_ids below) cs sounds.1 shorts.1)

-- ---- batches

columns_in_room : (cs : List Column) → list_all is_sound cs ≡ true → list_all is_short cs ≡ true
    → has_nodes_in_room (joined_columns (map (encode_stored true) cs)) ≡ true
columns_in_room [] sound short = refl
columns_in_room (c ∷ cs) sound short =
    let sounds = and_parts (is_sound c) (list_all is_sound cs) sound in
    let shorts = and_parts (is_short c) (list_all is_short cs) short in
    two_in_room (encode_stored true c) (map (encode_stored true) cs) (range_in_room c 0 (column_len c) sounds.0 shorts.0 (omega arith))
    (columns_in_room cs sounds.1 shorts.1)

all_given_in_room : (below : IdsList) (cs : List Column) → list_all is_sound cs ≡ true → list_all is_short cs ≡ true
    → list_all given_fits (given_of_stored below cs) ≡ true
all_given_in_room below [] sound short = refl
all_given_in_room below (c ∷ cs) sound short =
    let sounds = and_parts (is_sound c) (list_all is_sound cs) sound in
    let shorts = and_parts (is_short c) (list_all is_short cs) short in
    given_more (given_stored (first_ids below) c) (given_of_stored (other_ids below) cs) (given_in_room (first_ids below) c sounds.0 shorts.0)
    (all_given_in_room (other_ids below) cs sounds.1 shorts.1)

rows_in_room : (cs : List Column) → list_all is_short cs ≡ true → nat_lt (rows_of_stored cs) length_limit ≡ true
rows_in_room [] short = refl
rows_in_room (c ∷ cs) short = lt-ltb (column_len c) length_limit (len_short c (and_parts (is_short c) (list_all is_short cs) short).0)

pub batch_in_room : (below : IdsList) (cs : List Column) → list_all is_sound cs ≡ true → list_all is_short cs ≡ true
    → is_in_room (batch_of_stored below cs) ≡ true
unfolding batch_of_stored
batch_in_room below cs sound short =
    and_from (nat_lt (rows_of_stored cs) length_limit && has_nodes_in_room (joined_columns (map (encode_stored true) cs)))
    (list_all given_fits (given_of_stored below cs))
    (and_from (nat_lt (rows_of_stored cs) length_limit) (has_nodes_in_room (joined_columns (map (encode_stored true) cs))) (rows_in_room cs short)
    (columns_in_room cs sound short))
    (all_given_in_room below cs sound short)

-- ---- columns that are stored alone

short_bare : (c : Column) → IsBare c → is_short c ≡ nat_lt (column_len c) length_limit
short_bare (nulls t n) alone = refl
short_bare (flat t mask stored) alone = refl
short_bare _ alone = absurd alone

-- it is short by its own length
pub alone_short : (c : Column) → is_sound c ≡ true → is_childless (physical_type (column_type c)) ≡ true
    → is_short c ≡ nat_lt (column_len c) length_limit
alone_short c sound none = short_bare c (bare c sound none)

-- ---- tests

-- a column that is too long by itself
pub long_alone : (c : Column) → length_limit ≤ column_len c → false ≡ is_short c
long_alone c long = sym (false_from_ne_true (is_short c) (λ short. absurd (omega (arith, long, len_short c short))))

-- a column that is not, by those below it
pub short_below : (a shape : Column) (below test : Bool) → a ≡ shape → is_short shape ≡ (nat_lt (column_len shape) length_limit && below)
    → column_len a < length_limit → test ≡ below → test ≡ is_short a
short_below a shape below test is by_parts small same =
    same ∙ sym (ap is_short is ∙ by_parts
    ∙ ap (λ (b : Bool). b && below) (lt-ltb (column_len shape) length_limit (subst (λ (c : Column). column_len c < length_limit) is small)))

pub all_short : (cs : List Column) → are_short (in_columns cs) ≡ list_all is_short cs
all_short [] = refl
all_short (c ∷ cs) = ap (λ (rest : Bool). is_short c && rest) (all_short cs)
