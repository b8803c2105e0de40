-- What a whole sound column is written as.
use Rattle.std.proofs.Common.{◌≡◌, ℕ, ◌+◌, ◌-◌, ◌*◌, ◌/◌, ◌≤◌, Bool, true, List, [], ◌∷◌, ◌++◌, length, take, refl, sym, ap, ◌∙◌, arith}
use Rattle.std.specs.Prelude.{Option, Some, None, ◌==◌, min, slice_index, nat_le}
use Rattle.std.specs.Int.{w8, w32}
use Rattle.std.specs.List.{list_all}
use Rattle.std.proofs.lemmas.Bool.{and_parts, eqb-true, false≢true}
use Rattle.std.proofs.lemmas.List.{append_assoc, append-nil, take_all}
use Rattle.ipc_format_streams.specs.columnar_memory.Layouts.{physical_type}
use Rattle.ipc_format_streams.specs.columnar_memory.declared.PhysicalType.{PhysicalType}
use Rattle.ipc_format_streams.specs.columnar_memory.declared.PhysicalType.TheVariants as physical
use Rattle.ipc_format_streams.specs.columns.Kinds.{is_signed, most_offset}
use Rattle.ipc_format_streams.specs.columns.SoundColumns.{
  are_offsets,
  are_pieces,
  are_sound,
  column_lens,
  has_child_at,
  has_child_types,
  has_field_types,
}
use Rattle.ipc_format_streams.specs.columns.SoundColumns.{has_fixed_item_type, has_item_type, has_places, has_size, has_value_at, has_value_type}
use Rattle.ipc_format_streams.specs.columns.SoundColumns.{have_len, holds_below, is_byte, is_offset, is_sound, is_stored_as, mask_fits}
use Rattle.ipc_format_streams.specs.columns.StoredColumns.{Stored, bits, numbers, pairs, triples, texts, byte_strings, fixed_bytes, Column, Columns}
use Rattle.ipc_format_streams.specs.columns.StoredColumns.{nulls, flat, lists, fixed_lists, records, unions, dictionary, no_column, column_then}
use Rattle.ipc_format_streams.specs.columns.StoredColumns.{cut_list, cut_mask, cut_stored, column_len, column_type, in_columns, stored_len}
use Rattle.ipc_format_streams.specs.columns.StoredColumns.{type_layer}
use Rattle.ipc_format_streams.proofs.columns_lemmas.Conditions.{parts_of_3, parts_of_4, parts_of_5}
use Rattle.ipc_format_streams.specs.grammar.Encoding.{Encoded, column_over, joined_columns}
use Rattle.ipc_format_streams.specs.grammar.StoredEncoding.{encode_range, encode_ranges, encode_stored, encode_wholes, integer_bytes, key_bytes}
use Rattle.ipc_format_streams.specs.grammar.StoredEncoding.{last_offset, mask_bytes, moved_bytes, node_over, offset_width, stored_buffers}
use Rattle.ipc_format_column_bytes.specs.Bodies.{both, of_buffers, of_node}
use Rattle.ipc_format_column_bytes.specs.WholeColumns.{behind_node, behind_own, below, node_nulls, own_buffers}

-- ---- cuts of everything

pub whole_list : {A : Type 0} (xs : List A) (n : ℕ) → length xs ≤ n → cut_list xs 0 n ≡ xs
whole_list xs n long =
    let size : 0 + n - 0 ≡ n = omega arith in
    ap (λ (k : ℕ). take k xs) size ∙ take_all n xs long

whole_mask : (mask : Option (List Bool)) (n : ℕ) → mask_fits mask n ≡ true → cut_mask mask 0 n ≡ mask
whole_mask None n fits = refl
whole_mask (Some marks) n fits = let size = eqb-true (length marks) n fits in ap Some (whole_list marks n (omega (arith, size)))

-- pieces of one size fill what they divide
filled : (size n : ℕ) → are_pieces size n ≡ true → size * (n / size) ≡ n
filled size n whole = eqb-true (size * (n / size)) n (and_parts (nat_le 1 size) (size * (n / size) == n) whole).1

pieces_of : (layout : PhysicalType) (size : ℕ) (content : List ℕ) → is_stored_as layout (fixed_bytes size content) ≡ true
    → are_pieces size (length content) ≡ true
pieces_of physical.FixedSizeBinary size content h = (and_parts (are_pieces size (length content)) (list_all is_byte content) h).0
pieces_of _ size content h = absurd (false≢true h)

whole_pieces : {A : Type 0} (xs : List A) (size n : ℕ) → n ≡ length xs → cut_list xs (size * 0) n ≡ xs
whole_pieces xs size n all =
    let none : size * 0 ≡ 0 = omega arith in
    ap (λ (k : ℕ). cut_list xs k n) none ∙ whole_list xs n (omega (arith, all))

whole_stored : (layout : PhysicalType) (stored : Stored) → is_stored_as layout stored ≡ true → cut_stored stored 0 (stored_len stored) ≡ stored
whole_stored layout (bits values) h = ap bits (whole_list values (length values) (omega arith))
whole_stored layout (numbers kind values) h = ap (numbers kind) (whole_list values (length values) (omega arith))
whole_stored layout (pairs kind values) h = ap (pairs kind) (whole_list values (length values) (omega arith))
whole_stored layout (triples kind values) h = ap (triples kind) (whole_list values (length values) (omega arith))
whole_stored layout (texts offsets content) h =
    ap (λ (part : List ℕ). texts part content) (whole_list offsets (length offsets - 1 + 1) (omega arith))
whole_stored layout (byte_strings offsets content) h =
    ap (λ (part : List ℕ). byte_strings part content) (whole_list offsets (length offsets - 1 + 1) (omega arith))
whole_stored layout (fixed_bytes size content) h =
    ap (fixed_bytes size) (whole_pieces content size (size * (length content / size)) (filled size (length content) (pieces_of layout size content
    h)))

-- children that are as long as their column
whole_children : (little : Bool) (cs : Columns) (n : ℕ) → have_len cs n ≡ true → encode_ranges little cs 0 n ≡ encode_wholes little cs
whole_children little no_column n long = refl
whole_children little (column_then c cs) n long =
    let parts = and_parts (column_len c == n) (list_all (λ len. len == n) (column_lens cs)) long in
    let same : n ≡ column_len c = sym (eqb-true (column_len c) n parts.0) in
    λ j. encode_range little c 0 (same j) ∷ whole_children little cs n parts.1 j

-- ---- columns

pub whole_column : (little : Bool) (c : Column) → is_sound c ≡ true
    → encode_stored little c ≡ column_over (column_len c, node_nulls c) (own_buffers little c) (below little c)
whole_column little (nulls t n) sound = refl
whole_column little (flat t mask stored) sound =
    let parts = parts_of_3 (is_stored_as (physical_type t) stored) (has_size (type_layer t) stored) (mask_fits mask (stored_len stored)) sound in
    let marks = whole_mask mask (stored_len stored) parts.2 in
    let values = whole_stored (physical_type t) stored parts.0 in
    λ j. column_over (node_over (stored_len stored) (marks j)) (mask_bytes (marks j) ∷ stored_buffers little (offset_width (type_layer t)) (values
    j)) []
whole_column little (lists t mask offsets child) sound =
    let parts = parts_of_4 (has_item_type (type_layer t) (column_type child))
    (are_offsets offsets (min (most_offset (physical_type t)) (column_len child))) (mask_fits mask (length offsets - 1)) (is_sound child) sound in
    let marks = whole_mask mask (length offsets - 1) parts.2 in
    let taken = whole_list offsets (length offsets - 1 + 1) (omega arith) in
    λ j. column_over (node_over (length offsets - 1) (marks j)) (mask_bytes (marks j) ∷ moved_bytes little (offset_width (type_layer t)) (taken j)
    ∷ [])
    (encode_range little child (slice_index (taken j) 0) (last_offset (taken j) - slice_index (taken j) 0) ∷ [])
whole_column little (fixed_lists t mask size child) sound =
    let parts = parts_of_4 (has_fixed_item_type (type_layer t) size (column_type child)) (are_pieces size (column_len child))
    (mask_fits mask (column_len child / size)) (is_sound child) sound in
    let marks = whole_mask mask (column_len child / size) parts.2 in
    let first : size * 0 ≡ 0 = omega arith in
    let all = filled size (column_len child) parts.1 in
    λ j. column_over (node_over (column_len child / size) (marks j)) (mask_bytes (marks j) ∷ []) (encode_range little child (first j) (all j) ∷ [])
whole_column little (records t mask n children) sound =
    let parts = parts_of_4 (has_field_types (type_layer t) children) (have_len children n) (mask_fits mask n) (are_sound children) sound in
    let marks = whole_mask mask n parts.2 in
    let fields = whole_children little children n parts.1 in
    λ j. column_over (node_over n (marks j)) (mask_bytes (marks j) ∷ []) (fields j)
whole_column little (unions t ids None children) sound =
    let parts = parts_of_5 (has_child_types (type_layer t) None children) (list_all (is_signed 8) ids) (has_places ids None children)
    (holds_below (length ids) (has_child_at (type_layer t) ids None children)) (are_sound children) sound in
    let types = whole_list ids (length ids) (omega arith) in
    let fields = whole_children little children (length ids) parts.2 in
    λ j. column_over (length ids, 0) (integer_bytes little w8 (types j) ∷ []) (fields j)
whole_column little (unions t ids (Some offsets) children) sound =
    let parts = parts_of_5 (has_child_types (type_layer t) (Some offsets) children) (list_all (is_signed 8) ids)
    (has_places ids (Some offsets) children) (holds_below (length ids) (has_child_at (type_layer t) ids (Some offsets) children))
    (are_sound children) sound in
    let places = and_parts (length offsets == length ids) (list_all is_offset offsets) parts.2 in
    let size = eqb-true (length offsets) (length ids) places.0 in
    let types = whole_list ids (length ids) (omega arith) in
    let taken = whole_list offsets (length ids) (omega (arith, size)) in
    λ j. column_over (length ids, 0) (integer_bytes little w8 (types j) ∷ integer_bytes little w32 (taken j) ∷ []) (encode_wholes little children)
whole_column little (dictionary t mask keys values) sound =
    let parts = parts_of_4 (has_value_type (type_layer t) keys (column_type values)) (mask_fits mask (length keys))
    (holds_below (length keys) (has_value_at mask keys (column_len values))) (is_sound values) sound in
    let marks = whole_mask mask (length keys) parts.1 in
    let taken = whole_list keys (length keys) (omega arith) in
    λ j. column_over (node_over (length keys) (marks j)) (mask_bytes (marks j) ∷ key_bytes little (type_layer t) (taken j) ∷ []) []

-- what stands behind its node
pub behind_whole : (little : Bool) (c : Column) → is_sound c ≡ true → behind_node (encode_stored little c) ≡ behind_own little c
behind_whole little c sound = ap behind_node (whole_column little c sound)

-- the node, and what stands behind it
pub node_then : (little : Bool) (c : Column) (slots unset : ℕ) → is_sound c ≡ true → slots ≡ column_len c → unset ≡ node_nulls c
    → both (of_node slots unset) (behind_own little c) ≡ encode_stored little c
node_then little c slots unset sound is_slots is_nulls =
    (λ i. both (of_node (is_slots i) (is_nulls i)) (behind_own little c)) ∙ sym (whole_column little c sound)

-- one column below, and none
pub joined_one : (e : Encoded) → joined_columns (e ∷ []) ≡ e
joined_one e = λ i. record { nodes = append-nil e.nodes i; buffers = append-nil e.buffers i }

pub none_below : (buffers : List (List ℕ)) → both (of_buffers buffers) (joined_columns []) ≡ of_buffers buffers
none_below buffers = λ i. record { nodes = []; buffers = append-nil buffers i }

-- one column more below
pub one_more_below : (little : Bool) (cs : List Column) (c : Column)
    → both (joined_columns (encode_wholes little (in_columns cs))) (encode_stored little c)
    ≡ joined_columns (encode_wholes little (in_columns (cs ++ c ∷ [])))
one_more_below little [] c =
    let e = encode_stored little c in λ i. record { nodes = sym (append-nil e.nodes) i; buffers = sym (append-nil e.buffers) i }
one_more_below little (first ∷ cs) c =
    let e = encode_stored little first in
    let more = joined_columns (encode_wholes little (in_columns cs)) in
    let last = encode_stored little c in
    let rest = one_more_below little cs c in
    let nodes = append_assoc e.nodes more.nodes last.nodes in
    let buffers = append_assoc e.buffers more.buffers last.buffers in
    (λ i. record { nodes = nodes i; buffers = buffers i }) ∙ ap (both e) rest
