-- Unions that are begun: their ids, of dense ones the places, and their children.
use Rattle.std.proofs.Common.{◌≡◌, ◌∙◌, ℕ, ◌+◌, ◌≤◌, Bool, List, [], ◌∷◌, length, refl, sym, ap, subst, arith}
use Rattle.std.specs.List.{flat_map}
use Rattle.std.specs.Prelude.{ℤ, true, Option, Some, None, Err}
use Rattle.nested_arrays_core.specs.Parts.{column_children}
use Rattle.nested_arrays_core.specs.Places.{HaveRange}
use Rattle.ipc_format_column_reading.specs.column_bytes.Bodies.{Parts, Adds, both, of_buffers, of_node, parts_of, with_column}
use Rattle.ipc_format_column_reading.specs.column_bytes.Numbers.{value_bytes}
use Rattle.ipc_format_column_reading.specs.column_bytes.WholeColumns.{behind_node}
use Rattle.ipc_format_column_reading.specs.column_bytes.columnar_memory.Numbers.{one}
use Rattle.ipc_format_column_reading.specs.column_bytes.columnar_memory.declared.DataType.{DataType}
use Rattle.ipc_format_column_reading.specs.column_bytes.columnar_memory.declared.Error.{Error}
use Rattle.ipc_format_column_reading.specs.column_bytes.columnar_memory.declared.PrimitiveType.TheVariants as kinds
use Rattle.ipc_format_column_reading.specs.column_bytes.columns.SoundColumns.{is_sound}
use Rattle.ipc_format_column_reading.specs.column_bytes.columns.StoredColumns.{Column, Columns, unions, column_len, cut_list}
use Rattle.ipc_format_column_reading.specs.column_bytes.declared.body.Body.{Body}
use Rattle.ipc_format_column_reading.specs.column_bytes.grammar.Encoding.{Encoded, joined_columns}
use Rattle.ipc_format_column_reading.specs.column_bytes.grammar.StoredEncoding.{encode_range, encode_ranges, encode_wholes}
use Rattle.ipc_format_column_reading.proofs.bytes_lemmas.Bodies.{added_then, refused_first, with_both}
use Rattle.ipc_format_column_writing.specs.Parts.{encode_parts}
use Rattle.ipc_format_column_writing.specs.Written.{IsBegun}
use Rattle.ipc_format_column_writing.specs.declared.parts.Part.TheVariants.{All, Range}
use Rattle.ipc_format_column_writing.proofs.Begun.{both_assoc, stands_alone}
use Rattle.ipc_format_column_writing.proofs.KeyBytes.{id_bytes, place_bytes}
use Rattle.ipc_format_column_writing.proofs.Within.{dense_places, sparse_range}

-- the buffers of ids and of places, as numbers of their kinds
abbrev pub ids_of : Bool → List ℤ → Encoded
ids_of little ids = of_buffers (flat_map (λ n. value_bytes little kinds.Int8 (one n)) ids ∷ [])

abbrev pub places_in : Bool → List ℤ → Encoded
places_in little places = of_buffers (flat_map (λ n. value_bytes little kinds.Int32 (one n)) places ∷ [])

sparse_whole : (little : Bool) (t : DataType) (ids : List ℤ) (children : Columns) (o n : ℕ)
    → both (ids_of little (cut_list ids o n)) (joined_columns (encode_ranges little children o n))
    ≡ behind_node (encode_range little (unions t ids None children) o n)
sparse_whole little t ids children o n =
    let below = joined_columns (encode_ranges little children o n) in
    let same = id_bytes little (cut_list ids o n) in
    λ i. record { nodes = below.nodes; buffers = same i ∷ below.buffers }

dense_whole : (little : Bool) (t : DataType) (ids places : List ℤ) (children : Columns) (o n : ℕ)
    → both (both (ids_of little (cut_list ids o n)) (places_in little (cut_list places o n))) (joined_columns (encode_wholes little children))
    ≡ behind_node (encode_range little (unions t ids (Some places) children) o n)
dense_whole little t ids places children o n =
    let below = joined_columns (encode_wholes little children) in
    let same = id_bytes little (cut_list ids o n) in
    let at = place_bytes little (cut_list places o n) in
    λ i. record { nodes = below.nodes; buffers = same i ∷ at i ∷ below.buffers }

-- a dense union's own buffers stand there
pub dense_begun : (a : Column) (p : Body) (q s : Parts) (little : Bool) (t : DataType) (ids places some_ids some_places : List ℤ)
    (children : Columns) (o n : ℕ) → a ≡ unions t ids (Some places) children → some_ids ≡ cut_list ids o n → some_places ≡ cut_list places o n
    → q ≡ with_column (parts_of p) (ids_of little some_ids) → s ≡ with_column q (places_in little some_places)
    → IsBegun (parts_of p) s (joined_columns (encode_parts little (column_children a) All)) (behind_node (encode_range little a o n))
dense_begun a p q s little t ids places some_ids some_places children o n is is_ids is_places first second =
    let own = both (ids_of little some_ids) (places_in little some_places) in
    let whole : both own (joined_columns (encode_wholes little children))
    ≡ behind_node (encode_range little (unions t ids (Some places) children) o n) =
    (λ i. both (both (ids_of little (is_ids i)) (places_in little (is_places i))) (joined_columns (encode_wholes little children)))
    ∙ dense_whole little t ids places children o n in
    subst (λ (b : Column). IsBegun (parts_of p) s (joined_columns (encode_wholes little (column_children b)))
    (behind_node (encode_range little b o n)))
    (sym is)
    (stands_alone p s own (joined_columns (encode_wholes little children))
    (behind_node (encode_range little (unions t ids (Some places) children) o n))
    (second ∙ ap (λ (parts : Parts). with_column parts (places_in little some_places)) first
    ∙ with_both p.nodes.items p.buffers.items p.bytes.items p.offset (ids_of little some_ids) (places_in little some_places)) whole)

-- and a sparse one's
pub sparse_begun : (a : Column) (p : Body) (q : Parts) (little : Bool) (t : DataType) (ids some_ids : List ℤ) (children : Columns) (o n : ℕ)
    → a ≡ unions t ids None children → some_ids ≡ cut_list ids o n → q ≡ with_column (parts_of p) (ids_of little some_ids)
    → IsBegun (parts_of p) q (joined_columns (encode_parts little (column_children a) (Range o n))) (behind_node (encode_range little a o n))
sparse_begun a p q little t ids some_ids children o n is is_ids first =
    let whole : both (ids_of little some_ids) (joined_columns (encode_ranges little children o n))
    ≡ behind_node (encode_range little (unions t ids None children) o n) =
    ap (λ (part : List ℤ). both (ids_of little part) (joined_columns (encode_ranges little children o n))) is_ids
    ∙ sparse_whole little t ids children o n in
    subst (λ (b : Column). IsBegun (parts_of p) q (joined_columns (encode_ranges little (column_children b) o n))
    (behind_node (encode_range little b o n)))
    (sym is)
    (stands_alone p q (ids_of little some_ids) (joined_columns (encode_ranges little children o n))
    (behind_node (encode_range little (unions t ids None children) o n)) first whole)

-- ---- refusals

-- the ids are refused
ids_first : (e : Error) (p : Body) (s : Parts) (little : Bool) (t : DataType) (ids : List ℤ) (places : Option (List ℤ)) (children : Columns)
    (o n : ℕ) → Adds (Err e) (parts_of p) s (ids_of little (cut_list ids o n))
    → Adds (Err e) (parts_of p) s (behind_node (encode_range little (unions t ids places children) o n))
ids_first e p s little t ids None children o n refused =
    refused_first e p s (ids_of little (cut_list ids o n)) (joined_columns (encode_ranges little children o n)) _ refused
    (sparse_whole little t ids children o n)
ids_first e p s little t ids (Some places) children o n refused =
    let first = ids_of little (cut_list ids o n) in
    let second = places_in little (cut_list places o n) in
    let below = joined_columns (encode_wholes little children) in
    refused_first e p s first (both second below) _ refused (sym (both_assoc first second below) ∙ dense_whole little t ids places children o n)

pub ids_refused : (a : Column) (e : Error) (p : Body) (s : Parts) (little : Bool) (t : DataType) (ids some_ids : List ℤ)
    (places : Option (List ℤ)) (children : Columns) (o n : ℕ) → a ≡ unions t ids places children → some_ids ≡ cut_list ids o n
    → Adds (Err e) (parts_of p) s (ids_of little some_ids) → Adds (Err e) (parts_of p) s (behind_node (encode_range little a o n))
ids_refused a e p s little t ids some_ids places children o n is is_ids refused =
    subst (λ (b : Column). Adds (Err e) (parts_of p) s (behind_node (encode_range little b o n))) (sym is)
    (ids_first e p s little t ids places children o n
    (subst (λ (part : List ℤ). Adds (Err e) (parts_of p) s (ids_of little part)) is_ids refused))

-- the places are refused
pub places_refused : (a : Column) (e : Error) (p : Body) (q s : Parts) (little : Bool) (t : DataType) (ids places some_ids some_places : List ℤ)
    (children : Columns) (o n : ℕ) → a ≡ unions t ids (Some places) children → some_ids ≡ cut_list ids o n → some_places ≡ cut_list places o n
    → q ≡ with_column (parts_of p) (ids_of little some_ids) → Adds (Err e) q s (places_in little some_places)
    → Adds (Err e) (parts_of p) s (behind_node (encode_range little a o n))
places_refused a e p q s little t ids places some_ids some_places children o n is is_ids is_places begun refused =
    let first = ids_of little some_ids in
    let second = places_in little some_places in
    let below = joined_columns (encode_wholes little children) in
    let whole : both (both first second) below ≡ behind_node (encode_range little (unions t ids (Some places) children) o n) =
    (λ i. both (both (ids_of little (is_ids i)) (places_in little (is_places i))) below) ∙ dense_whole little t ids places children o n in
    subst (λ (b : Column). Adds (Err e) (parts_of p) s (behind_node (encode_range little b o n))) (sym is)
    (refused_first e p s (both first second) below _ (added_then (Err e) p q s first second (both first second) begun refused refl) whole)

-- ---- the node

node_first : (little : Bool) (t : DataType) (ids : List ℤ) (places : Option (List ℤ)) (children : Columns) (o n : ℕ)
    → both (of_node n 0) (behind_node (encode_range little (unions t ids places children) o n))
    ≡ encode_range little (unions t ids places children) o n
node_first little t ids None children o n = refl
node_first little t ids (Some places) children o n = refl

pub union_node : (a : Column) (little : Bool) (t : DataType) (ids : List ℤ) (places : Option (List ℤ)) (children : Columns) (o n : ℕ)
    → a ≡ unions t ids places children → both (of_node n 0) (behind_node (encode_range little a o n)) ≡ encode_range little a o n
union_node a little t ids places children o n is =
    subst (λ (b : Column). both (of_node n 0) (behind_node (encode_range little b o n)) ≡ encode_range little b o n) (sym is)
    (node_first little t ids places children o n)

-- ---- slots

pub union_ids : (a : Column) (t : DataType) (ids : List ℤ) (places : Option (List ℤ)) (children : Columns) → a ≡ unions t ids places children
    → column_len a ≡ length ids
union_ids a t ids places children is = ap column_len is

-- as many places as slots
pub union_places : (a : Column) (t : DataType) (ids places : List ℤ) (children : Columns) → a ≡ unions t ids (Some places) children
    → is_sound a ≡ true → length places ≡ column_len a
union_places a t ids places children is sound =
    dense_places t ids places children (sym (ap is_sound is) ∙ sound) ∙ sym (ap column_len is)

pub union_range : (a : Column) (t : DataType) (ids : List ℤ) (children : Columns) (o n : ℕ) → a ≡ unions t ids None children
    → is_sound a ≡ true → o + n ≤ column_len a → HaveRange (column_children a) o n
union_range a t ids children o n is sound within =
    subst (λ (cs : Columns). HaveRange cs o n) (sym (ap column_children is))
    (sparse_range t ids children o n (sym (ap is_sound is) ∙ sound) (omega (arith, within, ap column_len is)))
