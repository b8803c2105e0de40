-- A cut of a stored column is written as the range of slots that it is.
use Rattle.std.proofs.Common.{◌≡◌, ℕ, ◌+◌, ◌-◌, ◌*◌, ◌≤◌, Bool, true, List, [], ◌∷◌, refl, sym, ap, ◌∙◌, arith}
use Rattle.std.specs.Prelude.{Option, Some, None, slice_index}
use Rattle.std.specs.Int.{w8, w32}
use Rattle.std.proofs.Math.Nat.{mul-add, mul-le-mul_left}
use Rattle.ipc_format_streams.specs.columns.SoundColumns.{is_sound}
use Rattle.ipc_format_streams.specs.columns.StoredColumns.{Stored, bits, numbers, pairs, triples, texts, byte_strings, fixed_bytes, Column, Columns}
use Rattle.ipc_format_streams.specs.columns.StoredColumns.{nulls, flat, lists, fixed_lists, records, unions, dictionary, no_column, column_then}
use Rattle.ipc_format_streams.specs.columns.StoredColumns.{cut_list, cut_mask, cut_stored, column_len, cut, cut_each, type_layer}
use Rattle.ipc_format_streams.proofs.columns_lemmas.Windows.{cut_list-cut_list}
use Rattle.ipc_format_streams.proofs.columns_lemmas.CutLengths.{column_len-cut}
use Rattle.ipc_format_streams.specs.grammar.Encoding.{column_over}
use Rattle.ipc_format_streams.specs.grammar.StoredEncoding.{encode_range, encode_ranges, encode_wholes, encode_stored, integer_bytes, key_bytes}
use Rattle.ipc_format_streams.specs.grammar.StoredEncoding.{last_offset, mask_bytes, moved_bytes, node_over, offset_width, stored_buffers}

mask_twice : (mask : Option (List Bool)) (o n p q : ℕ) → p + q ≤ n → cut_mask (cut_mask mask o n) p q ≡ cut_mask mask (o + p) q
mask_twice None o n p q h = refl
mask_twice (Some marks) o n p q h = ap Some (cut_list-cut_list marks o n p q h)

pieces : (size n p q : ℕ) → p + q ≤ n → size * p + size * q ≤ size * n
pieces size n p q h = omega (arith, mul-add size p q, mul-le-mul_left {m = p + q} {n = n} size h)

stored_twice : (stored : Stored) (o n p q : ℕ) → p + q ≤ n → cut_stored (cut_stored stored o n) p q ≡ cut_stored stored (o + p) q
stored_twice (bits values) o n p q h = ap bits (cut_list-cut_list values o n p q h)
stored_twice (numbers kind values) o n p q h = ap (numbers kind) (cut_list-cut_list values o n p q h)
stored_twice (pairs kind values) o n p q h = ap (pairs kind) (cut_list-cut_list values o n p q h)
stored_twice (triples kind values) o n p q h = ap (triples kind) (cut_list-cut_list values o n p q h)
stored_twice (texts offsets content) o n p q h =
    ap (λ (part : List ℕ). texts part content) (cut_list-cut_list offsets o (n + 1) p (q + 1) (omega arith))
stored_twice (byte_strings offsets content) o n p q h =
    ap (λ (part : List ℕ). byte_strings part content) (cut_list-cut_list offsets o (n + 1) p (q + 1) (omega arith))
stored_twice (fixed_bytes size content) o n p q h =
    ap (fixed_bytes size) (cut_list-cut_list content (size * o) (size * n) (size * p) (size * q) (pieces size n p q h)
    ∙ ap (λ (k : ℕ). cut_list content k (size * q)) (sym (mul-add size o p)))

mutual
  -- a range of a cut is a range of the whole
  pub range_of_cut : (little : Bool) (c : Column) (o n p q : ℕ) → p + q ≤ n → encode_range little (cut c o n) p q ≡ encode_range little c (o + p) q
  range_of_cut little (nulls data_type count) o n p q h = refl
  range_of_cut little (flat data_type mask stored) o n p q h =
      let marks = mask_twice mask o n p q h in
      let values = stored_twice stored o n p q h in
      λ j. column_over (node_over q (marks j)) (mask_bytes (marks j) ∷ stored_buffers little (offset_width (type_layer data_type)) (values j)) []
  range_of_cut little (lists data_type mask offsets child) o n p q h =
      let marks = mask_twice mask o n p q h in
      let taken = cut_list-cut_list offsets o (n + 1) p (q + 1) (omega arith) in
      λ j. column_over (node_over q (marks j)) (mask_bytes (marks j) ∷ moved_bytes little (offset_width (type_layer data_type)) (taken j) ∷ [])
      (encode_range little child (slice_index (taken j) 0) (last_offset (taken j) - slice_index (taken j) 0) ∷ [])
  range_of_cut little (fixed_lists data_type mask size child) o n p q h =
      let marks = mask_twice mask o n p q h in
      let below : encode_range little (cut child (size * o) (size * n)) (size * p) (size * q) ≡ encode_range little child (size * (o + p)) (size *
      q) =
      range_of_cut little child (size * o) (size * n) (size * p) (size * q) (pieces size n p q h)
      ∙ ap (λ (k : ℕ). encode_range little child k (size * q)) (sym (mul-add size o p)) in
      λ j. column_over (node_over q (marks j)) (mask_bytes (marks j) ∷ []) (below j ∷ [])
  range_of_cut little (records data_type mask count children) o n p q h =
      let marks = mask_twice mask o n p q h in
      let below = ranges_of_cuts little children o n p q h in
      λ j. column_over (node_over q (marks j)) (mask_bytes (marks j) ∷ []) (below j)
  range_of_cut little (unions data_type ids None children) o n p q h =
      let types = cut_list-cut_list ids o n p q h in
      let below = ranges_of_cuts little children o n p q h in
      λ j. column_over (q, 0) (integer_bytes little w8 (types j) ∷ []) (below j)
  range_of_cut little (unions data_type ids (Some offsets) children) o n p q h =
      let types = cut_list-cut_list ids o n p q h in
      let places = cut_list-cut_list offsets o n p q h in
      λ j. column_over (q, 0) (integer_bytes little w8 (types j) ∷ integer_bytes little w32 (places j) ∷ []) (encode_wholes little children)
  range_of_cut little (dictionary data_type mask keys values) o n p q h =
      let marks = mask_twice mask o n p q h in
      let taken = cut_list-cut_list keys o n p q h in
      λ j. column_over (node_over q (marks j)) (mask_bytes (marks j) ∷ key_bytes little (type_layer data_type) (taken j) ∷ []) []

  ranges_of_cuts : (little : Bool) (cs : Columns) (o n p q : ℕ) → p + q ≤ n
      → encode_ranges little (cut_each cs o n) p q ≡ encode_ranges little cs (o + p) q
  ranges_of_cuts little no_column o n p q h = refl
  ranges_of_cuts little (column_then c cs) o n p q h = λ j. range_of_cut little c o n p q h j ∷ ranges_of_cuts little cs o n p q h j

-- a cut is written as the range that it is
pub cut_encoded : (little : Bool) (c : Column) (o n : ℕ) → is_sound c ≡ true → o + n ≤ column_len c
    → encode_stored little (cut c o n) ≡ encode_range little c o n
cut_encoded little c o n sound within =
    let first : o + 0 ≡ o = omega arith in
    ap (encode_range little (cut c o n) 0) (column_len-cut c o n sound within) ∙ range_of_cut little c o n 0 n (omega arith)
    ∙ ap (λ (k : ℕ). encode_range little c k n) first
