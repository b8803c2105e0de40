-- The slots of a cut, and a cut of a cut.
use Rattle.std.proofs.Common.{◌≡◌, ℕ, ◌+◌, ◌*◌, ◌≤◌, List, refl, sym, ap, ◌∙◌, arith, true}
use Rattle.std.specs.Prelude.{Bool, Option, Some, None, slice_range}
use Rattle.std.proofs.Math.Nat.{mul-add, mul-le-mul_left}
use Rattle.nested_arrays_columns.specs.Slots.{window}
use Rattle.nested_arrays_columns.specs.StoredColumns.{Stored, bits, numbers, pairs, triples, texts, byte_strings, fixed_bytes, Column, Columns}
use Rattle.nested_arrays_columns.specs.StoredColumns.{nulls, flat, lists, fixed_lists, records, unions, dictionary, no_column, column_then}
use Rattle.nested_arrays_columns.specs.StoredColumns.{cut_list, cut_mask, cut_stored, column_len, slot_at, slots, cut, cut_each}
use Rattle.nested_arrays_columns.specs.SoundColumns.{is_sound}
use Rattle.nested_arrays_columns.proofs.Windows.{cut_list-cut_list, window_same, cut_list-window}
use Rattle.nested_arrays_columns.proofs.Cuts.{slot_at-cut}
use Rattle.nested_arrays_columns.proofs.CutLengths.{column_len-cut}

-- the slots of a cut are a range of the slots
pub slots-cut : (c : Column) (o n : ℕ) → is_sound c ≡ true → o + n ≤ column_len c → slots (cut c o n) ≡ slice_range (slots c) o (o + n)
slots-cut c o n h within =
    ap (window (slot_at (cut c o n)) 0) (column_len-cut c o n h within)
    ∙ window_same (slot_at (cut c o n)) (slot_at c) 0 o n (λ i small. ap (slot_at (cut c o n)) (omega arith) ∙ slot_at-cut c o n i small)
    ∙ sym (cut_list-window (slot_at c) (column_len c) o n within)

cut_mask-cut_mask : (mask : Option (List Bool)) (o n p q : ℕ) → p + q ≤ n → cut_mask (cut_mask mask o n) p q ≡ cut_mask mask (o + p) q
cut_mask-cut_mask None o n p q h = refl
cut_mask-cut_mask (Some marks) o n p q h = ap Some (cut_list-cut_list marks o n p q h)

-- pieces of one size within pieces
pieces_of_pieces : (size n p q : ℕ) → p + q ≤ n → size * p + size * q ≤ size * n
pieces_of_pieces size n p q h = omega (arith, mul-add size p q, mul-le-mul_left {m = p + q} {n = n} size h)

cut_stored-cut_stored : (stored : Stored) (o n p q : ℕ) → p + q ≤ n → cut_stored (cut_stored stored o n) p q ≡ cut_stored stored (o + p) q
cut_stored-cut_stored (bits values) o n p q h = ap bits (cut_list-cut_list values o n p q h)
cut_stored-cut_stored (numbers kind values) o n p q h = ap (numbers kind) (cut_list-cut_list values o n p q h)
cut_stored-cut_stored (pairs kind values) o n p q h = ap (pairs kind) (cut_list-cut_list values o n p q h)
cut_stored-cut_stored (triples kind values) o n p q h = ap (triples kind) (cut_list-cut_list values o n p q h)
cut_stored-cut_stored (texts offsets content) o n p q h = ap (λ part. texts part content)
    (cut_list-cut_list offsets o (n + 1) p (q + 1) (omega arith))
cut_stored-cut_stored (byte_strings offsets content) o n p q h =
    ap (λ part. byte_strings part content) (cut_list-cut_list offsets o (n + 1) p (q + 1) (omega arith))
cut_stored-cut_stored (fixed_bytes size content) o n p q h =
    ap (fixed_bytes size) (cut_list-cut_list content (size * o) (size * n) (size * p) (size * q) (pieces_of_pieces size n p q h)
    ∙ ap (λ k. cut_list content k (size * q)) (sym (mul-add size o p)))

mutual
  -- a cut of a cut is one cut
  pub cut-cut : (c : Column) (o n p q : ℕ) → p + q ≤ n → cut (cut c o n) p q ≡ cut c (o + p) q
  cut-cut (nulls data_type count) o n p q h = refl
  cut-cut (flat data_type mask stored) o n p q h = λ j. flat data_type (cut_mask-cut_mask mask o n p q h j)
      (cut_stored-cut_stored stored o n p q h j)
  cut-cut (lists data_type mask offsets child) o n p q h = λ j. lists data_type (cut_mask-cut_mask mask o n p q h j)
      (cut_list-cut_list offsets o (n + 1) p (q + 1) (omega arith) j) child
  cut-cut (fixed_lists data_type mask size child) o n p q h =
      let inner : cut (cut child (size * o) (size * n)) (size * p) (size * q) ≡ cut child (size * (o + p)) (size * q) =
      cut-cut child (size * o) (size * n) (size * p) (size * q) (pieces_of_pieces size n p q h)
      ∙ ap (λ k. cut child k (size * q)) (sym (mul-add size o p)) in
      λ j. fixed_lists data_type (cut_mask-cut_mask mask o n p q h j) size (inner j)
  cut-cut (records data_type mask count children) o n p q h =
      λ j. records data_type (cut_mask-cut_mask mask o n p q h j) q (cut_each-cut_each children o n p q h j)
  cut-cut (unions data_type ids None children) o n p q h = λ j. unions data_type (cut_list-cut_list ids o n p q h j) None
      (cut_each-cut_each children o n p q h j)
  cut-cut (unions data_type ids (Some offsets) children) o n p q h =
      λ j. unions data_type (cut_list-cut_list ids o n p q h j) (Some (cut_list-cut_list offsets o n p q h j)) children
  cut-cut (dictionary data_type mask keys values) o n p q h =
      λ j. dictionary data_type (cut_mask-cut_mask mask o n p q h j) (cut_list-cut_list keys o n p q h j) values

  cut_each-cut_each : (cs : Columns) (o n p q : ℕ) → p + q ≤ n → cut_each (cut_each cs o n) p q ≡ cut_each cs (o + p) q
  cut_each-cut_each no_column o n p q h = refl
  cut_each-cut_each (column_then c cs) o n p q h = λ j. column_then (cut-cut c o n p q h j) (cut_each-cut_each cs o n p q h j)
