-- What ranges of byte strings of one size are written as.
use Rattle.std.proofs.Common.{◌≡◌, ◌∙◌, ℕ, ◌+◌, ◌*◌, ◌/◌, ◌≤◌, Bool, List, [], ◌∷◌, length, refl, sym, ap, arith}
use Rattle.std.specs.Prelude.{Option, slice_range}
use Rattle.ipc_format_column_reading.specs.column_bytes.Bodies.{both, of_buffers, of_slots}
use Rattle.ipc_format_column_reading.specs.column_bytes.columnar_memory.declared.DataType.{DataType}
use Rattle.ipc_format_column_reading.specs.column_bytes.columns.StoredColumns.{Column, flat, fixed_bytes, column_len, cut_mask}
use Rattle.ipc_format_column_reading.specs.column_bytes.grammar.StoredEncoding.{encode_range}
use Rattle.ipc_format_column_reading.proofs.bytes_lemmas.FlatRanges.{flat_range}
use Rattle.ipc_format_column_writing.proofs.Within.{pieces_within}

-- the bytes of some of the strings are within all bytes
pub fixed_within : (column : Column) (t : DataType) (mask : Option (List Bool)) (bytes seen : List ℕ) (w size o n : ℕ)
    → column ≡ flat t mask (fixed_bytes w bytes) → seen ≡ bytes → size ≡ w → o + n ≤ column_len column
    → size * o + size * n ≤ length seen
fixed_within column t mask bytes seen w size o n is same is_size within =
    let count : column_len column ≡ length bytes / w = ap column_len is in
    let all : w * o + w * n ≤ length bytes = pieces_within w o n (length bytes) (omega (arith, count, within)) in
    let first : size * o ≡ w * o = ap (λ (k : ℕ). k * o) is_size in
    let rest : size * n ≡ w * n = ap (λ (k : ℕ). k * n) is_size in
    omega (arith, all, first, rest, ap (λ (xs : List ℕ). length xs) same)

-- the node and the mask, and these bytes
pub fixed_range : (little : Bool) (column : Column) (t : DataType) (mask copied : Option (List Bool)) (bytes seen part : List ℕ) (w size o n : ℕ)
    → column ≡ flat t mask (fixed_bytes w bytes) → copied ≡ mask → seen ≡ bytes → size ≡ w
    → part ≡ slice_range seen (size * o) (size * o + size * n)
    → both (of_slots n (cut_mask copied o n)) (of_buffers (part ∷ [])) ≡ encode_range little column o n
fixed_range little column t mask copied bytes seen part w size o n is is_mask same is_size is_part =
    let at : part ≡ slice_range bytes (w * o) (w * o + w * n) =
    is_part ∙ (λ i. slice_range (same i) (is_size i * o) (is_size i * o + is_size i * n)) in
    (λ i. both (of_slots n (cut_mask (is_mask i) o n)) (of_buffers (at i ∷ [])))
    ∙ flat_range little t mask (fixed_bytes w bytes) o n _ refl
    ∙ ap (λ (c : Column). encode_range little c o n) (sym is)
