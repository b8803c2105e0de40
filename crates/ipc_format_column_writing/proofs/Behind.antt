-- What structs and unions have behind their nodes.
use Rattle.std.proofs.Common.{◌≡◌, ◌∙◌, ℕ, Bool, true, List, [], ◌∷◌, sym, ap, subst, arith}
use Rattle.std.specs.Prelude.{Option}
use Rattle.nested_arrays_core.specs.Parts.{column_children}
use Rattle.nested_arrays_core.specs.Places.{HaveRange}
use Rattle.ipc_format_column_reading.specs.column_bytes.Bodies.{both, of_buffers}
use Rattle.ipc_format_column_reading.specs.column_bytes.WholeColumns.{behind_node}
use Rattle.ipc_format_column_reading.specs.column_bytes.columnar_memory.declared.DataType.{DataType}
use Rattle.ipc_format_column_reading.specs.column_bytes.columns.SoundColumns.{is_sound}
use Rattle.ipc_format_column_reading.specs.column_bytes.columns.StoredColumns.{Column, Columns, records, column_len, cut_mask}
use Rattle.ipc_format_column_reading.specs.column_bytes.grammar.Encoding.{joined_columns}
use Rattle.ipc_format_column_reading.specs.column_bytes.grammar.StoredEncoding.{encode_range, encode_ranges, encode_stored, mask_bytes}
use Rattle.ipc_format_column_writing.proofs.Within.{named_fields}

-- a struct's mask and fields
pub behind_records : (little : Bool) (a : Column) (t : DataType) (mask copied : Option (List Bool)) (len count : ℕ) (children : Columns)
    → a ≡ records t mask len children → copied ≡ mask → count ≡ column_len a
    → both (of_buffers (mask_bytes (cut_mask copied 0 count) ∷ [])) (joined_columns (encode_ranges little children 0 count))
    ≡ behind_node (encode_stored little a)
behind_records little a t mask copied len count children is same is_count =
    ap (λ (m : Option (List Bool)). both (of_buffers (mask_bytes (cut_mask m 0 count) ∷ []))
    (joined_columns (encode_ranges little children 0 count))) same
    ∙ ap (λ (b : Column). behind_node (encode_range little b 0 count)) (sym is)
    ∙ ap (λ (k : ℕ). behind_node (encode_range little a 0 k)) is_count

-- the fields have all slots
pub all_fields : (a : Column) (t : DataType) (mask : Option (List Bool)) (len count : ℕ) (children : Columns)
    → a ≡ records t mask len children → is_sound a ≡ true → count ≡ column_len a → HaveRange children 0 count
all_fields a t mask len count children is sound is_count =
    subst (λ (cs : Columns). HaveRange cs 0 count) (ap column_children is)
    (named_fields a t mask len children 0 count is sound (omega (arith, is_count)))
