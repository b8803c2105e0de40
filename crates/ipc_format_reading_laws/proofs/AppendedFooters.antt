-- The footer of a file to which batches were appended reads back: the file's own schema, its blocks, and the new ones.
use Rattle.std.proofs.Common.{◌≡◌, ◌∙◌, ℕ, ◌-◌, ◌<◌, ◌≤◌, ◌^◌, true, List, [], ◌++◌, length, take, replicate, refl, sym, ap, subst, arith}
use Rattle.std.proofs.Common.{append_assoc, nat_le}
use Rattle.std.specs.Prelude.{Some}
use Rattle.std.specs.Int.{w32, to_le_bytes}
use Rattle.std.proofs.lemmas.Bool.{ltb-true}
use Rattle.ipc_format_laws.specs.flatbuffers.FlatBuffers.{TablePlace}
use Rattle.ipc_format_laws.specs.grammar.Ids.{all_are_ids}
use Rattle.ipc_format_laws.specs.grammar.Writable.{is_writable, normalised}
use Rattle.ipc_format_laws.specs.grammar.Files.{file_mark, is_mark, stands_at, Footer, footer_bytes_in, footer_schema, footer_in}
use Rattle.ipc_format_laws.specs.grammar.WrittenMessages.{end_mark}
use Rattle.ipc_format_laws.specs.grammar.WrittenStreams.{Batch, messages_after, bytes_of_messages}
use Rattle.ipc_format_laws.specs.grammar.WrittenFiles.{batch_blocks, is_footer, file_end}
use Rattle.ipc_format_laws.specs.grammar.AppendedFiles.{Base, base_end, base_start, with_base, appended_footer, appended_messages, padding_to}
use Rattle.ipc_format_laws.specs.grammar.AppendedFiles.{appended_bytes}
use Rattle.ipc_format_laws.specs.Footers.{FitBlocks, file_with, HasFooter}
use Rattle.ipc_format_laws.specs.Schemas.{HasTexts, ids_read}
use Rattle.ipc_format_laws.proofs.Firsts.{came_of}
use Rattle.ipc_format_laws.proofs.Footers.{footers_read_back}
use Rattle.ipc_format_laws.proofs.Places.{Stands}
use Rattle.ipc_format_laws.proofs.Room.{fit_ids_list}
use Rattle.ipc_format_laws.proofs.StreamReaders.{passed}
use Rattle.ipc_format_reading_laws.proofs.AppendedBytes.{window_same, mark_stands, footer_behind, footer_same}

-- ---- the mark at the beginning

begins_with_mark : (bytes : List ℕ) (footer : Footer) → footer_in bytes ≡ Some footer → stands_at file_mark bytes 0 ≡ true
unfolding footer_in footer_schema footer_bytes_in
begins_with_mark bytes footer e =
    let schema = came_of {A = List ℕ × TablePlace} (footer_schema bytes) _ footer e in
    let found = came_of {A = List ℕ} (footer_bytes_in bytes) _ schema.0 schema.1 in
    let long = passed (nat_le 10 (length bytes)) _ found.0 found.1 in
    (passed (stands_at file_mark bytes 0) _ found.0 long.1).0

-- ---- the bytes of the new file

-- what stands behind the file's last message
abbrev pub behind_base : Base → List ℕ → List Batch → List ℕ
behind_base base bytes batches = replicate (base_start base - base_end base) 0 ++ bytes_of_messages (messages_after base.told batches) ++ end_mark
    ++ padding_to (length bytes) (appended_messages base bytes batches) (file_end (appended_footer base batches))
    ++ file_end (appended_footer base batches)

-- the new file begins with the old one up to the end of its last message
pub begins_with_base : (base : Base) (bytes : List ℕ) (batches : List Batch)
    → appended_bytes base bytes batches ≡ take (base_end base) bytes ++ behind_base base bytes batches
unfolding appended_bytes appended_messages
begins_with_base base bytes batches =
    let p = take (base_end base) bytes in
    let z = replicate (base_start base - base_end base) 0 in
    let m = bytes_of_messages (messages_after base.told batches) in
    let q = padding_to (length bytes) (appended_messages base bytes batches) (file_end (appended_footer base batches)) in
    let b = file_end (appended_footer base batches) in
    ap (λ (x : List ℕ). x ++ end_mark ++ q ++ b) (append_assoc p z m)
    ∙ ap (λ (x : List ℕ). x ++ q ++ b) (append_assoc p (z ++ m) end_mark)
    ∙ ap (λ (x : List ℕ). x ++ b) (append_assoc p (z ++ m ++ end_mark) q)
    ∙ append_assoc p (z ++ m ++ end_mark ++ q) b

mark_before : (base : Base) (bytes : List ℕ) (batches : List Batch) (footer : Footer) → footer_in bytes ≡ Some footer
    → base_end base ≤ length bytes → 6 ≤ base_end base → stands_at file_mark (appended_bytes base bytes batches) 0 ≡ true
mark_before base bytes batches footer e inside long =
    ap (λ (b : List ℕ). stands_at file_mark b 0) (begins_with_base base bytes batches)
    ∙ ap (is_mark file_mark) (window_same bytes (behind_base base bytes batches) (base_end base) 0 6 inside (omega (arith, long)))
    ∙ begins_with_mark bytes footer e

-- the footer's bytes at the end
ends_with_footer : (base : Base) (bytes : List ℕ) (batches : List Batch) → length (appended_footer base batches) < 2 ^ 31
    → stands_at file_mark (appended_bytes base bytes batches) 0 ≡ true
    → footer_bytes_in (appended_bytes base bytes batches) ≡ Some (appended_footer base batches)
unfolding appended_bytes
ends_with_footer base bytes batches short begins =
    let footer = appended_footer base batches in
    let size = to_le_bytes w32 (length footer) in
    let first = appended_messages base bytes batches
    ++ padding_to (length bytes) (appended_messages base bytes batches) (file_end footer) in
    let same : appended_bytes base bytes batches ≡ first ++ footer ++ size ++ file_mark =
    sym (append_assoc first (footer ++ size) file_mark) ∙ ap (λ (x : List ℕ). x ++ file_mark) (sym (append_assoc first footer size)) in
    ap footer_bytes_in same
    ∙ footer_behind first footer short (subst (λ (b : List ℕ). stands_at file_mark b 0 ≡ true) same begins)

-- a footer behind a file's mark alone
alone : (footer : List ℕ) → length footer < 2 ^ 31 → footer_bytes_in (file_with [] footer) ≡ Some footer
alone footer short =
    let size = to_le_bytes w32 (length footer) in
    let s : Stands (file_with [] footer) 0 file_mark =
    record { before = []; after = replicate 2 0 ++ (footer ++ size ++ file_mark); whole = refl; at = refl } in
    footer_behind (file_mark ++ replicate 2 0 ++ []) footer short (mark_stands s)

-- ---- the footer

pub appended_footers : (base : Base) (bytes : List ℕ) (batches : List Batch) (footer : Footer) → footer_in bytes ≡ Some footer
    → base_end base ≤ length bytes → 6 ≤ base_end base → is_writable base.found.schema ≡ true → HasTexts base.found.schema
    → all_are_ids base.found.ids ≡ true
    → FitBlocks (with_base base (batch_blocks (base_start base) base.told batches)).dictionaries
    → FitBlocks (with_base base (batch_blocks (base_start base) base.told batches)).record_batches
    → is_footer (appended_footer base batches) ≡ true
    → HasFooter (appended_bytes base bytes batches) (appended_footer base batches) (normalised base.found.schema)
    (ids_read base.found.schema base.found.ids) (with_base base (batch_blocks (base_start base) base.told batches))
unfolding appended_footer
appended_footers base bytes batches footer e inside long writable texts its_ids fit_dictionaries fit_batches is =
    let its = appended_footer base batches in
    let new = appended_bytes base bytes batches in
    let short : length its < 2 ^ 31 = ltb-true (length its) (2 ^ 31) is in
    let whole = footers_read_back base.found.schema base.found.ids (with_base base (batch_blocks (base_start base) base.told batches)) []
    writable texts (fit_ids_list base.found.ids its_ids) fit_dictionaries fit_batches short in
    let here : footer_bytes_in new ≡ Some its = ends_with_footer base bytes batches short (mark_before base bytes batches footer e inside long) in
    record {
      schema_at = whole.schema_at;
      found = footer_same new (file_with [] its) (here ∙ sym (alone its short)) ∙ whole.found;
      version = whole.version;
      its_schema = whole.its_schema;
    }
