-- Dictionaries that are found one behind the other.
use Rattle.std.proofs.Common.{◌≡◌, ◌∙◌, ◌≤◌, ◌<◌, ℕ, zero, suc, List, [], ◌∷◌, ◌++◌, map, length, get_or, refl, sym, ap, append_assoc, arith}
use Rattle.std.specs.Prelude.{ℤ, pos, Option, Some, None, unwrap_or}
use Rattle.std.proofs.lemmas.List.{append-nil, map-append}
use Rattle.ipc_format_batch_reading.specs.columns.StoredColumns.{Column, column_size, columns_size, in_columns}
use Rattle.ipc_format_batch_reading.specs.grammar.Columns.{first_ids, other_ids}
use Rattle.ipc_format_batch_reading.specs.grammar.GivenDictionaries.{Given, given_each, given_stored, id_or_0}
use Rattle.ipc_format_batch_reading.specs.grammar.Schemas.{IdsList}
use Rattle.ipc_format_batch_reading.specs.grammar.WrittenStreams.{given_of_stored}
use Rattle.ipc_format_chunk_writing.specs.Found.{given_in}
use Rattle.ipc_format_chunk_writing.specs.Tracking.{given_of}
use Rattle.ipc_format_chunk_writing.specs.declared.found.Found.{Found}

-- none
pub found_none : (old new : List Found) (none : List Given) → new ≡ old → none ≡ [] → map given_in new ≡ map given_in old ++ none
found_none old new none same empty =
    ap (map given_in) same ∙ sym (append-nil (map given_in old)) ∙ ap (λ (more : List Given). map given_in old ++ more) (sym empty)

-- the id of a dictionary
pub id_is : (own : Option ℤ) → unwrap_or own (pos 0) ≡ id_or_0 own
id_is None = refl
id_is (Some id) = refl

-- a dictionary behind those within its values
pub found_last : (old mid new : List Found) (a : List Given) (last : Found) (id : ℤ) (values : Column) (whole : List Given)
    → map given_in mid ≡ map given_in old ++ a → new ≡ mid ++ last ∷ [] → last.id ≡ id → last.values.now ≡ values
    → a ++ given_of id values ∷ [] ≡ whole → map given_in new ≡ map given_in old ++ whole
found_last old mid new a last id values whole first pushed ids stands all =
    ap (map given_in) pushed ∙ map-append given_in mid (last ∷ [])
    ∙ (λ i. first i ++ given_of (ids i) (stands i) ∷ [])
    ∙ append_assoc (map given_in old) a (given_of id values ∷ [])
    ∙ ap (λ (more : List Given). map given_in old ++ more) all

-- of several columns
pub each_is : (below : IdsList) (columns : List Column) → given_each below (in_columns columns) ≡ given_of_stored below columns
each_is below [] = refl
each_is below (column ∷ columns) =
    ap (λ (more : List Given). given_stored (first_ids below) column ++ more) (each_is (other_ids below) columns)

-- one of several columns is made of no more columns than all of them
pub one_size : (columns : List Column) (k : ℕ) (d : Column) → k < length columns
    → column_size (get_or columns k d) ≤ columns_size (in_columns columns)
one_size [] k d small = absurd (omega arith)
one_size (column ∷ columns) zero d small = omega arith
one_size (column ∷ columns) (suc k) d small = omega (arith, one_size columns k d (omega arith))
