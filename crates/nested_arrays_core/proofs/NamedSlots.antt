-- The slots of dictionaries: those of the values that valid keys name.
use Rattle.std.proofs.Common.{◌≡◌, ◌∙◌, ◌<◌, ℕ, ℤ, List, Bool, true, false, refl, sym, ap, arith, length, subst}
use Rattle.std.specs.Prelude.{◌&&◌, ◌||◌, not, pos, Option, None, Some, slice_index_or, nat_lt, int_le, if◌then◌else◌, unwrap_or}
use Rattle.std.proofs.lemmas.Bool.{and_parts, false≢true, ltb-true}
use Rattle.nested_arrays_access.specs.columnar_memory.declared.DataType.{DataType}
use Rattle.nested_arrays_access.proofs.columns_lemmas.Conditions.{parts_of_4, holds_at}
use Rattle.nested_arrays_access.specs.columns.Slots.{null}
use Rattle.nested_arrays_access.specs.columns.SoundColumns.{has_value_at, has_value_type, holds_below, is_sound, mask_fits}
use Rattle.nested_arrays_access.specs.columns.StoredColumns.{Column, dictionary, column_len, column_type, is_valid_at, place_of, slot_at, type_layer}
use Rattle.nested_arrays_access.proofs.parts_lemmas.SameForms.{null_slot, valid_slot}
use Rattle.nested_arrays_access.specs.flat.ColumnMasks.{column_mask}
use Rattle.nested_arrays_core.specs.Dictionaries.{key_at, raw_key, values_of}

-- a mark that is not unset
pub set_from : (b : Bool) → not b ≡ false → b ≡ true
set_from true h = refl
set_from false h = absurd (false≢true (sym h))

-- a slot of a dictionary is that of the value at the place that its key names
pub record Names (c : Column) (i place : ℕ) : Type 0 where
  pub shown : slot_at c i ≡ slot_at (values_of c) place
  pub within : place < column_len (values_of c)

no_key : (place : ℕ) → None ≡ Some place → ⊥
no_key place is = cc

key_set : (b : Bool) (found place : ℕ) → (if b then Some found else None) ≡ Some place → (b ≡ true) × (found ≡ place)
key_set true found place is = (refl, ap (λ (o : Option ℕ). unwrap_or o found) is)
key_set false found place is = absurd (no_key place is)

key_unset : (b : Bool) (found : ℕ) → (if b then Some found else None) ≡ None → b ≡ false
key_unset true found is = absurd (no_key found (sym is))
key_unset false found is = refl

seen : (b c : Bool) → b ≡ true → (not b || c) ≡ true → c ≡ true
seen true c is h = h
seen false c is h = absurd (false≢true is)

named_there : (t : DataType) (mask : Option (List Bool)) (keys : List ℤ) (values : Column) (i place : ℕ)
    → is_sound (dictionary t mask keys values) ≡ true → i < length keys → key_at (dictionary t mask keys values) i ≡ Some place
    → Names (dictionary t mask keys values) i place
named_there t mask keys values i place sound small is =
    let found = key_set (is_valid_at mask i) (place_of (slice_index_or keys i (pos 0))) place is in
    let parts = parts_of_4 (has_value_type (type_layer t) keys (column_type values)) (mask_fits mask (length keys))
    (holds_below (length keys) (has_value_at mask keys (column_len values))) (is_sound values) sound in
    let key = slice_index_or keys i (pos 0) in
    let held = seen (is_valid_at mask i) (int_le (pos 0) key && nat_lt (place_of key) (column_len values)) found.0
    (holds_at (length keys) (has_value_at mask keys (column_len values)) i parts.2 small) in
    let below = ltb-true (place_of key) (column_len values) (and_parts (int_le (pos 0) key) (nat_lt (place_of key) (column_len values)) held).1 in
    record {
      shown = valid_slot (dictionary t mask keys values) i found.0 ∙ ap (slot_at values) found.1;
      within = omega (arith, below, found.1);
    }

-- the value that the key of a slot names
pub named_by : (c : Column) (t : DataType) (mask : Option (List Bool)) (keys : List ℤ) (values : Column) (i place : ℕ)
    → dictionary t mask keys values ≡ c → is_sound c ≡ true → i < column_len c → key_at c i ≡ Some place → Names c i place
named_by c t mask keys values i place is sound small named =
    let size : length keys ≡ column_len c = ap column_len is in
    subst (λ (d : Column). Names d i place) is
    (named_there t mask keys values i place (ap is_sound is ∙ sound) (omega (arith, small, size)) (ap (λ (d : Column). key_at d i) is ∙ named))

-- a slot without a key is null
pub nothing_named : (c : Column) (i : ℕ) → key_at c i ≡ None → slot_at c i ≡ null
nothing_named c i is = null_slot c i (key_unset (is_valid_at (column_mask c) i) (place_of (raw_key c i)) is)
