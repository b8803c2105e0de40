-- The columns of a table's batches are those of its schema: they are as long as one another, and are read as they stand.
use Rattle.std.proofs.Common.{◌≡◌, ◌∙◌, ℕ, zero, suc, ◌<◌, List, [], ◌∷◌, length, map, get_or, refl, sym, ap, subst, Bool, true, false, arith}
use Rattle.std.specs.Prelude.{◌&&◌, ◌==◌}
use Rattle.std.specs.List.{list_all}
use Rattle.std.proofs.lemmas.Bool.{and_parts, and_from, false≢true}
use Rattle.columnar_memory_types.specs.Equality.{same_type, same_type-Decides}
use Rattle.ipc_format.specs.columnar_memory.declared.DataType.{DataType}
use Rattle.ipc_format.specs.columnar_memory.declared.Field.{Field}
use Rattle.ipc_format.specs.columnar_memory.declared.Schema.{Schema}
use Rattle.ipc_format.specs.columns.SoundColumns.{have_types, is_sound}
use Rattle.ipc_format.specs.columns.StoredColumns.{Column, column_len, column_type, in_columns, slots}
use Rattle.ipc_format.specs.Ids.{ids_fit_fields}
use Rattle.ipc_format.specs.Schemas.{IdsList}
use Rattle.ipc_format.specs.Writable.{normalised, normalised_field, normalised_type}
use Rattle.ipc_format.specs.GivenDictionaries.{agree}
use Rattle.ipc_format.specs.WrittenStreams.{are_equal, batch_of_stored, given_of_stored, is_column_of, pass_each}
use Rattle.ipc_format.specs.reading_laws.StoredTables.{read_batches, read_slots}
use Rattle.ipc_format.proofs.DefaultIds.{defaults_fit}
use Rattle.ipc_format.proofs.StoredGivenLists.{Each}
use Rattle.ipc_format.proofs.StoredGivenReady.{are_columns}
use Rattle.ipc_format.proofs.StoredTablesBatches.{IsBatch}
use Rattle.tables_chunks.specs.Batches.{batch_len, is_batch}
use Rattle.tables_chunks.specs.WrittenTables.{table_ids}
use Rattle.tables_chunks.specs.StoredTables.{IsTable}
use Rattle.tables_chunks.proofs.KeptColumns.{slots_kept}
use Rattle.tables_chunks.proofs.WrittenIds.{columns_agree}

-- ---- fields in their one form

head_of : Field → List Field → Field
head_of other [] = other
head_of other (u ∷ us) = u

rest_of : List Field → List Field
rest_of [] = []
rest_of (u ∷ us) = us

first_same : (u v : Field) (us vs : List Field) → u ∷ us ≡ v ∷ vs → u ≡ v
unfolding head_of
first_same u v us vs e = ap (head_of u) e

rest_same : (u v : Field) (us vs : List Field) → u ∷ us ≡ v ∷ vs → us ≡ vs
unfolding rest_of
rest_same u v us vs e = ap rest_of e

-- each has its one form
abbrev pub AreNormal : List Field → Type 0
AreNormal us = map normalised_field us ≡ us

fields_normal : (schema : Schema) → normalised schema ≡ schema → AreNormal schema.fields
unfolding normalised
fields_normal schema e = ap (λ (s : Schema). s.fields) e

-- ---- one column

same_itself : (t : DataType) → same_type t t ≡ true
same_itself t = (same_type-Decides t t).1 refl

is_column : (u : Field) (c : Column) → is_sound c ≡ true → same_type u.data_type (column_type c) ≡ true → is_column_of u c ≡ true
is_column u c sound typed =
    let same : u.data_type ≡ column_type c = (same_type-Decides u.data_type (column_type c)).0 typed in
    and_from (is_sound c) (same_type (normalised_type (column_type c)) (normalised_type u.data_type)) sound
    (ap (λ (t : DataType). same_type (normalised_type t) (normalised_type u.data_type)) (sym same) ∙ same_itself (normalised_type u.data_type))

column_read : (u : Field) (c : Column) → normalised_field u ≡ u → is_sound c ≡ true → same_type u.data_type (column_type c) ≡ true
    → read_slots c ≡ slots c
column_read u c normal sound typed =
    let same : u.data_type ≡ column_type c = (same_type-Decides u.data_type (column_type c)).0 typed in
    slots_kept c sound (subst (λ (t : DataType). normalised_type t ≡ t) same (ap (λ (v : Field). v.data_type) normal))

-- ---- the columns of a batch

abbrev is_as_long : ℕ → Column → Bool
is_as_long n c = is_sound c && (column_len c == n)

all_columns : (us : List Field) (cs : List Column) (n : ℕ) → have_types us (in_columns cs) ≡ true → list_all (is_as_long n) cs ≡ true
    → pass_each is_column_of us cs ≡ true
all_columns [] [] n typed whole = refl
all_columns [] (c ∷ cs) n typed whole = absurd (false≢true typed)
all_columns (u ∷ us) [] n typed whole = absurd (false≢true typed)
all_columns (u ∷ us) (c ∷ cs) n typed whole =
    let types = and_parts (same_type u.data_type (column_type c)) (have_types us (in_columns cs)) typed in
    let wholes = and_parts (is_as_long n c) (list_all (is_as_long n) cs) whole in
    let here = and_parts (is_sound c) (column_len c == n) wholes.0 in
    and_from (is_column_of u c) (pass_each is_column_of us cs) (is_column u c here.0 types.0) (all_columns us cs n types.1 wholes.1)

all_read : (us : List Field) (cs : List Column) (n : ℕ) → AreNormal us → have_types us (in_columns cs) ≡ true → list_all (is_as_long n) cs ≡ true
    → map read_slots cs ≡ map slots cs
all_read [] [] n normal typed whole = refl
all_read [] (c ∷ cs) n normal typed whole = absurd (false≢true typed)
all_read (u ∷ us) [] n normal typed whole = absurd (false≢true typed)
all_read (u ∷ us) (c ∷ cs) n normal typed whole =
    let types = and_parts (same_type u.data_type (column_type c)) (have_types us (in_columns cs)) typed in
    let wholes = and_parts (is_as_long n c) (list_all (is_as_long n) cs) whole in
    let sound = (and_parts (is_sound c) (column_len c == n) wholes.0).0 in
    let first = first_same (normalised_field u) u (map normalised_field us) us normal in
    let here = column_read u c first sound types.0 in
    let others = all_read us cs n (rest_same (normalised_field u) u (map normalised_field us) us normal) types.1 wholes.1 in
    λ j. here j ∷ others j

all_as_long : (cs : List Column) (n : ℕ) → list_all (is_as_long n) cs ≡ true → list_all (λ other. other == n) (map column_len cs) ≡ true
all_as_long [] n whole = refl
all_as_long (c ∷ cs) n whole =
    let wholes = and_parts (is_as_long n c) (list_all (is_as_long n) cs) whole in
    let here = and_parts (is_sound c) (column_len c == n) wholes.0 in
    and_from (column_len c == n) (list_all (λ other. other == n) (map column_len cs)) here.1 (all_as_long cs n wholes.1)

equal_lengths : (cs : List Column) → is_batch cs ≡ true → are_equal (map column_len cs) ≡ true
equal_lengths [] whole = refl
equal_lengths (c ∷ cs) whole =
    all_as_long cs (column_len c) (and_parts (is_as_long (column_len c) c) (list_all (is_as_long (column_len c)) cs) whole).1

-- ---- all batches

abbrev are_typed : List Field → List (List Column) → Bool
are_typed us batches = list_all (λ (cs : List Column). have_types us (in_columns cs)) batches

abbrev are_whole : ℕ → List (List Column) → Bool
are_whole width batches = list_all (λ (cs : List Column). is_batch cs && (length cs == width)) batches

batches_each : (us : List Field) (below : IdsList) (batches : List (List Column)) (width : ℕ) → ids_fit_fields us below ≡ true
    → are_typed us batches ≡ true → are_whole width batches ≡ true → Each (IsBatch us below) batches
batches_each us below [] width fit typed whole = tt
batches_each us below (cs ∷ batches) width fit typed whole =
    let types = and_parts (have_types us (in_columns cs)) (are_typed us batches) typed in
    let wholes = and_parts (is_batch cs && (length cs == width)) (are_whole width batches) whole in
    let batch = (and_parts (is_batch cs) (length cs == width) wholes.0).0 in (
      record { columns = are_columns us below cs (all_columns us cs (batch_len cs) types.0 batch) fit; lengths = equal_lengths cs batch },
      batches_each us below batches width fit types.1 wholes.1,
    )

-- the batches of a table are batches of its schema
pub table_batches : (schema : Schema) (batches : List (List Column)) → IsTable schema batches
    → Each (IsBatch schema.fields (table_ids schema)) batches
table_batches schema batches may =
    batches_each schema.fields (table_ids schema) batches (length schema.fields) (defaults_fit schema may.form.writable) may.types may.whole

batches_read : (us : List Field) (batches : List (List Column)) (width : ℕ) → AreNormal us → are_typed us batches ≡ true
    → are_whole width batches ≡ true → read_batches batches ≡ map (λ (cs : List Column). map slots cs) batches
batches_read us [] width normal typed whole = refl
batches_read us (cs ∷ batches) width normal typed whole =
    let types = and_parts (have_types us (in_columns cs)) (are_typed us batches) typed in
    let wholes = and_parts (is_batch cs && (length cs == width)) (are_whole width batches) whole in
    let batch = (and_parts (is_batch cs) (length cs == width) wholes.0).0 in
    let here = all_read us cs (batch_len cs) normal types.0 batch in
    let others = batches_read us batches width normal types.1 wholes.1 in
    λ j. here j ∷ others j

-- they are read as they stand
pub table_read : (schema : Schema) (batches : List (List Column)) → IsTable schema batches
    → read_batches batches ≡ map (λ (cs : List Column). map slots cs) batches
table_read schema batches may =
    batches_read schema.fields batches (length schema.fields) (fields_normal schema may.form.normal) may.types may.whole

-- ---- one batch of them

each_at : {A : Type 0} (P : A → Type 0) (xs : List A) (i : ℕ) (x : A) → i < length xs → get_or xs i x ≡ x → Each P xs → P x
each_at P [] i x inside here all = absurd (omega arith)
each_at P (y ∷ ys) zero x inside here all = subst P here all.0
each_at P (y ∷ ys) (suc i) x inside here all = each_at P ys i x (omega (arith, inside)) here all.1

-- its dictionaries agree, since no two of them have one id
pub batch_agrees : (schema : Schema) (batches : List (List Column)) (ids : IdsList) (i : ℕ) (cs : List Column) → IsTable schema batches
    → ids ≡ table_ids schema → i < length batches → get_or batches i cs ≡ cs → agree (batch_of_stored ids cs).given ≡ true
unfolding batch_of_stored
batch_agrees schema batches ids i cs may same inside here =
    let its = each_at (IsBatch schema.fields (table_ids schema)) batches i cs inside here (table_batches schema batches may) in
    ap (λ (some : IdsList). agree (given_of_stored some cs)) same ∙ columns_agree schema cs may.form.writable its.columns
