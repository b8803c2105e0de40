-- Arrays of one length are the columns of a batch.
use Rattle.std.proofs.Common.{◌≡◌, ◌∙◌, ◌==◌, ◌&&◌, ◌⊎◌, inl, inr, ℕ, zero, suc, Bool, true, false, List, [], ◌∷◌, length, map, refl, sym, ap, subst}
use Rattle.std.specs.Prelude.{Option, Some, None, Result, Ok, Err, slice_get}
use Rattle.std.proofs.lemmas.Bool.{and_from, and_parts}
use Rattle.std.proofs.lemmas.Bool.Decides.{Decides-eqb}
use Rattle.ipc_format_reading.specs.Below.{arrays_below}
use Rattle.ipc_format_reading.specs.array_reading.Chunks.{AreAsLong, HaveLength, rows_of}
use Rattle.ipc_format_reading.specs.Rooms.{ForBytes, ReadsAs, Told}
use Rattle.ipc_format_reading.specs.columnar_memory.declared.Error.{Error}
use Rattle.ipc_format_reading.specs.columnar_memory.declared.Field.{Field}
use Rattle.ipc_format_reading.specs.columns.Slots.{Slot}
use Rattle.ipc_format_reading.specs.columns.StoredColumns.{Column, column_len, slots}
use Rattle.ipc_format_reading.specs.flatbuffers.Reading.{◌>>=◌, guard}
use Rattle.ipc_format_reading.specs.grammar.Columns.{Dictionary, Place, Source, have_length}
use Rattle.ipc_format_reading.specs.grammar.Schemas.{IdsList}
use Rattle.ipc_format_reading.specs.grammar.Tables.{agree_in_length}
use Rattle.ipc_format_reading.proofs.Readings.{made_none, out_of_spec, reads_made, reads_refused}
use Rattle.ipc_format_reading.proofs.ColumnSizes.{slots_lengths}
use Rattle.ipc_format_batch_reading.specs.BatchReads.{MakesBatch, chosen_arrays, placed_arrays}
use Rattle.ipc_format_batch_reading.proofs.CoveredSchemas.{same_value}

-- ---- lengths

-- an array as it is seen
abbrev itself : Column → Column
itself array = array

all_have : (count : ℕ) (arrays : List Column) → HaveLength itself count arrays → have_length count (map slots arrays) ≡ true
all_have count [] have = refl
all_have count (array ∷ arrays) have =
    and_from (length (slots array) == count) (have_length count (map slots arrays))
    ((Decides-eqb (length (slots array)) count).1 (slots_lengths array ∙ have 0 array refl))
    (all_have count arrays (λ k other is. have (suc k) other is))

have_all : (count : ℕ) (arrays : List Column) → have_length count (map slots arrays) ≡ true → HaveLength itself count arrays
have_all count [] have k array is = absurd cc
have_all count (array ∷ arrays) have zero other is =
    let parts = and_parts (length (slots array) == count) (have_length count (map slots arrays)) have in
    ap column_len (sym (same_value array other is)) ∙ sym (slots_lengths array) ∙ (Decides-eqb (length (slots array)) count).0 parts.0
have_all count (array ∷ arrays) have (suc k) other is =
    have_all count arrays (and_parts (length (slots array) == count) (have_length count (map slots arrays)) have).1 k other is

pub as_long : (arrays : List Column) → AreAsLong itself arrays → agree_in_length (map slots arrays) ≡ true
as_long [] long = refl
as_long (array ∷ arrays) long =
    ap (λ count. have_length count (map slots arrays)) (slots_lengths array)
    ∙ all_have (column_len array) arrays (λ k other is. long (suc k) other is)

long_as : (arrays : List Column) → agree_in_length (map slots arrays) ≡ true → AreAsLong itself arrays
long_as [] agree k array is = absurd cc
long_as (array ∷ arrays) agree zero other is = ap column_len (sym (same_value array other is))
long_as (array ∷ arrays) agree (suc k) other is =
    have_all (column_len array) arrays (ap (λ count. have_length count (map slots arrays)) (sym (slots_lengths array)) ∙ agree) k other is

-- what is not so is false
not_so : (test : Bool) → (test ≡ true → ⊥) → test ≡ false
not_so true never = absurd (never refl)
not_so false never = refl

pub unequal : (arrays : List Column) → (AreAsLong itself arrays → ⊥) → agree_in_length (map slots arrays) ≡ false
unequal arrays never = not_so (agree_in_length (map slots arrays)) (λ agree. never (long_as arrays agree))

-- ---- what is read

-- the slots of some columns, where these are of one length
abbrev check : List (List Slot) → Option (List (List Slot))
check columns = guard (agree_in_length columns) >>= (λ _. Some columns)

pub chunk_made : {A : Type 0} (old new : Told) (view : A → List (List Slot)) (given : List ℕ → Option (List (List Slot))) (a : A)
    (arrays : List Column) (r : Result (List Column) Error) → view a ≡ map slots arrays → ReadsAs false old new view given (Ok a)
    → MakesBatch arrays r → ReadsAs false old new (map slots) (λ room. given room >>= check) r
chunk_made old new view given a arrays (Ok chunk) seen read made =
    reads_made false old new view given a (map slots) (λ columns room. check columns) (λ room. given room >>= check) chunk (λ room. refl) read
    (λ room. ap check (seen ∙ ap (map slots) (sym made.0))
    ∙ ap (λ test. guard test >>= (λ _. Some (map slots chunk))) (ap (λ arrays. agree_in_length (map slots arrays)) made.0 ∙ made.1))
chunk_made old new view given a arrays (Err error) seen read made =
    out_of_spec old new (ForBytes old (λ room. (given room >>= check) ≡ None)) false error made.0 refl
    (made_none false old new view given a (λ columns room. check columns) (λ room. given room >>= check) (λ room. refl) read
    (λ room. ap check seen ∙ ap (λ test. guard test >>= (λ _. Some (map slots arrays))) made.1))

pub chunk_refused : {A : Type 0} (old new : Told) (view : A → List (List Slot)) (given : List ℕ → Option (List (List Slot))) (error : Error)
    → ReadsAs false old new view given (Err error) → ReadsAs {A = List Column} false old new (map slots) (λ room. given room >>= check) (Err error)
chunk_refused old new view given error read =
    reads_refused false old new view given (map slots) (λ columns room. check columns) (λ room. given room >>= check) error (λ room. refl) read

-- ---- the columns of fields

pub chunk_read : {A : Type 0} (fields : List Field) (below stated : IdsList) (at : List ℕ → Place) (old new : Told) (view : A → List (List Slot))
    (a : A) (arrays : List Column) (r : Result (List Column) Error) → stated ≡ below → view a ≡ map slots arrays
    → ReadsAs false old new view (λ room. arrays_below fields (at room) stated) (Ok a) → MakesBatch arrays r
    → ReadsAs false old new (map slots) (λ room. placed_arrays fields below (at room)) r
chunk_read fields below stated at old new view a arrays r same seen read made =
    subst (λ below. ReadsAs false old new (map slots) (λ room. placed_arrays fields below (at room)) r) same
    (chunk_made old new view (λ room. arrays_below fields (at room) stated) a arrays r seen read made)

pub columns_refused : {A : Type 0} (fields : List Field) (below stated : IdsList) (at : List ℕ → Place) (old new : Told)
    (view : A → List (List Slot)) (error : Error) → stated ≡ below
    → ReadsAs false old new view (λ room. arrays_below fields (at room) stated) (Err error)
    → ReadsAs {A = List Column} false old new (map slots) (λ room. placed_arrays fields below (at room)) (Err error)
columns_refused fields below stated at old new view error same read =
    subst (λ below. ReadsAs {A = List Column} false old new (map slots) (λ room. placed_arrays fields below (at room)) (Err error)) same
    (chunk_refused old new view (λ room. arrays_below fields (at room) stated) error read)

-- ---- chosen columns

pub choice_read : {A : Type 0} (fields : List Field) (below stated : IdsList) (little : Bool) (standing : List Dictionary) (limit : Option ℕ)
    (columns : List ℕ) (source : List ℕ → Source) (old new : Told) (view : A → List (List Slot)) (a : A) (arrays : List Column)
    (r : Result (List Column) Error) → stated ≡ below → view a ≡ map slots arrays
    → ReadsAs false old new view (λ room. chosen_arrays (record { fields = fields; below = stated; is_little_endian = little }) standing
    (source room) limit columns) (Ok a)
    → MakesBatch arrays r
    → ReadsAs false old new (map slots) (λ room. chosen_arrays (record { fields = fields; below = below; is_little_endian = little }) standing
    (source room) limit columns >>= check) r
choice_read fields below stated little standing limit columns source old new view a arrays r same seen read made =
    subst (λ (below : IdsList). ReadsAs false old new (map slots) (λ room. chosen_arrays
    (record { fields = fields; below = below; is_little_endian = little }) standing (source room) limit columns >>= check) r) same
    (chunk_made old new view (λ room. chosen_arrays (record { fields = fields; below = stated; is_little_endian = little }) standing
    (source room) limit columns) a arrays r seen read made)

pub choice_refused : {A : Type 0} (fields : List Field) (below stated : IdsList) (little : Bool) (standing : List Dictionary) (limit : Option ℕ)
    (columns : List ℕ) (source : List ℕ → Source) (old new : Told) (view : A → List (List Slot)) (error : Error) → stated ≡ below
    → ReadsAs false old new view (λ room. chosen_arrays (record { fields = fields; below = stated; is_little_endian = little }) standing
    (source room) limit columns) (Err error)
    → ReadsAs {A = List Column} false old new (map slots) (λ room. chosen_arrays
    (record { fields = fields; below = below; is_little_endian = little }) standing (source room) limit columns >>= check) (Err error)
choice_refused fields below stated little standing limit columns source old new view error same read =
    subst (λ (below : IdsList). ReadsAs {A = List Column} false old new (map slots) (λ room. chosen_arrays
    (record { fields = fields; below = below; is_little_endian = little }) standing (source room) limit columns >>= check) (Err error)) same
    (chunk_refused old new view (λ room. chosen_arrays (record { fields = fields; below = stated; is_little_endian = little }) standing
    (source room) limit columns) error read)
