-- What calls answer that read keys, and an array of keys and of the values that stand.
use Rattle.std.proofs.Common.{◌≡◌, ◌∙◌, ◌≤◌, ℕ, List, [], Bool, true, false, length, map, drop, refl, sym, ap, subst, inl, inr}
use Rattle.std.specs.Prelude.{ℤ, Option, Some, None, Result, Ok, Err, if◌then◌else◌}
use Rattle.std.specs.BTreeMap.{BTreeMap}
use Rattle.std.specs.Map.{lookup}
use Rattle.std.specs.Ordering.{int_eq}
use Rattle.std.proofs.lemmas.Bool.{cases_Bool}
use Rattle.ipc_format_column_writing.specs.columnar_memory.Layouts.{physical_type}
use Rattle.ipc_format_column_writing.specs.columnar_memory.Numbers.{Numbers, first_number}
use Rattle.ipc_format_column_writing.specs.columnar_memory.declared.DataType.{DataType}
use Rattle.ipc_format_column_writing.specs.columnar_memory.declared.Error.{Error}
use Rattle.ipc_format_column_writing.specs.columnar_memory.declared.IntegerType.{IntegerType}
use Rattle.ipc_format_column_writing.specs.columnar_memory.declared.PhysicalType.TheVariants as physical
use Rattle.ipc_format_column_writing.specs.columnar_memory.declared.PrimitiveType.{PrimitiveType}
use Rattle.ipc_format_column_writing.specs.nested_arrays.Slots.{Slot}
use Rattle.ipc_format_column_writing.specs.nested_arrays.SoundColumns.{has_value_at, holds_below}
use Rattle.ipc_format_column_writing.specs.nested_arrays.StoredColumns.{Column, column_len, column_type, dictionary, slots, type_layer}
use Rattle.ipc_format_column_writing.specs.flatbuffers.Reading.{◌>>=◌}
use Rattle.ipc_format_column_writing.specs.grammar.Columns.{own_id}
use Rattle.ipc_format_column_writing.specs.grammar.Messages.{V5, Version}
use Rattle.ipc_format_column_writing.specs.grammar.Schemas.{Ids}
use Rattle.ipc_format_column_writing.specs.messages.declared.values.Buffer.{Buffer}
use Rattle.ipc_format_column_writing.specs.messages.declared.values.FieldNode.{FieldNode}
use Rattle.ipc_format_column_writing.specs.column_reading.Buffers.{next_values}
use Rattle.ipc_format_column_writing.specs.column_reading.Queues.{IsEnd}
use Rattle.ipc_format_column_writing.specs.column_reading.Reads.{ReadsColumn, next_marked}
use Rattle.ipc_format_column_writing.specs.column_reading.Rooms.{ForBytes, IsRefusal, ReadsAs, Told}
use Rattle.ipc_format_column_writing.specs.nested_arrays.Keys.{kind_of_keys}
use Rattle.ipc_format_array_reading.specs.ArrayReads.{array_slots}
use Rattle.ipc_format_array_reading.proofs.Taking.{drop_none}
use Rattle.ipc_format_column_writing.proofs.reading_lemmas.ColumnReads.{Marks}
use Rattle.ipc_format_column_writing.proofs.reading_lemmas.Readings.{made_none, out_of_memory, out_of_spec, reads_behind, reads_made, reads_refused}
use Rattle.ipc_format_column_writing.proofs.columns_lemmas.TypeLayers.{Layer}
use Rattle.ipc_format_array_reading.specs.Keyed.{MakesKeyed, has_values, if_values, keyed_column, keyed_slots, next_keys, values_for}
use Rattle.ipc_format_array_reading.specs.ReadArrays.{at_front, standing_in}
use Rattle.ipc_format_array_reading.proofs.KeyedColumns.{keyed_given}

abbrev pub Found : Type 0
Found = Option (List Bool) × List Numbers

-- ---- the keys, behind the marks

abbrev behind_marks : PrimitiveType → Bool → List Buffer → ℕ → Marks → List ℕ → Option Found
behind_marks kind little later origin marks room = next_values kind little later origin marks.0 room >>= (λ keys. Some (marks.1, keys))

pub marks_refused : {A T : Type 0} (old new : Told) (kind : PrimitiveType) (little : Bool) (nodes : List FieldNode) (limit : Option ℕ)
    (buffers : List Buffer) (origin : ℕ) (marks : A → Marks) (view : T → Found) (error : Error)
    → ReadsAs false old new marks (next_marked nodes limit buffers origin) (Err error)
    → ReadsAs false old new view (next_keys kind little nodes limit buffers origin) (Err error)
marks_refused old new kind little nodes limit buffers origin marks view error refused =
    reads_refused false old new marks (next_marked nodes limit buffers origin) view
    (λ m room. behind_marks kind little (drop 1 buffers) origin m room) (next_keys kind little nodes limit buffers origin) error (λ room. refl)
    refused

pub keys_refused : {K T : Type 0} (old mid new : Told) (kind : PrimitiveType) (little : Bool) (nodes : List FieldNode) (limit : Option ℕ)
    (buffers later : List Buffer) (origin : ℕ) (marks : Marks) (number : K → Numbers) (view : T → Found) (error : Error)
    → ReadsAs false old mid (λ (found : Marks). found) (next_marked nodes limit buffers origin) (Ok marks) → later ≡ drop 1 buffers
    → ReadsAs false mid new (map number) (next_values kind little later origin marks.0) (Err error)
    → ReadsAs false old new view (next_keys kind little nodes limit buffers origin) (Err error)
keys_refused old mid new kind little nodes limit buffers later origin marks number view error before rest refused =
    reads_behind false old mid new (λ (found : Marks). found) (next_marked nodes limit buffers origin) marks view
    (λ m room. behind_marks kind little (drop 1 buffers) origin m room) (next_keys kind little nodes limit buffers origin) (Err error)
    (λ room. refl) before
    (reads_refused false mid new (map number) (next_values kind little later origin marks.0) view (λ keys room. Some (marks.1, keys))
    (λ room. behind_marks kind little (drop 1 buffers) origin marks room) error
    (λ room. ap (λ (bs : List Buffer). behind_marks kind little bs origin marks room) (sym rest)) refused)

pub keys_made : {K T : Type 0} (old mid new : Told) (kind : PrimitiveType) (little : Bool) (nodes : List FieldNode) (limit : Option ℕ)
    (buffers later : List Buffer) (origin : ℕ) (marks : Marks) (number : K → Numbers) (values : List K) (view : T → Found) (array : T)
    → ReadsAs false old mid (λ (found : Marks). found) (next_marked nodes limit buffers origin) (Ok marks) → later ≡ drop 1 buffers
    → ReadsAs false mid new (map number) (next_values kind little later origin marks.0) (Ok values) → view array ≡ (marks.1, map number values)
    → ReadsAs false old new view (next_keys kind little nodes limit buffers origin) (Ok array)
keys_made {K} old mid new kind little nodes limit buffers later origin marks number values view array before rest read shows =
    reads_behind false old mid new (λ (found : Marks). found) (next_marked nodes limit buffers origin) marks view
    (λ m room. behind_marks kind little (drop 1 buffers) origin m room) (next_keys kind little nodes limit buffers origin) (Ok array)
    (λ room. refl) before
    (reads_made false mid new (map number) (next_values kind little later origin marks.0) values view (λ keys room. Some (marks.1, keys))
    (λ room. behind_marks kind little (drop 1 buffers) origin marks room) array
    (λ room. ap (λ (bs : List Buffer). behind_marks kind little bs origin marks room) (sym rest)) read (λ room. ap (λ f. Some f) (sym shows)))

-- ---- the array

-- no values stand
pub no_values : (t : DataType) (key : IntegerType) (nodes : List FieldNode) (buffers : List Buffer) (version : Version) (little : Bool)
    (dictionaries : BTreeMap ℤ Column) (limit : Option ℕ) (origin : ℕ) (here : Ids) → physical_type t ≡ physical.Dictionary key
    → values_for (type_layer t) (own_id here) dictionaries ≡ None → (room : List ℕ)
    → array_slots t (at_front nodes buffers version little (standing_in dictionaries) limit origin here room) ≡ None
no_values t key nodes buffers version little dictionaries limit origin here kind none room =
    keyed_given t key nodes buffers version little dictionaries limit origin here kind room
    ∙ ap (λ (v : Option Column). v >>= (λ values. next_keys (kind_of_keys key) little nodes limit buffers origin room >>= keyed_slots t values)) none

-- the values that stand
with_values : (t : DataType) (key : IntegerType) (values : Column) (nodes : List FieldNode) (buffers : List Buffer) (version : Version)
    (little : Bool) (dictionaries : BTreeMap ℤ Column) (limit : Option ℕ) (origin : ℕ) (here : Ids) → physical_type t ≡ physical.Dictionary key
    → values_for (type_layer t) (own_id here) dictionaries ≡ Some values → (room : List ℕ)
    → array_slots t (at_front nodes buffers version little (standing_in dictionaries) limit origin here room)
    ≡ (next_keys (kind_of_keys key) little nodes limit buffers origin room >>= keyed_slots t values)
with_values t key values nodes buffers version little dictionaries limit origin here kind found room =
    keyed_given t key nodes buffers version little dictionaries limit origin here kind room
    ∙ ap (λ (v : Option Column). v >>= (λ values. next_keys (kind_of_keys key) little nodes limit buffers origin room >>= keyed_slots t values)) found

-- a refusal of kind's own reader
pub array_refused : {A : Type 0} (old new : Told) (t : DataType) (key : IntegerType) (kind : PrimitiveType) (view : A → Found) (values : Column)
    (nodes nodes1 : List FieldNode) (buffers buffers1 : List Buffer) (version : Version) (little : Bool) (dictionaries : BTreeMap ℤ Column)
    (limit : Option ℕ) (origin : ℕ) (here : Ids) (error : Error) → kind ≡ kind_of_keys key → physical_type t ≡ physical.Dictionary key
    → values_for (type_layer t) (own_id here) dictionaries ≡ Some values
    → ReadsAs false old new view (next_keys kind little nodes limit buffers origin) (Err error) → IsEnd nodes nodes1 → IsEnd buffers buffers1
    → ReadsColumn (physical_type t ≡ physical.Dictionary key) false old new (λ (array : Column). array) t
    (λ room. array_slots t (at_front nodes buffers version little (standing_in dictionaries) limit origin here room)) 1 2 nodes nodes1
    buffers buffers1
    (Err error)
array_refused {A} old new t key kind view values nodes nodes1 buffers buffers1 version little dictionaries limit origin here error is lies
    found refused
    nodes_end buffers_end =
    inl (
      lies,
      reads_refused false old new view (next_keys (kind_of_keys key) little nodes limit buffers origin) slots (λ x room. keyed_slots t values x)
          (λ room. array_slots t (at_front nodes buffers version little (standing_in dictionaries) limit origin here room)) error
          (with_values t key values nodes buffers version little dictionaries limit origin here lies found)
          (subst (λ (k : PrimitiveType). ReadsAs false old new view (next_keys k little nodes limit buffers origin) (Err error)) is refused),
      nodes_end,
      buffers_end,
    )

typed_made : (b : Bool) (t : DataType) (mask : Option (List Bool)) (keys : List ℤ) (values array : Column)
    → (if b then Some (dictionary t mask keys values) else None) ≡ Some array → column_type array ≡ t
typed_made true t mask keys values array is = ap type_in (sym is)
  where
    type_in : Option Column → DataType
    type_in None = t
    type_in (Some column) = column_type column
typed_made false t mask keys values array is = absurd cc

-- what is made of the keys
pub array_made : (old new : Told) (t : DataType) (key : IntegerType) (kind : PrimitiveType) (mask : Option (List Bool)) (keys : List Numbers)
    (values : Column) (nodes nodes1 : List FieldNode) (buffers buffers1 : List Buffer) (version : Version) (little : Bool)
    (dictionaries : BTreeMap ℤ Column) (limit : Option ℕ) (origin : ℕ) (here : Ids) (r : Result Column Error) → kind ≡ kind_of_keys key
    → physical_type t ≡ physical.Dictionary key → values_for (type_layer t) (own_id here) dictionaries ≡ Some values
    → ReadsAs false old new (λ (found : Found). found) (next_keys kind little nodes limit buffers origin) (Ok (mask, keys))
    → (1 ≤ length nodes) × (nodes1 ≡ drop 1 nodes) → (2 ≤ length buffers) × (buffers1 ≡ drop 2 buffers) → MakesKeyed t values mask keys r
    → ReadsColumn (physical_type t ≡ physical.Dictionary key) false old new (λ (array : Column). array) t
    (λ room. array_slots t (at_front nodes buffers version little (standing_in dictionaries) limit origin here room)) 1 2 nodes nodes1
    buffers buffers1
    r
array_made old new t key kind mask keys values nodes nodes1 buffers buffers1 version little dictionaries limit origin here (Ok array) is lies found
    read nodes_off buffers_off makes =
    let given = next_keys (kind_of_keys key) little nodes limit buffers origin in
    let before : ReadsAs false old new (λ (f : Found). f) given (Ok (mask, keys)) =
    subst (λ (k : PrimitiveType). ReadsAs false old new (λ (f : Found). f) (next_keys k little nodes limit buffers origin) (Ok
    (mask, keys))) is read in (
      lies,
      typed_made (holds_below (length (map first_number keys)) (has_value_at mask (map first_number keys) (column_len values))) t mask
          (map first_number keys) values array makes,
      reads_made false old new (λ (f : Found). f) given (mask, keys) slots (λ x room. keyed_slots t values x)
          (λ room. array_slots t (at_front nodes buffers version little (standing_in dictionaries) limit origin here room)) array
          (with_values t key values nodes buffers version little dictionaries limit origin here lies found) before
          (λ room. ap (λ (column : Option Column). column >>= (λ c. Some (slots c))) makes),
      nodes_off,
      buffers_off,
    )
array_made old new t key kind mask keys values nodes nodes1 buffers buffers1 version little dictionaries limit origin here (Err error) is lies found
    read nodes_off buffers_off makes =
    let given = next_keys (kind_of_keys key) little nodes limit buffers origin in
    let whole : List ℕ → Option (List Slot) =
    λ room. array_slots t (at_front nodes buffers version little (standing_in dictionaries) limit origin here room) in
    let before : ReadsAs false old new (λ (f : Found). f) given (Ok (mask, keys)) =
    subst (λ (k : PrimitiveType). ReadsAs false old new (λ (f : Found). f) (next_keys k little nodes limit buffers origin) (Ok
    (mask, keys))) is read in
    let none : (keyed_column t values mask (map first_number keys) ≡ None) → ForBytes old (λ room. whole room ≡ None) = λ nothing.
    made_none false old new (λ (f : Found). f) given (mask, keys) (λ x room. keyed_slots t values x) whole
    (with_values t key values nodes buffers version little dictionaries limit origin here lies found) before
    (λ room. ap (λ (column : Option Column). column >>= (λ c. Some (slots c))) nothing) in
    inl (
      lies,
      elim makes [
        | inl memory ↦ out_of_memory old new (ForBytes old (λ room. whole room ≡ None)) false error memory refl
        | inr broken ↦ out_of_spec old new (ForBytes old (λ room. whole room ≡ None)) false error broken.0 refl (none broken.1)
      ],
      (1, nodes_off.1),
      (2, buffers_off.1),
    )

-- the same of a call that could be asked for compressed buffers
pub as_plain : {X Y : Type 0} (Kind : Type 0) (is_compressed : Bool) (old new : Told) (t : DataType) (given : List ℕ → Option (List Slot))
    (n b : ℕ) (nodes nodes1 : List X) (buffers buffers1 : List Y) (r : Result Column Error) → is_compressed ≡ false
    → ReadsColumn Kind false old new (λ (array : Column). array) t given n b nodes nodes1 buffers buffers1 r
    → ReadsColumn Kind is_compressed old new (λ (array : Column). array) t given n b nodes nodes1 buffers buffers1 r
as_plain Kind is_compressed old new t given n b nodes nodes1 buffers buffers1 r plain read =
    subst (λ (c : Bool). ReadsColumn Kind c old new (λ (array : Column). array) t given n b nodes nodes1 buffers buffers1 r) (sym plain) read

-- a refusal before anything is read
pub not_read : {X Y : Type 0} (Kind : Type 0) (is_compressed : Bool) (told : Told) (t : DataType) (given : List ℕ → Option (List Slot)) (n b : ℕ)
    (nodes : List X) (buffers : List Y) (error : Error) → Kind
    → IsRefusal is_compressed told told (ForBytes told (λ room. given room ≡ None)) error
    → ReadsColumn Kind is_compressed told told (λ (array : Column). array) t given n b nodes nodes buffers buffers (Err error)
not_read Kind is_compressed told t given n b nodes buffers error kind refusal =
    inl (kind, refusal, (0, sym (drop_none nodes)), (0, sym (drop_none buffers)))

-- ---- the values that stand have the type that is said

or_column : Column → Option Column → Column
or_column c None = c
or_column c (Some d) = d

typed_in : (x : Layer) (r : Option Column) (values : Column) → (r >>= if_values x) ≡ Some values → has_values x (column_type values) ≡ true
unfolding or_column
typed_in x None values is = absurd cc
typed_in x (Some v) values is = elim (cases_Bool (has_values x (column_type v))) [
  | inl typed ↦
      let same : Some v ≡ Some values = sym (ap (λ (b : Bool). if b then Some v else None) typed) ∙ is in
      subst (λ (c : Column). has_values x (column_type c) ≡ true) (ap (or_column v) same) typed
  | inr apart ↦
      let none : None ≡ Some values = sym (ap (λ (b : Bool). if b then Some v else None) apart) ∙ is in
      absurd cc
]

pub values_typed : (x : Layer) (id : Option ℤ) (dictionaries : BTreeMap ℤ Column) (values : Column) → values_for x id dictionaries ≡ Some values
    → has_values x (column_type values) ≡ true
values_typed x None dictionaries values is = absurd cc
values_typed x (Some id) dictionaries values is = typed_in x (lookup (int_eq id) dictionaries.entries) values is

-- ---- by the own id alone

pub keyed_same : (t : DataType) (key : IntegerType) (nodes : List FieldNode) (buffers : List Buffer) (version : Version) (little : Bool)
    (dictionaries : BTreeMap ℤ Column) (limit : Option ℕ) (origin : ℕ) (here there : Ids) → own_id here ≡ own_id there
    → physical_type t ≡ physical.Dictionary key → (room : List ℕ)
    → array_slots t (at_front nodes buffers version little (standing_in dictionaries) limit origin here room)
    ≡ array_slots t (at_front nodes buffers V5 little (standing_in dictionaries) limit origin there room)
keyed_same t key nodes buffers version little dictionaries limit origin here there own lies room =
    keyed_given t key nodes buffers version little dictionaries limit origin here lies room
    ∙ ap (λ id. values_for (type_layer t) id dictionaries
    >>= (λ values. next_keys (kind_of_keys key) little nodes limit buffers origin room >>= keyed_slots t values)) own
    ∙ sym (keyed_given t key nodes buffers V5 little dictionaries limit origin there lies room)
