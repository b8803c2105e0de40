-- Chosen columns at the fronts of what is left of the queues are the chosen columns of the batch by their numbers.
use Rattle.std.proofs.Common.{◌≡◌, ◌∙◌, ◌+◌, ◌≤◌, ◌<◌, ℕ, zero, suc, Bool, true, false, List, [], ◌∷◌, ◌++◌, length, take, drop, map, get_or}
use Rattle.std.proofs.Common.{append_assoc, inl, refl, sym, ap, ap₂, subst, arith, zero-add}
use Rattle.std.specs.Prelude.{Option, Some, None, Result, Ok, Err, slice_get, slice_range}
use Rattle.std.specs.List.{cons_option, filter_map}
use Rattle.std.proofs.Math.Seq.{drop-cons, take-suc}
use Rattle.std.proofs.lemmas.List.{append-nil, drop-drop, drop-map, map-append}
use Rattle.std.proofs.lemmas.List.Elements.{filter_map-append}
use Rattle.std.proofs.lemmas.Option.{slice_get-get_or}
use Rattle.ipc_format_reading.specs.Below.{no_own_ids, type_of}
use Rattle.ipc_format_reading.specs.Queues.{field_buffers_of, field_nodes_of}
use Rattle.ipc_format_reading.specs.Rooms.{ForBytes, ReadsAs, Stays, Told}
use Rattle.ipc_format_reading.specs.array_reading.ReadArrays.{ReadsArray, at_front}
use Rattle.ipc_format_reading.specs.array_reading.ArrayReads.{array_slots}
use Rattle.ipc_format_reading.specs.columnar_memory.declared.Error.{Error}
use Rattle.ipc_format_reading.specs.columnar_memory.declared.Field.{Field}
use Rattle.ipc_format_reading.specs.columns.Slots.{Slot}
use Rattle.ipc_format_reading.specs.columns.StoredColumns.{Column, column_type, slots}
use Rattle.ipc_format_reading.specs.columns.Tables.{chosen}
use Rattle.ipc_format_reading.specs.flatbuffers.Reading.{◌>>=◌}
use Rattle.ipc_format_reading.specs.grammar.Columns.{Dictionary, Place, Source}
use Rattle.ipc_format_reading.specs.grammar.Dictionaries.{Layout}
use Rattle.ipc_format_reading.specs.grammar.Layouts.{buffer_count, buffer_number, node_count, node_number, total}
use Rattle.ipc_format_reading.specs.grammar.Messages.{Version}
use Rattle.ipc_format_reading.specs.grammar.Schemas.{Ids}
use Rattle.ipc_format_reading.specs.grammar.Tables.{column_place}
use Rattle.ipc_format_reading.specs.messages.declared.values.Buffer.{Buffer}
use Rattle.ipc_format_reading.specs.messages.declared.values.FieldNode.{FieldNode}
use Rattle.ipc_format_reading.specs.metadata.Views.{ids_view, ids_views}
use Rattle.ipc_format_reading.specs.metadata.declared.ipc_schema.IpcField.{IpcField}
use Rattle.ipc_format_reading.proofs.AlikeArrays.{arrays_alike}
use Rattle.ipc_format_reading.proofs.NextBuffers.{refusal_for}
use Rattle.ipc_format_reading.proofs.Readings.{reads_behind}
use Rattle.ipc_format_batch_reading.specs.BatchReads.{chosen_arrays, ids_beside, rise_below}
use Rattle.ipc_format_batch_reading.specs.PassedOver.{Passes}
use Rattle.ipc_format_batch_reading.proofs.PassedColumns.{passed_to}
use Rattle.ipc_format_batch_reading.proofs.PlacedColumns.{sum_next}
use Rattle.ipc_format_batch_reading.proofs.Projections.{rises_are, rises_at, rises_from}

-- ---- what is read of

-- the fields of a batch with the ids beside them, its nodes and buffers, and how these are read
pub record Batch : Type 0 where
  pub fields : List Field
  pub ids : List IpcField
  pub version : Version
  pub is_little_endian : Bool
  pub standing : List Dictionary
  pub limit : Option ℕ
  pub origin : ℕ
  pub nodes : List FieldNode
  pub buffers : List Buffer

abbrev pub layout_of : Batch → Layout
layout_of batch = record { fields = batch.fields; below = ids_views batch.ids; is_little_endian = batch.is_little_endian }

-- where a column is read at the fronts of what is left
abbrev pub front_of : Batch → List FieldNode → List Buffer → Ids → List ℕ → Place
front_of batch rest others here room =
    at_front rest others batch.version batch.is_little_endian batch.standing batch.limit batch.origin here room

abbrev pub source_of : Batch → List ℕ → Source
source_of batch room = (front_of batch batch.nodes batch.buffers no_own_ids room).source

-- the arrays of chosen columns
abbrev pub given_of : Batch → List ℕ → List ℕ → Option (List (List Slot))
given_of batch columns room = chosen_arrays (layout_of batch) batch.standing (source_of batch room) batch.limit columns

-- ---- ids beside fields

beside : (ids : List IpcField) (k : ℕ) (i : IpcField) → k < length ids → ids_beside (ids_views ids) k ≡ Some (ids_view (get_or ids k i))
beside [] zero i lt = absurd (omega (arith, lt))
beside [] (suc k) i lt = absurd (omega (arith, lt))
beside (first ∷ ids) zero i lt = refl
beside (first ∷ ids) (suc k) i lt = beside ids k i (omega (arith, lt))

none_beside : (ids : List IpcField) (k : ℕ) → length ids ≤ k → ids_beside (ids_views ids) k ≡ None
none_beside [] zero past = refl
none_beside [] (suc k) past = refl
none_beside (first ∷ ids) zero past = absurd (omega (arith, past))
none_beside (first ∷ ids) (suc k) past = none_beside ids k (omega (arith, past))

-- ---- one column

-- what stands in a list from a place on is what is left of it
get_left : {A : Type 0} (n k : ℕ) (xs ys : List A) → ys ≡ drop n xs → slice_get xs (n + k) ≡ slice_get ys (0 + k)
get_left n k xs ys is = get_drop n k xs ∙ ap₂ slice_get (sym is) (sym (zero-add k))
  where
    get_drop : {A : Type 0} (n k : ℕ) (xs : List A) → slice_get xs (n + k) ≡ slice_get (drop n xs) k
    get_drop zero k xs = ap (slice_get xs) (zero-add k)
    get_drop (suc n) k [] = refl
    get_drop (suc n) k (x ∷ xs) =
        let next : suc n + k ≡ suc (n + k) = omega arith in
        ap (slice_get (x ∷ xs)) next ∙ get_drop n k xs

get_mapped : {X Y : Type 0} (f : X → Y) (n k : ℕ) (xs ys : List X) → ys ≡ drop n xs → slice_get (map f xs) (n + k) ≡ slice_get (map f ys) (0 + k)
get_mapped f n k xs ys is = get_left n k (map f xs) (map f ys) (ap (map f) is ∙ sym (drop-map f n xs))

-- a column by its number is the one at the fronts behind the columns before it
column_is : (batch : Batch) (c : ℕ) (u : Field) (here : Ids) (rest : List FieldNode) (others : List Buffer) (room : List ℕ)
    → Passes (node_number batch.fields c) (buffer_number batch.version batch.fields c) batch.nodes rest batch.buffers others
    → array_slots (type_of u) (record (column_place (layout_of batch) batch.standing (source_of batch room) batch.limit c) { ids = here })
    ≡ array_slots (type_of u) (front_of batch rest others here room)
column_is batch c u here rest others room passed =
    arrays_alike (type_of u) (record (column_place (layout_of batch) batch.standing (source_of batch room) batch.limit c) { ids = here })
    (front_of batch rest others here room)
    (record {
      nodes = λ k. get_mapped _ (node_number batch.fields c) k batch.nodes rest passed.0;
      buffers = λ k. get_mapped _ (buffer_number batch.version batch.fields c) k batch.buffers others passed.1;
      limits = inl refl;
      version = refl;
      is_little_endian = refl;
      room = refl;
      origin = refl;
      standing = refl;
      ids = refl;
    })

-- what follows a column
abbrev then_more : Batch → List ℕ → List ℕ → List Slot → Option (List (List Slot))
then_more batch columns room column = given_of batch columns room >>= (λ others. Some (column ∷ others))

-- what is given of a column and those behind it
given_next : (batch : Batch) (c : ℕ) (columns : List ℕ) (u : Field) (i : IpcField) (rest : List FieldNode) (others : List Buffer) (room : List ℕ)
    → c < length batch.fields → u ≡ get_or batch.fields c u → c < length batch.ids → i ≡ get_or batch.ids c i
    → Passes (node_number batch.fields c) (buffer_number batch.version batch.fields c) batch.nodes rest batch.buffers others
    → given_of batch (c ∷ columns) room
    ≡ (array_slots (type_of u) (front_of batch rest others (ids_view i) room) >>= then_more batch columns room)
given_next batch c columns u i rest others room lt is has its passed =
    let place = column_place (layout_of batch) batch.standing (source_of batch room) batch.limit c in
    let found : slice_get batch.fields c ≡ Some u = slice_get-get_or batch.fields c u lt ∙ ap Some (sym is) in
    let stated : ids_beside (ids_views batch.ids) c ≡ Some (ids_view i) = beside batch.ids c i has ∙ ap (λ j. Some (ids_view j)) (sym its) in
    ap (λ (field : Option Field). field >>= (λ field. ids_beside (ids_views batch.ids) c >>= (λ here.
    array_slots field.data_type (record place { ids = here }) >>= then_more batch columns room))) found
    ∙ ap (λ (ids : Option Ids). ids >>= (λ here. array_slots (type_of u) (record place { ids = here }) >>= then_more batch columns room)) stated
    ∙ ap (λ (slots : Option (List Slot)). slots >>= then_more batch columns room) (column_is batch c u (ids_view i) rest others room passed)

after_none : {A B : Type 0} (r : Option A) (none : A → Option B) → ((x : A) → none x ≡ None) → (r >>= none) ≡ None
after_none None none each = refl
after_none (Some x) none each = each x

-- nothing, where no ids stand beside it
given_without : (batch : Batch) (c : ℕ) (columns : List ℕ) (room : List ℕ) → length batch.ids ≤ c → given_of batch (c ∷ columns) room ≡ None
given_without batch c columns room none =
    let place = column_place (layout_of batch) batch.standing (source_of batch room) batch.limit c in
    ap (λ (ids : Option Ids). slice_get batch.fields c >>= (λ field. ids >>= (λ here.
    array_slots field.data_type (record place { ids = here }) >>= then_more batch columns room))) (none_beside batch.ids c none)
    ∙ after_none (slice_get batch.fields c) _ (λ (field : Field). refl)

-- ---- the columns that were read

-- some columns that were read, and the slots of more
abbrev read_then : List Column → List (List Slot) → Option (List (List Slot))
read_then arrays later = Some (map slots arrays ++ later)

-- The first k of the columns are read: what is given of all is given by these and by the others, which stand in all their order behind a place.
abbrev pub ChosenToRead : Batch → Told → Told → List ℕ → List FieldNode → List Buffer → ℕ → ℕ → List Column → Type 0
ChosenToRead batch old now columns rest others k behind arrays =
    Stays old now
    × ForBytes old (λ room. given_of batch columns room ≡ (given_of batch (drop k columns) room >>= read_then arrays))
    × Passes (node_number batch.fields behind) (buffer_number batch.version batch.fields behind) batch.nodes rest batch.buffers others
    × (map column_type arrays ≡ map type_of (chosen (take k columns) batch.fields))
    × (rises_from (length batch.fields) behind (drop k columns) ≡ true)

given_itself : {A : Type 0} (r : Option (List A)) → r ≡ (r >>= (λ later. Some later))
given_itself None = refl
given_itself (Some xs) = refl

pub none_chosen : (batch : Batch) (told : Told) (columns : List ℕ) → rise_below (length batch.fields) columns ≡ true
    → ChosenToRead batch told told columns batch.nodes batch.buffers 0 0 []
none_chosen batch told columns rise = (
  (refl, omega arith),
  λ room is. given_itself (given_of batch columns room),
  (refl, refl),
  refl,
  sym (rises_are (length batch.fields) columns) ∙ rise,
)

-- ---- one more

-- what is left of a list, by the next one
next_one : {A : Type 0} (xs : List A) (k : ℕ) (x : A) → k < length xs → x ≡ get_or xs k x → drop k xs ≡ x ∷ drop (suc k) xs
next_one xs k x lt is = drop-cons xs k x lt ∙ ap (λ y. y ∷ drop (suc k) xs) (sym is)

-- slots that are read one column further
read_more : (arrays : List Column) (array : Column) (later : Option (List (List Slot)))
    → ((later >>= (λ columns. Some (slots array ∷ columns))) >>= read_then arrays) ≡ (later >>= read_then (arrays ++ array ∷ []))
read_more arrays array None = refl
read_more arrays array (Some columns) =
    ap Some (sym (append_assoc (map slots arrays) (slots array ∷ []) columns)
    ∙ ap (λ front. front ++ columns) (sym (map-append slots arrays (array ∷ []))))

-- the field of one column more
pub chosen_more : (columns : List ℕ) (fields : List Field) (k c : ℕ) (u : Field) → k < length columns → c ≡ get_or columns k c
    → c < length fields → u ≡ get_or fields c u → chosen (take (suc k) columns) fields ≡ chosen (take k columns) fields ++ u ∷ []
chosen_more columns fields k c u lt is below its =
    let found : slice_get fields c ≡ Some u = slice_get-get_or fields c u below ∙ ap Some (sym its) in
    ap (λ ks. chosen ks fields) (take-suc columns k c lt ∙ ap (λ j. take k columns ++ j ∷ []) (sym is))
    ∙ filter_map-append (λ column. slice_get fields column) (take k columns) (c ∷ [])
    ∙ ap (λ (field : Option Field). chosen (take k columns) fields ++ cons_option field []) found

-- the next of the columns stands behind the place, below the width
pub next_stands : (batch : Batch) (old now : Told) (columns : List ℕ) (rest : List FieldNode) (others : List Buffer) (k behind : ℕ)
    (arrays : List Column) (c : ℕ) → k < length columns → c ≡ get_or columns k c
    → ChosenToRead batch old now columns rest others k behind arrays
    → (behind ≤ c) × (c < length batch.fields) × (rises_from (length batch.fields) (suc c) (drop (suc k) columns) ≡ true)
next_stands batch old now columns rest others k behind arrays c lt is before = rises_at (length batch.fields) behind columns k c lt is before.4

-- the columns from a place up to a later one are passed over
abbrev pub PassesTo : Batch → ℕ → ℕ → List FieldNode → List FieldNode → List Buffer → List Buffer → Type 0
PassesTo batch from to rest passed others over =
    Passes (total (map field_nodes_of (slice_range batch.fields from to)))
    (total (map (field_buffers_of batch.version) (slice_range batch.fields from to))) rest passed others over

gone_to : (batch : Batch) (from to : ℕ) (rest passed : List FieldNode) (others over : List Buffer) → from ≤ to
    → Passes (node_number batch.fields from) (buffer_number batch.version batch.fields from) batch.nodes rest batch.buffers others
    → PassesTo batch from to rest passed others over
    → Passes (node_number batch.fields to) (buffer_number batch.version batch.fields to) batch.nodes passed batch.buffers over
gone_to batch from to rest passed others over rises first later =
    passed_to batch.version batch.fields (slice_range batch.fields from to) from to batch.nodes rest passed batch.buffers others over rises refl
    first later

pub one_more_chosen : (batch : Batch) (old now new : Told) (columns : List ℕ) (rest passed last : List FieldNode)
    (others over end : List Buffer) (k behind : ℕ) (arrays : List Column) (c : ℕ) (u : Field) (i : IpcField) (array : Column)
    → k < length columns → c ≡ get_or columns k c → u ≡ get_or batch.fields c u → c < length batch.ids → i ≡ get_or batch.ids c i
    → PassesTo batch behind c rest passed others over → ChosenToRead batch old now columns rest others k behind arrays
    → ReadsArray false now new (type_of u) (front_of batch passed over (ids_view i)) batch.version passed last over end (Ok array)
    → ChosenToRead batch old new columns last end (suc k) (suc c) (arrays ++ array ∷ [])
one_more_chosen batch old now new columns rest passed last others over end k behind arrays c u i array lt is its has beside skipped before read =
    let stands = next_stands batch old now columns rest others k behind arrays c lt is before in
    let gone = gone_to batch behind c rest passed others over stands.0 before.2 skipped in (
      (read.0.0.1.0 ∙ before.0.0, read.0.0.1.1 ∙ before.0.1),
      λ room told.
          before.1 room told
          ∙ ap (λ ks. given_of batch ks room >>= read_then arrays) (next_one columns k c lt is)
          ∙ ap (λ given. given >>= read_then arrays)
          (given_next batch c (drop (suc k) columns) u i passed over room stands.1 its has beside gone
          ∙ ap (λ (slots : Option (List Slot)). slots >>= then_more batch (drop (suc k) columns) room) (read.0.0.2 room (before.0.0 ∙ told)))
          ∙ read_more arrays array (given_of batch (drop (suc k) columns) room),
      (
        read.0.1.1 ∙ ap (drop (node_count (type_of u))) gone.0 ∙ drop-drop (node_count (type_of u)) (node_number batch.fields c) batch.nodes
            ∙ ap (λ n. drop n batch.nodes)
            (sum_next (λ (field : Field). node_count field.data_type) batch.fields c u stands.1 its),
        read.0.2.1 ∙ ap (drop (buffer_count batch.version (type_of u))) gone.1
            ∙ drop-drop (buffer_count batch.version (type_of u)) (buffer_number batch.version batch.fields c) batch.buffers
            ∙ ap (λ n. drop n batch.buffers)
            (sum_next (λ (field : Field). buffer_count batch.version field.data_type) batch.fields c u stands.1 its),
      ),
      map-append column_type arrays (array ∷ [])
          ∙ ap₂ (λ xs x. xs ++ x ∷ []) before.3 read.1
          ∙ sym (map-append type_of (chosen (take k columns) batch.fields) (u ∷ []))
          ∙ ap (map type_of) (sym (chosen_more columns batch.fields k c u lt is stands.1 its)),
      stands.2,
    )

-- the same under another name
pub chosen_to : (batch : Batch) (old now : Told) (columns : List ℕ) (rest : List FieldNode) (others : List Buffer) (k n behind next : ℕ)
    (arrays more : List Column) → k ≡ n → behind ≡ next → arrays ≡ more → ChosenToRead batch old now columns rest others k behind arrays
    → ChosenToRead batch old now columns rest others n next more
chosen_to batch old now columns rest others k n behind next arrays more places ends are left =
    subst (λ (m : ℕ). ChosenToRead batch old now columns rest others m next more) places
    (subst (λ (m : ℕ). ChosenToRead batch old now columns rest others k m more) ends
    (subst (λ (arrays : List Column). ChosenToRead batch old now columns rest others k behind arrays) are left))

-- ---- refusals

-- what is answered of the whole by a call that comes later
from_later : {B Y : Type 0} (old now new : Told) (view : B → Y) (whole : List ℕ → Option Y) (r : Result B Error) → Stays old now
    → ReadsAs false now new view whole r → ReadsAs false old new view whole r
from_later old now new view whole r stays later =
    reads_behind false old now new (λ (n : ℕ). n) (λ room. Some 0) 0 view (λ n room. whole room) whole r (λ room. refl)
    (refl, stays, λ room told. refl) later

pub chosen_refused : {B : Type 0} (batch : Batch) (old now new : Told) (columns : List ℕ) (rest passed last : List FieldNode)
    (others over end : List Buffer) (k behind : ℕ) (arrays : List Column) (c : ℕ) (u : Field) (i : IpcField) (error : Error)
    (view : B → List (List Slot))
    → k < length columns → c ≡ get_or columns k c → u ≡ get_or batch.fields c u → c < length batch.ids → i ≡ get_or batch.ids c i
    → PassesTo batch behind c rest passed others over → ChosenToRead batch old now columns rest others k behind arrays
    → ReadsArray false now new (type_of u) (front_of batch passed over (ids_view i)) batch.version passed last over end (Err error)
    → ReadsAs {A = B} false old new view (given_of batch columns) (Err error)
chosen_refused {B} batch old now new columns rest passed last others over end k behind arrays c u i error view lt is its has beside skipped before
    read =
    let stands = next_stands batch old now columns rest others k behind arrays c lt is before in
    let gone = gone_to batch behind c rest passed others over stands.0 before.2 skipped in
    from_later {B = B} old now new view (given_of batch columns) (Err error) before.0
    (refusal_for now new (ForBytes now (λ room. array_slots (type_of u) (front_of batch passed over (ids_view i) room) ≡ None))
    (ForBytes now (λ room. given_of batch columns room ≡ None)) error false
    (λ none room told.
    before.1 room (sym before.0.0 ∙ told)
    ∙ ap (λ ks. given_of batch ks room >>= read_then arrays) (next_one columns k c lt is)
    ∙ ap (λ given. given >>= read_then arrays)
    (given_next batch c (drop (suc k) columns) u i passed over room stands.1 its has beside gone
    ∙ ap (λ (slots : Option (List Slot)). slots >>= then_more batch (drop (suc k) columns) room) (none room told)))
    read.0.0)

-- there are no ids beside a field
pub chosen_without : (batch : Batch) (old now : Told) (columns : List ℕ) (rest : List FieldNode) (others : List Buffer) (k behind : ℕ)
    (arrays : List Column) (c : ℕ) → k < length columns → c ≡ get_or columns k c → length batch.ids ≤ c
    → ChosenToRead batch old now columns rest others k behind arrays → ForBytes old (λ room. given_of batch columns room ≡ None)
chosen_without batch old now columns rest others k behind arrays c lt is none before room told =
    before.1 room told
    ∙ ap (λ ks. given_of batch ks room >>= read_then arrays) (next_one columns k c lt is)
    ∙ ap (λ given. given >>= read_then arrays) (given_without batch c (drop (suc k) columns) room none)

-- ---- at last

drop_past : {A : Type 0} (xs : List A) (k : ℕ) → length xs ≤ k → drop k xs ≡ []
drop_past [] zero past = refl
drop_past [] (suc k) past = refl
drop_past (x ∷ xs) zero past = absurd (omega (arith, past))
drop_past (x ∷ xs) (suc k) past = drop_past xs k (omega (arith, past))

pub take_past : {A : Type 0} (xs : List A) (k : ℕ) → length xs ≤ k → take k xs ≡ xs
take_past [] zero past = refl
take_past [] (suc k) past = refl
take_past (x ∷ xs) zero past = absurd (omega (arith, past))
take_past (x ∷ xs) (suc k) past = ap (λ ys. x ∷ ys) (take_past xs k (omega (arith, past)))

pub all_chosen : {B : Type 0} (batch : Batch) (old now : Told) (columns : List ℕ) (rest : List FieldNode) (others : List Buffer) (k behind : ℕ)
    (arrays : List Column) (b : B) (view : B → List (List Slot)) → length columns ≤ k → view b ≡ map slots arrays
    → ChosenToRead batch old now columns rest others k behind arrays → ReadsAs false old now view (given_of batch columns) (Ok b)
all_chosen batch old now columns rest others k behind arrays b view end seen before = (
  refl,
  before.0,
  λ room told.
      before.1 room told
      ∙ ap (λ ks. given_of batch ks room >>= read_then arrays) (drop_past columns k end)
      ∙ ap Some (append-nil (map slots arrays) ∙ sym seen),
)

pub all_types : (batch : Batch) (old now : Told) (columns : List ℕ) (rest : List FieldNode) (others : List Buffer) (k behind : ℕ)
    (arrays : List Column) → length columns ≤ k → ChosenToRead batch old now columns rest others k behind arrays
    → map column_type arrays ≡ map type_of (chosen columns batch.fields)
all_types batch old now columns rest others k behind arrays end before =
    before.3 ∙ ap (λ ks. map type_of (chosen ks batch.fields)) (take_past columns k end)
