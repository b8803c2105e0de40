-- The columns of some fields, read one after another.
use Rattle.std.proofs.Common.{◌≡◌, ◌∙◌, ◌+◌, ◌≤◌, ◌<◌, ℕ, zero, suc, List, [], ◌∷◌, ◌++◌, length, take, drop, map, get_or, false, refl, sym, ap, ap₂, arith}
use Rattle.std.proofs.Common.{append_assoc, subst}
use Rattle.std.specs.Prelude.{Option, Some, None, Result, Ok, Err}
use Rattle.std.proofs.Math.Seq.{drop-cons, take-suc}
use Rattle.std.proofs.lemmas.List.{append-nil, length-drop, map-append}
use Rattle.std.proofs.lemmas.List.Sums.{sum_by-append}
use Rattle.ipc_format_array_reading.specs.ReadArrays.{ReadsArray}
use Rattle.ipc_format_array_reading.specs.ArrayReads.{Takes, array_slots}
use Rattle.ipc_format_array_reading.specs.Queues.{IsEnd, TakesOff}
use Rattle.ipc_format_array_reading.specs.Rooms.{Told, Stays, ForBytes, ReadsAs}
use Rattle.ipc_format_array_reading.specs.columnar_memory.declared.DataType.{DataType}
use Rattle.ipc_format_array_reading.specs.columnar_memory.declared.Error.{Error}
use Rattle.ipc_format_array_reading.specs.columnar_memory.declared.Field.{Field}
use Rattle.ipc_format_array_reading.specs.columns.Slots.{Slot}
use Rattle.ipc_format_array_reading.specs.columns.StoredColumns.{Column, column_type, slots}
use Rattle.ipc_format_array_reading.specs.flatbuffers.Reading.{◌>>=◌}
use Rattle.ipc_format_array_reading.specs.grammar.Columns.{Place, behind_column}
use Rattle.ipc_format_array_reading.specs.grammar.Layouts.{buffer_count, node_count, total}
use Rattle.ipc_format_array_reading.specs.grammar.Messages.{Version}
use Rattle.ipc_format_array_reading.specs.grammar.Schemas.{IdsList, no_ids}
use Rattle.ipc_format_array_reading.specs.messages.declared.values.Buffer.{Buffer}
use Rattle.ipc_format_array_reading.specs.messages.declared.values.FieldNode.{FieldNode}
use Rattle.ipc_format_array_reading.specs.metadata.Views.{ids_view, ids_views}
use Rattle.ipc_format_array_reading.specs.metadata.declared.ipc_schema.IpcField.{IpcField}
use Rattle.ipc_format_array_reading.proofs.Taking.{drop_none, off_behind}
use Rattle.ipc_format_array_reading.proofs.ColumnReads.{takes_behind}
use Rattle.ipc_format_array_reading.proofs.NextBuffers.{refusal_for}
use Rattle.ipc_format_array_reading.proofs.Readings.{reads_behind}
use Rattle.ipc_format_reading.specs.Below.{arrays_below, buffers_below, nodes_below, type_of}

-- where the next column stands, by what is left of the nodes and of the buffers
abbrev pub At : Type 0
At = List FieldNode → List Buffer → List ℕ → Place

-- a column behind one is read where that one's nodes and buffers are off the fronts
abbrev pub Behind : Version → At → Type 0
Behind version at = (fields : List Field) (t : DataType) (nodes : List FieldNode) (buffers : List Buffer) (room : List ℕ) (below : IdsList)
    → arrays_below fields (behind_column (at nodes buffers room) t) below
    ≡ arrays_below fields (at (drop (node_count t) nodes) (drop (buffer_count version t) buffers) room) below

-- some columns that were read, and the slots of more
abbrev read_then : List Column → List (List Slot) → Option (List (List Slot))
read_then children later = Some (map slots children ++ later)

-- The columns of the first k fields are read: what is given of all fields is given by these and by the others.
abbrev pub LeftToRead : Version → At → Told → Told → List Field → List IpcField → List FieldNode → List FieldNode → List Buffer → List Buffer → ℕ
    → List Column → Type 0
LeftToRead version at old now fields ids nodes rest buffers others k children =
    Stays old now
    × ForBytes old (λ room. arrays_below fields (at nodes buffers room) (ids_views ids)
    ≡ (arrays_below (drop k fields) (at rest others room) (ids_views (drop k ids)) >>= read_then children))
    × ((nodes_below (take k fields) ≤ length nodes) × (rest ≡ drop (nodes_below (take k fields)) nodes))
    × ((buffers_below version (take k fields) ≤ length buffers) × (others ≡ drop (buffers_below version (take k fields)) buffers))
    × (map column_type children ≡ map type_of (take k fields))

-- ---- at first

given_itself : {A : Type 0} (r : Option (List A)) → r ≡ (r >>= (λ later. Some later))
given_itself None = refl
given_itself (Some xs) = refl

pub none_read : (version : Version) (at : At) (told : Told) (fields : List Field) (ids : List IpcField) (nodes : List FieldNode)
    (buffers : List Buffer) → LeftToRead version at told told fields ids nodes nodes buffers buffers 0 []
none_read version at told fields ids nodes buffers = (
  (refl, refl),
  λ room is. given_itself (arrays_below fields (at nodes buffers room) (ids_views ids))
      ∙ ap₂ (λ us vs. arrays_below us (at nodes buffers room) (ids_views vs) >>= (λ later. Some later)) (sym (drop_none fields))
      (sym (drop_none ids)),
  (omega arith, sym (drop_none nodes)),
  (omega arith, sym (drop_none buffers)),
  refl,
)

-- ---- one more

-- what is left of a list, by the next one
next_one : {A : Type 0} (xs : List A) (k : ℕ) (x : A) → k < length xs → x ≡ get_or xs k x → drop k xs ≡ x ∷ drop (suc k) xs
next_one xs k x lt is = drop-cons xs k x lt ∙ ap (λ y. y ∷ drop (suc k) xs) (sym is)

-- what is left, by the next column
next_given : (version : Version) (at : At) (fields : List Field) (ids : List IpcField) (k : ℕ) (u : Field) (i : IpcField)
    (rest : List FieldNode) (others : List Buffer) (room : List ℕ) → k < length fields → u ≡ get_or fields k u → k < length ids
    → i ≡ get_or ids k i → Behind version at → arrays_below (drop k fields) (at rest others room) (ids_views (drop k ids))
    ≡ (array_slots (type_of u) (record (at rest others room) { ids = ids_view i }) >>= (λ column.
    arrays_below (drop (suc k) fields) (at (drop (node_count (type_of u)) rest) (drop (buffer_count version (type_of u)) others) room)
    (ids_views (drop (suc k) ids)) >>= (λ columns. Some (column ∷ columns))))
next_given version at fields ids k u i rest others room lt is has its behind =
    ap₂ (λ us vs. arrays_below us (at rest others room) (ids_views vs)) (next_one fields k u lt is) (next_one ids k i has its)
    ∙ ap (λ later. array_slots (type_of u) (record (at rest others room) { ids = ids_view i }) >>= (λ column.
    later >>= (λ columns. Some (column ∷ columns)))) (behind (drop (suc k) fields) (type_of u) rest others room (ids_views (drop (suc k) ids)))

-- slots that are read one column further
read_more : (children : List Column) (array : Column) (later : Option (List (List Slot)))
    → ((later >>= (λ columns. Some (slots array ∷ columns))) >>= read_then children) ≡ (later >>= read_then (children ++ array ∷ []))
read_more children array None = refl
read_more children array (Some columns) =
    ap Some (sym (append_assoc (map slots children) (slots array ∷ []) columns)
    ∙ ap (λ front. front ++ columns) (sym (map-append slots children (array ∷ []))))

-- the counts of some fields and one more
total_next : {F : Type 0} (count : F → ℕ) (xs : List F) (k : ℕ) (x : F) → k < length xs → x ≡ get_or xs k x
    → total (map count (take (suc k) xs)) ≡ total (map count (take k xs)) + count x
total_next count xs k x below is =
    let more : take (suc k) xs ≡ take k xs ++ x ∷ [] = take-suc xs k x below ∙ ap (λ y. take k xs ++ y ∷ []) (sym is) in
    let list : map count (take (suc k) xs) ≡ map count (take k xs) ++ count x ∷ [] =
    ap (map count) more ∙ map-append count (take k xs) (x ∷ []) in
    let sums : total (map count (take k xs) ++ count x ∷ []) ≡ total (map count (take k xs)) + total (count x ∷ []) =
    sum_by-append (λ (n : ℕ). n) (map count (take k xs)) (count x ∷ []) in
    let one : total (count x ∷ []) ≡ count x = omega arith in
    ap total list ∙ sums ∙ ap (λ n. total (map count (take k xs)) + n) one

-- counts of one field more
off_more : {A : Type 0} (n m k : ℕ) (xs ys zs : List A) → k ≡ n + m → (n ≤ length xs) × (ys ≡ drop n xs) → (m ≤ length ys) × (zs ≡ drop m ys)
    → (k ≤ length xs) × (zs ≡ drop k xs)
off_more n m k xs ys zs is first later = takes_behind n m k xs ys zs is first later

pub one_more_read : (version : Version) (at : At) (old now new : Told) (fields : List Field) (ids : List IpcField) (nodes rest last : List FieldNode)
    (buffers others end : List Buffer) (k : ℕ) (children : List Column) (u : Field) (i : IpcField) (array : Column)
    → k < length fields → u ≡ get_or fields k u → k < length ids → i ≡ get_or ids k i → Behind version at
    → LeftToRead version at old now fields ids nodes rest buffers others k children
    → ReadsArray false now new (type_of u) (λ room. record (at rest others room) { ids = ids_view i }) version rest last others end (Ok array)
    → LeftToRead version at old new fields ids nodes last buffers end (suc k) (children ++ array ∷ [])
one_more_read version at old now new fields ids nodes rest last buffers others end k children u i array lt is has its behind before read =
    let t = type_of u in
    let stays : Stays old new =
    (read.0.0.1.0 ∙ before.0.0, read.0.0.1.1 ∙ before.0.1) in
    let more_nodes : nodes_below (take (suc k) fields) ≡ nodes_below (take k fields) + node_count t =
    total_next (λ (field : Field). node_count (type_of field)) fields k u lt is in
    let more_buffers : buffers_below version (take (suc k) fields) ≡ buffers_below version (take k fields) + buffer_count version t =
    total_next (λ (field : Field). buffer_count version (type_of field)) fields k u lt is in (
      stays,
      λ room told.
          before.1 room told
          ∙ ap (λ given. given >>= read_then children) (next_given version at fields ids k u i rest others room lt is has its behind
          ∙ ap (λ (given : Option (List Slot)). given >>= (λ column.
          arrays_below (drop (suc k) fields) (at (drop (node_count t) rest) (drop (buffer_count version t) others) room)
          (ids_views (drop (suc k) ids)) >>= (λ columns. Some (column ∷ columns)))) (read.0.0.2 room (before.0.0 ∙ told)))
          ∙ read_more children array (arrays_below (drop (suc k) fields)
          (at (drop (node_count t) rest) (drop (buffer_count version t) others) room) (ids_views (drop (suc k) ids)))
          ∙ ap₂ (λ ns bs. arrays_below (drop (suc k) fields) (at ns bs room) (ids_views (drop (suc k) ids)) >>= read_then (children ++ array ∷ []))
          (sym read.0.1.1) (sym read.0.2.1),
      off_more (nodes_below (take k fields)) (node_count t) (nodes_below (take (suc k) fields)) nodes rest last more_nodes before.2 read.0.1,
      off_more (buffers_below version (take k fields)) (buffer_count version t) (buffers_below version (take (suc k) fields)) buffers others end
          more_buffers before.3 read.0.2,
      map-append column_type children (array ∷ [])
          ∙ ap₂ (λ xs x. xs ++ x ∷ []) before.4 (read.1 ∙ ap type_of is)
          ∙ sym (map-append type_of (take k fields) (get_or fields k u ∷ []))
          ∙ ap (map type_of) (sym (take-suc fields k u lt)),
    )

-- the same under another name
pub read_to : (version : Version) (at : At) (old now : Told) (fields : List Field) (ids : List IpcField) (nodes rest : List FieldNode)
    (buffers others : List Buffer) (k n : ℕ) (children more : List Column) → k ≡ n → children ≡ more
    → LeftToRead version at old now fields ids nodes rest buffers others k children
    → LeftToRead version at old now fields ids nodes rest buffers others n more
read_to version at old now fields ids nodes rest buffers others k n children more places are left =
    subst (λ (m : ℕ). LeftToRead version at old now fields ids nodes rest buffers others m more) places
    (subst (λ (columns : List Column). LeftToRead version at old now fields ids nodes rest buffers others k columns) are left)

-- ---- refusals

-- what is answered of the whole by a call that comes later
from_later : {B Y : Type 0} (old now new : Told) (view : B → Y) (whole : List ℕ → Option Y) (r : Result B Error) → Stays old now
    → ReadsAs false now new view whole r → ReadsAs false old new view whole r
from_later old now new view whole r stays later =
    reads_behind false old now new (λ (n : ℕ). n) (λ room. Some 0) 0 view (λ n room. whole room) whole r (λ room. refl)
    (refl, stays, λ room told. refl) later

pub child_refused : {B : Type 0} (version : Version) (at : At) (old now new : Told) (fields : List Field) (ids : List IpcField)
    (nodes rest last : List FieldNode) (buffers others end : List Buffer) (k : ℕ) (children : List Column) (u : Field) (i : IpcField) (error : Error)
    (view : B → List (List Slot)) → k < length fields → u ≡ get_or fields k u → k < length ids → i ≡ get_or ids k i → Behind version at
    → LeftToRead version at old now fields ids nodes rest buffers others k children
    → ReadsArray false now new (type_of u) (λ room. record (at rest others room) { ids = ids_view i }) version rest last others end (Err error)
    → Takes false old new view (λ room. arrays_below fields (at nodes buffers room) (ids_views ids)) (nodes_below fields)
    (buffers_below version fields) nodes last buffers end (Err error)
child_refused {B} version at old now new fields ids nodes rest last buffers others end k children u i error view lt is has its behind before read =
    let t = type_of u in
    let whole : List ℕ → Option (List (List Slot)) = λ room. arrays_below fields (at nodes buffers room) (ids_views ids) in (
      from_later {B = B} old now new view whole (Err error) before.0
          (refusal_for now new (ForBytes now (λ room. array_slots t (record (at rest others room) { ids = ids_view i }) ≡ None))
          (ForBytes now (λ room. whole room ≡ None)) error false
          (λ none room told.
          before.1 room (sym before.0.0 ∙ told)
          ∙ ap (λ given. given >>= read_then children) (next_given version at fields ids k u i rest others room lt is has its behind
          ∙ ap (λ (given : Option (List Slot)). given >>= (λ column.
          arrays_below (drop (suc k) fields) (at (drop (node_count t) rest) (drop (buffer_count version t) others) room)
          (ids_views (drop (suc k) ids)) >>= (λ columns. Some (column ∷ columns)))) (none room told)))
          read.0.0),
      off_behind {X = B} (nodes_below (take k fields)) 0 (nodes_below (take k fields)) nodes rest last (Err error) (omega arith) before.2 read.0.1,
      off_behind {X = B} (buffers_below version (take k fields)) 0 (buffers_below version (take k fields)) buffers others end (Err error)
          (omega arith) before.3 read.0.2,
    )

-- there are no ids beside a field
drop_past : {A : Type 0} (xs : List A) (k : ℕ) → length xs ≤ k → drop k xs ≡ []
drop_past [] zero past = refl
drop_past [] (suc k) past = refl
drop_past (x ∷ xs) zero past = absurd (omega (arith, past))
drop_past (x ∷ xs) (suc k) past = drop_past xs k (omega (arith, past))

missing : (fields : List Field) (place : Place) → 0 < length fields → arrays_below fields place no_ids ≡ None
missing [] place some = absurd (omega (arith, some))
missing (u ∷ us) place some = refl

pub ids_missing : (version : Version) (at : At) (old now : Told) (fields : List Field) (ids : List IpcField)
    (nodes rest : List FieldNode) (buffers others : List Buffer) (k : ℕ) (children : List Column) → k < length fields
    → length ids ≤ k → LeftToRead version at old now fields ids nodes rest buffers others k children
    → ((false ≡ false) × ForBytes old (λ room. arrays_below fields (at nodes buffers room) (ids_views ids) ≡ None)) × IsEnd nodes rest
    × IsEnd buffers others
ids_missing version at old now fields ids nodes rest buffers others k children lt none before = (
  (
    refl,
    λ room told.
        before.1 room told
        ∙ ap (λ (vs : List IpcField). arrays_below (drop k fields) (at rest others room) (ids_views vs) >>= read_then children) (drop_past ids k none)
        ∙ ap (λ (given : Option (List (List Slot))). given >>= read_then children)
        (missing (drop k fields) (at rest others room) (omega (arith, length-drop k fields, lt))),
  ),
  (nodes_below (take k fields), before.2.1),
  (buffers_below version (take k fields), before.3.1),
)

-- a refusal for memory alone, behind what was read
pub memory_refused : {B : Type 0} (version : Version) (at : At) (old now : Told) (fields : List Field) (ids : List IpcField)
    (nodes rest : List FieldNode) (buffers others : List Buffer) (k : ℕ) (children : List Column) (error : Error)
    (view : B → List (List Slot)) → LeftToRead version at old now fields ids nodes rest buffers others k children
    → ((given : List ℕ → Option (List (List Slot))) → ReadsAs {A = B} false now now view given (Err error))
    → Takes false old now view (λ room. arrays_below fields (at nodes buffers room) (ids_views ids)) (nodes_below fields)
    (buffers_below version fields) nodes rest buffers others (Err error)
memory_refused {B} version at old now fields ids nodes rest buffers others k children error view before refused =
    let whole : List ℕ → Option (List (List Slot)) = λ room. arrays_below fields (at nodes buffers room) (ids_views ids) in (
      from_later {B = B} old now now view whole (Err error) before.0 (refused whole),
      (nodes_below (take k fields), before.2.1),
      (buffers_below version (take k fields), before.3.1),
    )

-- ---- at last

drop_all : {A : Type 0} (xs : List A) → drop (length xs) xs ≡ []
drop_all [] = refl
drop_all (x ∷ xs) = drop_all xs

take_all : {A : Type 0} (xs : List A) → take (length xs) xs ≡ xs
take_all [] = refl
take_all (x ∷ xs) = ap (λ ys. x ∷ ys) (take_all xs)

pub all_read : {B : Type 0} (version : Version) (at : At) (old now : Told) (fields : List Field) (ids : List IpcField)
    (nodes rest : List FieldNode) (buffers others : List Buffer) (k : ℕ) (children : List Column) (b : B) (view : B → List (List Slot))
    → k ≡ length fields → view b ≡ map slots children → LeftToRead version at old now fields ids nodes rest buffers others k children
    → Takes false old now view (λ room. arrays_below fields (at nodes buffers room) (ids_views ids)) (nodes_below fields)
    (buffers_below version fields) nodes rest buffers others (Ok b) × (map column_type children ≡ map type_of fields)
all_read {B} version at old now fields ids nodes rest buffers others k children b view is seen before =
    let whole : take k fields ≡ fields = ap (λ n. take n fields) is ∙ take_all fields in
    let none : drop k fields ≡ [] = ap (λ n. drop n fields) is ∙ drop_all fields in (
      (
        (
          refl,
          before.0,
          λ room told.
              before.1 room told
              ∙ ap (λ us. arrays_below us (at rest others room) (ids_views (drop k ids)) >>= read_then children) none
              ∙ ap Some (append-nil (map slots children) ∙ sym seen),
        ),
        subst (λ us. (nodes_below us ≤ length nodes) × (rest ≡ drop (nodes_below us) nodes)) whole before.2,
        subst (λ us. (buffers_below version us ≤ length buffers) × (others ≡ drop (buffers_below version us) buffers)) whole before.3,
      ),
      before.4 ∙ ap (map type_of) whole,
    )
