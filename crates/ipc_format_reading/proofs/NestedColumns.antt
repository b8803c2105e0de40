-- A column of a type with columns below it, by its parts, by what is below these, and by what both make.
use Rattle.std.proofs.Common.{◌≡◌, ◌∙◌, ◌+◌, ℕ, List, Bool, true, false, drop, map, refl, sym, ap, subst}
use Rattle.std.specs.Prelude.{Option, Some, None, Result, Ok, Err, IfOk}
use Rattle.ipc_format_array_reading.specs.ReadArrays.{ReadsArray, at_front}
use Rattle.ipc_format_array_reading.specs.ArrayReads.{Takes, array_slots, fields_below}
use Rattle.ipc_format_array_reading.specs.Limits.{AlikeLimits}
use Rattle.ipc_format_array_reading.specs.Parts.{AreInRange, AreParts, Makes, Parts, has_children, limit_below, made_column, next_parts}
use Rattle.ipc_format_array_reading.specs.Parts.{own_buffers, parts_in}
use Rattle.ipc_format_array_reading.specs.declared.begun.Begun.{Begun}
use Rattle.ipc_format_array_reading.specs.Buffers.{node_of}
use Rattle.ipc_format_array_reading.specs.Rooms.{Told}
use Rattle.ipc_format_array_reading.specs.columnar_memory.declared.DataType.{DataType}
use Rattle.ipc_format_array_reading.specs.columnar_memory.declared.Error.{Error}
use Rattle.ipc_format_array_reading.specs.columnar_memory.declared.Field.{Field}
use Rattle.ipc_format_array_reading.specs.columns.Slots.{Slot}
use Rattle.ipc_format_array_reading.specs.columns.SoundColumns.{are_sound}
use Rattle.ipc_format_array_reading.specs.columns.StoredColumns.{Column, column_type, in_columns, slots, type_layer}
use Rattle.ipc_format_array_reading.specs.flatbuffers.Reading.{◌>>=◌, guard}
use Rattle.ipc_format_array_reading.specs.grammar.Columns.{Dictionary, first_below, ids_below}
use Rattle.ipc_format_array_reading.specs.grammar.Layouts.{buffer_count, node_count}
use Rattle.ipc_format_array_reading.specs.grammar.Messages.{Version}
use Rattle.ipc_format_array_reading.specs.grammar.Schemas.{Ids, IdsList}
use Rattle.ipc_format_array_reading.specs.messages.declared.values.Buffer.{Buffer}
use Rattle.ipc_format_array_reading.specs.messages.declared.values.FieldNode.{FieldNode}
use Rattle.ipc_format_reading.specs.Below.{arrays_below, buffers_below, no_own_ids, nodes_below, type_of}
use Rattle.ipc_format_reading.proofs.AlikeFronts.{below_fronts}
use Rattle.ipc_format_reading.proofs.JoinedSlots.{AreTyped, joined_slots, layer_arrays}
use Rattle.ipc_format_reading.proofs.MadeColumns.{made_has_slots}
use Rattle.ipc_format_reading.proofs.MadeNone.{made_none}
use Rattle.ipc_format_reading.proofs.MadeParts.{parts_whole}
use Rattle.ipc_format_reading.proofs.MadeTypes.{made_type}
use Rattle.ipc_format_reading.proofs.NestedReads.{IsByParts, array_made, buffers_are, children_refused, made_given, nodes_are, parts_refused}
use Rattle.ipc_format_reading.proofs.PartsReads.{arrays_by_parts}

-- ---- the test of a layer, made last

none_after : {A B : Type 0} (r : Option A) → ◌≡◌ {A = Option B} None (r >>= (λ x. None))
none_after None = refl
none_after (Some x) = refl

guard_last : {A B C : Type 0} (test : Bool) (r : Option A) (s : A → Option B) (f : A → B → Option C)
    → (guard test >>= (λ _. r >>= (λ x. s x >>= (λ y. f x y)))) ≡ (r >>= (λ x. s x >>= (λ y. guard test >>= (λ _. f x y))))
guard_last true r s f = refl
guard_last false None s f = refl
guard_last false (Some x) s f = none_after (s x)

-- ---- what a column is read by

-- what parts and children make, where there are arrays of the layer
abbrev pub joined_in : DataType → Option ℕ → Parts → List (List Slot) → Option (List Slot)
joined_in t limit parts columns = guard (layer_arrays (type_layer t)) >>= (λ _. joined_slots (type_layer t) limit parts columns)

-- what is below a column, behind its own node and buffers
abbrev pub columns_in : DataType → List FieldNode → List Buffer → Version → Bool → List Dictionary → Option ℕ → ℕ → Ids → Parts → List ℕ
    → Option (List (List Slot))
columns_in t nodes buffers version little standing limit origin here parts room = arrays_below (fields_below (type_layer t))
    (first_below (at_front nodes buffers version little standing limit origin here room) (own_buffers version (type_layer t))
    (limit_below (type_layer t) limit parts)) (ids_below here)

by_parts : (t : DataType) (nodes : List FieldNode) (buffers : List Buffer) (version : Version) (little : Bool) (standing : List Dictionary)
    (limit : Option ℕ) (origin : ℕ) (here : Ids) → has_children (type_layer t) ≡ true
    → IsByParts (λ room. array_slots t (at_front nodes buffers version little standing limit origin here room))
    (λ room. next_parts (type_layer t) version little nodes limit buffers origin room)
    (columns_in t nodes buffers version little standing limit origin here) (joined_in t limit)
by_parts t nodes buffers version little standing limit origin here nested room =
    arrays_by_parts t nodes buffers version little standing limit origin here room nested
    ∙ guard_last (layer_arrays (type_layer t)) (next_parts (type_layer t) version little nodes limit buffers origin room)
    (λ parts. columns_in t nodes buffers version little standing limit origin here parts room)
    (λ parts columns. joined_slots (type_layer t) limit parts columns)

-- what is below a column, at the fronts of what its own node and buffers leave
below_is : (t : DataType) (fields : List Field) (nodes rest : List FieldNode) (buffers others : List Buffer) (version : Version) (little : Bool)
    (standing : List Dictionary) (limit lower : Option ℕ) (origin : ℕ) (here : Ids) (below : IdsList) (begun : Begun) (room : List ℕ)
    → fields ≡ fields_below (type_layer t) → below ≡ ids_below here → rest ≡ drop 1 nodes → others ≡ drop (own_buffers version (type_layer t)) buffers
    → AlikeLimits (map node_of rest) (limit_below (type_layer t) limit (parts_in begun)) lower
    → columns_in t nodes buffers version little standing limit origin here (parts_in begun) room
    ≡ arrays_below fields (at_front rest others version little standing lower origin no_own_ids room) below
below_is t fields nodes rest buffers others version little standing limit lower origin here below begun room are ids first behind agree =
    below_fronts (fields_below (type_layer t)) nodes buffers version little standing limit (limit_below (type_layer t) limit (parts_in begun)) lower
    origin (own_buffers version (type_layer t)) here no_own_ids room (ids_below here)
    (subst (λ (ns : List FieldNode). AlikeLimits (map node_of ns) (limit_below (type_layer t) limit (parts_in begun)) lower) first agree)
    ∙ (λ i. arrays_below (sym are i) (at_front (sym first i) (sym behind i) version little standing lower origin no_own_ids room) (sym ids i))

-- an array that is made has the slots that parts and children make
joins : (t : DataType) (limit : Option ℕ) (begun : Begun) (cs : List Column) (fields : List Field) → fields ≡ fields_below (type_layer t)
    → AreParts (type_layer t) begun → AreInRange begun → are_sound (in_columns cs) ≡ true → map column_type cs ≡ map type_of fields
    → joined_in t limit (parts_in begun) (map slots cs) ≡ (made_column t limit (parts_in begun) cs >>= (λ c. Some (slots c)))
joins t limit begun cs fields are fit ranges sound types =
    let typed : AreTyped (fields_below (type_layer t)) cs = types ∙ ap (map type_of) are in
    made_given (layer_arrays (type_layer t)) (joined_slots (type_layer t) limit (parts_in begun) (map slots cs))
    (made_column t limit (parts_in begun) cs)
    (λ arrays. made_has_slots t limit (parts_in begun) cs arrays (parts_whole (type_layer t) begun fit ranges)
    (record { sound = sound; typed = typed }))
    (λ bare. made_none t limit (parts_in begun) cs bare typed)

-- ---- what is answered

made_typed : (t : DataType) (limit : Option ℕ) (parts : Parts) (cs : List Column) (r : Result Column Error)
    → Makes (made_column t limit parts cs) r → IfOk r (λ array. column_type array ≡ t)
made_typed t limit parts cs (Ok array) makes = made_type t limit parts cs array makes
made_typed t limit parts cs (Err error) makes = tt

pub begun_refused : (t : DataType) (nodes rest : List FieldNode) (buffers others : List Buffer) (version : Version) (little : Bool)
    (standing : List Dictionary) (limit : Option ℕ) (origin : ℕ) (here : Ids) (old new : Told) (error : Error)
    → has_children (type_layer t) ≡ true
    → Takes {A = Begun} false old new parts_in (next_parts (type_layer t) version little nodes limit buffers origin) 1
    (own_buffers version (type_layer t)) nodes rest buffers others (Err error)
    → ReadsArray false old new t (at_front nodes buffers version little standing limit origin here) version nodes rest buffers others (Err error)
begun_refused t nodes rest buffers others version little standing limit origin here old new error nested refused = (
  parts_refused old new parts_in (next_parts (type_layer t) version little nodes limit buffers origin)
      (λ room. array_slots t (at_front nodes buffers version little standing limit origin here room))
      (columns_in t nodes buffers version little standing limit origin here) (joined_in t limit) error 1 (own_buffers version (type_layer t))
      (node_count t) (buffer_count version t) nodes rest buffers others
      (by_parts t nodes buffers version little standing limit origin here nested) refused,
  tt,
)

-- what stands of a column before its children, once it is read
abbrev pub HasBegun : DataType → List FieldNode → List FieldNode → List Buffer → List Buffer → Version → Bool → Option ℕ → ℕ → Told → Told → Begun
    → Type 0
HasBegun t nodes rest buffers others version little limit origin old mid begun =
    Takes false old mid parts_in (next_parts (type_layer t) version little nodes limit buffers origin) 1 (own_buffers version (type_layer t))
    nodes rest buffers others (Ok begun)

pub below_refused : {B : Type 0} (t : DataType) (fields : List Field) (nodes rest last : List FieldNode) (buffers others end : List Buffer)
    (version : Version) (little : Bool) (standing : List Dictionary) (limit lower : Option ℕ) (origin : ℕ) (here : Ids) (below : IdsList)
    (old mid new : Told) (begun : Begun) (view : B → List (List Slot)) (error : Error) → has_children (type_layer t) ≡ true
    → fields ≡ fields_below (type_layer t) → below ≡ ids_below here
    → AlikeLimits (map node_of rest) (limit_below (type_layer t) limit (parts_in begun)) lower
    → HasBegun t nodes rest buffers others version little limit origin old mid begun
    → Takes false mid new view
    (λ room. arrays_below fields (at_front rest others version little standing lower origin no_own_ids room) below)
    (nodes_below fields) (buffers_below version fields) rest last others end (Err error)
    → ReadsArray false old new t (at_front nodes buffers version little standing limit origin here) version nodes last buffers end (Err error)
below_refused t fields nodes rest last buffers others end version little standing limit lower origin here below old mid new begun view error nested
    are ids agree before refused = (
      children_refused old mid new parts_in (next_parts (type_layer t) version little nodes limit buffers origin) begun view
          (λ room. arrays_below fields (at_front rest others version little standing lower origin no_own_ids room) below)
          (λ room. array_slots t (at_front nodes buffers version little standing limit origin here room))
          (columns_in t nodes buffers version little standing limit origin here) (joined_in t limit) error 1 (own_buffers version (type_layer t))
          (nodes_below fields) (buffers_below version fields) (node_count t) (buffer_count version t) nodes rest last buffers others end
          (by_parts t nodes buffers version little standing limit origin here nested)
          (nodes_are t nested ∙ ap (λ us. 1 + nodes_below us) (sym are))
          (buffers_are version t nested ∙ ap (λ us. own_buffers version (type_layer t) + buffers_below version us) (sym are))
          (λ room. below_is t fields nodes rest buffers others version little standing limit lower origin here below begun room are ids
          before.1.1 before.2.1 agree) before refused,
      tt,
    )

pub nested_read : {B : Type 0} (t : DataType) (fields : List Field) (nodes rest last : List FieldNode) (buffers others end : List Buffer)
    (version : Version) (little : Bool) (standing : List Dictionary) (limit lower : Option ℕ) (origin : ℕ) (here : Ids) (below : IdsList)
    (old mid new : Told) (begun : Begun) (view : B → List (List Slot)) (found : B) (cs : List Column) (r : Result Column Error)
    → has_children (type_layer t) ≡ true → fields ≡ fields_below (type_layer t) → below ≡ ids_below here
    → AlikeLimits (map node_of rest) (limit_below (type_layer t) limit (parts_in begun)) lower → AreParts (type_layer t) begun
    → HasBegun t nodes rest buffers others version little limit origin old mid begun
    → view found ≡ map slots cs → map column_type cs ≡ map type_of fields
    → Takes false mid new view
    (λ room. arrays_below fields (at_front rest others version little standing lower origin no_own_ids room) below)
    (nodes_below fields) (buffers_below version fields) rest last others end (Ok found)
    → AreInRange begun → are_sound (in_columns cs) ≡ true → Makes (made_column t limit (parts_in begun) cs) r
    → ReadsArray false old new t (at_front nodes buffers version little standing limit origin here) version nodes last buffers end r
nested_read t fields nodes rest last buffers others end version little standing limit lower origin here below old mid new begun view found cs r
    nested are ids agree fit before seen types later ranges sound makes = (
      array_made old mid new parts_in (next_parts (type_layer t) version little nodes limit buffers origin) begun view
          (λ room. arrays_below fields (at_front rest others version little standing lower origin no_own_ids room) below) found
          (λ room. array_slots t (at_front nodes buffers version little standing limit origin here room))
          (columns_in t nodes buffers version little standing limit origin here) (joined_in t limit) (made_column t limit (parts_in begun) cs) r 1
          (own_buffers version (type_layer t)) (nodes_below fields) (buffers_below version fields) (node_count t) (buffer_count version t)
          nodes rest last buffers others end (by_parts t nodes buffers version little standing limit origin here nested)
          (nodes_are t nested ∙ ap (λ us. 1 + nodes_below us) (sym are))
          (buffers_are version t nested ∙ ap (λ us. own_buffers version (type_layer t) + buffers_below version us) (sym are))
          (λ room. below_is t fields nodes rest buffers others version little standing limit lower origin here below begun room are ids
          before.1.1 before.2.1 agree)
          (ap (joined_in t limit (parts_in begun)) seen ∙ joins t limit begun cs fields are fit ranges sound types) before later makes,
      made_typed t limit (parts_in begun) cs r makes,
    )
