-- A column with columns below it, read as what stands before these, these, and what is made of both.
use Rattle.std.proofs.Common.{◌≡◌, ◌∙◌, ◌+◌, ℕ, List, [], ◌∷◌, Bool, true, false, length, map, refl, sym, ap, arith}
use Rattle.std.specs.Prelude.{Option, Some, None, Result, Ok, Err}
use mathlib.Core.Logic.{inl, inr}
use Rattle.ipc_format_array_reading.specs.ArrayReads.{Takes, fields_below}
use Rattle.ipc_format_array_reading.specs.Parts.{Makes, has_children, own_buffers}
use Rattle.ipc_format_array_reading.specs.Rooms.{Told, ForBytes}
use Rattle.ipc_format_array_reading.specs.columnar_memory.declared.DataType.{DataType}
use Rattle.ipc_format_array_reading.specs.columnar_memory.declared.DataType.TheOpen as layer
use Rattle.ipc_format_array_reading.specs.columnar_memory.declared.Error.{Error}
use Rattle.ipc_format_array_reading.specs.columns.Slots.{Slot}
use Rattle.ipc_format_array_reading.specs.columns.StoredColumns.{Column, slots, type_layer}
use Rattle.ipc_format_array_reading.specs.flatbuffers.Reading.{◌>>=◌, guard}
use Rattle.ipc_format_array_reading.specs.grammar.Columns.{ids_below}
use Rattle.ipc_format_array_reading.specs.grammar.Layouts.{buffer_count, node_count}
use Rattle.ipc_format_array_reading.specs.grammar.Messages.{Version}
use Rattle.ipc_format_array_reading.specs.grammar.Schemas.{Ids}
use Rattle.ipc_format_array_reading.specs.metadata.Views.{ids_step, ids_view, ids_views}
use Rattle.ipc_format_array_reading.specs.metadata.declared.ipc_schema.IpcField.{IpcField}
use Rattle.ipc_format_array_reading.specs.metadata.declared.ipc_schema.IpcField.TheViews.{out-IpcField, roll-IpcField, roll-out-IpcField}
use Rattle.ipc_format_array_reading.specs.metadata.declared.ipc_schema.IpcField.TheFolds.{fold-roll-IpcField}
use Rattle.ipc_format_array_reading.proofs.Layers.{layer_buffers, layer_nodes, type_buffers, type_nodes}
use Rattle.ipc_format_array_reading.proofs.Taking.{takes_as, takes_made, takes_refused, takes_then}
use Rattle.ipc_format_array_reading.proofs.Readings.{made_none, out_of_memory, out_of_spec}
use Rattle.ipc_format_array_reading.proofs.TypeLayers.{Layer}
use denote.Hole.Carrier
use Rattle.ipc_format_reading.specs.Below.{buffers_below, nodes_below}

-- ---- what is made

-- an array that is made has the slots that parts and children make
pub made_given : (test : Bool) (joined : Option (List Slot)) (made : Option Column)
    → (test ≡ true → joined ≡ (made >>= (λ c. Some (slots c)))) → (test ≡ false → made ≡ None)
    → (guard test >>= (λ _. joined)) ≡ (made >>= (λ c. Some (slots c)))
made_given true joined made same none = same refl
made_given false joined made same none = sym (ap (λ (m : Option Column). m >>= (λ c. Some (slots c))) (none refl))

-- what a call answers that makes the array of children that were read
array_behind : {A X Y : Type 0} (old new : Told) (view : A → List (List Slot)) (given : List ℕ → Option (List (List Slot))) (children : A)
    (made : Option Column) (joined : List (List Slot) → Option (List Slot)) (n b : ℕ) (ns ns1 : List X) (bs bs1 : List Y)
    (r : Result Column Error) → joined (view children) ≡ (made >>= (λ c. Some (slots c)))
    → Takes false old new view given n b ns ns1 bs bs1 (Ok children) → Makes made r
    → Takes false old new slots (λ room. given room >>= joined) n b ns ns1 bs bs1 r
array_behind old new view given children made joined n b ns ns1 bs bs1 (Ok array) is before makes =
    takes_made old new view given children slots (λ columns room. joined columns) (λ room. given room >>= joined) array n b ns ns1 bs bs1
    (λ room. refl) before (λ room. is ∙ ap (λ (m : Option Column). m >>= (λ c. Some (slots c))) makes)
array_behind old new view given children made joined n b ns ns1 bs bs1 (Err error) is before makes = (
  elim makes [
    | inl memory ↦ out_of_memory old new (ForBytes old (λ room. (given room >>= joined) ≡ None)) false error memory refl
    | inr none ↦ out_of_spec old new (ForBytes old (λ room. (given room >>= joined) ≡ None)) false error none.0 refl
        (made_none false old new view given children (λ columns room. joined columns) (λ room. given room >>= joined) (λ room. refl) before.0
        (λ room. is ∙ ap (λ (m : Option Column). m >>= (λ c. Some (slots c))) none.1))
  ],
  (n, before.1.1),
  (b, before.2.1),
)

-- ---- the whole column

-- What is given of a column is given by its parts, by what is below these, and by what both make.
abbrev pub IsByParts : {P : Type 0} → (List ℕ → Option (List Slot)) → (List ℕ → Option P) → (P → List ℕ → Option (List (List Slot)))
    → (P → List (List Slot) → Option (List Slot)) → Type 0
IsByParts whole parts below joined =
    (room : List ℕ) → whole room ≡ (parts room >>= (λ x. below x room >>= (λ columns. joined x columns)))

-- the parts are refused
pub parts_refused : {A P X Y : Type 0} (old new : Told) (view : A → P) (parts : List ℕ → Option P) (whole : List ℕ → Option (List Slot))
    (below : P → List ℕ → Option (List (List Slot))) (joined : P → List (List Slot) → Option (List Slot)) (error : Error) (n b m c : ℕ)
    (ns ns1 : List X) (bs bs1 : List Y) → IsByParts whole parts below joined
    → Takes {A = A} false old new view parts n b ns ns1 bs bs1 (Err error)
    → Takes {A = Column} false old new slots whole m c ns ns1 bs bs1 (Err error)
parts_refused old new view parts whole below joined error n b m c ns ns1 bs bs1 is refused =
    takes_refused old new view parts slots (λ x room. below x room >>= (λ columns. joined x columns)) whole error n b m c ns ns1 bs bs1 is refused

-- the children are refused
pub children_refused : {A B P X Y : Type 0} (old mid new : Told) (view : A → P) (parts : List ℕ → Option P) (begun : A)
    (children_view : B → List (List Slot)) (children : List ℕ → Option (List (List Slot))) (whole : List ℕ → Option (List Slot))
    (below : P → List ℕ → Option (List (List Slot))) (joined : P → List (List Slot) → Option (List Slot)) (error : Error) (n b m c k l : ℕ)
    (ns ns1 ns2 : List X) (bs bs1 bs2 : List Y) → IsByParts whole parts below joined → k ≡ n + m → l ≡ b + c
    → ((room : List ℕ) → below (view begun) room ≡ children room) → Takes false old mid view parts n b ns ns1 bs bs1 (Ok begun)
    → Takes {A = B} false mid new children_view children m c ns1 ns2 bs1 bs2 (Err error)
    → Takes {A = Column} false old new slots whole k l ns ns2 bs bs2 (Err error)
children_refused old mid new view parts begun children_view children whole below joined error n b m c k l ns ns1 ns2 bs bs1 bs2 is nodes buffers same
    before refused =
    takes_then old mid new view parts begun slots (λ x room. below x room >>= (λ columns. joined x columns)) whole (Err error) n b m c k l
    ns ns1 ns2 bs bs1 bs2 is nodes buffers before
    (takes_refused mid new children_view children slots (λ columns room. joined (view begun) columns)
    (λ room. below (view begun) room >>= (λ columns. joined (view begun) columns)) error m c m c ns1 ns2 bs1 bs2
    (λ room. ap (λ (found : Option (List (List Slot))). found >>= (λ columns. joined (view begun) columns)) (same room)) refused)

-- the array is made, or it cannot be
pub array_made : {A B P X Y : Type 0} (old mid new : Told) (view : A → P) (parts : List ℕ → Option P) (begun : A)
    (children_view : B → List (List Slot)) (children : List ℕ → Option (List (List Slot))) (found : B) (whole : List ℕ → Option (List Slot))
    (below : P → List ℕ → Option (List (List Slot))) (joined : P → List (List Slot) → Option (List Slot)) (made : Option Column)
    (r : Result Column Error) (n b m c k l : ℕ) (ns ns1 ns2 : List X) (bs bs1 bs2 : List Y) → IsByParts whole parts below joined → k ≡ n + m
    → l ≡ b + c → ((room : List ℕ) → below (view begun) room ≡ children room)
    → joined (view begun) (children_view found) ≡ (made >>= (λ c. Some (slots c)))
    → Takes false old mid view parts n b ns ns1 bs bs1 (Ok begun) → Takes false mid new children_view children m c ns1 ns2 bs1 bs2 (Ok found)
    → Makes made r → Takes false old new slots whole k l ns ns2 bs bs2 r
array_made old mid new view parts begun children_view children found whole below joined made r n b m c k l ns ns1 ns2 bs bs1 bs2 is nodes buffers same
    joins before later makes =
    takes_then old mid new view parts begun slots (λ x room. below x room >>= (λ columns. joined x columns)) whole r n b m c k l
    ns ns1 ns2 bs bs1 bs2 is nodes buffers before
    (takes_as mid new slots (λ room. children room >>= joined (view begun))
    (λ room. below (view begun) room >>= (λ columns. joined (view begun) columns)) m c m c ns1 ns2 bs1 bs2 r
    (λ room. ap (λ (columns : Option (List (List Slot))). columns >>= joined (view begun)) (same room)) refl refl
    (array_behind mid new children_view children found made (joined (view begun)) m c ns1 ns2 bs1 bs2 r joins later makes))

-- ---- counts

nested_nodes : (x : Layer) → has_children x ≡ true → layer_nodes x ≡ 1 + nodes_below (fields_below x)
nested_nodes (layer.List item) is = refl
nested_nodes (layer.LargeList item) is = refl
nested_nodes (layer.FixedSizeList item size) is = refl
nested_nodes (layer.Map entry is_sorted) is = refl
nested_nodes (layer.Struct fields) is = refl
nested_nodes (layer.Union fields numbers mode) is = refl
nested_nodes x is = absurd cc

nested_buffers : (version : Version) (x : Layer) → has_children x ≡ true
    → layer_buffers version x ≡ own_buffers version x + buffers_below version (fields_below x)
nested_buffers version (layer.List item) is = refl
nested_buffers version (layer.LargeList item) is = refl
nested_buffers version (layer.FixedSizeList item size) is = refl
nested_buffers version (layer.Map entry is_sorted) is = refl
nested_buffers version (layer.Struct fields) is = refl
nested_buffers version (layer.Union fields numbers mode) is = refl
nested_buffers version x is = absurd cc

-- a column has its own node and buffers, and those of the columns below it
pub nodes_are : (t : DataType) → has_children (type_layer t) ≡ true → node_count t ≡ 1 + nodes_below (fields_below (type_layer t))
nodes_are t is = type_nodes t ∙ nested_nodes (type_layer t) is

pub buffers_are : (version : Version) (t : DataType) → has_children (type_layer t) ≡ true
    → buffer_count version t ≡ own_buffers version (type_layer t) + buffers_below version (fields_below (type_layer t))
buffers_are version t is = type_buffers version t ∙ nested_buffers version (type_layer t) is

-- ---- ids

-- the ids below a field are those of the fields below it
pub ids_below_are : (field : IpcField) → ids_below (ids_view field) ≡ ids_views (out-IpcField field).fields
unfolding roll-IpcField denote.Hole.Carrier.roll
ids_below_are field =
    ap ids_below (ap ids_view (sym (roll-out-IpcField field)) ∙ fold-roll-IpcField Ids ids_step (out-IpcField field))
