-- What calls answer that read a column as an array of any type, by what the typed readers answer.
use Rattle.std.proofs.Common.{◌≡◌, ◌∙◌, ◌≤◌, ℕ, List, [], Bool, true, false, length, drop, refl, sym, ap, subst, arith, inl, inr}
use Rattle.std.specs.Prelude.{Option, Some, None, Result, Ok, Err, IfOk}
use Rattle.std.proofs.lemmas.Bool.{false≢true, true≢false}
use Rattle.ipc_format_column_writing.specs.columnar_memory.Error.{IsOutOfMemory, IsOutOfSpec}
use Rattle.ipc_format_column_writing.specs.columnar_memory.Layouts.{physical_type}
use Rattle.ipc_format_column_writing.specs.columnar_memory.declared.DataType.{DataType}
use Rattle.ipc_format_column_writing.specs.columnar_memory.declared.DataType.TheOpen as layer
use Rattle.ipc_format_column_writing.specs.columnar_memory.declared.Error.{Error}
use Rattle.ipc_format_column_writing.specs.columnar_memory.declared.IntervalUnit.TheVariants as intervals
use Rattle.ipc_format_column_writing.specs.columnar_memory.declared.PhysicalType.{PhysicalType}
use Rattle.ipc_format_column_writing.specs.columnar_memory.declared.PhysicalType.TheVariants as physical
use Rattle.ipc_format_column_writing.specs.nested_arrays.Slots.{Slot}
use Rattle.ipc_format_column_writing.specs.nested_arrays.StoredColumns.{Column, column_type, slots, type_layer}
use Rattle.ipc_format_column_writing.specs.grammar.Columns.{Place, slots_in}
use Rattle.ipc_format_column_writing.specs.grammar.Layouts.{buffer_count, node_count}
use Rattle.ipc_format_column_writing.specs.grammar.Messages.{V5, Version}
use Rattle.ipc_format_column_writing.specs.messages.declared.values.Buffer.{Buffer}
use Rattle.ipc_format_column_writing.specs.messages.declared.values.FieldNode.{FieldNode}
use Rattle.ipc_format_column_writing.specs.column_reading.Queues.{TakesOff}
use Rattle.ipc_format_column_writing.specs.column_reading.Reads.{ReadsColumn, front, front_slots}
use Rattle.ipc_format_column_writing.specs.column_reading.Rooms.{ForBytes, IsRefusal, ReadsAs, Stays, Told}
use Rattle.ipc_format_array_reading.specs.ArrayReads.{Takes}
use Rattle.ipc_format_array_reading.specs.TypedReads.{ReadsNulls, front_array}
use Rattle.ipc_format_array_reading.proofs.Layers.{layer_plain, layer_reads, read_layer}
use Rattle.ipc_format_array_reading.proofs.Taking.{drop_none, takes_as, takes_none, takes_stopped}
use Rattle.ipc_format_column_writing.proofs.reading_lemmas.Readings.{out_of_memory, out_of_spec}
use Rattle.ipc_format_column_writing.proofs.columns_lemmas.TypeLayers.{Layer, is_extension, layer_layout, layout_is}
use Rattle.ipc_format_array_reading.specs.Flats.{IsAnyOf, ReadsFlat}
use Rattle.ipc_format_array_reading.specs.ReadArrays.{ReadsArray}

-- an array of any type: what comes off the queues, and the type
abbrev pub TakesTyped : Told → Told → DataType → (List ℕ → Option (List Slot)) → ℕ → ℕ → List FieldNode → List FieldNode → List Buffer
    → List Buffer → Result Column Error → Type 0
TakesTyped old new t given n b nodes nodes1 buffers buffers1 r =
    Takes false old new slots given n b nodes nodes1 buffers buffers1 r × IfOk r (λ array. column_type array ≡ t)

-- what a typed reader answers is so of the array of any type
pub any_read : {A : Type 0} (Kind : Type 0) (old new : Told) (column : A → Column) (t : DataType) (given other : List ℕ → Option (List Slot))
    (n b m c : ℕ) (nodes nodes1 : List FieldNode) (buffers buffers1 : List Buffer) (r : Result A Error) (any : Result Column Error) → Kind
    → ((room : List ℕ) → other room ≡ given room) → m ≡ n → c ≡ b
    → ReadsColumn Kind false old new column t given n b nodes nodes1 buffers buffers1 r → IsAnyOf column r any
    → TakesTyped old new t other m c nodes nodes1 buffers buffers1 any
any_read Kind old new column t given other n b m c nodes nodes1 buffers buffers1 (Ok array) (Ok any) kind same nodes_are buffers_are read is =
    subst (λ (found : Column). TakesTyped old new t other m c nodes nodes1 buffers buffers1 (Ok found)) (sym is) (
      takes_as old new slots given other n b m c nodes nodes1 buffers buffers1 (Ok (column array)) same nodes_are buffers_are
          (read.2, read.3, read.4),
      read.1,
    )
any_read Kind old new column t given other n b m c nodes nodes1 buffers buffers1 (Err error) (Err refusal) kind same nodes_are buffers_are read is =
    subst (λ (e : Error). TakesTyped old new t other m c nodes nodes1 buffers buffers1 (Err e)) (sym is) (elim read [
      | inl found ↦ (
        takes_as old new slots given other n b m c nodes nodes1 buffers buffers1 (Err error) same nodes_are buffers_are
            (found.1, found.2, found.3),
        tt,
      )
      | inr apart ↦ absurd (apart.0 kind)
    ])
any_read Kind old new column t given other n b m c nodes nodes1 buffers buffers1 (Ok array) (Err refusal) kind same nodes_are buffers_are read is =
    absurd is
any_read Kind old new column t given other n b m c nodes nodes1 buffers buffers1 (Err error) (Ok any) kind same nodes_are buffers_are read is =
    absurd is

-- the same reading under another name
pub typed_as : (old new : Told) (t : DataType) (given other : List ℕ → Option (List Slot)) (n b m c : ℕ) (nodes nodes1 : List FieldNode)
    (buffers buffers1 : List Buffer) (r : Result Column Error) → ((room : List ℕ) → other room ≡ given room) → m ≡ n → c ≡ b
    → TakesTyped old new t given n b nodes nodes1 buffers buffers1 r → TakesTyped old new t other m c nodes nodes1 buffers buffers1 r
typed_as old new t given other n b m c nodes nodes1 buffers buffers1 r same nodes_are buffers_are read = (
  takes_as old new slots given other n b m c nodes nodes1 buffers buffers1 r same nodes_are buffers_are read.0,
  read.1,
)

-- a refusal that takes nothing
pub typed_stopped : (told : Told) (t : DataType) (given : List ℕ → Option (List Slot)) (n b : ℕ) (nodes : List FieldNode) (buffers : List Buffer)
    (error : Error) → IsRefusal false told told (ForBytes told (λ room. given room ≡ None)) error
    → TakesTyped told told t given n b nodes nodes buffers buffers (Err error)
typed_stopped told t given n b nodes buffers error refusal =
    (takes_stopped {B = Column} told slots given error n b nodes buffers refusal, tt)

-- ---- nulls

abbrev is_null : PhysicalType → Bool
is_null physical.Null = true
is_null _ = false

null_layer : (x : Layer) (nodes : List FieldNode) (buffers : List Buffer) (little : Bool) (limit : Option ℕ) (origin : ℕ) (room : List ℕ)
    → is_null (layer_layout x) ≡ true → is_extension x ≡ false
    → read_layer x (front nodes buffers little limit origin room) ≡ read_layer x (front nodes [] true limit 0 [])
null_layer layer.Null nodes buffers little limit origin room is plain = refl
null_layer (layer.Interval intervals.YearMonth) nodes buffers little limit origin room is plain = absurd (false≢true is)
null_layer (layer.Interval intervals.DayTime) nodes buffers little limit origin room is plain = absurd (false≢true is)
null_layer (layer.Interval intervals.MonthDayNano) nodes buffers little limit origin room is plain = absurd (false≢true is)
null_layer (layer.Extension name inner metadata) nodes buffers little limit origin room is plain = absurd (true≢false plain)
null_layer x nodes buffers little limit origin room is plain = absurd (false≢true is)

-- nulls are read by their node alone
pub nulls_same : (t : DataType) (nodes : List FieldNode) (buffers : List Buffer) (little : Bool) (limit : Option ℕ) (origin : ℕ)
    → physical_type t ≡ physical.Null → (room : List ℕ)
    → front_slots t nodes buffers little limit origin room ≡ front_slots t nodes [] true limit 0 []
nulls_same t nodes buffers little limit origin is room =
    ap (λ r. r (front nodes buffers little limit origin room)) (layer_reads t)
    ∙ null_layer (type_layer t) nodes buffers little limit origin room (ap is_null (sym (layout_is t) ∙ is)) (layer_plain t)
    ∙ sym (ap (λ r. r (front nodes [] true limit 0 [])) (layer_reads t))

stays : (told : Told) → Stays told told
stays told = (refl, refl)

pub nulls_read : (told : Told) (t : DataType) (given : Option (List Slot)) (other : List ℕ → Option (List Slot)) (m c : ℕ)
    (nodes nodes1 : List FieldNode) (buffers : List Buffer) (r any : Result Column Error) → physical_type t ≡ physical.Null
    → ((room : List ℕ) → other room ≡ given) → m ≡ 1 → c ≡ 0 → ReadsNulls t given nodes nodes1 r → IsAnyOf (λ (array : Column). array) r any
    → TakesTyped told told t other m c nodes nodes1 buffers buffers any
nulls_read told t given other m c nodes nodes1 buffers (Ok array) (Ok any) kind same nodes_are buffers_are read is =
    subst (λ (found : Column). TakesTyped told told t other m c nodes nodes1 buffers buffers (Ok found)) (sym is) (
      (
        (refl, stays told, λ room known. same room ∙ read.2),
        subst (λ (k : ℕ). TakesOff {X = Column} k nodes nodes1 (Ok array)) (sym nodes_are) read.3,
        subst (λ (k : ℕ). TakesOff {X = Column} k buffers buffers (Ok array)) (sym buffers_are) (takes_none buffers (Ok array)),
      ),
      read.1,
    )
nulls_read told t given other m c nodes nodes1 buffers (Err error) (Err refusal) kind same nodes_are buffers_are read is =
    subst (λ (e : Error). TakesTyped told told t other m c nodes nodes1 buffers buffers (Err e)) (sym is) (elim read.1 [
      | inl found ↦ (
        (
          out_of_spec told told (ForBytes told (λ room. other room ≡ None)) false error read.0 refl (λ room known. same room ∙ found.1),
          found.2,
          (0, sym (drop_none buffers)),
        ),
        tt,
      )
      | inr apart ↦ absurd (apart.0 kind)
    ])
nulls_read told t given other m c nodes nodes1 buffers (Ok array) (Err refusal) kind same nodes_are buffers_are read is = absurd is
nulls_read told t given other m c nodes nodes1 buffers (Err error) (Ok any) kind same nodes_are buffers_are read is = absurd is
