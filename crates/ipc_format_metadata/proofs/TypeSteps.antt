-- A field's type is its layer over the fields below it.
use Rattle.std.proofs.Common.{◌≡◌, ◌∙◌, ℕ, List, Bool, refl, sym}
use Rattle.std.specs.Prelude.{Option, Some, None, pos, nat_le}
use Rattle.std.specs.Int.{w8, w16, w32}
use Rattle.ipc_format_grammar.specs.columnar_memory.declared.DataType.{DataType}
use Rattle.ipc_format_grammar.specs.columnar_memory.declared.DataType.TheVariants as types
use Rattle.ipc_format_grammar.specs.columnar_memory.declared.Field.{Field}
use Rattle.ipc_format_grammar.specs.flatbuffers.Reading.{◌>>=◌, guard}
use Rattle.ipc_format_grammar.specs.flatbuffers.FlatBuffers.{TablePlace, Vector, number_field, signed_field, truth_field, table_field, vector_field}
use Rattle.ipc_format_grammar.specs.flatbuffers.FlatBuffers.{element_at}
use Rattle.ipc_format_grammar.specs.Types as kind
use Rattle.ipc_format_grammar.specs.Types.{
  Tag,
  tag_of,
  integer_in,
  type_of_integer,
  decimal_in,
  date_of,
  time_in,
  timestamp_in,
  interval_of,
  time_unit_of,
  size_of,
  union_in,
}
use Rattle.ipc_format_grammar.specs.Schemas.{FieldIn, Visits, type_in, child_in, children_in, with_child, each_of, fields_of, ids_of}
use Rattle.ipc_format_metadata.specs.Parts.{flat, over, over_all, layer_of}
use Rattle.ipc_format_metadata.specs.Steps.{by_layer, layer_in, type_found, over_one, over_each, apart}
use Rattle.ipc_format_metadata.proofs.Options.{bind-assoc}

two : {A B C D : Type 0} (o : Option A) (f : A → Option B) (g : B → Option C) (h : C → Option D) → (o >>= (λ a. f a >>= (λ b. g b >>= h))) ≡
    (((o >>= f) >>= g) >>= h)
two None f g h = refl
two (Some a) f g h = sym (bind-assoc (f a) g h)

-- the first child, before what is made of it
child-by : {A C : Type 0} (v : Option (Option Vector)) (g : Vector → Option Bool) (e : Vector → Option TablePlace) (read : TablePlace → Option A)
    (k : A → Option C)
    → ((v >>= (λ f. f >>= (λ v. g v >>= (λ _. e v >>= read)))) >>= k) ≡ (((v >>= (λ f. f)) >>= (λ v. g v >>= (λ _. e v))) >>= (λ t. read t >>= k))
child-by None g e read k = refl
child-by (Some None) g e read k = refl
child-by (Some (Some v)) g e read k = by (g v)
  where
    by : (b : Option Bool) → ((b >>= (λ _. e v >>= read)) >>= k) ≡ ((b >>= (λ _. e v)) >>= (λ t. read t >>= k))
    by None = refl
    by (Some b) = bind-assoc (e v) read k

-- the children, before what is made of them
children-by : {A B C : Type 0} (v : Option (Option Vector)) (each : Vector → Option A) (f : A → Option B) (k : B → Option C) (h : A → Option C) →
    ((a : A) → h a ≡ (f a >>= k))
    → ((v >>= (λ f. f >>= each)) >>= h) ≡ ((v >>= (λ f. f)) >>= (λ v. (each v >>= f) >>= k))
children-by {A} None each f k h same = refl
children-by {A} (Some None) each f k h same = refl
children-by {A} (Some (Some v)) each f k h same = by (each v)
  where
    by : (o : Option A) → (o >>= h) ≡ ((o >>= f) >>= k)
    by None = refl
    by (Some a) = same a

over-by : (read : TablePlace → Visits FieldIn) (bytes : List ℕ) (make : Field → DataType) (field : TablePlace) (left : ℕ)
    → (child_in read bytes field left >>= (λ child. Some (with_child make child))) ≡ by_layer (over make) read bytes field left
over-by read bytes make field left = child-by (vector_field bytes field 5 4) (λ v. guard (nat_le 1 v.count)) (λ v. element_at bytes v 0)
    (λ t. read t left) (over_one make)

over-all-by : (read : TablePlace → Visits FieldIn) (bytes : List ℕ) (make : List Field → DataType) (field : TablePlace) (left : ℕ)
    → (children_in read bytes field left >>= (λ found. Some (record { data_type = make (fields_of found.0); below = ids_of found.0 }, found.1))) ≡
    by_layer (over_all make) read bytes field left
over-all-by read bytes make field left = children-by (vector_field bytes field 5 4) (λ v. each_of read bytes v v.count 0 left) apart
    (over_each make) (λ found. Some (record { data_type = make (fields_of found.0); below = ids_of found.0 }, found.1)) (λ found. refl)

type_in-by : (read : TablePlace → Visits FieldIn) (bytes : List ℕ) (tag : Tag) (field table : TablePlace) (left : ℕ)
    → type_in None read bytes tag field
    table left ≡ (layer_of bytes tag table >>= (λ l. by_layer l read bytes field left))
unfolding type_in
type_in-by read bytes kind.null field table left = refl
type_in-by read bytes kind.bool field table left = refl
type_in-by read bytes kind.binary field table left = refl
type_in-by read bytes kind.large_binary field table left = refl
type_in-by read bytes kind.utf8 field table left = refl
type_in-by read bytes kind.large_utf8 field table left = refl
type_in-by read bytes kind.floating_point field table left = refl
type_in-by read bytes kind.int field table left = sym (bind-assoc (integer_in bytes table) _ _)
type_in-by read bytes kind.decimal field table left = sym (bind-assoc (decimal_in bytes table) _ _)
type_in-by read bytes kind.date field table left = two (signed_field w16 bytes table 0 (pos 1)) date_of (λ d. Some (flat d))
    (λ l. by_layer l read bytes field left)
type_in-by read bytes kind.time field table left = sym (bind-assoc (time_in bytes table) _ _)
type_in-by read bytes kind.timestamp field table left = sym (bind-assoc (timestamp_in bytes table) _ _)
type_in-by read bytes kind.interval field table left = two (signed_field w16 bytes table 0 (pos 0)) interval_of (λ d. Some (flat d))
    (λ l. by_layer l read bytes field left)
type_in-by read bytes kind.duration field table left = two (signed_field w16 bytes table 0 (pos 1)) time_unit_of
    (λ unit. Some (flat (types.Duration unit))) (λ l. by_layer l read bytes field left)
type_in-by read bytes kind.fixed_size_binary field table left = two (signed_field w32 bytes table 0 (pos 0)) size_of
    (λ size. Some (flat (types.FixedSizeBinary size))) (λ l. by_layer l read bytes field left)
type_in-by read bytes kind.list field table left = over-by read bytes types.List field left
type_in-by read bytes kind.large_list field table left = over-by read bytes types.LargeList field left
type_in-by read bytes kind.fixed_size_list field table left =
    (λ i. signed_field w32 bytes table 0 (pos 0) >>= (λ count. size_of count >>=
    (λ size. over-by read bytes (λ item. types.FixedSizeList item size) field left i)))
    ∙ two (signed_field w32 bytes table 0 (pos 0)) size_of (λ size. Some (over (λ item. types.FixedSizeList item size)))
    (λ l. by_layer l read bytes field left)
type_in-by read bytes kind.map field table left =
    (λ i. truth_field bytes table 0 >>= (λ is_sorted. over-by read bytes (λ entry. types.Map entry is_sorted) field left i)) ∙ sym
    (bind-assoc (truth_field bytes table 0) _ _)
type_in-by read bytes kind.struct field table left = over-all-by read bytes types.Struct field left
type_in-by read bytes kind.union field table left =
    (λ i. union_in bytes table >>= (λ (union : kind.UnionTable). over-all-by read bytes (λ fields. types.Union fields union.ids union.mode) field
    left i)) ∙ sym (bind-assoc (union_in bytes table) _ _)

by_type : {A B C : Type 0} (t : Option ℕ) (g : ℕ → Option A) (ty : Option (Option TablePlace)) (layer : A → TablePlace → Option B)
    (R : A → TablePlace → Option C) (K : B → Option C) → ((a : A) (table : TablePlace) → R a table ≡ (layer a table >>= K))
    → (t >>= (λ n. g n >>= (λ a. ty >>= (λ f. f >>= (λ table. R a table))))) ≡
    ((t >>= (λ n. g n >>= (λ a. ty >>= (λ f. f >>= (λ table. layer a table))))) >>= K)
by_type {A} None g ty layer R K same = refl
by_type {A} (Some n) g ty layer R K same = inner (g n) ty
  where
    inner : (a : Option A) (ty : Option (Option TablePlace)) → (a >>= (λ a. ty >>= (λ f. f >>= (λ table. R a table)))) ≡
        ((a >>= (λ a. ty >>= (λ f. f >>= (λ table. layer a table)))) >>= K)
    inner None ty = refl
    inner (Some a) None = refl
    inner (Some a) (Some None) = refl
    inner (Some a) (Some (Some table)) = same a table

-- the type of a field, by its layer
pub type-by : (read : TablePlace → Visits FieldIn) (bytes : List ℕ) (field : TablePlace) (left : ℕ) → type_found read bytes field left ≡
    (layer_in bytes field >>= (λ l. by_layer l read bytes field left))
type-by read bytes field left =
    by_type (number_field w8 bytes field 2 0) tag_of (table_field bytes field 3) (layer_of bytes)
    (λ tag table. type_in None read bytes tag field table left) (λ l. by_layer l read bytes field left)
    (λ tag table. type_in-by read bytes tag field table left)
