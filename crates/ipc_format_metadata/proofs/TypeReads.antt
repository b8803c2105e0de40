-- The type of a field, case by case, and where a float stands below it.
use Rattle.std.proofs.Common.{◌≡◌, ◌∙◌, ℕ, zero, suc, ◌<◌, List, [], ◌∷◌, true, refl, sym, ap, arith}
use Rattle.std.proofs.lemmas.Bool.{lt-ltb, le-leb}
use Rattle.std.specs.Prelude.{Option, Some, None, IsSomeAnd, nat_lt, nat_le}
use Rattle.ipc_format_grammar.specs.columnar_memory.declared.DataType.{DataType}
use Rattle.ipc_format_grammar.specs.columnar_memory.declared.Field.{Field}
use Rattle.ipc_format_grammar.specs.flatbuffers.Reading.{◌>>=◌, guard}
use Rattle.ipc_format_grammar.specs.flatbuffers.FlatBuffers.{TablePlace, Vector, table_field, vector_field, element_at}
use Rattle.ipc_format_grammar.specs.Schemas.{FieldIn, Visits, no_ids}
use Rattle.ipc_format_grammar.specs.Refusals.{field_at_path, IsFloat}
use Rattle.ipc_format_metadata.specs.Parts.{Layer, flat, over, over_all}
use Rattle.ipc_format_metadata.specs.Steps.{
  by_layer,
  layer_in,
  type_found,
  children,
  first_child,
  fields_in,
  over_one,
  over_each,
  FloatBelow,
  FloatAmong,
}
use Rattle.ipc_format_metadata.proofs.TypeSteps.{type-by}

none-then : {A C : Type 0} (o : Option (Option TablePlace)) (K : A → Option C) → ((o >>= (λ f. f >>= (λ t. None))) >>= K) ≡ None
none-then None K = refl
none-then (Some None) K = refl
none-then (Some (Some t)) K = refl

-- a float has no type
pub type-float : (read : TablePlace → Visits FieldIn) (bytes : List ℕ) (field : TablePlace) (left : ℕ) → IsFloat bytes field
    → type_found read bytes field
    left ≡ None
type-float read bytes field left e = type-by read bytes field left ∙ rw e (none-then (table_field bytes field 3)
    (λ l. by_layer l read bytes field left))

pub float-here : (bytes : List ℕ) (field : TablePlace) → IsFloat bytes field → FloatBelow bytes field
float-here bytes field e = ([], e)

pub type-no-layer : (read : TablePlace → Visits FieldIn) (bytes : List ℕ) (field : TablePlace) (left : ℕ) → layer_in bytes field ≡ None
    → type_found read
    bytes field left ≡ None
type-no-layer read bytes field left e = type-by read bytes field left ∙ ap (λ o. o >>= (λ l. by_layer l read bytes field left)) e

type-layer : (read : TablePlace → Visits FieldIn) (bytes : List ℕ) (field : TablePlace) (left : ℕ) (layer : Layer) → layer_in bytes field ≡ Some layer
    →
    type_found read bytes field left ≡ by_layer layer read bytes field left
type-layer read bytes field left layer e = type-by read bytes field left ∙ ap (λ o. o >>= (λ l. by_layer l read bytes field left)) e

pub type-flat : (read : TablePlace → Visits FieldIn) (bytes : List ℕ) (field : TablePlace) (left : ℕ) (d : DataType) → layer_in bytes field
    ≡ Some (flat d)
    → type_found read bytes field left ≡ Some (record { data_type = d; below = no_ids }, left)
type-flat read bytes field left d e = type-layer read bytes field left (flat d) e

pub type-no-child : (read : TablePlace → Visits FieldIn) (bytes : List ℕ) (field : TablePlace) (left : ℕ) (make : Field → DataType)
    → layer_in bytes field ≡
    Some (over make) → first_child bytes field ≡ None
    → type_found read bytes field left ≡ None
type-no-child read bytes field left make e c = type-layer read bytes field left (over make) e ∙ ap (λ o. o >>= (λ t. read t left >>= over_one make)) c

pub type-over : (read : TablePlace → Visits FieldIn) (bytes : List ℕ) (field : TablePlace) (left : ℕ) (make : Field → DataType) (child : TablePlace)
    → layer_in
    bytes field ≡ Some (over make) → first_child bytes field ≡ Some child
    → type_found read bytes field left ≡ (read child left >>= over_one make)
type-over read bytes field left make child e c = type-layer read bytes field left (over make) e ∙ ap
    (λ o. o >>= (λ t. read t left >>= over_one make)) c

pub type-no-children : (read : TablePlace → Visits FieldIn) (bytes : List ℕ) (field : TablePlace) (left : ℕ) (make : List Field → DataType)
    → layer_in bytes
    field ≡ Some (over_all make) → children bytes field ≡ None
    → type_found read bytes field left ≡ None
type-no-children read bytes field left make e c = type-layer read bytes field left (over_all make) e ∙ ap
    (λ o. o >>= (λ v. fields_in read bytes v left >>= over_each make)) c

pub type-over-all : (read : TablePlace → Visits FieldIn) (bytes : List ℕ) (field : TablePlace) (left : ℕ) (make : List Field → DataType) (v : Vector)
    →
    layer_in bytes field ≡ Some (over_all make) → children bytes field ≡ Some v
    → type_found read bytes field left ≡ (fields_in read bytes v left >>= over_each make)
type-over-all read bytes field left make v e c = type-layer read bytes field left (over_all make) e ∙ ap
    (λ o. o >>= (λ v. fields_in read bytes v left >>= over_each make)) c

-- ---- floats

pub child-of : (bytes : List ℕ) (k : ℕ) (o : Option (Option Vector)) (v : Vector) → (o >>= (λ f. f)) ≡ Some v → k < v.count
    → (o >>= (λ f. f >>= (λ w. guard (nat_lt k w.count) >>= (λ _. element_at bytes w k)))) ≡ element_at bytes v k
child-of bytes k None v e lt = absurd cc
child-of bytes k (Some None) v e lt = absurd cc
child-of bytes k (Some (Some w)) v e lt =
    let same : w ≡ v = cc in
    let yes : nat_lt k v.count ≡ true = lt-ltb k v.count lt in
    rw (same, yes) refl

pub below : (bytes : List ℕ) (o : Option TablePlace) → IsSomeAnd o (FloatBelow bytes) → (path : List ℕ) × IsSomeAnd
    (o >>= (λ c. field_at_path bytes c path)) (IsFloat bytes)
below bytes None h = absurd h
below bytes (Some table) h = h

-- a float below one of a field's children is below the field
pub float-among : (bytes : List ℕ) (field : TablePlace) (v : Vector) → children bytes field ≡ Some v → FloatAmong bytes v → FloatBelow bytes field
float-among bytes field v e float =
    let found = below bytes (element_at bytes v float.0) float.2 in
    (float.0 ∷ found.0, rw (child-of bytes float.0 (vector_field bytes field 5 4) v e float.1) found.1)

first-of : (bytes : List ℕ) (o : Option Vector) (child : TablePlace) → (o >>= (λ w. guard (nat_le 1 w.count) >>= (λ _. element_at bytes w 0)))
    ≡ Some child
    → (v : Vector) × (o ≡ Some v) × (0 < v.count) × (element_at bytes v 0 ≡ Some child)
first-of bytes None child e = absurd cc
first-of bytes (Some v) child e =
    let found = by v.count e in
    (v, refl, found.0, found.1)
  where
    by : (n : ℕ) → (guard (nat_le 1 n) >>= (λ _. element_at bytes v 0)) ≡ Some child → (0 < n) × (element_at bytes v 0 ≡ Some child)
    by zero e = absurd cc
    by (suc n) e =
        let yes : nat_le 1 (suc n) ≡ true = le-leb 1 (suc n) (omega arith) in
        (omega arith, sym (ap (λ b. guard b >>= (λ _. element_at bytes v 0)) yes) ∙ e)

pub float-child : (bytes : List ℕ) (field child : TablePlace) → first_child bytes field ≡ Some child → FloatBelow bytes child → FloatBelow bytes field
float-child bytes field child e float =
    let first = first-of bytes (children bytes field) child e in
    float-among bytes field first.0 first.1 (0, first.2, rw first.3 float)
