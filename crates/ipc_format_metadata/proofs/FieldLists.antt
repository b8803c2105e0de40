-- The fields of a vector's tables, one after another.
use Rattle.std.proofs.Common.{◌≡◌, ◌∙◌, ℕ, suc, ◌+◌, ◌-◌, ◌<◌, List, [], ◌∷◌, ◌++◌, refl, sym, ap, arith, append_assoc}
use Rattle.std.proofs.lemmas.List.{append-nil}
use Rattle.std.specs.Prelude.{Option, Some, None, IsSomeAnd}
use Rattle.ipc_format_grammar.specs.columnar_memory.declared.Error.{Error}
use Rattle.ipc_format_grammar.specs.columnar_memory.declared.Field.{Field}
use Rattle.ipc_format_grammar.specs.flatbuffers.Reading.{◌>>=◌}
use Rattle.ipc_format_grammar.specs.flatbuffers.FlatBuffers.{TablePlace, Vector, element_at}
use Rattle.ipc_format_grammar.specs.Schemas.{FieldIn, Visits, Ids, IdsList, ids_then, each_of, fields_of, ids_of}
use Rattle.ipc_format_metadata.specs.Reading.{Refuses}
use Rattle.ipc_format_metadata.specs.Views.{ids_before, ids_list}
use Rattle.ipc_format_metadata.specs.Steps.{FieldsIn, fields_in, FloatBelow, FloatAmong}
use Rattle.ipc_format_metadata.proofs.Options.{refuses-up}

-- fields and ids behind those that were made
abbrev pub behind : List Field → List Ids → List FieldIn × ℕ → Option (FieldsIn × ℕ)
behind fields ids rest = Some (record { fields = fields ++ fields_of rest.0; below = ids_before ids (ids_of rest.0) }, rest.1)

-- what is given is what was made, and what the tables from the k-th on give
abbrev pub FieldsLeft : (TablePlace → Visits FieldIn) → List ℕ → Vector → Option (FieldsIn × ℕ) → List Field → List Ids → ℕ → ℕ → Type 0
FieldsLeft read bytes v given fields ids k left = (m : ℕ) → k + m ≡ v.count → given ≡ (each_of read bytes v m k left >>= behind fields ids)

pub fields-init : (read : TablePlace → Visits FieldIn) (bytes : List ℕ) (v : Vector) (left : ℕ)
    → FieldsLeft read bytes v (fields_in read bytes v left)
    [] [] 0 left
fields-init read bytes v left m all =
    let same : m ≡ v.count = omega arith in
    rw same refl

ids_before-more : (ids : List Ids) (x : Ids) (others : IdsList) → ids_before ids (ids_then x others) ≡ ids_before (ids ++ x ∷ []) others
ids_before-more [] x others = refl
ids_before-more (y ∷ ids) x others = ap (ids_then y) (ids_before-more ids x others)

move : (fields : List Field) (ids : List Ids) (first : FieldIn) (o : Option (List FieldIn × ℕ))
    → ((o >>= (λ (others : List FieldIn × ℕ). Some (first ∷ others.0, others.1))) >>= behind fields ids) ≡
    (o >>= behind (fields ++ first.field ∷ []) (ids ++ first.ids ∷ []))
move fields ids first None = refl
move fields ids first (Some others) =
    let one = sym (append_assoc fields (first.field ∷ []) (fields_of others.0)) in
    let two = ids_before-more ids first.ids (ids_of others.0) in
    λ i. Some (record { fields = one i; below = two i }, others.1)

pub fields-next : (read : TablePlace → Visits FieldIn) (bytes : List ℕ) (v : Vector) (given : Option (FieldsIn × ℕ)) (fields : List Field)
    (ids : List Ids) (k left : ℕ) (table : TablePlace) (first : FieldIn) (after : ℕ)
    → element_at bytes v k ≡ Some table → read table left ≡ Some (first, after) → FieldsLeft read bytes v given fields ids k left → FieldsLeft
    read bytes v given (fields ++ first.field ∷ []) (ids ++ first.ids ∷ []) (k + 1) after
fields-next read bytes v given fields ids k left table first after element is so_far m all =
    let before : k + suc m ≡ v.count = omega arith in
    so_far (suc m) before ∙ rw (element, is) (move fields ids first (each_of read bytes v m (k + 1) after))

pub fields-no-element : (read : TablePlace → Visits FieldIn) (bytes : List ℕ) (v : Vector) (given : Option (FieldsIn × ℕ)) (fields : List Field)
    (ids : List Ids) (k left : ℕ)
    → k < v.count → element_at bytes v k ≡ None → FieldsLeft read bytes v given fields ids k left → given ≡ None
fields-no-element read bytes v given fields ids k left lt none so_far =
    let before : k + suc (v.count - k - 1) ≡ v.count = omega arith in
    so_far (suc (v.count - k - 1)) before ∙ rw none refl

pub fields-none : (read : TablePlace → Visits FieldIn) (bytes : List ℕ) (v : Vector) (given : Option (FieldsIn × ℕ)) (fields : List Field)
    (ids : List Ids) (k left : ℕ) (table : TablePlace)
    → k < v.count → element_at bytes v k ≡ Some table → FieldsLeft read bytes v given fields ids k left → read table left ≡ None → given ≡ None
fields-none read bytes v given fields ids k left table lt element so_far none =
    let before : k + suc (v.count - k - 1) ≡ v.count = omega arith in
    so_far (suc (v.count - k - 1)) before ∙ rw (element, none) refl

pub fields-refused : (error : Error) (read : TablePlace → Visits FieldIn) (bytes : List ℕ) (v : Vector) (given : Option (FieldsIn × ℕ))
    (fields : List Field) (ids : List Ids) (k left : ℕ) (table : TablePlace)
    → k < v.count → element_at bytes v k ≡ Some table → FieldsLeft read bytes v given fields ids k left
    → Refuses (FloatBelow bytes table) error (read table left) → Refuses (FloatAmong bytes v) error given
fields-refused error read bytes v given fields ids k left table lt element so_far h =
    refuses-up error (FloatBelow bytes table) (read table left) (FloatAmong bytes v) given
    (fields-none read bytes v given fields ids k left table lt element so_far)
    (λ float. (k, lt, some-and (element_at bytes v k) table (FloatBelow bytes) element float)) h
  where
    some-and : {A : Type 0} (o : Option A) (x : A) (P : A → Type 0) → o ≡ Some x → P x → IsSomeAnd o P
    some-and o x P e p = rw e p

pub fields-done : (read : TablePlace → Visits FieldIn) (bytes : List ℕ) (v : Vector) (given : Option (FieldsIn × ℕ)) (fields : List Field)
    (ids : List Ids) (k left : ℕ)
    → k ≡ v.count → FieldsLeft read bytes v given fields ids k left → given ≡ Some (record { fields = fields; below = ids_list ids }, left)
fields-done read bytes v given fields ids k left done so_far =
    let one = append-nil fields in
    so_far 0 (omega arith) ∙ (λ i. Some (record { fields = one i; below = ids_list ids }, left))
