-- What stands at the places of a vector, one after another.
use Rattle.std.proofs.Common.{◌≡◌, ◌∙◌, ℕ, suc, ◌+◌, ◌-◌, ◌<◌, List, [], ◌∷◌, ◌++◌, refl, sym, ap, arith, append_assoc}
use Rattle.std.proofs.lemmas.List.{append-nil}
use Rattle.std.specs.Prelude.{Option, Some, None}
use Rattle.ipc_format_writing.specs.flatbuffers.Reading.{◌>>=◌}
use Rattle.ipc_format_writing.proofs.metadata_lemmas.Options.{bind-some}
use Rattle.ipc_format_writing.specs.messages.MessageSlots.{TableIn, VectorIn}
use Rattle.ipc_format_writing.specs.grammar.Schemas.{Visits}
use Rattle.ipc_format_values.specs.declared.fields.Field.{Field}
use Rattle.ipc_format_values.specs.Owned.{gathered, table_at}
use Rattle.ipc_format_values.specs.OwnedFields.{each_of, fields_in}

abbrev pub put_behind : {A : Type 0} → List A → List A → Option (List A)
put_behind made others = Some (made ++ others)

-- all is what was made, and what stands from the k-th place on
abbrev pub GatheredLeft : {A : Type 0} → (ℕ → Option (List A)) → ℕ → List A → ℕ → Type 0
GatheredLeft read count made k = (m : ℕ) → k + m ≡ count → gathered read count 0 ≡ (gathered read m k >>= put_behind made)

pub gathered_init : {A : Type 0} (read : ℕ → Option (List A)) (count : ℕ) → GatheredLeft read count [] 0
gathered_init read count m all =
    let same : m ≡ count = omega arith in
    rw same (sym (bind-some (gathered read count 0)))

move : {A : Type 0} (made here : List A) (o : Option (List A)) → ((o >>= (λ others. Some (here ++ others))) >>= put_behind made)
    ≡ (o >>= put_behind (made ++ here))
move made here None = refl
move made here (Some others) = ap Some (sym (append_assoc made here others))

pub gathered_next : {A : Type 0} (read : ℕ → Option (List A)) (count : ℕ) (made here new : List A) (k : ℕ) → read k ≡ Some here
    → new ≡ made ++ here → GatheredLeft read count made k → GatheredLeft read count new (k + 1)
gathered_next read count made here new k e push left m all =
    let before : k + suc m ≡ count = omega arith in
    rw push (left (suc m) before ∙ rw e (move made here (gathered read m (k + 1))))

pub gathered_none : {A : Type 0} (read : ℕ → Option (List A)) (count : ℕ) (made : List A) (k : ℕ) → k < count → read k ≡ None
    → GatheredLeft read count made k → None ≡ gathered read count 0
gathered_none read count made k lt e left =
    let before : k + suc (count - k - 1) ≡ count = omega arith in
    sym (left (suc (count - k - 1)) before ∙ rw e refl)

pub gathered_done : {A : Type 0} (read : ℕ → Option (List A)) (count : ℕ) (made : List A) (k : ℕ) → k ≡ count
    → GatheredLeft read count made k → Some made ≡ gathered read count 0
gathered_done read count made k done left = sym (left 0 (omega arith) ∙ ap Some (append-nil made))

-- ---- fields, which count their visits

abbrev pub behind : List Field → List Field × ℕ → Option (List Field × ℕ)
behind made rest = Some (made ++ rest.0, rest.1)

-- all is what was made, and what the tables from the k-th on give
abbrev pub FieldsLeft : (TableIn → Visits Field) → VectorIn → Option (List Field × ℕ) → List Field → ℕ → ℕ → Type 0
FieldsLeft read from given made k left = (m : ℕ) → k + m ≡ from.vector.count → given ≡ (each_of read from m k left >>= behind made)

bind_pair : (o : Option (List Field × ℕ)) → (o >>= behind []) ≡ o
bind_pair None = refl
bind_pair (Some rest) = refl

pub fields_init : (read : TableIn → Visits Field) (from : VectorIn) (left : ℕ) → FieldsLeft read from (fields_in read from left) [] 0 left
fields_init read from left m all =
    let same : m ≡ from.vector.count = omega arith in
    rw same (sym (bind_pair (each_of read from from.vector.count 0 left)))

move_fields : (made : List Field) (first : Field) (o : Option (List Field × ℕ))
    → ((o >>= (λ (others : List Field × ℕ). Some (first ∷ others.0, others.1))) >>= behind made) ≡ (o >>= behind (made ++ first ∷ []))
move_fields made first None = refl
move_fields made first (Some others) = let one = sym (append_assoc made (first ∷ []) others.0) in λ i. Some (one i, others.1)

pub fields_next : (read : TableIn → Visits Field) (from : VectorIn) (given : Option (List Field × ℕ)) (made new : List Field) (k left : ℕ)
    (table : TableIn) (first : Field) (after : ℕ)
    → table_at from k ≡ Some table → read table left ≡ Some (first, after) → new ≡ made ++ first ∷ []
    → FieldsLeft read from given made k left → FieldsLeft read from given new (k + 1) after
fields_next read from given made new k left table first after element is push so_far m all =
    let before : k + suc m ≡ from.vector.count = omega arith in
    rw push (so_far (suc m) before ∙ rw (element, is) (move_fields made first (each_of read from m (k + 1) after)))

pub fields_no_table : (read : TableIn → Visits Field) (from : VectorIn) (given : Option (List Field × ℕ)) (made : List Field) (k left : ℕ)
    → k < from.vector.count → table_at from k ≡ None → FieldsLeft read from given made k left → None ≡ given
fields_no_table read from given made k left lt none so_far =
    let before : k + suc (from.vector.count - k - 1) ≡ from.vector.count = omega arith in
    sym (so_far (suc (from.vector.count - k - 1)) before ∙ rw none refl)

pub fields_none : (read : TableIn → Visits Field) (from : VectorIn) (given : Option (List Field × ℕ)) (made : List Field) (k left : ℕ)
    (table : TableIn)
    → k < from.vector.count → table_at from k ≡ Some table → read table left ≡ None → FieldsLeft read from given made k left → None ≡ given
fields_none read from given made k left table lt element none so_far =
    let before : k + suc (from.vector.count - k - 1) ≡ from.vector.count = omega arith in
    sym (so_far (suc (from.vector.count - k - 1)) before ∙ rw (element, none) refl)

pub fields_done : (read : TableIn → Visits Field) (from : VectorIn) (given : Option (List Field × ℕ)) (made : List Field) (k left : ℕ)
    → k ≡ from.vector.count → FieldsLeft read from given made k left → Some (made, left) ≡ given
fields_done read from given made k left done so_far =
    let one = append-nil made in
    sym (so_far 0 (omega arith) ∙ (λ i. Some (one i, left)))
