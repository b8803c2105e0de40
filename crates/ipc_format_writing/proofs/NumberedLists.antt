-- The ids of some fields, numbered one after another.
use Rattle.std.proofs.Common.{◌≡◌, ◌∙◌, ℕ, ◌+◌, ◌<◌, ◌≤◌, List, [], ◌∷◌, ◌++◌, length, get_or, map, drop, refl, sym, ap}
use Rattle.std.proofs.lemmas.List.{length-map, map-append}
use Rattle.std.proofs.Math.ListN.{drop_of_length-le}
use Rattle.ipc_format_messages.specs.columnar_memory.declared.DataType.TheFolds.{fold-roll-Field}
use Rattle.ipc_format_messages.specs.columnar_memory.declared.Field.{Field}
use Rattle.ipc_format_messages.specs.grammar.Schemas.{Ids, IdsList, ids_then}
use Rattle.ipc_format_messages.specs.grammar.Ids.{Numbering, number_each, number_fields, number_step, numbered, default_ids}
use Rattle.ipc_format_messages.specs.metadata.Views.{ids_before, ids_view, ids_views}
use Rattle.ipc_format_messages.specs.metadata.declared.ipc_schema.IpcField.{IpcField}
use Rattle.ipc_format_writing.specs.Numbers.{field_numbering}
use Rattle.ipc_format_messages.proofs.flatbuffers_lemmas.Rest.{rest_step}

-- ids before those that are numbered next
abbrev pub before : List Ids → IdsList × ℕ → IdsList × ℕ
before made rest = (ids_before made rest.0, rest.1)

-- the ids of all fields, where those of the first are made already
abbrev pub numbered_from : List IpcField → List Field → ℕ → ℕ → IdsList × ℕ
numbered_from made fields i next = before (map ids_view made) (number_each (drop i (map field_numbering fields)) next)

before-one : (made : List Ids) (x : Ids) (rest : IdsList) → ids_before (made ++ x ∷ []) rest ≡ ids_before made (ids_then x rest)
before-one [] x rest = refl
before-one (y ∷ made) x rest = ap (ids_then y) (before-one made x rest)

pub numbered-more : (made new : List IpcField) (fields : List Field) (i next after : ℕ) (field : Field) (one : IpcField) (whole : IdsList × ℕ)
    → i < length fields → field ≡ get_or fields i field → new ≡ made ++ one ∷ [] → (ids_view one, after) ≡ field_numbering field next
    → numbered_from made fields i next ≡ whole → numbered_from new fields (i + 1) after ≡ whole
numbered-more made new fields i next after field one whole lt is push here before_it =
    let others : List Numbering = drop (i + 1) (map field_numbering fields) in
    let rest : drop i (map field_numbering fields) ≡ field_numbering field ∷ others = rest_step field_numbering fields i field lt is in
    let views : map ids_view new ≡ map ids_view made ++ ids_view one ∷ [] = ap (map ids_view) push ∙ map-append ids_view made (one ∷ []) in
    let step : before (map ids_view made ++ ids_view one ∷ []) (number_each others after) ≡ before (map ids_view made) (number_each
    (field_numbering field ∷ others) next) =
    ap (λ found. (found, (number_each others after).1)) (before-one (map ids_view made) (ids_view one) (number_each others after).0)
    ∙ ap (λ (h : Ids × ℕ). before (map ids_view made) (ids_then h.0 (number_each others h.1).0, (number_each others h.1).1)) here in
    ap (λ made. before made (number_each others after)) views ∙ step ∙ ap (λ rest. before (map ids_view made) (number_each rest next)) (sym rest)
    ∙ before_it

pub numbered-all : (made : List IpcField) (fields : List Field) (i next : ℕ) (whole : IdsList × ℕ) → length fields ≤ i
    → numbered_from made fields i next ≡ whole → numbered_from made [] 0 next ≡ whole
numbered-all made fields i next whole le before_it =
    let none : drop i (map field_numbering fields) ≡ [] = drop_of_length-le (map field_numbering fields) (rw length-map le) in
    ap (λ rest. before (map ids_view made) (number_each rest next)) (sym none) ∙ before_it

field-agrees : (field : Field) → field_numbering field ≡ numbered field.data_type
field-agrees field = fold-roll-Field Numbering Numbering number_step (λ field. field.data_type)
    (record { name = field.name; data_type = field.data_type; is_nullable = field.is_nullable; metadata = field.metadata })

-- the ids of all fields are those of the definition
lists-agree : (fields : List Field) (n : ℕ) → number_each (map field_numbering fields) n ≡ number_fields fields n
lists-agree [] n = refl
lists-agree (field ∷ fields) n =
    ap (λ (here : Numbering). (
      ids_then (here n).0 (number_each (map field_numbering fields) (here n).1).0,
      (number_each (map field_numbering
          fields) (here n).1).1,
    )) (field-agrees field)
    ∙ ap (λ (rest : IdsList × ℕ). (ids_then (numbered field.data_type n).0 rest.0, rest.1)) (lists-agree fields (numbered field.data_type n).1)

pub defaults : (fields : List Field) (found : List IpcField) (next : ℕ) → (ids_views found, next) ≡ number_each (map field_numbering fields) 0
    → ids_views found ≡ default_ids fields
unfolding default_ids
defaults fields found next same = ap (λ (numbered : IdsList × ℕ). numbered.0) (same ∙ lists-agree fields 0)
