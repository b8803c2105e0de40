-- What a union picks does not depend on the readers beside its fields, and ids and places may be given by functions.
use Rattle.std.proofs.Common.{◌≡◌, ◌∙◌, ℕ, ◌+◌, ◌<◌, ℤ, pos, List, map, ap, ap₂, arith}
use Rattle.std.specs.Prelude.{Option, slice_index_or}
use Rattle.ipc_format_array_reading.specs.columnar_memory.declared.Field.{Field}
use Rattle.ipc_format_array_reading.specs.columns.Slots.{Slot, window}
use Rattle.ipc_format_array_reading.proofs.Windows.{window_same}
use Rattle.ipc_format_array_reading.specs.grammar.Columns.{Reader, all_of, child_of, picked}
use Rattle.ipc_format_array_reading.specs.grammar.Messages.{natural}
use Rattle.ipc_format_reading.proofs.JoinedSlots.{choice_at, picked_any, picked_of, place_at}

-- the fields beside which readers stand
abbrev pub fields_of : List (Field × Reader) → List Field
fields_of children = map (λ (child : Field × Reader). child.0) children

-- the slots that ids and places pick are those of the lists that hold these
pub choices_same : (children : List (Field × Reader)) (numbers : Option (List ℤ)) (columns : List (List Slot)) (ids : List ℤ)
    (places : Option (List ℤ)) (id place : ℕ → ℤ) (n : ℕ) → ((i : ℕ) → i < n → id i ≡ slice_index_or ids i (pos 0))
    → ((i : ℕ) → i < n → place i ≡ place_at places i)
    → all_of (window (λ i. picked children columns (child_of numbers (id i)) (natural (place i))) 0 n)
    ≡ all_of (window (choice_at (fields_of children) numbers ids places columns) 0 n)
choices_same children numbers columns ids places id place n same_id same_place =
    ap all_of (window_same (λ i. picked children columns (child_of numbers (id i)) (natural (place i)))
    (choice_at (fields_of children) numbers ids places columns) 0 0 n (λ (i : ℕ) (inside : i < n).
    let k : ℕ = 0 + i in
    picked_any children columns (child_of numbers (id k)) (natural (place k))
    ∙ ap₂ (λ (id place : ℤ). picked_of (fields_of children) columns (child_of numbers id) (natural place)) (same_id k (omega arith))
    (same_place k (omega arith))))
