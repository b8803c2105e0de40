-- Columns that are passed over at the fronts of the queues of nodes and buffers (Arrow IPC, "RecordBatch message").
use Rattle.std.specs.Prelude.{◌≡◌, ℕ, List, drop}

-- so many nodes and so many buffers are off the fronts of the queues, or all where there are fewer
abbrev pub Passes : {A B : Type 0} → ℕ → ℕ → List A → List A → List B → List B → Type 0
Passes n b nodes nodes_after buffers buffers_after = (nodes_after ≡ drop n nodes) × (buffers_after ≡ drop b buffers)
