-- Laws of windows and of slices of offsets.
use Rattle.std.specs.Prelude.{◌≡◌, ℕ, ◌+◌, ◌≤◌, List}
use Rattle.columnar_memory_buffer.specs.Spans.{Spans, spans_between}
use Rattle.columnar_memory_buffer.specs.Window.{window}

-- a window on a window is one window, at the sum of the places
abbrev pub WindowsJoin : Type 0 → Type 0
WindowsJoin T = (xs : List T) (offset count inner few : ℕ) → inner + few ≤ count
    → window (window xs offset count) inner few ≡ window xs (offset + inner) few

-- a slice of a slice of spans is one slice, at the sum of the places
abbrev pub SlicesJoin : Type 0
SlicesJoin = (s : Spans) (start count inner few : ℕ) → inner + few ≤ count
    → spans_between (spans_between s start count) inner few ≡ spans_between s (start + inner) few
