-- The ids and the places of a union's slots, read one after the other.
use Rattle.std.proofs.Common.{◌≡◌, ◌∙◌, ◌+◌, ◌-◌, ◌≤◌, ℕ, ℤ, zero, suc, Bool, true, false, List, [], ◌∷◌, ◌++◌, length, map, drop, refl, sym, ap, arith}
use Rattle.std.specs.Prelude.{Option, Some, None, Result, Ok, Err, slice_get}
use Rattle.std.proofs.lemmas.Bool.{true≢false}
use Rattle.std.proofs.lemmas.List.{drop-drop, length-append, length-drop}
use Rattle.ipc_format_column_writing.specs.column_reading.columnar_memory.Numbers.{Numbers, first_number, one}
use Rattle.ipc_format_column_writing.specs.column_reading.columnar_memory.declared.DataType.TheOpen as layer
use Rattle.ipc_format_column_writing.specs.column_reading.columnar_memory.declared.Error.{Error}
use Rattle.ipc_format_column_writing.specs.column_reading.columnar_memory.declared.PrimitiveType.TheVariants as kinds
use Rattle.ipc_format_column_writing.specs.column_reading.columnar_memory.declared.UnionMode.{UnionMode}
use Rattle.ipc_format_column_writing.specs.column_reading.columnar_memory.declared.UnionMode.TheVariants as modes
use Rattle.ipc_format_column_writing.specs.column_reading.flatbuffers.Reading.{◌>>=◌}
use Rattle.ipc_format_column_writing.specs.column_reading.grammar.Layouts.{before_V5, mode_parts}
use Rattle.ipc_format_column_writing.specs.column_reading.grammar.Messages.{Version, natural}
use Rattle.ipc_format_column_writing.specs.column_reading.messages.declared.values.Buffer.{Buffer}
use Rattle.ipc_format_column_writing.specs.column_reading.messages.declared.values.FieldNode.{FieldNode}
use Rattle.ipc_format_column_writing.specs.column_reading.Buffers.{next_values, taken_in}
use Rattle.ipc_format_column_writing.specs.column_reading.Queues.{TakesOff}
use Rattle.ipc_format_column_writing.proofs.reading_lemmas.Skipping.{end_behind}
use Rattle.ipc_format_column_writing.proofs.reading_lemmas.columns_lemmas.TypeLayers.{Layer}
use Rattle.ipc_format_array_reading.specs.Parts.{Parts, beginning_of, choices, next_choices, next_parts, next_places, own_buffers, place_buffers}
use Rattle.ipc_format_array_reading.specs.declared.begun.Beginning.{Beginning}
use Rattle.ipc_format_array_reading.specs.declared.begun.Beginning.TheVariants as beginnings

-- numbers of one whole number each
pub ones_back : (xs : List ℤ) → map first_number (map one xs) ≡ xs
ones_back [] = refl
ones_back (x ∷ xs) = ap (λ ys. x ∷ ys) (ones_back xs)

-- ---- by the node

none_back : (r : Option ℕ) → (r >>= (λ n. Some n)) ≡ None → r ≡ None
none_back None e = refl
none_back (Some n) e = absurd cc

some_back : (r : Option ℕ) (n : ℕ) → (r >>= (λ n. Some n)) ≡ Some n → r ≡ Some n
some_back None n e = absurd cc
some_back (Some m) n e = e

abbrev pub places_behind : UnionMode → Bool → List Buffer → ℕ → ℕ → List Numbers → List ℕ → Option Parts
places_behind mode little later origin count numbers room =
    next_places mode little later origin count room >>= (λ places. Some (choices (map first_number numbers) places))

abbrev from_node : UnionMode → Bool → List Buffer → ℕ → List ℕ → Option ℕ → Option Parts
from_node mode little buffers origin room count = count >>= (λ n. next_values kinds.Int8 true buffers origin n room
    >>= (λ numbers. places_behind mode little (drop 1 buffers) origin n numbers room))

by_node : (mode : UnionMode) (little : Bool) (nodes : List FieldNode) (buffers : List Buffer) (origin : ℕ) (node : FieldNode) (room : List ℕ)
    → slice_get nodes 0 ≡ Some node
    → next_choices mode little nodes buffers origin room ≡ from_node mode little buffers origin room (natural node.length)
by_node mode little nodes buffers origin node room there =
    ap (λ (r : Option FieldNode). r >>= (λ x. from_node mode little buffers origin room (natural x.length))) there

pub negative_choices : (mode : UnionMode) (little : Bool) (nodes : List FieldNode) (buffers : List Buffer) (origin : ℕ) (node : FieldNode)
    (room : List ℕ) → slice_get nodes 0 ≡ Some node → taken_in None node ≡ None → next_choices mode little nodes buffers origin room ≡ None
negative_choices mode little nodes buffers origin node room there none =
    by_node mode little nodes buffers origin node room there
    ∙ ap (from_node mode little buffers origin room) (none_back (natural node.length) none)

pub choices_whole : (mode : UnionMode) (little : Bool) (nodes : List FieldNode) (buffers : List Buffer) (origin : ℕ) (node : FieldNode) (count : ℕ)
    → slice_get nodes 0 ≡ Some node → taken_in None node ≡ Some count → (room : List ℕ) → next_choices mode little nodes buffers origin room
    ≡ (next_values kinds.Int8 true buffers origin count room >>= (λ numbers. places_behind mode little (drop 1 buffers) origin count numbers room))
choices_whole mode little nodes buffers origin node count there counted room =
    by_node mode little nodes buffers origin node room there
    ∙ ap (from_node mode little buffers origin room) (some_back (natural node.length) count counted)

-- ---- by the layer

abbrev is_choices : Beginning → Bool
is_choices (beginnings.Choices mode) = true
is_choices _ = false

abbrev mode_in : Beginning → UnionMode
mode_in (beginnings.Choices mode) = mode
mode_in _ = modes.Sparse

unlike : false ≡ true → ⊥
unlike e = true≢false (sym e)

pub union_parts_are : (x : Layer) (mode : UnionMode) (version : Version) (little : Bool) (nodes : List FieldNode) (limit : Option ℕ)
    (buffers : List Buffer) (origin : ℕ) (room : List ℕ) → beginning_of x ≡ beginnings.Choices mode
    → next_parts x version little nodes limit buffers origin room
    ≡ next_choices mode little nodes (drop (length (before_V5 version)) buffers) origin room
union_parts_are (layer.Union us given m) mode version little nodes limit buffers origin room e =
    ap (λ k. next_choices k little nodes (drop (length (before_V5 version)) buffers) origin room) (ap mode_in e)
union_parts_are (layer.List item) mode version little nodes limit buffers origin room e = absurd (unlike (ap is_choices e))
union_parts_are (layer.LargeList item) mode version little nodes limit buffers origin room e = absurd (unlike (ap is_choices e))
union_parts_are (layer.Map entry is_sorted) mode version little nodes limit buffers origin room e = absurd (unlike (ap is_choices e))
union_parts_are x mode version little nodes limit buffers origin room e = absurd (unlike (ap is_choices e))

mode_buffers : (version : Version) (mode : UnionMode)
    → length (before_V5 version ++ mode_parts mode) ≡ length (before_V5 version) + (1 + place_buffers mode)
mode_buffers version modes.Sparse = length-append (before_V5 version) (mode_parts modes.Sparse)
mode_buffers version modes.Dense = length-append (before_V5 version) (mode_parts modes.Dense)

pub union_buffers_are : (x : Layer) (mode : UnionMode) (version : Version) → beginning_of x ≡ beginnings.Choices mode
    → own_buffers version x ≡ length (before_V5 version) + (1 + place_buffers mode)
union_buffers_are (layer.Union us given m) mode version e =
    mode_buffers version m ∙ ap (λ k. length (before_V5 version) + (1 + place_buffers k)) (ap mode_in e)
union_buffers_are (layer.List item) mode version e = absurd (unlike (ap is_choices e))
union_buffers_are (layer.LargeList item) mode version e = absurd (unlike (ap is_choices e))
union_buffers_are (layer.Map entry is_sorted) mode version e = absurd (unlike (ap is_choices e))
union_buffers_are x mode version e = absurd (unlike (ap is_choices e))

-- ---- behind a buffer that is passed over, if it is there

pub off_passed : {A X : Type 0} (n m k : ℕ) (xs ys zs : List A) (r : Result X Error) → k ≡ n + (1 + m) → ys ≡ drop n xs
    → TakesOff (1 + m) ys zs r → TakesOff k xs zs r
off_passed n m k xs ys zs (Ok x) is first later =
    let left : length ys ≡ length xs - n = ap length first ∙ length-drop n xs in
    let enough : k ≤ length xs = omega (arith, later.0, left, is) in
    (enough, later.1 ∙ ap (drop (1 + m)) first ∙ drop-drop (1 + m) n xs ∙ ap (λ (j : ℕ). drop j xs) (sym is))
off_passed n m k xs ys zs (Err error) is first later = end_behind xs ys zs n first later
