-- Unions by their ids and places and by their children's slots.
use Rattle.std.proofs.Common.{◌≡◌, ◌∙◌, ℕ, zero, suc, ◌+◌, ◌*◌, ◌<◌, ℤ, pos, Bool, true, false, List, [], ◌∷◌, length, map, drop, take, refl, sym, ap}
use Rattle.std.proofs.Common.{zero-add, arith}
use Rattle.std.specs.Prelude.{Option, Some, None, slice_get, slice_index_or}
use Rattle.std.specs.Int.{Width, w8, w32}
use Rattle.std.proofs.Math.Nat.{mul-one}
use Rattle.std.proofs.lemmas.List.{drop-drop, get_or-map, length-map}
use Rattle.ipc_format_array_reading.specs.columnar_memory.Numbers.{Numbers, first_number, kind_size, numbers_in, one, signed_in}
use Rattle.ipc_format_array_reading.specs.columnar_memory.declared.Field.{Field}
use Rattle.ipc_format_array_reading.specs.columnar_memory.declared.PrimitiveType.{PrimitiveType}
use Rattle.ipc_format_array_reading.specs.columnar_memory.declared.PrimitiveType.TheVariants as kinds
use Rattle.ipc_format_array_reading.specs.columnar_memory.declared.UnionMode.{UnionMode}
use Rattle.ipc_format_array_reading.specs.columnar_memory.declared.UnionMode.TheVariants as modes
use Rattle.ipc_format_array_reading.specs.columns.Slots.{Slot, pick, window}
use Rattle.ipc_format_array_reading.specs.flatbuffers.Reading.{◌>>=◌, guard}
use Rattle.ipc_format_array_reading.specs.grammar.Columns.{Dictionary, Place, all_of, are_as_long, buffer_at, child_of, columns_below, first_below}
use Rattle.ipc_format_array_reading.specs.grammar.Columns.{ids_below, picked, places_in, taken_of, union_slots}
use Rattle.ipc_format_array_reading.specs.grammar.Layouts.{before_V5, union_parts}
use Rattle.ipc_format_array_reading.specs.grammar.Messages.{Version, natural}
use Rattle.ipc_format_array_reading.specs.grammar.Schemas.{Ids}
use Rattle.ipc_format_array_reading.specs.grammar.Values.{element_bytes, signed_of}
use Rattle.ipc_format_array_reading.specs.messages.declared.values.Buffer.{Buffer}
use Rattle.ipc_format_array_reading.specs.messages.declared.values.FieldNode.{FieldNode}
use Rattle.ipc_format_array_reading.specs.Buffers.{next_values, next_window, node_of, values_in}
use Rattle.ipc_format_array_reading.proofs.Marks.{later_window}
use Rattle.ipc_format_array_reading.proofs.Readings.{through, through_found, through_two}
use Rattle.ipc_format_array_reading.proofs.Lists.{get_or-window, length-window, window_same}
use Rattle.ipc_format_array_reading.specs.Parts.{Parts, choices, next_choices, next_places}
use Rattle.ipc_format_array_reading.specs.ReadArrays.{at_front}
use Rattle.ipc_format_reading.proofs.JoinedSlots.{choice_at, joined_choices, joined_unions, picked_of, place_at}
use Rattle.ipc_format_reading.proofs.PartsGuards.{read_each}

-- ---- numbers of a buffer

-- the whole numbers that some bytes spell
abbrev spelled : PrimitiveType → Bool → ℕ → List ℕ → List ℤ
spelled kind little count bytes = map first_number (values_in kind little count bytes)

spelled_count : (kind : PrimitiveType) (little : Bool) (count : ℕ) (bytes : List ℕ) → length (spelled kind little count bytes) ≡ count
spelled_count kind little count bytes =
    length-map (values_in kind little count bytes) first_number
    ∙ length-window (λ i. numbers_in kind little (element_bytes (kind_size kind) bytes i)) 0 count

spelled_there : (kind : PrimitiveType) (little : Bool) (count : ℕ) (bytes : List ℕ) (i : ℕ) → i < count
    → slice_index_or (spelled kind little count bytes) i (pos 0) ≡ first_number (numbers_in kind little (element_bytes (kind_size kind) bytes i))
spelled_there kind little count bytes i below =
    let value : ℕ → Numbers = λ i. numbers_in kind little (element_bytes (kind_size kind) bytes i) in
    let long : length (window value 0 count) ≡ count = length-window value 0 count in
    get_or-map first_number (window value 0 count) i (one (pos 0)) (pos 0) (omega (arith, long, below))
    ∙ ap first_number (get_or-window value 0 count i (one (pos 0)) below) ∙ ap (λ (k : ℕ). first_number (value k)) (zero-add i)

signed_same : (little : Bool) (w : Width) (bytes : List ℕ) → signed_in little w bytes ≡ signed_of little w bytes
signed_same true w bytes = refl
signed_same false w bytes = refl

-- ---- what is picked

-- readers beside fields do not matter
picked_fields : (us : List Field) (columns : List (List Slot)) (k place : Option ℕ)
    → picked (read_each us) columns k place ≡ picked_of us columns k place
picked_fields us columns None place = refl
picked_fields us columns (Some k) place =
    of_field us k (λ u. slice_get columns k >>= (λ column. place >>= (λ at. slice_get column at >>= (λ slot. Some (pick u.data_type slot)))))
  where
    of_field : {B : Type 0} (us : List Field) (k : ℕ) (f : Field → Option B)
        → (slice_get (read_each us) k >>= (λ child. f child.0)) ≡ (slice_get us k >>= f)
    of_field [] k f = refl
    of_field (u ∷ us) zero f = refl
    of_field (u ∷ us) (suc k) f = of_field us k f

abbrev ids_in : ℕ → List ℕ → List ℤ
ids_in count types = spelled kinds.Int8 true count types

-- the slot that a union's ids and places pick
abbrev choice_from : List Field → Option (List ℤ) → List ℕ → (ℕ → ℤ) → List (List Slot) → ℕ → Option Slot
choice_from us numbers types places columns i =
    picked (read_each us) columns (child_of numbers (signed_of true w8 (element_bytes 1 types i))) (natural (places i))

abbrev cut_choices : UnionMode → Option ℕ → ℕ → List (List Slot) → (ℕ → Option Slot) → Option (List Slot)
cut_choices mode limit count columns choice = do
  _ ← guard (are_as_long mode count columns)
  slots ← all_of (window choice 0 count)
  Some (take (taken_of limit count) slots)

choices_made : (us : List Field) (numbers : Option (List ℤ)) (mode : UnionMode) (limit : Option ℕ) (count : ℕ) (types : List ℕ) (places : ℕ → ℤ)
    (given : Option (List ℤ)) (columns : List (List Slot)) → ((i : ℕ) → i < count → places i ≡ place_at given i)
    → cut_choices mode limit count columns (choice_from us numbers types places columns)
    ≡ joined_choices us numbers mode limit (ids_in count types) given columns
choices_made us numbers mode limit count types places given columns same =
    ap (λ (slots : List (Option Slot)). guard (are_as_long mode count columns)
    >>= (λ _. all_of slots >>= (λ slots. Some (take (taken_of limit count) slots))))
    (window_same (choice_from us numbers types places columns) (choice_at us numbers (ids_in count types) given columns) 0 0 count (λ i below.
    let at : 0 + i < count = omega (arith, below) in
    picked_fields us columns (child_of numbers (signed_of true w8 (element_bytes 1 types (0 + i)))) (natural (places (0 + i)))
    ∙ (λ j. picked_of us columns (child_of numbers (sym (spelled_there kinds.Int8 true count types (0 + i) at) j)) (natural (same (0 + i) at j)))))
    ∙ ap (λ (n : ℕ). cut_choices mode limit n columns (choice_at us numbers (ids_in count types) given columns))
    (sym (spelled_count kinds.Int8 true count types))

-- ---- the buffers

window_front : (nodes : List FieldNode) (buffers : List Buffer) (version : Version) (little : Bool) (standing : List Dictionary)
    (limit : Option ℕ) (origin : ℕ) (here : Ids) (room : List ℕ) (k place needed : ℕ) → place ≡ k
    → buffer_at (at_front nodes buffers version little standing limit origin here room).source place needed
    ≡ next_window (drop k buffers) origin needed room
unfolding buffer_at
window_front nodes buffers version little standing limit origin here room k place needed is =
    ap (λ (k : ℕ). buffer_at (at_front nodes buffers version little standing limit origin here room).source k needed) is
    ∙ later_window k nodes buffers little origin needed room

-- what is made of the number of slots that a node has
by_node : (nodes : List FieldNode) (f : ℕ → Option (List Slot)) (g : ℕ → Option Parts) (rest : Parts → Option (List Slot))
    → ((count : ℕ) → f count ≡ (g count >>= rest))
    → (slice_get (map node_of nodes) 0 >>= (λ node. natural node.length >>= f))
    ≡ ((slice_get nodes 0 >>= (λ node. natural node.length >>= g)) >>= rest)
by_node [] f g rest same = refl
by_node (n ∷ ns) f g rest same =
    through_found (natural n.length) f (λ count. g count >>= rest) (λ count there. same count) ∙ sym (through_two (natural n.length) g rest)

-- what is made of a dense union's places
by_places : (given : Option (List ℕ)) (little : Bool) (count : ℕ) (ids_given : List ℤ) (f : (ℕ → ℤ) → Option (List Slot))
    (rest : Parts → Option (List Slot))
    → ((offsets : List ℕ) → f (λ i. signed_of little w32 (element_bytes 4 offsets i))
    ≡ rest (choices ids_given (Some (spelled kinds.Int32 little count offsets))))
    → ((given >>= (λ offsets. Some (λ i. signed_of little w32 (element_bytes 4 offsets i)))) >>= f)
    ≡ ((((given >>= (λ bytes. Some (values_in kinds.Int32 little count bytes))) >>= (λ places. Some (Some (map first_number places))))
    >>= (λ places. Some (choices ids_given places))) >>= rest)
by_places None little count ids_given f rest same = refl
by_places (Some offsets) little count ids_given f rest same = same offsets

-- what is made of the children's columns
abbrev chosen_from : List Field → Option (List ℤ) → UnionMode → Option ℕ → ℕ → List ℕ → Option (List (List Slot)) → (ℕ → ℤ)
    → Option (List Slot)
chosen_from us numbers mode limit count types columns_at places = do
  columns ← columns_at
  cut_choices mode limit count columns (choice_from us numbers types places columns)

-- what is made of a union's slots behind its ids, by its mode
by_mode : (us : List Field) (numbers : Option (List ℤ)) (mode : UnionMode) (nodes : List FieldNode) (buffers : List Buffer) (version : Version)
    (little : Bool) (standing : List Dictionary) (limit : Option ℕ) (origin : ℕ) (here : Ids) (room : List ℕ) (spare count : ℕ) (types : List ℕ)
    (columns_at : Option (List (List Slot))) (rest : Parts → Option (List Slot))
    → ((ids_given : List ℤ) (places : Option (List ℤ))
    → (columns_at >>= joined_unions us numbers mode limit (choices ids_given places)) ≡ rest (choices ids_given places))
    → (places_in mode (at_front nodes buffers version little standing limit origin here room).source (0 + spare + 1) count
    >>= chosen_from us numbers mode limit count types columns_at)
    ≡ ((next_places mode little (drop 1 (drop spare buffers)) origin count room
    >>= (λ places. Some (choices (ids_in count types) places))) >>= rest)
by_mode us numbers modes.Sparse nodes buffers version little standing limit origin here room spare count types columns_at rest joins =
    through_found columns_at (λ columns. cut_choices modes.Sparse limit count columns (choice_from us numbers types (λ i. pos i) columns))
    (joined_unions us numbers modes.Sparse limit (choices (ids_in count types) None))
    (λ columns there. choices_made us numbers modes.Sparse limit count types (λ i. pos i) None columns (λ i below. refl))
    ∙ joins (ids_in count types) None
by_mode us numbers modes.Dense nodes buffers version little standing limit origin here room spare count types columns_at rest joins =
    let place : List ℕ → ℕ → ℤ = λ offsets i. signed_of little w32 (element_bytes 4 offsets i) in
    let behind : List Buffer = drop 1 (drop spare buffers) in
    ap (λ (given : Option (List ℕ)). (given >>= (λ offsets. Some (place offsets)))
    >>= chosen_from us numbers modes.Dense limit count types columns_at)
    (window_front nodes buffers version little standing limit origin here room (spare + 1) (0 + spare + 1) (count * 4)
    (ap (λ (n : ℕ). n + 1) (zero-add spare))
    ∙ ap (λ (later : List Buffer). next_window later origin (count * 4) room) (sym (drop-drop 1 spare buffers)))
    ∙ by_places (next_window behind origin (count * 4) room) little count (ids_in count types)
    (chosen_from us numbers modes.Dense limit count types columns_at) rest (λ offsets.
    through_found columns_at
    (λ columns. cut_choices modes.Dense limit count columns (choice_from us numbers types (place offsets) columns))
    (joined_unions us numbers modes.Dense limit (choices (ids_in count types) (Some (spelled kinds.Int32 little count offsets))))
    (λ columns there. choices_made us numbers modes.Dense limit count types (place offsets) (Some (spelled kinds.Int32 little count offsets))
    columns (λ i below.
    sym (spelled_there kinds.Int32 little count offsets i below ∙ signed_same little w32 (element_bytes 4 offsets i))))
    ∙ joins (ids_in count types) (Some (spelled kinds.Int32 little count offsets)))

-- ---- unions

pub unions_given : (us : List Field) (numbers : Option (List ℤ)) (mode : UnionMode) (nodes : List FieldNode) (buffers : List Buffer)
    (version : Version) (little : Bool) (standing : List Dictionary) (limit : Option ℕ) (origin : ℕ) (here : Ids) (room : List ℕ)
    (rest : Parts → Option (List Slot))
    → ((ids_given : List ℤ) (places : Option (List ℤ))
    → (columns_below (read_each us) (first_below (at_front nodes buffers version little standing limit origin here room)
    (length (union_parts version mode)) None) (ids_below here) >>= joined_unions us numbers mode limit (choices ids_given places))
    ≡ rest (choices ids_given places))
    → union_slots (read_each us) numbers mode (length (before_V5 version)) (length (union_parts version mode))
    (at_front nodes buffers version little standing limit origin here room)
    ≡ (next_choices mode little nodes (drop (length (before_V5 version)) buffers) origin room >>= rest)
unfolding union_slots
unions_given us numbers mode nodes buffers version little standing limit origin here room rest joins =
    let at : Place = at_front nodes buffers version little standing limit origin here room in
    let spare : ℕ = length (before_V5 version) in
    let later : List Buffer = drop spare buffers in
    let columns_at : Option (List (List Slot)) =
    columns_below (read_each us) (first_below at (length (union_parts version mode)) None) (ids_below here) in
    let from : ℕ → List ℕ → Option (List Slot) = λ count types.
    places_in mode at.source (0 + spare + 1) count >>= chosen_from us numbers mode limit count types columns_at in
    let behind : ℕ → List Numbers → Option Parts = λ count ids_given.
    next_places mode little (drop 1 later) origin count room >>= (λ places. Some (choices (map first_number ids_given) places)) in
    by_node nodes (λ count. buffer_at at.source (0 + spare) count >>= from count)
    (λ count. next_values kinds.Int8 true later origin count room >>= behind count) rest (λ count.
    ap (λ (given : Option (List ℕ)). given >>= from count)
    (window_front nodes buffers version little standing limit origin here room spare (0 + spare) count (zero-add spare)
    ∙ ap (λ (needed : ℕ). next_window later origin needed room) (sym (mul-one count)))
    ∙ through (next_window later origin (count * 1) room) (values_in kinds.Int8 true count) (from count)
    (λ ids_given. behind count ids_given >>= rest)
    (λ types. by_mode us numbers mode nodes buffers version little standing limit origin here room spare count types columns_at rest joins)
    ∙ sym (through_two (next_values kinds.Int8 true later origin count room) (behind count) rest))
