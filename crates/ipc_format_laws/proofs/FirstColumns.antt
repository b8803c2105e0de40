-- Columns without children under a smaller limit are the first slots of what they are under a greater one.
use Rattle.std.proofs.Common.{◌≡◌, ◌∙◌, ℕ, zero, suc, ◌+◌, ◌*◌, ◌/◌, ◌≤◌, ◌<◌, ℤ, Bool, true, List, length, take, replicate, refl, sym, ap, ap₂}
use Rattle.std.proofs.Common.{arith, add-zero, zero-add}
use Rattle.std.specs.Prelude.{Option, Some, slice_get, not, ◌||◌}
use Rattle.std.specs.Int.{Width}
use Rattle.std.specs.List.{list_all}
use Rattle.std.proofs.Math.Nat.{mul-le-mul_right}
use Rattle.std.proofs.lemmas.Bool.{and_parts, and_from}
use Rattle.std.proofs.lemmas.List.{length-replicate}
use Rattle.ipc_format_grammar.specs.flatbuffers.Reading.{guard}
use Rattle.columnar_memory_types.specs.Equality.{same_type}
use Rattle.ipc_format_grammar.specs.columnar_memory.declared.DataType.{DataType}
use Rattle.ipc_format_grammar.specs.columnar_memory.declared.IntegerType.{IntegerType}
use Rattle.ipc_format_grammar.specs.columnar_memory.declared.PrimitiveType.{PrimitiveType}
use Rattle.ipc_format_grammar.specs.columns.Slots.{Slot, null, truth, bytes, window}
use Rattle.ipc_format_grammar.proofs.columns_lemmas.Windows.{length-window}
use Rattle.ipc_format_grammar.specs.Messages.{FieldNode, natural}
use Rattle.ipc_format_grammar.specs.Values.{bit_at, kind_size, value_of, value_at, element_bytes, key_of, key_at, key_size}
use Rattle.ipc_format_grammar.specs.Columns.{Place, Reader, Dictionary, Validity, Marked, taken_of, taken_in, is_valid_in, slot_by, marked_in}
use Rattle.ipc_format_grammar.specs.Columns.{buffer_at}
use Rattle.ipc_format_grammar.specs.Columns.{null_slots, fixed_slots, truth_slots, number_slots, fixed_bytes_slots, offsets_in, last_of, piece_at}
use Rattle.ipc_format_grammar.specs.Columns.{byte_slots, own_id, standing_for, names_value, slot_of_key, dictionary_slots}
use Rattle.ipc_format_laws.proofs.Firsts.{came_of, same_value, guarded, IsWithin, taken_within, taken_most, bit_take, element_take, all_take}
use Rattle.ipc_format_laws.proofs.Firsts.{first_same, replicate_take}
use Rattle.ipc_format_laws.proofs.FirstBuffers.{buffer_first, marked_first, slots_first}
use Rattle.ipc_format_laws.proofs.FirstOffsets.{offsets_first, last_fewer, piece_first}

-- the first slots under a limit
abbrev pub cut_to : Option ℕ → List Slot → List Slot
cut_to limit slots = take (taken_of limit (length slots)) slots

-- What a reader gives under a limit, it gives of under a smaller one the first slots.
abbrev pub Cuts : Reader → Type 0
Cuts reader = (at : Place) (limit : Option ℕ) (slots : List Slot) → IsWithin limit at.limit → reader at ≡ Some slots
    → reader (record at { limit = limit }) ≡ Some (cut_to limit slots)

-- slots that are so many values of a function, and the first of them
pub cut_is : (limit : Option ℕ) (value value' : ℕ → Slot) (validity first : Validity) (many few : ℕ) (slots : List Slot)
    → window (slot_by validity value) 0 many ≡ slots → few ≡ taken_of limit many → few ≤ many
    → ((i : ℕ) → i < few → is_valid_in first i ≡ is_valid_in validity i) → ((i : ℕ) → i < few → value' i ≡ value i)
    → window (slot_by first value') 0 few ≡ cut_to limit slots
cut_is limit value value' validity first many few slots whole count fewer valid each =
    let size : length slots ≡ many = ap length (sym whole) ∙ length-window (slot_by validity value) 0 many in
    slots_first validity first value value' few many fewer valid each
    ∙ ap₂ (λ n xs. take n xs) (count ∙ ap (taken_of limit) (sym size)) whole

-- ---- slots of one size

pub nulls_cut : Cuts null_slots
nulls_cut at limit slots within e =
    let node = came_of {A = FieldNode} (slice_get at.source.nodes at.node) _ slots e in
    let taken = came_of {A = ℕ} (taken_in at node.0) _ slots node.2 in
    let count = came_of {A = ℕ} (natural node.0.length) _ taken.0 taken.1 in
    let taken_is : taken_of at.limit count.0 ≡ taken.0 = same_value (taken_of at.limit count.0) taken.0 count.2 in
    let whole : replicate taken.0 null ≡ slots = same_value (replicate taken.0 null) slots taken.2 in
    let size : length slots ≡ taken.0 = ap length (sym whole) ∙ length-replicate taken.0 null in
    let few : taken_of limit count.0 ≡ taken_of limit taken.0 =
    sym (taken_within limit at.limit count.0 within) ∙ ap (taken_of limit) taken_is in
    let cut : replicate (taken_of limit count.0) null ≡ cut_to limit slots =
    ap (λ n. replicate n null) few ∙ replicate_take null (taken_of limit taken.0) taken.0 (taken_most limit taken.0)
    ∙ ap₂ (λ n xs. take n xs) (ap (taken_of limit) (sym size)) whole in
    rw (node.1, count.1) (ap Some cut)

pub fixed_cut : (needed : ℕ → ℕ) (value : List ℕ → ℕ → Slot) → ((few many : ℕ) → few ≤ many → needed few ≤ needed many)
    → ((content : List ℕ) (few i : ℕ) → i < few → value (take (needed few) content) i ≡ value content i) → Cuts (fixed_slots needed value)
unfolding fixed_slots
fixed_cut needed value more same at limit slots within e =
    let marked = came_of {A = Marked} (marked_in at) _ slots e in
    let values = came_of {A = List ℕ} (buffer_at at.source (at.buffer + 1) (needed marked.0.taken)) _ slots marked.2 in
    let first = marked_first at limit marked.0 within marked.1 in
    let few : ℕ = first.first.taken in
    let part = buffer_first at.source (at.buffer + 1) (needed marked.0.taken) (needed few) values.0 values.1
    (more few marked.0.taken first.fewer) in
    let whole : window (slot_by marked.0.validity (value values.0)) 0 marked.0.taken ≡ slots = same_value _ slots values.2 in
    let cut = cut_is limit (value values.0) (value (take (needed few) values.0)) marked.0.validity first.first.validity marked.0.taken few slots
    whole first.count first.fewer first.same (λ (i : ℕ) (inside : i < few). same values.0 few i inside) in
    rw (first.is, part) (ap Some cut)

bytes_more : (few many : ℕ) → few ≤ many → (few + 7) / 8 ≤ (many + 7) / 8
bytes_more few many h = omega arith

pub truths_cut : Cuts truth_slots
truths_cut at limit slots within e =
    fixed_cut (λ taken. (taken + 7) / 8) (λ values i. truth (bit_at values i)) bytes_more
    (λ content few i inside. ap truth (bit_take content few i inside)) at limit slots within e

pub numbers_cut : (kind : PrimitiveType) → Cuts (number_slots kind)
numbers_cut kind at limit slots within e =
    fixed_cut (λ taken. taken * kind_size kind) (value_at kind at.source.is_little_endian)
    (λ few many h. mul-le-mul_right (kind_size kind) h)
    (λ content few i inside. ap (value_of kind at.source.is_little_endian) (element_take (kind_size kind) few i content inside))
    at limit slots within e

pub fixed_bytes_cut : (size : ℕ) → Cuts (fixed_bytes_slots size)
fixed_bytes_cut size at limit slots within e =
    fixed_cut (λ taken. taken * size) (λ values i. bytes (element_bytes size values i)) (λ few many h. mul-le-mul_right size h)
    (λ content few i inside. ap bytes (element_take size few i content inside)) at limit slots within e

-- ---- bytes and texts

pub bytes_cut : (w : Width) (is_allowed : List ℕ → Bool) (slot : List ℕ → Slot) → Cuts (byte_slots w is_allowed slot)
unfolding byte_slots
bytes_cut w is_allowed slot at limit slots within e =
    let marked = came_of {A = Marked} (marked_in at) _ slots e in
    let many : ℕ = marked.0.taken in
    let found = came_of {A = List ℕ} (offsets_in w at.source (at.buffer + 1) many) _ slots marked.2 in
    let offsets : List ℕ = found.0 in
    let content = came_of {A = List ℕ} (buffer_at at.source (at.buffer + 2) (last_of offsets)) _ slots found.2 in
    let test = came_of {A = Bool} (guard (list_all is_allowed (window (piece_at offsets content.0) 0 many))) _ slots content.2 in
    let passes : list_all is_allowed (window (piece_at offsets content.0) 0 many) ≡ true = guarded _ test.0 test.1 in
    let first = marked_first at limit marked.0 within marked.1 in
    let few : ℕ = first.first.taken in
    let offsets_are = offsets_first w at.source (at.buffer + 1) many few offsets found.1 first.fewer in
    let last : ℕ = last_of (take (few + 1) offsets) in
    let part = buffer_first at.source (at.buffer + 2) (last_of offsets) last content.0 content.1
    (last_fewer w at.source (at.buffer + 1) many few offsets offsets_are first.fewer) in
    let piece = λ (i : ℕ) (inside : i < few).
    piece_first w at.source (at.buffer + 1) many few offsets content.0 offsets_are first.fewer i inside in
    let pieces : window (piece_at (take (few + 1) offsets) (take last content.0)) 0 few ≡ take few (window (piece_at offsets content.0) 0 many) =
    first_same (piece_at offsets content.0) (piece_at (take (few + 1) offsets) (take last content.0)) few many first.fewer piece in
    let allowed : list_all is_allowed (window (piece_at (take (few + 1) offsets) (take last content.0)) 0 few) ≡ true =
    ap (list_all is_allowed) pieces ∙ all_take is_allowed few (window (piece_at offsets content.0) 0 many) passes in
    let whole : window (slot_by marked.0.validity (λ i. slot (piece_at offsets content.0 i))) 0 many ≡ slots = same_value _ slots test.2 in
    let cut = cut_is limit (λ i. slot (piece_at offsets content.0 i)) (λ i. slot (piece_at (take (few + 1) offsets) (take last content.0) i))
    marked.0.validity first.first.validity many few slots whole first.count first.fewer first.same
    (λ (i : ℕ) (inside : i < few). ap slot (piece i inside)) in
    rw (first.is, offsets_are.is, part, allowed) (ap Some cut)

-- ---- dictionaries

-- what passes at each of many places passes at the first of them, by another test that says the same there
all_from : (test test' : ℕ → Bool) (from few : ℕ) → ((i : ℕ) → i < few → test' (from + i) ≡ test (from + i))
    → list_all test (window (λ i. i) from few) ≡ true → list_all test' (window (λ i. i) from few) ≡ true
all_from test test' from zero each h = refl
all_from test test' from (suc few) each h =
    let parts = and_parts (test from) (list_all test (window (λ i. i) (from + 1) few)) h in
    let at_first : test' from ≡ test from = ap test' (sym (add-zero from)) ∙ each 0 (omega arith) ∙ ap test (add-zero from) in
    and_from (test' from) (list_all test' (window (λ i. i) (from + 1) few)) (at_first ∙ parts.0)
    (all_from test test' (from + 1) few (λ (i : ℕ) (inside : i < few). let next : from + 1 + i ≡ from + suc i = omega arith in
    ap test' next ∙ each (suc i) (omega arith) ∙ ap test (sym next)) parts.1)

all_first : (test test' : ℕ → Bool) (few many : ℕ) → few ≤ many → ((i : ℕ) → i < few → test' i ≡ test i)
    → list_all test (window (λ i. i) 0 many) ≡ true → list_all test' (window (λ i. i) 0 few) ≡ true
all_first test test' few many h each passes =
    let part : window (λ (i : ℕ). i) 0 few ≡ take few (window (λ i. i) 0 many) = first_same (λ i. i) (λ i. i) few many h (λ i inside. refl) in
    let fewer : list_all test (window (λ i. i) 0 few) ≡ true =
    ap (list_all test) part ∙ all_take test few (window (λ i. i) 0 many) passes in
    all_from test test' 0 few (λ (i : ℕ) (inside : i < few). ap test' (zero-add i) ∙ each i inside ∙ ap test (sym (zero-add i))) fewer

pub keys_cut : (key : IntegerType) (data_type : DataType) → Cuts (dictionary_slots key data_type)
unfolding dictionary_slots
keys_cut key data_type at limit slots within e =
    let id = came_of {A = ℤ} (own_id at.ids) _ slots e in
    let dictionary = came_of {A = Dictionary} (standing_for id.0 at.standing) _ slots id.2 in
    let same = came_of {A = Bool} (guard (same_type dictionary.0.data_type data_type)) _ slots dictionary.2 in
    let is_same : same_type dictionary.0.data_type data_type ≡ true = guarded _ same.0 same.1 in
    let marked = came_of {A = Marked} (marked_in at) _ slots same.2 in
    let many : ℕ = marked.0.taken in
    let content = came_of {A = List ℕ} (buffer_at at.source (at.buffer + 1) (many * key_size key)) _ slots marked.2 in
    let little : Bool = at.source.is_little_endian in
    let count : ℕ = length dictionary.0.slots in
    let is_known : Validity → List ℕ → ℕ → Bool = λ validity keys i. not (is_valid_in validity i) || names_value count (key_at key little keys i) in
    let test = came_of {A = Bool} (guard (list_all (is_known marked.0.validity content.0) (window (λ i. i) 0 many))) _ slots content.2 in
    let passes : list_all (is_known marked.0.validity content.0) (window (λ i. i) 0 many) ≡ true = guarded _ test.0 test.1 in
    let first = marked_first at limit marked.0 within marked.1 in
    let few : ℕ = first.first.taken in
    let keys : List ℕ = take (few * key_size key) content.0 in
    let part = buffer_first at.source (at.buffer + 1) (many * key_size key) (few * key_size key) content.0 content.1
    (mul-le-mul_right (key_size key) first.fewer) in
    let each = λ (i : ℕ) (inside : i < few). ap (key_of key little) (element_take (key_size key) few i content.0 inside) in
    let known : list_all (is_known first.first.validity keys) (window (λ i. i) 0 few) ≡ true =
    all_first (is_known marked.0.validity content.0) (is_known first.first.validity keys) few many first.fewer
    (λ (i : ℕ) (inside : i < few). ap₂ (λ (b : Bool) (k : ℤ). not b || names_value count k) (first.same i inside) (each i inside)) passes in
    let whole : window (slot_by marked.0.validity (λ i. slot_of_key dictionary.0.slots (key_at key little content.0 i))) 0 many ≡ slots =
    same_value _ slots test.2 in
    let cut = cut_is limit (λ i. slot_of_key dictionary.0.slots (key_at key little content.0 i))
    (λ i. slot_of_key dictionary.0.slots (key_at key little keys i)) marked.0.validity first.first.validity many few slots whole first.count
    first.fewer first.same (λ (i : ℕ) (inside : i < few). ap (slot_of_key dictionary.0.slots) (each i inside)) in
    rw (id.1, dictionary.1, is_same, first.is, part, known) (ap Some cut)
