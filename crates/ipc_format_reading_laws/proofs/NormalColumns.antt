-- Columns without children read the same by the normal form of their type.
use Rattle.std.proofs.Common.{◌≡◌, ◌∙◌, ℕ, ◌+◌, ◌*◌, ◌/◌, ℤ, Bool, true, false, not, ◌||◌, List, [], ◌∷◌, length, map, replicate, refl, ap}
use Rattle.std.proofs.Common.{subst, if◌then◌else◌}
use Rattle.std.specs.Prelude.{Option, Some, slice_get, option_map}
use Rattle.std.specs.Int.{Width}
use Rattle.std.specs.List.{list_all}
use Rattle.std.specs.Ordering.{int_eq}
use Rattle.std.proofs.lemmas.List.{length-map}
use Rattle.ipc_format_laws.specs.flatbuffers.Reading.{guard}
use Rattle.columnar_memory_types.specs.Equality.{same_type, same_type-Decides}
use Rattle.ipc_format_laws.specs.columnar_memory.declared.DataType.{DataType}
use Rattle.ipc_format_laws.specs.columnar_memory.declared.IntegerType.{IntegerType}
use Rattle.ipc_format_laws.specs.columnar_memory.declared.PrimitiveType.{PrimitiveType}
use Rattle.ipc_format_laws.specs.columns.Slots.{Slot, null, truth, bytes, window}
use Rattle.ipc_format_laws.specs.grammar.Messages.{FieldNode}
use Rattle.ipc_format_laws.specs.grammar.Writable.{normalised_type}
use Rattle.ipc_format_laws.specs.grammar.Values.{bit_at, kind_size, value_at, element_bytes, key_at, key_size}
use Rattle.ipc_format_laws.specs.grammar.Columns.{Place, Reader, Dictionary, Marked, taken_in, is_valid_in, slots_by, marked_in, buffer_at, null_slots}
use Rattle.ipc_format_laws.specs.grammar.Columns.{fixed_slots, truth_slots, number_slots, fixed_bytes_slots, offsets_in, last_of, piece_at, byte_slots}
use Rattle.ipc_format_laws.specs.grammar.Columns.{own_id, standing_for, names_value, slot_of_key, dictionary_slots}
use Rattle.ipc_format_laws.proofs.Firsts.{came_of, bind_is, same_value, guarded}
use Rattle.ipc_format_reading_laws.specs.NormalSlots.{normal_slot, normal_dictionary, among_normal}
use Rattle.ipc_format_reading_laws.proofs.NormalValues.{slots_normal, nulls_are, value_is, key_normal}

-- What a reader gives, another one gives with the type of each pick in normal form, where each dictionary was read by the normal form of its
-- type.
abbrev pub ReadsNormal : Reader → Reader → Type 0
ReadsNormal reader normal = (at : Place) (some : List Slot) → reader at ≡ Some some → normal (among_normal at) ≡ Some (map normal_slot some)

pub marked_same : (at : Place) → marked_in (among_normal at) ≡ marked_in at
unfolding marked_in
marked_same at = refl

-- ---- slots of one size

pub nulls_normal : ReadsNormal null_slots null_slots
nulls_normal at some e =
    let node = came_of {A = FieldNode} (slice_get at.source.nodes at.node) _ some e in
    let taken = came_of {A = ℕ} (taken_in at node.0) _ some node.2 in
    let whole : replicate taken.0 null ≡ some = same_value (replicate taken.0 null) some taken.2 in
    e ∙ ap Some (subst (λ (slots : List Slot). slots ≡ map normal_slot slots) whole (nulls_are taken.0))

fixed_normal : (needed : ℕ → ℕ) (value : List ℕ → ℕ → Slot) → ((content : List ℕ) (i : ℕ) → value content i ≡ normal_slot (value content i))
    → ReadsNormal (fixed_slots needed value) (fixed_slots needed value)
unfolding fixed_slots
fixed_normal needed value same at some e =
    let marked = came_of {A = Marked} (marked_in at) _ some e in
    let many : ℕ = marked.0.taken in
    let content = came_of {A = List ℕ} (buffer_at at.source (at.buffer + 1) (needed many)) _ some marked.2 in
    let whole : slots_by marked.0.validity (value content.0) many ≡ some = same_value _ some content.2 in
    bind_is (marked_in (among_normal at)) _ marked.0 (marked_same at ∙ marked.1)
    ∙ bind_is (buffer_at at.source (at.buffer + 1) (needed many)) _ content.0 content.1
    ∙ ap Some (slots_normal marked.0.validity (value content.0) (value content.0) many (same content.0) ∙ ap (map normal_slot) whole)

pub truths_normal : ReadsNormal truth_slots truth_slots
truths_normal = fixed_normal (λ taken. (taken + 7) / 8) (λ values i. truth (bit_at values i)) (λ content i. refl)

pub numbers_normal : (kind : PrimitiveType) → ReadsNormal (number_slots kind) (number_slots kind)
numbers_normal kind at some e =
    fixed_normal (λ taken. taken * kind_size kind) (value_at kind at.source.is_little_endian)
    (λ content i. value_is kind at.source.is_little_endian (element_bytes (kind_size kind) content i)) at some e

pub fixed_bytes_normal : (size : ℕ) → ReadsNormal (fixed_bytes_slots size) (fixed_bytes_slots size)
fixed_bytes_normal size =
    fixed_normal (λ taken. taken * size) (λ values i. bytes (element_bytes size values i)) (λ content i. refl)

-- ---- bytes and texts

pub bytes_normal : (w : Width) (is_allowed : List ℕ → Bool) (slot : List ℕ → Slot) → ((piece : List ℕ) → slot piece ≡ normal_slot (slot piece))
    → ReadsNormal (byte_slots w is_allowed slot) (byte_slots w is_allowed slot)
unfolding byte_slots
bytes_normal w is_allowed slot same at some e =
    let marked = came_of {A = Marked} (marked_in at) _ some e in
    let many : ℕ = marked.0.taken in
    let found = came_of {A = List ℕ} (offsets_in w at.source (at.buffer + 1) many) _ some marked.2 in
    let offsets : List ℕ = found.0 in
    let content = came_of {A = List ℕ} (buffer_at at.source (at.buffer + 2) (last_of offsets)) _ some found.2 in
    let test = came_of {A = Bool} (guard (list_all is_allowed (window (piece_at offsets content.0) 0 many))) _ some content.2 in
    let whole : slots_by marked.0.validity (λ i. slot (piece_at offsets content.0 i)) many ≡ some = same_value _ some test.2 in
    bind_is (marked_in (among_normal at)) _ marked.0 (marked_same at ∙ marked.1)
    ∙ bind_is (offsets_in w at.source (at.buffer + 1) many) _ offsets found.1
    ∙ bind_is (buffer_at at.source (at.buffer + 2) (last_of offsets)) _ content.0 content.1
    ∙ bind_is (guard (list_all is_allowed (window (piece_at offsets content.0) 0 many))) _ test.0 test.1
    ∙ ap Some (slots_normal marked.0.validity (λ i. slot (piece_at offsets content.0 i)) (λ i. slot (piece_at offsets content.0 i)) many
    (λ i. same (piece_at offsets content.0 i)) ∙ ap (map normal_slot) whole)

-- ---- dictionaries

found_by : (is_it : Bool) (dictionary : Dictionary) (found others : Option Dictionary) → found ≡ option_map normal_dictionary others
    → (if is_it then Some (normal_dictionary dictionary) else found) ≡ option_map normal_dictionary (if is_it then Some dictionary else others)
found_by true dictionary found others e = refl
found_by false dictionary found others e = e

-- the same dictionary is found
found_normal : (id : ℤ) (standing : List Dictionary)
    → standing_for id (map normal_dictionary standing) ≡ option_map normal_dictionary (standing_for id standing)
found_normal id [] = refl
found_normal id (dictionary ∷ others) =
    found_by (int_eq id dictionary.id) dictionary (standing_for id (map normal_dictionary others)) (standing_for id others) (found_normal id others)

pub keys_normal : (key : IntegerType) (data_type : DataType)
    → ReadsNormal (dictionary_slots key data_type) (dictionary_slots key (normalised_type data_type))
unfolding dictionary_slots
keys_normal key data_type at some e =
    let id = came_of {A = ℤ} (own_id at.ids) _ some e in
    let dictionary = came_of {A = Dictionary} (standing_for id.0 at.standing) _ some id.2 in
    let test_type = came_of {A = Bool} (guard (same_type dictionary.0.data_type data_type)) _ some dictionary.2 in
    let is_same : dictionary.0.data_type ≡ data_type =
    (same_type-Decides dictionary.0.data_type data_type).0 (guarded _ test_type.0 test_type.1) in
    let marked = came_of {A = Marked} (marked_in at) _ some test_type.2 in
    let many : ℕ = marked.0.taken in
    let content = came_of {A = List ℕ} (buffer_at at.source (at.buffer + 1) (many * key_size key)) _ some marked.2 in
    let keys : ℕ → ℤ = key_at key at.source.is_little_endian content.0 in
    let values : List Slot = dictionary.0.slots in
    let is_known : ℕ → ℕ → Bool = λ count i. not (is_valid_in marked.0.validity i) || names_value count (keys i) in
    let test = came_of {A = Bool} (guard (list_all (is_known (length values)) (window (λ i. i) 0 many))) _ some content.2 in
    let whole : slots_by marked.0.validity (λ i. slot_of_key values (keys i)) many ≡ some = same_value _ some test.2 in
    let known : list_all (is_known (length (map normal_slot values))) (window (λ i. i) 0 many) ≡ true =
    ap (λ n. list_all (is_known n) (window (λ i. i) 0 many)) (length-map values normal_slot) ∙ guarded _ test.0 test.1 in
    let found : standing_for id.0 (map normal_dictionary at.standing) ≡ Some (normal_dictionary dictionary.0) =
    found_normal id.0 at.standing ∙ ap (option_map normal_dictionary) dictionary.1 in
    let fits : same_type (normalised_type dictionary.0.data_type) (normalised_type data_type) ≡ true =
    (same_type-Decides (normalised_type dictionary.0.data_type) (normalised_type data_type)).1 (ap normalised_type is_same) in
    bind_is (own_id at.ids) _ id.0 id.1
    ∙ bind_is (standing_for id.0 (map normal_dictionary at.standing)) _ (normal_dictionary dictionary.0) found
    ∙ bind_is (guard (same_type (normalised_type dictionary.0.data_type) (normalised_type data_type))) _ true (ap guard fits)
    ∙ bind_is (marked_in (among_normal at)) _ marked.0 (marked_same at ∙ marked.1)
    ∙ bind_is (buffer_at at.source (at.buffer + 1) (many * key_size key)) _ content.0 content.1
    ∙ bind_is (guard (list_all (is_known (length (map normal_slot values))) (window (λ i. i) 0 many))) _ true (ap guard known)
    ∙ ap Some (slots_normal marked.0.validity (λ i. slot_of_key values (keys i)) (λ i. slot_of_key (map normal_slot values) (keys i)) many
    (λ i. key_normal values (keys i)) ∙ ap (map normal_slot) whole)
