-- Columns over children under a smaller limit are the first slots of what they are under a greater one, where that holds of their children.
use Rattle.std.proofs.Common.{inl, inr, ◌≡◌, ◌∙◌, ℕ, suc, ◌+◌, ◌*◌, ◌≤◌, ◌<◌, min, ℤ, Bool, true, List, [], ◌∷◌, length, map, take}
use Rattle.std.proofs.Common.{refl, sym, ap, ap₂, subst, arith, slice_range, ◌==◌}
use Rattle.std.specs.Prelude.{Option, Some, None, slice_get}
use Rattle.std.specs.Int.{Width, w8}
use Rattle.std.proofs.Math.Nat.{mul_comm, mul-le-mul_right, min-eq_left, min-eq_right}
use Rattle.std.proofs.lemmas.Bool.{and_parts, and_from, cases_lt, eq-eqb, eqb-true}
use Rattle.std.proofs.lemmas.List.{length-take-le, get_or-take, take-take}
use Rattle.ipc_format_grammar.specs.flatbuffers.Reading.{guard}
use Rattle.ipc_format_grammar.specs.columnar_memory.declared.Field.{Field}
use Rattle.ipc_format_grammar.specs.columnar_memory.declared.UnionMode.{UnionMode}
use Rattle.ipc_format_grammar.specs.columns.Slots.{Slot, null, items, fields, in_slots, window}
use Rattle.ipc_format_grammar.specs.columns.Tables.{row_at}
use Rattle.ipc_format_grammar.proofs.columns_lemmas.Windows.{length-window}
use Rattle.ipc_format_grammar.specs.Messages.{FieldNode, natural}
use Rattle.ipc_format_grammar.specs.Schemas.{IdsList}
use Rattle.ipc_format_grammar.specs.Values.{signed_of, element_bytes}
use Rattle.ipc_format_grammar.specs.Columns.{Place, Reader, Marked, taken_of, slot_by, marked_in, buffer_at, offsets_in, last_of, piece_at}
use Rattle.ipc_format_grammar.specs.Columns.{first_below}
use Rattle.ipc_format_grammar.specs.Columns.{behind_column, limit_times, list_slots, fixed_list_slots, columns_below, have_length, struct_slots}
use Rattle.ipc_format_grammar.specs.Columns.{ids_below, first_ids, other_ids, places_in, are_as_long, picked, child_of, all_of, union_slots}
use Rattle.ipc_format_laws.proofs.Firsts.{came_of, bind_is, same_value, guarded, IsWithin, taken_within, taken_most, range_take}
use Rattle.ipc_format_laws.proofs.FirstBuffers.{marked_first}
use Rattle.ipc_format_laws.proofs.FirstOffsets.{offsets_first, last_fewer, piece_first}
use Rattle.ipc_format_laws.proofs.FirstColumns.{Cuts, cut_to, cut_is}

-- ---- lists

pub lists_cut : (w : Width) (field : Field) (reader : Reader) → Cuts reader → Cuts (list_slots w (field, reader))
unfolding list_slots
lists_cut w field reader below at limit slots within e =
    let marked = came_of {A = Marked} (marked_in at) _ slots e in
    let many : ℕ = marked.0.taken in
    let found = came_of {A = List ℕ} (offsets_in w at.source (at.buffer + 1) many) _ slots marked.2 in
    let offsets : List ℕ = found.0 in
    let values = came_of {A = List Slot} (reader (first_below at 2 (Some (last_of offsets)))) _ slots found.2 in
    let test = came_of {A = Bool} (guard (length values.0 == last_of offsets)) _ slots values.2 in
    let size : length values.0 ≡ last_of offsets = eqb-true (length values.0) (last_of offsets) (guarded _ test.0 test.1) in
    let first = marked_first at limit marked.0 within marked.1 in
    let few : ℕ = first.first.taken in
    let offsets_are = offsets_first w at.source (at.buffer + 1) many few offsets found.1 first.fewer in
    let last : ℕ = last_of (take (few + 1) offsets) in
    let fewer : last ≤ last_of offsets = last_fewer w at.source (at.buffer + 1) many few offsets offsets_are first.fewer in
    let taken : min last (length values.0) ≡ last = min-eq_left (omega (arith, fewer, size)) in
    let part : reader (first_below (record at { limit = limit }) 2 (Some last)) ≡ Some (take last values.0) =
    below (first_below at 2 (Some (last_of offsets))) (Some last) values.0 fewer values.1 ∙ ap (λ n. Some (take n values.0)) taken in
    let long : (length (take last values.0) == last) ≡ true =
    eq-eqb (length (take last values.0)) last (length-take-le last values.0 (omega (arith, fewer, size))) in
    let piece = λ (i : ℕ) (inside : i < few).
    piece_first w at.source (at.buffer + 1) many few offsets values.0 offsets_are first.fewer i inside in
    let whole : window (slot_by marked.0.validity (λ i. items (in_slots (piece_at offsets values.0 i)))) 0 many ≡ slots =
    same_value _ slots test.2 in
    let cut = cut_is limit (λ i. items (in_slots (piece_at offsets values.0 i)))
    (λ i. items (in_slots (piece_at (take (few + 1) offsets) (take last values.0) i)))
    marked.0.validity first.first.validity many few slots whole first.count first.fewer first.same
    (λ (i : ℕ) (inside : i < few). ap (λ (xs : List Slot). items (in_slots xs)) (piece i inside)) in
    rw (first.is, offsets_are.is, part, long) (ap Some cut)

-- ---- lists of one size

times_within : (new old : Option ℕ) (size : ℕ) → IsWithin new old → IsWithin (limit_times new size) (limit_times old size)
times_within new None size within = tt
times_within None (Some old) size within = absurd within
times_within (Some new) (Some old) size within = mul-le-mul_right size within

least_times : (k n size : ℕ) → min (k * size) (n * size) ≡ min k n * size
least_times k n size = elim (cases_lt k n) [
  | inl few ↦ min-eq_left (mul-le-mul_right size (omega arith)) ∙ ap (λ m. m * size) (sym (min-eq_left (omega arith)))
  | inr many ↦ min-eq_right (mul-le-mul_right size many) ∙ ap (λ m. m * size) (sym (min-eq_right many))
]

taken_times : (limit : Option ℕ) (n size : ℕ) → taken_of (limit_times limit size) (n * size) ≡ taken_of limit n * size
taken_times None n size = refl
taken_times (Some limit) n size = least_times limit n size

inside_times : (size i few : ℕ) → i < few → size * (i + 1) ≤ few * size
inside_times size i few h =
    let upto : (i + 1) * size ≤ few * size = mul-le-mul_right size (omega arith) in
    subst (λ (n : ℕ). n ≤ few * size) (mul_comm (i + 1) size) upto

rises_times : (size i : ℕ) → size * i ≤ size * (i + 1)
rises_times size i =
    let upto : i * size ≤ (i + 1) * size = mul-le-mul_right size (omega arith) in
    omega (arith, upto, mul_comm i size, mul_comm (i + 1) size)

pub fixed_lists_cut : (size : ℕ) (field : Field) (reader : Reader) → Cuts reader → Cuts (fixed_list_slots size (field, reader))
unfolding fixed_list_slots
fixed_lists_cut size field reader below at limit slots within e =
    let marked = came_of {A = Marked} (marked_in at) _ slots e in
    let many : ℕ = marked.0.taken in
    let values = came_of {A = List Slot} (reader (first_below at 1 (limit_times at.limit size))) _ slots marked.2 in
    let test = came_of {A = Bool} (guard (length values.0 == many * size)) _ slots values.2 in
    let count : length values.0 ≡ many * size = eqb-true (length values.0) (many * size) (guarded _ test.0 test.1) in
    let first = marked_first at limit marked.0 within marked.1 in
    let few : ℕ = first.first.taken in
    let taken : taken_of (limit_times limit size) (length values.0) ≡ few * size =
    ap (taken_of (limit_times limit size)) count ∙ taken_times limit many size ∙ ap (λ n. n * size) (sym first.count) in
    let part : reader (first_below (record at { limit = limit }) 1 (limit_times limit size)) ≡ Some (take (few * size) values.0) =
    below (first_below at 1 (limit_times at.limit size)) (limit_times limit size) values.0 (times_within limit at.limit size within) values.1
    ∙ ap (λ n. Some (take n values.0)) taken in
    let upto : few * size ≤ many * size = mul-le-mul_right size first.fewer in
    let long : (length (take (few * size) values.0) == few * size) ≡ true =
    eq-eqb (length (take (few * size) values.0)) (few * size) (length-take-le (few * size) values.0 (omega (arith, upto, count))) in
    let whole : window (slot_by marked.0.validity (λ i. items (in_slots (slice_range values.0 (size * i) (size * (i + 1)))))) 0 many ≡ slots =
    same_value _ slots test.2 in
    let cut = cut_is limit (λ i. items (in_slots (slice_range values.0 (size * i) (size * (i + 1)))))
    (λ i. items (in_slots (slice_range (take (few * size) values.0) (size * i) (size * (i + 1)))))
    marked.0.validity first.first.validity many few slots whole first.count first.fewer first.same
    (λ (i : ℕ) (inside : i < few). ap (λ (xs : List Slot). items (in_slots xs))
    (range_take (size * i) (size * (i + 1)) (few * size) values.0 (rises_times size i) (inside_times size i few inside))) in
    rw (first.is, part, long) (ap Some cut)

-- ---- structs

-- each of some readers cuts
abbrev pub AllCut : List (Field × Reader) → Type 0
AllCut [] = Unit {0}
AllCut (child ∷ children) = Cuts child.1 × AllCut children

pub columns_cut : (children : List (Field × Reader)) → AllCut children → (at : Place) (limit : Option ℕ) (below : IdsList)
    (columns : List (List Slot)) → IsWithin limit at.limit → columns_below children at below ≡ Some columns
    → columns_below children (record at { limit = limit }) below ≡ Some (map (cut_to limit) columns)
columns_cut [] cuts at limit below columns within e = ap (λ xs. Some (map (cut_to limit) xs)) (same_value [] columns e)
columns_cut (child ∷ children) cuts at limit below columns within e =
    let column = came_of {A = List Slot} (child.1 (record at { ids = first_ids below })) _ columns e in
    let others = came_of {A = List (List Slot)} (columns_below children (behind_column at child.0.data_type) (other_ids below)) _ columns column.2 in
    let here : child.1 (record at { limit = limit; ids = first_ids below }) ≡ Some (cut_to limit column.0) =
    cuts.0 (record at { ids = first_ids below }) limit column.0 within column.1 in
    let rest : columns_below children (behind_column (record at { limit = limit }) child.0.data_type) (other_ids below)
    ≡ Some (map (cut_to limit) others.0) =
    columns_cut children cuts.1 (behind_column at child.0.data_type) limit (other_ids below) others.0 within others.1 in
    rw (here, rest) (ap (λ xs. Some (map (cut_to limit) xs)) (same_value (column.0 ∷ others.0) columns others.2))

-- columns of one length, and the first slots of each
pub cut_lengths : (limit : Option ℕ) (many few : ℕ) (columns : List (List Slot)) → few ≡ taken_of limit many
    → have_length many columns ≡ true → have_length few (map (cut_to limit) columns) ≡ true
cut_lengths limit many few [] count long = refl
cut_lengths limit many few (column ∷ columns) count long =
    let parts = and_parts (length column == many) (have_length many columns) long in
    let size : length column ≡ many = eqb-true (length column) many parts.0 in
    let cut : length (cut_to limit column) ≡ few =
    length-take-le (taken_of limit (length column)) column (taken_most limit (length column)) ∙ ap (taken_of limit) size ∙ sym count in
    and_from (length (cut_to limit column) == few) (have_length few (map (cut_to limit) columns)) (eq-eqb (length (cut_to limit column)) few cut)
    (cut_lengths limit many few columns count parts.1)

pub row_cut : (limit : Option ℕ) (many few : ℕ) (columns : List (List Slot)) (i : ℕ) → few ≡ taken_of limit many
    → have_length many columns ≡ true → i < few → row_at (map (cut_to limit) columns) i ≡ row_at columns i
row_cut limit many few [] i count long inside = refl
row_cut limit many few (column ∷ columns) i count long inside =
    let parts = and_parts (length column == many) (have_length many columns) long in
    let size : length column ≡ many = eqb-true (length column) many parts.0 in
    let taken : taken_of limit (length column) ≡ few = ap (taken_of limit) size ∙ sym count in
    ap₂ (λ (slot : Slot) slots. slot ∷ slots) (get_or-take (taken_of limit (length column)) column i null (omega (arith, taken)))
    (row_cut limit many few columns i count parts.1 inside)

pub structs_cut : (children : List (Field × Reader)) → AllCut children → Cuts (struct_slots children)
unfolding struct_slots
structs_cut children cuts at limit slots within e =
    let marked = came_of {A = Marked} (marked_in at) _ slots e in
    let many : ℕ = marked.0.taken in
    let columns = came_of {A = List (List Slot)} (columns_below children (first_below at 1 at.limit) (ids_below at.ids)) _ slots marked.2 in
    let test = came_of {A = Bool} (guard (have_length many columns.0)) _ slots columns.2 in
    let long : have_length many columns.0 ≡ true = guarded _ test.0 test.1 in
    let first = marked_first at limit marked.0 within marked.1 in
    let few : ℕ = first.first.taken in
    let part : columns_below children (first_below (record at { limit = limit }) 1 limit) (ids_below at.ids)
    ≡ Some (map (cut_to limit) columns.0) =
    columns_cut children cuts (first_below at 1 at.limit) limit (ids_below at.ids) columns.0 within columns.1 in
    let as_long : have_length few (map (cut_to limit) columns.0) ≡ true = cut_lengths limit many few columns.0 first.count long in
    let whole : window (slot_by marked.0.validity (λ i. fields (in_slots (row_at columns.0 i)))) 0 many ≡ slots = same_value _ slots test.2 in
    let cut = cut_is limit (λ i. fields (in_slots (row_at columns.0 i))) (λ i. fields (in_slots (row_at (map (cut_to limit) columns.0) i)))
    marked.0.validity first.first.validity many few slots whole first.count first.fewer first.same
    (λ (i : ℕ) (inside : i < few). ap (λ (xs : List Slot). fields (in_slots xs)) (row_cut limit many few columns.0 i first.count long inside)) in
    rw (first.is, part, as_long) (ap Some cut)

-- ---- unions

all_count : {A : Type 0} (given : List (Option A)) (found : List A) → all_of given ≡ Some found → length found ≡ length given
all_count [] found e = ap length (sym (same_value [] found e))
all_count (first ∷ others) found e =
    let x = came_of first _ found e in
    let xs = came_of (all_of others) _ found x.2 in
    ap length (sym (same_value (x.0 ∷ xs.0) found xs.2)) ∙ ap suc (all_count others xs.0 xs.1)

pub unions_cut : (children : List (Field × Reader)) (numbers : Option (List ℤ)) (mode : UnionMode) (spare own : ℕ)
    → Cuts (union_slots children numbers mode spare own)
unfolding union_slots
unions_cut children numbers mode spare own at limit slots within e =
    let node = came_of {A = FieldNode} (slice_get at.source.nodes at.node) _ slots e in
    let count = came_of {A = ℕ} (natural node.0.length) _ slots node.2 in
    let types = came_of {A = List ℕ} (buffer_at at.source (at.buffer + spare) count.0) _ slots count.2 in
    let places = came_of {A = ℕ → ℤ} (places_in mode at.source (at.buffer + spare + 1) count.0) _ slots types.2 in
    let columns = came_of {A = List (List Slot)} (columns_below children (first_below at own None) (ids_below at.ids)) _ slots places.2 in
    let test = came_of {A = Bool} (guard (are_as_long mode count.0 columns.0)) _ slots columns.2 in
    let long : are_as_long mode count.0 columns.0 ≡ true = guarded _ test.0 test.1 in
    let pick : ℕ → Option Slot = λ i.
    picked children columns.0 (child_of numbers (signed_of true w8 (element_bytes 1 types.0 i))) (natural (places.0 i)) in
    let all = came_of {A = List Slot} (all_of (window pick 0 count.0)) _ slots test.2 in
    let whole : take (taken_of at.limit count.0) all.0 ≡ slots = same_value _ slots all.2 in
    let size : length all.0 ≡ count.0 = all_count (window pick 0 count.0) all.0 all.1 ∙ length-window pick 0 count.0 in
    let few : ℕ = taken_of at.limit count.0 in
    let fewer : few ≤ count.0 = taken_most at.limit count.0 in
    let held : length slots ≡ few = ap length (sym whole) ∙ length-take-le few all.0 (omega (arith, size)) in
    let least : taken_of limit (length slots) ≡ taken_of limit count.0 =
    ap (taken_of limit) held ∙ taken_within limit at.limit count.0 within in
    let within_few : taken_of limit count.0 ≤ few =
    subst (λ (n : ℕ). n ≤ few) (taken_within limit at.limit count.0 within) (taken_most limit few) in
    let cut : take (taken_of limit count.0) all.0 ≡ cut_to limit slots =
    sym (take-take (taken_of limit count.0) few all.0 within_few) ∙ ap₂ (λ n xs. take n xs) (sym least) whole in
    bind_is (slice_get at.source.nodes at.node) _ node.0 node.1 ∙ bind_is (natural node.0.length) _ count.0 count.1
    ∙ bind_is (buffer_at at.source (at.buffer + spare) count.0) _ types.0 types.1
    ∙ bind_is (places_in mode at.source (at.buffer + spare + 1) count.0) _ places.0 places.1
    ∙ bind_is (columns_below children (first_below at own None) (ids_below at.ids)) _ columns.0 columns.1
    ∙ bind_is (guard (are_as_long mode count.0 columns.0)) _ true (ap guard long) ∙ bind_is (all_of (window pick 0 count.0)) _ all.0 all.1
    ∙ ap Some cut
