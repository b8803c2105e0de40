-- Slots with slots inside that are the same, and how many stand in them.
use Rattle.std.proofs.Common.{◌≡◌, ◌∙◌, ◌<◌, ◌≤◌, ◌+◌, ℕ, zero, suc, List, [], ◌∷◌, refl, sym, ap, arith, below_more, ◌-◌}
use Rattle.std.specs.Prelude.{◌↔◌, sum_by}
use Rattle.std.proofs.lemmas.List.Sums.{sum_by-cons}
use Rattle.nested_arrays_parts.specs.columnar_memory.declared.DataType.{DataType}
use Rattle.nested_arrays_parts.proofs.columns_lemmas.Windows.{window_same}
use Rattle.nested_arrays_parts.specs.columns.SlotNodes.{nodes_of, slot_nodes}
use Rattle.nested_arrays_parts.specs.columns.Slots.{Slot, Slots, null, truth, number, pair, triple, text, bytes, items, fields, pick, no_slot, slot_then}
use Rattle.nested_arrays_parts.specs.columns.Slots.{in_slots, window}
use Rattle.nested_arrays_parts.specs.columns.StoredColumns.{Column, Columns, no_column, column_then, column_len, in_columns, slot_at, slots, slots_at}
pub use Rattle.nested_arrays_parts.proofs.flat_lemmas.SamePlaces.{slots_by_place, slots_count, slots_same}
use Rattle.nested_arrays_parts.proofs.flat_lemmas.SamePlaces.{each_same, first_slot, other_slots}
use Rattle.nested_arrays_parts.specs.Ranges.{range_nodes, SameRanges}
use Rattle.nested_arrays_arrays.specs.Places.{AreRecords, SameFields, columns_nodes}

-- ---- windows

abbrev slot_count : Slots → ℕ
slot_count no_slot = 0
slot_count (slot_then slot slots) = suc (slot_count slots)

abbrev items_in : Slot → Slots
items_in (items slots) = slots
items_in _ = no_slot

abbrev fields_in : Slot → Slots
fields_in (fields slots) = slots
fields_in _ = no_slot

no_slots_then : (slot : Slot) (slots : Slots) → no_slot ≡ slot_then slot slots → ⊥
no_slots_then slot slots is = cc

slot_count-window : (f : ℕ → Slot) (a n : ℕ) → slot_count (in_slots (window f a n)) ≡ n
slot_count-window f a zero = refl
slot_count-window f a (suc n) = ap suc (slot_count-window f (a + 1) n)

-- items are the same where they are as many and each is the same
pub items_same : (l r : Column) (i j m n : ℕ) → m ≡ n → SameRanges l i r j m
    ↔ (items (in_slots (window (slot_at l) i m)) ≡ items (in_slots (window (slot_at r) j n)))
items_same l r i j m n is = (
  λ same. ap (λ found. items (in_slots found)) (window_same (slot_at l) (slot_at r) i j m same)
      ∙ ap (λ k. items (in_slots (window (slot_at r) j k))) is,
  λ same. each_same (slot_at l) (slot_at r) i j m (ap items_in same ∙ ap (λ k. in_slots (window (slot_at r) j k)) (sym is)),
)

pub items_count : (l r : Column) (i j m n : ℕ)
    → items (in_slots (window (slot_at l) i m)) ≡ items (in_slots (window (slot_at r) j n)) → m ≡ n
items_count l r i j m n same =
    sym (slot_count-window (slot_at l) i m) ∙ ap (λ slot. slot_count (items_in slot)) same ∙ slot_count-window (slot_at r) j n

-- a pick tells the type and the slot
pub pick_parts : (t u : DataType) (slot other : Slot) → pick t slot ≡ pick u other → (t ≡ u) × (slot ≡ other)
pick_parts t u slot other same = (cc, cc)

-- ---- counts

pub node_some : (slot : Slot) → 1 ≤ slot_nodes slot
node_some null = omega arith
node_some (truth b) = omega arith
node_some (number kind n) = omega arith
node_some (pair kind a b) = omega arith
node_some (triple kind a b c) = omega arith
node_some (text content) = omega arith
node_some (bytes content) = omega arith
node_some (items slots) = omega arith
node_some (fields slots) = omega arith
node_some (pick data_type slot) = omega (arith, node_some slot)

-- a range has a node for each slot at least
pub nodes_some : (f : ℕ → Slot) (a n : ℕ) → n ≤ nodes_of (in_slots (window f a n))
nodes_some f a zero = omega arith
nodes_some f a (suc n) = omega (arith, node_some (f a), nodes_some f (a + 1) n)

pub nodes_more : (f : ℕ → Slot) (a n : ℕ) → nodes_of (in_slots (window f a (suc n))) ≡ nodes_of (in_slots (window f a n)) + slot_nodes (f (a + n))
nodes_more f a zero = let here : slot_nodes (f (a + 0)) ≡ slot_nodes (f a) = ap (λ k. slot_nodes (f k)) (omega arith) in omega (arith, here)
nodes_more f a (suc n) =
    let here : slot_nodes (f (a + 1 + n)) ≡ slot_nodes (f (a + suc n)) = ap (λ k. slot_nodes (f k)) (omega arith) in
    omega (arith, here, nodes_more f (a + 1) n)

pub nodes_grow : (f : ℕ → Slot) (a n m : ℕ) → nodes_of (in_slots (window f a n)) ≤ nodes_of (in_slots (window f a (n + m)))
nodes_grow f a zero m = omega arith
nodes_grow f a (suc n) m =
    let len : suc n + m ≡ suc (n + m) = omega arith in
    let more : nodes_of (in_slots (window f a (suc n + m))) ≡ nodes_of (in_slots (window f a (suc (n + m)))) =
    ap (λ k. nodes_of (in_slots (window f a k))) len in
    omega (arith, more, nodes_grow f (a + 1) n m)

pub nodes_up_to : (f : ℕ → Slot) (a n m : ℕ) → n < m
    → nodes_of (in_slots (window f a n)) + slot_nodes (f (a + n)) ≤ nodes_of (in_slots (window f a m))
nodes_up_to f a n m h =
    let len : suc n + (m - suc n) ≡ m = omega arith in
    let all : nodes_of (in_slots (window f a (suc n + (m - suc n)))) ≡ nodes_of (in_slots (window f a m)) =
    ap (λ k. nodes_of (in_slots (window f a k))) len in
    omega (arith, all, nodes_more f a n, nodes_grow f a (suc n) (m - suc n))

-- ranges that were compared up to a place: the slots before it are the same, and each was counted
pub record Compared (l : Column) (i : ℕ) (r : Column) (j k before now : ℕ) : Type 0 where
  pub same : SameRanges l i r j k
  pub counted : now ≡ before + range_nodes l i k

pub below_next : (P : ℕ → Type 0) (n : ℕ) → ((k : ℕ) → k < n → P k) → P n → (k : ℕ) → k < n + 1 → P k
below_next P n below here k h = below_more P n below here k h

pub one_more : (l r : Column) (i j k before now after : ℕ) → Compared l i r j k before now → slot_at l (i + k) ≡ slot_at r (j + k)
    → after ≡ now + slot_nodes (slot_at l (i + k)) → Compared l i r j (k + 1) before after
one_more l r i j k before now after far here counted =
    let len : k + 1 ≡ suc k = omega arith in
    let size : range_nodes l i (k + 1) ≡ range_nodes l i (suc k) = ap (range_nodes l i) len in record {
      same = below_next (λ (m : ℕ). slot_at l (i + m) ≡ slot_at r (j + m)) k far.same here;
      counted = omega (arith, size, counted, far.counted, nodes_more (slot_at l) i k);
    }

-- ---- whole columns

pub nodes_sum : (found : List Slot) → nodes_of (in_slots found) ≡ sum_by slot_nodes found
nodes_sum [] = refl
nodes_sum (slot ∷ found) = omega (arith, nodes_sum found, sum_by-cons slot_nodes slot found)

-- the nodes of all slots of a column
pub all_nodes : (c : Column) → range_nodes c 0 (column_len c) ≡ sum_by slot_nodes (slots c)
all_nodes c = nodes_sum (slots c)

-- ---- records

-- the slots of several columns are the same where those of the first are, and those of the others
pub fields_apart : (c d : Column) (cs ds : Columns) (i j n : ℕ)
    → (SameRanges c i d j n × SameFields cs i ds j n) ↔ SameFields (column_then c cs) i (column_then d ds) j n
fields_apart c d cs ds i j n = (
  λ same k h l. slot_then (same.0 k h l) (same.1 k h l),
  λ same. (λ k h. ap first_slot (same k h), λ k h. ap other_slots (same k h)),
)

-- the same of lists of columns
pub fields_of_lists : (ls rs cs ds : List Column) (c d : Column) (i j n : ℕ) → ls ≡ c ∷ cs → rs ≡ d ∷ ds
    → (SameRanges c i d j n × SameFields (in_columns cs) i (in_columns ds) j n) ↔ SameFields (in_columns ls) i (in_columns rs) j n
fields_of_lists ls rs cs ds c d i j n left right =
    let apart = fields_apart c d (in_columns cs) (in_columns ds) i j n in (
      λ same k h. ap (λ (xs : List Column). slots_at (in_columns xs) (i + k)) left ∙ apart.0 same k h
          ∙ ap (λ (xs : List Column). slots_at (in_columns xs) (j + k)) (sym right),
      λ same. apart.1 (λ k h. ap (λ (xs : List Column). slots_at (in_columns xs) (i + k)) (sym left) ∙ same k h
          ∙ ap (λ (xs : List Column). slots_at (in_columns xs) (j + k)) right),
    )

-- only no slots of none and of some columns are the same
pub no_fields : (d : Column) (ds : Columns) (i j n : ℕ) → (n ≡ 0) ↔ SameFields no_column i (column_then d ds) j n
no_fields d ds i j zero = (λ _ k h. absurd (omega arith), λ _. refl)
no_fields d ds i j (suc n) = (λ is. absurd (omega arith), λ same. absurd (no_slots_then _ _ (same 0 (omega arith))))

pub no_others : (c : Column) (cs : Columns) (i j n : ℕ) → (n ≡ 0) ↔ SameFields (column_then c cs) i no_column j n
no_others c cs i j zero = (λ _ k h. absurd (omega arith), λ _. refl)
no_others c cs i j (suc n) = (λ is. absurd (omega arith), λ same. absurd (no_slots_then _ _ (sym (same 0 (omega arith)))))

-- records are the same where their fields are
pub records_same : (l r : Column) (ls rs : Columns) (i j n : ℕ) → AreRecords l i n ls → AreRecords r j n rs
    → SameFields ls i rs j n ↔ SameRanges l i r j n
records_same l r ls rs i j n left right = (
  λ same k h. left.shown k h ∙ ap fields (same k h) ∙ sym (right.shown k h),
  λ same k h. ap fields_in (sym (left.shown k h) ∙ same k h ∙ right.shown k h),
)

pub no_columns_nodes : (cs : Columns) (i : ℕ) → columns_nodes cs i 0 ≡ 0
no_columns_nodes no_column i = refl
no_columns_nodes (column_then c cs) i = omega (arith, no_columns_nodes cs i)

columns_more : (cs : Columns) (i n : ℕ) → columns_nodes cs i (suc n) ≡ columns_nodes cs i n + nodes_of (slots_at cs (i + n))
columns_more no_column i n = omega arith
columns_more (column_then c cs) i n = omega (arith, nodes_more (slot_at c) i n, columns_more cs i n)

-- a record is a node beside those of its fields
records_nodes : (f : ℕ → Slot) (cs : Columns) (i n : ℕ) → ((k : ℕ) → k < n → f (i + k) ≡ fields (slots_at cs (i + k)))
    → nodes_of (in_slots (window f i n)) ≡ n + columns_nodes cs i n
records_nodes f no_column i zero shown = omega arith
records_nodes f (column_then c cs) i zero shown = omega (arith, records_nodes f cs i zero (λ k h. absurd (omega arith)))
records_nodes f cs i (suc n) shown =
    let here : slot_nodes (f (i + n)) ≡ nodes_of (slots_at cs (i + n)) + 1 = ap slot_nodes (shown n (omega arith)) in
    omega (arith, here, nodes_more f i n, columns_more cs i n, records_nodes f cs i n (λ k h. shown k (omega arith)))

pub record_nodes : (l : Column) (ls : Columns) (i n : ℕ) → AreRecords l i n ls → range_nodes l i n ≡ n + columns_nodes ls i n
record_nodes l ls i n left = records_nodes (slot_at l) ls i n left.shown
