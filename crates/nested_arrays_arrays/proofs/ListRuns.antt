-- Lists that stand one after another are the same where their items are.
use Rattle.std.proofs.Common.{◌≡◌, ◌∙◌, ◌<◌, ◌≤◌, ◌+◌, ◌-◌, ℕ, zero, suc, Bool, List, true, refl, sym, ap, arith, subst, length}
use Rattle.std.specs.Prelude.{Option}
use Rattle.nested_arrays_parts.specs.columnar_memory.Spans.{Spans, last_of, offset_at, offsets_of}
use Rattle.nested_arrays_parts.specs.columnar_memory.declared.DataType.{DataType}
use Rattle.nested_arrays_parts.specs.columns.SlotNodes.{nodes_of, slot_nodes}
use Rattle.nested_arrays_parts.specs.columns.Slots.{Slot, in_slots, window}
use Rattle.nested_arrays_parts.specs.columns.SoundColumns.{is_sound}
use Rattle.nested_arrays_parts.specs.columns.StoredColumns.{Column, column_len, column_size, is_valid_at, lists, slot_at}
use Rattle.nested_arrays_parts.proofs.SameForms.{behind_in, joined}
use Rattle.nested_arrays_parts.specs.Ranges.{range_nodes, SameRanges}
use Rattle.nested_arrays_arrays.proofs.ListParts.{lists_parts}
use Rattle.nested_arrays_arrays.proofs.SameSlots.{Compared, below_next, items_same, nodes_grow, nodes_more}
use Rattle.nested_arrays_arrays.proofs.SlotPlaces.{list_there}
use Rattle.nested_arrays_arrays.specs.AnyColumns.{column_of}
use Rattle.nested_arrays_arrays.specs.ListRuns.{AreSameLists, IsListRun}
use Rattle.nested_arrays_arrays.specs.declared.any.ListNode.{ListNode}
use Rattle.nested_arrays_arrays.specs.declared.any.Node.TheVariants as variant
use Rattle.nested_arrays_parts.proofs.OffsetLists.{spans_count}
use Rattle.nested_arrays_parts.specs.Widths.{spans_in}
use Rattle.nested_arrays_arrays.specs.Places.{AreItems}

-- the nodes of a range and of the one behind it
pub nodes_apart : (f : ℕ → Slot) (a n m : ℕ)
    → nodes_of (in_slots (window f a (n + m))) ≡ nodes_of (in_slots (window f a n)) + nodes_of (in_slots (window f (a + n) m))
nodes_apart f a zero m =
    let here : nodes_of (in_slots (window f (a + 0) m)) ≡ nodes_of (in_slots (window f a m)) =
    ap (λ k. nodes_of (in_slots (window f k m))) (omega arith) in
    let none : 0 + m ≡ m = omega arith in
    omega (arith, here, ap (λ k. nodes_of (in_slots (window f a k))) none)
nodes_apart f a (suc n) m =
    let len : suc n + m ≡ suc (n + m) = omega arith in
    let all : nodes_of (in_slots (window f a (suc n + m))) ≡ nodes_of (in_slots (window f a (suc (n + m)))) =
    ap (λ k. nodes_of (in_slots (window f a k))) len in
    let rest : nodes_of (in_slots (window f (a + 1 + n) m)) ≡ nodes_of (in_slots (window f (a + suc n) m)) =
    ap (λ k. nodes_of (in_slots (window f k m))) (omega arith) in
    omega (arith, all, rest, nodes_apart f (a + 1) n m)

-- no lists
pub no_run : (l r child other : Column) (i j start other_start : ℕ) → start ≤ column_len child → other_start ≤ column_len other
    → column_size child < column_size l → IsListRun l i r j 0 child start other other_start 0
no_run l r child other i j start other_start within other_within smaller = record {
  same = (λ _ k h. absurd (omega (arith, h)), λ _ k h. absurd (omega (arith, h)));
  nodes = refl;
  within = omega (arith, within);
  other_within = omega (arith, other_within);
  smaller = smaller;
}

-- a list more on each side
pub run_more : (l r child other : Column) (i j n start other_start len m : ℕ) → IsListRun l i r j n child start other other_start len
    → AreItems l (i + n) child (start + len) m → AreItems r (j + n) other (other_start + len) m
    → IsListRun l i r j (n + 1) child start other other_start (len + m)
run_more l r child other i j n start other_start len m run here there =
    let both = items_same child other (start + len) (other_start + len) m m refl in
    let next : n + 1 ≡ suc n = omega arith in
    let size : range_nodes l i (n + 1) ≡ range_nodes l i (suc n) = ap (range_nodes l i) next in
    let list : slot_nodes (slot_at l (i + n)) ≡ 1 + range_nodes child (start + len) m = ap slot_nodes here.shown ∙ omega arith in record {
      same = (
        λ items. below_next (λ (k : ℕ). slot_at l (i + k) ≡ slot_at r (j + k)) n (run.same.0 (λ q h. items q (omega (arith, h))))
            (here.shown ∙ both.0 (behind_in child other start other_start len m (len + m) (omega arith) items) ∙ sym there.shown),
        λ same. joined child other start other_start len m (run.same.1 (λ q h. same q (omega (arith, h))))
            (both.1 (sym here.shown ∙ same n (omega arith) ∙ there.shown)),
      );
      nodes = omega (arith, size, list, run.nodes, nodes_more (slot_at l) i n, nodes_apart (slot_at child) start len m);
      within = omega (arith, here.within);
      other_within = omega (arith, there.within);
      smaller = run.smaller;
    }

-- where lists begin is within the child
begins_within : (t : DataType) (mask : Option (List Bool)) (s : Spans) (child : Column) (i : ℕ)
    → is_sound (lists t mask (offsets_of s) child) ≡ true → offset_at s i ≤ last_of s → offset_at s i ≤ column_len child
begins_within t mask s child i sound h = omega (arith, h, (lists_parts t mask s child sound).1)

-- no lists with offsets
pub runs_begin : (left right : ListNode) (i j : ℕ) → is_sound (column_of (variant.List left)) ≡ true
    → is_sound (column_of (variant.List right)) ≡ true
    → offset_at (spans_in left.offsets) i ≤ last_of (spans_in left.offsets) → offset_at (spans_in right.offsets) j ≤ last_of (spans_in right.offsets)
    → AreSameLists left i right j 0 0
runs_begin left right i j sound other_sound first other_first =
    let l = spans_in left.offsets in
    let r = spans_in right.offsets in
    let here : i + 0 ≡ i = omega arith in
    let there : j + 0 ≡ j = omega arith in record {
      run = no_run (column_of (variant.List left)) (column_of (variant.List right)) left.values.value right.values.value i j
          (offset_at l i) (offset_at r j) (begins_within left.data_type left.validity l left.values.value i sound first)
          (begins_within right.data_type right.validity r right.values.value j other_sound other_first) (omega arith);
      stop = omega (arith, ap (offset_at l) here);
      other_stop = omega (arith, ap (offset_at r) there);
    }

-- a list with offsets behind others
next_list : (node : ListNode) (i k len first stop : ℕ) → is_sound (column_of (variant.List node)) ≡ true
    → i + k < length (spans_in node.offsets).lengths → is_valid_at node.validity (i + k) ≡ true
    → first ≡ offset_at (spans_in node.offsets) (i + k) → stop ≡ offset_at (spans_in node.offsets) (i + k + 1) → first ≤ stop
    → stop ≤ last_of (spans_in node.offsets) → offset_at (spans_in node.offsets) (i + k) ≡ offset_at (spans_in node.offsets) i + len
    → AreItems (column_of (variant.List node)) (i + k) node.values.value (offset_at (spans_in node.offsets) i + len) (stop - first)
next_list node i k len first stop sound within set from to ordered end before =
    subst (λ start. AreItems (column_of (variant.List node)) (i + k) node.values.value start (stop - first)) (from ∙ before)
    (list_there node.data_type node.validity (spans_in node.offsets) node.values.value (i + k) first stop sound
    (omega (arith, within, spans_count (spans_in node.offsets))) set from to ordered end)

-- one more list with offsets on each side
pub runs_more : (left right : ListNode) (i j k len first stop other_first other_stop start : ℕ) → AreSameLists left i right j k len
    → start ≡ offset_at (spans_in left.offsets) i
    → is_sound (column_of (variant.List left)) ≡ true → is_sound (column_of (variant.List right)) ≡ true
    → i + k < length (spans_in left.offsets).lengths → j + k < length (spans_in right.offsets).lengths
    → is_valid_at left.validity (i + k) ≡ true → is_valid_at right.validity (j + k) ≡ true
    → first ≡ offset_at (spans_in left.offsets) (i + k) → stop ≡ offset_at (spans_in left.offsets) (i + k + 1) → first ≤ stop
    → stop ≤ last_of (spans_in left.offsets)
    → other_first ≡ offset_at (spans_in right.offsets) (j + k) → other_stop ≡ offset_at (spans_in right.offsets) (j + k + 1)
    → other_first ≤ other_stop → other_stop ≤ last_of (spans_in right.offsets)
    → stop - first ≡ other_stop - other_first → AreSameLists left i right j (k + 1) (stop - start)
runs_more left right i j k len first stop other_first other_stop start run begin sound other_sound within other_within set other_set from to
    ordered end other_from other_to other_ordered other_end long =
    let l = spans_in left.offsets in
    let r = spans_in right.offsets in
    let here = next_list left i k len first stop sound within set from to ordered end run.stop in
    let there = subst (λ m. AreItems (column_of (variant.List right)) (j + k) right.values.value (offset_at r j + len) m) (sym long)
    (next_list right j k len other_first other_stop other_sound other_within other_set other_from other_to other_ordered other_end run.other_stop) in
    let next : i + (k + 1) ≡ i + k + 1 = omega arith in
    let other_next : j + (k + 1) ≡ j + k + 1 = omega arith in
    let size : len + (stop - first) ≡ stop - start = omega (arith, begin, from, run.stop, ordered) in
    let more = run_more (column_of (variant.List left)) (column_of (variant.List right)) left.values.value right.values.value i j k
    (offset_at l i) (offset_at r j) len (stop - first) run.run here there in record {
      run = subst (λ n. IsListRun (column_of (variant.List left)) i (column_of (variant.List right)) j (k + 1) left.values.value (offset_at l i)
          right.values.value (offset_at r j) n) size more;
      stop = omega (arith, ap (offset_at l) next, to, begin, from, run.stop, ordered);
      other_stop = omega
          (arith, ap (offset_at r) other_next, other_to, begin, from, run.stop, ordered, other_from, run.other_stop, other_ordered, long);
    }

-- lists that are the same behind slots that were compared
pub run_compared : (l r child other : Column) (i j k n start other_start len before now mid after : ℕ) → Compared l i r j k before now
    → IsListRun l (i + k) r (j + k) n child start other other_start len → SameRanges child start other other_start len → mid ≡ now + n
    → after ≡ mid + range_nodes child start len → Compared l i r j (k + n) before after
run_compared l r child other i j k n start other_start len before now mid after far run items more counted = record {
  same = joined l r i j k n far.same (run.same.0 items);
  counted = omega (arith, far.counted, run.nodes, more, counted, nodes_apart (slot_at l) i k n);
}

-- a run has no more nodes than the range that it is a part of
pub run_within : (l r child other : Column) (i j k n whole start other_start len : ℕ) → k + n ≤ whole
    → IsListRun l (i + k) r (j + k) n child start other other_start len
    → range_nodes l i k + n + range_nodes child start len ≤ range_nodes l i whole
run_within l r child other i j k n whole start other_start len h run =
    let len : k + n + (whole - (k + n)) ≡ whole = omega (arith, h) in
    let all : range_nodes l i (k + n + (whole - (k + n))) ≡ range_nodes l i whole = ap (range_nodes l i) len in
    omega (arith, all, run.nodes, nodes_apart (slot_at l) i k n, nodes_grow (slot_at l) i (k + n) (whole - (k + n)))

-- what the items tell of the lists
pub run_part : (l r child other : Column) (i j k n whole start other_start len : ℕ) → k + n ≤ whole
    → IsListRun l (i + k) r (j + k) n child start other other_start len → SameRanges l i r j whole → SameRanges child start other other_start len
run_part l r child other i j k n whole start other_start len h run same = run.same.1 (behind_in l r i j k n whole h same)
