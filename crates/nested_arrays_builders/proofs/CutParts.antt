-- Builders that are cut back to their first slots.
use Rattle.std.proofs.Common.{◌≡◌, ◌∙◌, ℕ, zero, suc, ◌+◌, ◌*◌, ◌<◌, ◌≤◌, List, [], ◌∷◌, ◌++◌, length, map, take, drop, get_or, Bool, true, refl}
use Rattle.std.proofs.Common.{sym, ap, subst, arith, length-append}
use Rattle.std.proofs.lemmas.Bool.{eqb-true}
use Rattle.std.proofs.lemmas.List.{length-map, length-replicate}
use Rattle.nested_arrays_builder_values.specs.parts.arrays.columnar_memory.declared.DataType.{DataType}
use Rattle.nested_arrays_builder_values.specs.parts.arrays.columnar_memory.declared.DataType.TheOpen as layer
use Rattle.nested_arrays_builder_values.specs.parts.arrays.columnar_memory.declared.Field.{Field}
use Rattle.nested_arrays_builder_values.specs.parts.arrays.columnar_memory.declared.IntegerType.{IntegerType}
use Rattle.nested_arrays_builder_values.specs.parts.arrays.columnar_memory.Spans.{Spans, first_spans, last_of}
use Rattle.nested_arrays_builder_values.specs.parts.arrays.columns.Children.{items_of, fixed_items_of, field_of, joined_items, joined_fixed_items, field_slots}
use Rattle.nested_arrays_builder_values.specs.parts.arrays.columns.Children.{dictionary_values}
use Rattle.nested_arrays_builder_values.specs.parts.arrays.columns.OpenBatch.{fits}
use Rattle.nested_arrays_builder_values.specs.parts.arrays.columns.SameSlots.{are_distinct}
use Rattle.nested_arrays_builder_values.specs.parts.arrays.columns.Slots.{Slot, null, items, slot_list, window}
use Rattle.nested_arrays_builder_values.specs.parts.arrays.columns.StoredColumns.{slots, type_layer}
use Rattle.nested_arrays_builder_values.proofs.parts_lemmas.arrays_lemmas.columns_lemmas.FreshBelow.{pieces_length}
use Rattle.nested_arrays_builder_values.proofs.parts_lemmas.arrays_lemmas.columns_lemmas.FreshLengths.{Layer}
use Rattle.nested_arrays_builder_values.specs.parts.columns.OpenParts.{is_list_sized, item_spans, slots_of_fields}
use Rattle.nested_arrays_builder_values.proofs.parts_lemmas.columns_lemmas.Below.{fixed_items_fit_below}
use Rattle.nested_arrays_builder_values.proofs.parts_lemmas.columns_lemmas.Fields.{fields_cut}
use Rattle.nested_arrays_builder_values.proofs.parts_lemmas.columns_lemmas.FirstOnes.{fixed_items_cut}
use Rattle.nested_arrays_builder_values.proofs.parts_lemmas.columns_lemmas.Limits.{first_ones_fit}
use Rattle.nested_arrays_builder_values.proofs.parts_lemmas.columns_lemmas.Masks.{marks_cut}
use Rattle.nested_arrays_builder_values.proofs.parts_lemmas.columns_lemmas.Values.{values_distinct}
use Rattle.nested_arrays_builder_values.proofs.parts_lemmas.columns_lemmas.Pieces.{item_spans_cut, item_spans_last, joined_cut}
use Rattle.nested_arrays_builder_values.specs.parts.Open.{Open, opened, first_slots}
use Rattle.nested_arrays_builder_values.specs.Uses.{greatest, use_among}
use Rattle.nested_arrays_builder_values.proofs.Needs.{greatest_first}
use Rattle.nested_arrays_builder_values.proofs.UsedValues.{all_used, uses_first, values_first_used}
use Rattle.nested_arrays_builders.specs.Parts.{Parts, listed, sized, of_fields, keyed, parts_column, first_parts, opened_each, type_size, types_size}
use Rattle.nested_arrays_builders.specs.Parts.{HoldsCount, HoldsParts, IsKept}
use Rattle.nested_arrays_builders.proofs.KeptNodes.{view_kept, kept_again, kept_length}

-- ---- lengths

sized_items : (size : ℕ) (x : Slot) → is_list_sized size x ≡ true → length (fixed_items_of size x) ≡ size
sized_items size null h = length-replicate size null
sized_items size (items slots) h = eqb-true (length (slot_list slots)) size h
sized_items size _ h = absurd cc

-- where the spans of the first lists end
list_end : (spans : Spans) (xs : List Slot) (n : ℕ) → spans ≡ item_spans xs → last_of (first_spans spans n) ≡ length (joined_items (take n xs))
list_end spans xs n is = ap (λ s. last_of (first_spans s n)) is ∙ ap last_of (sym (item_spans_cut n xs)) ∙ item_spans_last (take n xs)

count_layer : (x : Layer) (large : Bool) (spans : Spans) (child : Open) (xs : List Slot) → HoldsParts x (listed large spans child) xs
    → length spans.lengths ≡ length xs
count_layer (layer.List item) large spans child xs held = ap (λ (s : Spans). length s.lengths) held.1 ∙ length-map xs _
count_layer (layer.LargeList item) large spans child xs held = ap (λ (s : Spans). length s.lengths) held.1 ∙ length-map xs _
count_layer _ large spans child xs held = absurd held

fixed_layer : (t : DataType) (x : Layer) (size : ℕ) (child : Open) (xs : List Slot) → type_layer t ≡ x → fits t xs ≡ true
    → HoldsParts x (sized size child) xs → length child.slots ≡ size * length xs
fixed_layer t (layer.FixedSizeList item own) size child xs is fit held =
    let shape = (fixed_items_fit_below t item own is xs fit).0 in
    ap (λ (o : Open). length o.slots) held.1
    ∙ pieces_length (is_list_sized own) (fixed_items_of own) own (sized_items own) xs shape
    ∙ ap (λ m. m * length xs) (sym held.0)
fixed_layer t _ size child xs is fit held = absurd held

-- what the lists of n slots bring
list_ends : (x : Layer) (large : Bool) (spans : Spans) (child : Open) (xs : List Slot) → HoldsParts x (listed large spans child) xs
    → last_of spans ≡ length child.slots
list_ends (layer.List item) large spans child xs held =
    ap last_of held.1 ∙ item_spans_last xs ∙ ap (λ (o : Open). length o.slots) (sym held.2)
list_ends (layer.LargeList item) large spans child xs held =
    ap last_of held.1 ∙ item_spans_last xs ∙ ap (λ (o : Open). length o.slots) (sym held.2)
list_ends _ large spans child xs held = absurd held

each_count : (us : List Field) (xs : List Slot) (a k : ℕ) (d : Open) → k < length (opened_each us (window (field_slots xs) a (length us)))
    → length (get_or (opened_each us (window (field_slots xs) a (length us))) k d).slots ≡ length xs
each_count [] xs a k d lt = absurd (omega arith)
each_count (u ∷ us) xs a zero d lt = length-map xs (field_of a)
each_count (u ∷ us) xs a (suc k) d lt = each_count us xs (a + 1) k d (omega (arith, lt))

fields_count_layer : (x : Layer) (children : List Open) (xs : List Slot) (k : ℕ) (d : Open) → HoldsParts x (of_fields children) xs
    → k < length children → length (get_or children k d).slots ≡ length xs
fields_count_layer (layer.Struct us) children xs k d held lt =
    let same : length children ≡ length (opened_each us (slots_of_fields (length us) xs)) = ap length held in
    ap (λ (cs : List Open). length (get_or cs k d).slots) held ∙ each_count us xs 0 k d (omega (arith, lt, same))
fields_count_layer _ children xs k d held lt = absurd held

keyed_layer : (x : Layer) (key : IntegerType) (uses : List ℕ) (known : List Slot) (child : Open) (xs : List Slot)
    → HoldsParts x (keyed key uses known child) xs
    → (length uses ≡ length xs) × (greatest uses ≡ length child.slots) × (known ≡ child.slots) × (are_distinct known ≡ true)
keyed_layer (layer.Dictionary own value is_ordered) key uses known child xs held = (
  ap length held.1 ∙ length-map xs (use_among (dictionary_values xs)),
  ap greatest held.1 ∙ all_used xs ∙ ap (λ (o : Open). length o.slots) (sym held.3),
  held.2 ∙ ap (λ (o : Open). o.slots) (sym held.3),
  ap are_distinct held.2 ∙ values_distinct xs,
)
keyed_layer _ key uses known child xs held = absurd held

module _ (t : DataType) (marks : List Bool) (xs : List Slot) where
  -- the parts of n slots hold what these bring
  pub kept_count : (parts : Parts) → IsKept t marks parts xs → HoldsCount parts (length marks)
  kept_count (listed large spans child) kept =
      let n = kept_length t marks (listed large spans child) xs kept in
      (count_layer (type_layer t) large spans child xs kept.held ∙ sym n, list_ends (type_layer t) large spans child xs kept.held)
  kept_count (sized size child) kept =
      let n = kept_length t marks (sized size child) xs kept in
      fixed_layer t (type_layer t) size child xs refl kept.fit kept.held ∙ ap (λ m. size * m) (sym n)
  kept_count (of_fields children) kept = λ k d lt.
      fields_count_layer (type_layer t) children xs k d kept.held lt ∙ sym (kept_length t marks (of_fields children) xs kept)
  kept_count (keyed key uses known child) kept =
      let of = keyed_layer (type_layer t) key uses known child xs kept.held in
      (of.0 ∙ sym (kept_length t marks (keyed key uses known child) xs kept), of.1, of.2, of.3)

-- ---- what is held of the first slots

list_child : (spans : Spans) (child : Open) (item : DataType) (xs : List Slot) (n : ℕ) → spans ≡ item_spans xs
    → child ≡ opened item (joined_items xs)
    → first_slots child (last_of (first_spans spans n)) ≡ opened item (joined_items (take n xs))
list_child spans child item xs n is of =
    ap (λ (o : Open). first_slots o (last_of (first_spans spans n))) of
    ∙ ap (λ m. opened item (take m (joined_items xs))) (list_end spans xs n is)
    ∙ ap (opened item) (sym (joined_cut items_of n xs))

first_of_each : (us : List Field) (columns : List (List Slot)) (n : ℕ)
    → map (λ (o : Open). first_slots o n) (opened_each us columns) ≡ opened_each us (map (take n) columns)
first_of_each [] columns n = refl
first_of_each (u ∷ us) [] n = refl
first_of_each (u ∷ us) (column ∷ columns) n = ap (λ rest. opened u.data_type (take n column) ∷ rest) (first_of_each us columns n)

held_first : (t : DataType) (x : Layer) (parts : Parts) (xs : List Slot) (n : ℕ) → type_layer t ≡ x → fits t xs ≡ true → n ≤ length xs
    → HoldsParts x parts xs → HoldsParts x (first_parts parts n) (take n xs)
held_first t (layer.List item) (listed large spans child) xs n is fit le held = (
  held.0,
  ap (λ s. first_spans s n) held.1 ∙ sym (item_spans_cut n xs),
  list_child spans child item.data_type xs n held.1 held.2,
)
held_first t (layer.LargeList item) (listed large spans child) xs n is fit le held = (
  held.0,
  ap (λ s. first_spans s n) held.1 ∙ sym (item_spans_cut n xs),
  list_child spans child item.data_type xs n held.1 held.2,
)
held_first t (layer.FixedSizeList item size) (sized own child) xs n is fit le held =
    let shape = (fixed_items_fit_below t item size is xs fit).0 in (
      held.0,
      ap (λ (o : Open). first_slots o (own * n)) held.1 ∙ ap (λ m. opened item.data_type (take (m * n) (joined_fixed_items size xs))) held.0
          ∙ ap (opened item.data_type) (sym (fixed_items_cut size n xs shape le)),
    )
held_first t (layer.Struct us) (of_fields children) xs n is fit le held =
    ap (map (λ (o : Open). first_slots o n)) held ∙ first_of_each us (slots_of_fields (length us) xs) n
    ∙ ap (opened_each us) (sym (fields_cut (length us) n xs))
held_first t (layer.Dictionary own value is_ordered) (keyed key uses known child) xs n is fit le held = (
  held.0,
  ap (take n) held.1 ∙ sym (uses_first n xs),
  (λ j. take (greatest (take n (held.1 j))) (held.2 j)) ∙ sym (values_first_used n xs le),
  (λ j. first_slots (held.3 j) (greatest (take n (held.1 j)))) ∙ ap (opened value) (sym (values_first_used n xs le)),
)
held_first t _ _ xs n is fit le held = absurd held

pub kept_first : (t : DataType) (marks : List Bool) (parts : Parts) (xs : List Slot) (n : ℕ) → IsKept t marks parts xs → n ≤ length xs
    → IsKept t (take n marks) (first_parts parts n) (take n xs)
kept_first t marks parts xs n kept le = record {
  can = kept.can;
  fit = first_ones_fit t n xs kept.fit;
  marked = ap (take n) kept.marked ∙ sym (marks_cut n xs);
  held = held_first t (type_layer t) parts xs n refl kept.fit le kept.held;
}

-- a builder of which the marks and parts have been cut
module _ (t : DataType) (marks : List Bool) (parts : Parts) (o : Open) (is : opened t (slots (parts_column t marks parts)) ≡ o)
    (kept : IsKept t marks parts (slots (parts_column t marks parts))) (n : ℕ) (le : n ≤ length o.slots)
    (after : List Bool) (new : Parts) (marked : after ≡ take n marks) (cut : new ≡ first_parts parts n) where
  kept_then : IsKept t after new (take n o.slots)
  kept_then =
      let here = kept_first t marks parts o.slots n (subst (λ (o : Open). IsKept t marks parts o.slots) is kept) le in
      let marked_here = subst (λ marks. IsKept t marks (first_parts parts n) (take n o.slots)) (sym marked) here in
      subst (λ parts. IsKept t after parts (take n o.slots)) (sym cut) marked_here

  pub cut_kept : IsKept t after new (slots (parts_column t after new))
  cut_kept = kept_again t after new (take n o.slots) kept_then

  pub cut_seen : opened t (slots (parts_column t after new)) ≡ first_slots o n
  cut_seen = view_kept t after new (take n o.slots) kept_then ∙ ap (λ t. opened t (take n o.slots)) (ap (λ (o : Open). o.data_type) is)

-- the first slots of a dictionary name values that it has
pub named_few : (uses : List ℕ) (values : List Slot) (len named : ℕ) → named ≡ greatest (take len uses) → greatest uses ≡ length values
    → named ≤ length values
named_few uses values len named is all = omega (arith, is, all, greatest_first len uses)

-- ---- loops over children

pub one_child : (os : List Open) (k : ℕ) (d : Open) → k < length os → type_size (get_or os k d).data_type ≤ types_size os
one_child [] k d lt = absurd (omega arith)
one_child (o ∷ os) zero d lt = omega arith
one_child (o ∷ os) (suc k) d lt = omega (arith, one_child os k d (omega (arith, lt)))

-- the child at the place that a loop has come to is unchanged
child_over : (f : Open → Open) (os : List Open) (k : ℕ) (d : Open) → k < length os → get_or (map f (take k os) ++ drop k os) k d ≡ get_or os k d
child_over f [] k d lt = absurd (omega arith)
child_over f (o ∷ os) zero d lt = refl
child_over f (o ∷ os) (suc k) d lt = child_over f os k d (omega (arith, lt))

pub size_over : (f : Open → Open) (os now : List Open) (k : ℕ) (d : Open) → k < length os → now ≡ map f (take k os) ++ drop k os
    → type_size (get_or now k d).data_type ≤ types_size os
size_over f os now k d lt is =
    let same : get_or now k d ≡ get_or os k d = ap (λ zs. get_or zs k d) is ∙ child_over f os k d lt in
    omega (arith, one_child os k d lt, ap (λ (o : Open). type_size o.data_type) same)

pub long_over : (f : Open → Open) (os now : List Open) (k n : ℕ) (d : Open) → k < length os → now ≡ map f (take k os) ++ drop k os
    → ((i : ℕ) (e : Open) → i < length os → n ≤ length (get_or os i e).slots) → n ≤ length (get_or now k d).slots
long_over f os now k n d lt is each =
    let same : get_or now k d ≡ get_or os k d = ap (λ zs. get_or zs k d) is ∙ child_over f os k d lt in
    omega (arith, each k d lt, ap (λ (o : Open). length o.slots) same)

both_ends : (i : ℕ) (os : List Open) → length (take i os) + length (drop i os) ≡ length os
both_ends zero os = omega arith
both_ends (suc i) [] = refl
both_ends (suc i) (o ∷ os) = omega (arith, both_ends i os)

pub length_over : (f : Open → Open) (os now : List Open) (k : ℕ) → now ≡ map f (take k os) ++ drop k os → length now ≡ length os
length_over f os now k is =
    ap length is ∙ omega (arith, length-append (map f (take k os)) (drop k os), length-map (take k os) f, both_ends k os)
