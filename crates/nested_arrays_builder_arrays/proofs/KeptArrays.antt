-- What builders with children store is sound.
use Rattle.std.proofs.Common.{◌≡◌, ◌∙◌, ◌<◌, ◌≤◌, ℕ, List, [], ◌∷◌, length, map, Bool, true, refl, sym, ap, subst, arith}
use Rattle.std.specs.Prelude.{◌==◌, nat_le, Result}
use Rattle.std.proofs.lemmas.Bool.{and_parts, eqb-true, leb-true}
use Rattle.nested_arrays_builders.specs.columnar_memory.declared.DataType.{DataType}
use Rattle.nested_arrays_builders.specs.columnar_memory.declared.DataType.TheOpen as layer
use Rattle.nested_arrays_builders.specs.columnar_memory.declared.Error.{Error}
use Rattle.nested_arrays_builders.specs.columnar_memory.declared.IntegerType.{IntegerType}
use Rattle.nested_arrays_builders.specs.columnar_memory.declared.PhysicalType.TheVariants as physical
use Rattle.nested_arrays_builders.specs.columnar_memory.Layouts.{physical_type}
use Rattle.nested_arrays_builders.specs.columnar_memory.Results.{OrOutOfMemory}
use Rattle.nested_arrays_builders.specs.columnar_memory.Spans.{Spans, offsets_of}
use Rattle.nested_arrays_builders.specs.columns.FreshLaws.{are_buildable, is_buildable}
use Rattle.nested_arrays_builders.specs.columns.Kinds.{most_values}
use Rattle.nested_arrays_builders.specs.columns.OpenBatch.{fits}
use Rattle.nested_arrays_builders.specs.columns.Slots.{Slot}
use Rattle.nested_arrays_builders.specs.columns.SoundColumns.{is_sound, are_sound, have_len, has_field_types, mask_fits}
use Rattle.nested_arrays_builders.specs.columns.StoredColumns.{Column, column_len, dictionary, fixed_lists, in_columns, lists, records, slots}
use Rattle.nested_arrays_builders.specs.columns.StoredColumns.{type_layer}
use Rattle.nested_arrays_builders.proofs.columns_lemmas.Conditions.{parts_of_4}
use Rattle.nested_arrays_builders.proofs.columns_lemmas.FreshLengths.{Layer}
use Rattle.nested_arrays_builders.proofs.columns_lemmas.FreshSound.{fresh_is_sound}
use Rattle.nested_arrays_builders.specs.columns.OpenParts.{mask_from, slots_of_fields}
use Rattle.nested_arrays_builders.proofs.columns_lemmas.Below.{buildable_struct, values_fit_below}
use Rattle.nested_arrays_builders.proofs.columns_lemmas.Fields.{fields_count}
use Rattle.nested_arrays_builders.proofs.columns_lemmas.Masks.{mask_by_count}
use Rattle.nested_arrays_builders.proofs.columns_lemmas.TypeSteps.{layout_by_layer}
use Rattle.nested_arrays_builders.specs.arrays.Lengths.{size_of, layer_size, struct_len}
use Rattle.nested_arrays_builders.specs.parts.Marks.{mask_of_marks}
use Rattle.nested_arrays_builders.specs.parts.Open.{Open, column_of}
use Rattle.nested_arrays_builders.specs.values.Uses.{greatest, keys_from}
use Rattle.nested_arrays_builders.proofs.values_lemmas.UsedValues.{all_used}
use Rattle.nested_arrays_builders.specs.KeptColumns.{column_kept}
use Rattle.nested_arrays_builders.specs.Nodes.{held_of, parts_of}
use Rattle.nested_arrays_builders.specs.Parts.{Parts, keyed, listed, seen, sized, of_fields, parts_column, HoldsParts, IsHeld, IsKept}
use Rattle.nested_arrays_builders.specs.declared.any.Head.{Head}
use Rattle.nested_arrays_builders.specs.declared.any.MutableChildren.{MutableChildren}
use Rattle.nested_arrays_builders.specs.declared.any.MutableNode.{MutableNode}
use Rattle.nested_arrays_builders.specs.declared.any.MutableNode.TheVariants as variant
use Rattle.nested_arrays_builders.proofs.MoreParts.{opened_count}
use Rattle.nested_arrays_builder_arrays.specs.Layouts.{lists_layout}

pub kept_sound : (t : DataType) (marks : List Bool) (parts : Parts) (xs : List Slot) → IsKept t marks parts xs
    → is_sound (parts_column t marks parts) ≡ true
kept_sound t marks parts xs kept = ap is_sound (column_kept t marks parts xs kept) ∙ fresh_is_sound t xs kept.can kept.fit

module _ (t : DataType) (marks : List Bool) (xs : List Slot) where
  mask : mask_from marks ≡ mask_of_marks marks
  mask = mask_by_count marks

  -- ---- lists

  pub list_is : (large : Bool) (spans : Spans) (child : Open)
      → lists t (mask_of_marks marks) (offsets_of spans) (column_of child) ≡ parts_column t marks (listed large spans child)
  list_is large spans child = ap (λ m. lists t m (offsets_of spans) (column_of child)) (sym mask)

  pub list_sound : (large : Bool) (spans : Spans) (child : Open) → IsKept t marks (listed large spans child) xs
      → is_sound (lists t (mask_of_marks marks) (offsets_of spans) (column_of child)) ≡ true
  list_sound large spans child kept = ap is_sound (list_is large spans child) ∙ kept_sound t marks (listed large spans child) xs kept

  lies_by_layer : (x : Layer) (large : Bool) (spans : Spans) (child : Open) → type_layer t ≡ x → HoldsParts x (listed large spans child) xs
      → physical_type t ≡ lists_layout large
  lies_by_layer (layer.List item) large spans child is held = layout_by_layer t (layer.List item) is ∙ ap lists_layout (sym held.0)
  lies_by_layer (layer.LargeList item) large spans child is held = layout_by_layer t (layer.LargeList item) is ∙ ap lists_layout (sym held.0)
  lies_by_layer _ large spans child is held = absurd held

  pub list_lies : (large : Bool) (spans : Spans) (child : Open) → IsKept t marks (listed large spans child) xs → physical_type t ≡ lists_layout large
  list_lies large spans child kept = lies_by_layer (type_layer t) large spans child refl kept.held

  -- ---- lists of one size

  size_by_layer : (x : Layer) (size : ℕ) (child : Open) → HoldsParts x (sized size child) xs → layer_size x ≡ size
  size_by_layer (layer.FixedSizeList item own) size child held = sym held.0
  size_by_layer _ size child held = absurd held

  pub sized_is : (size : ℕ) (child : Open) → IsKept t marks (sized size child) xs
      → fixed_lists t (mask_of_marks marks) (size_of t) (column_of child) ≡ parts_column t marks (sized size child)
  sized_is size child kept =
      λ j. fixed_lists t (sym mask j) (size_by_layer (type_layer t) size child kept.held j) (column_of child)

  pub sized_sound : (size : ℕ) (child : Open) → IsKept t marks (sized size child) xs
      → is_sound (fixed_lists t (mask_of_marks marks) (size_of t) (column_of child)) ≡ true
  sized_sound size child kept = ap is_sound (sized_is size child kept) ∙ kept_sound t marks (sized size child) xs kept

  -- ---- structs

  pub record_is : (children : List Open)
      → records t (mask_of_marks marks) (length marks) (in_columns (map column_of children)) ≡ parts_column t marks (of_fields children)
  record_is children = ap (λ m. records t m (length marks) (in_columns (map column_of children))) (sym mask)

  pub record_sound : (children : List Open) → IsKept t marks (of_fields children) xs
      → is_sound (records t (mask_of_marks marks) (length marks) (in_columns (map column_of children))) ≡ true
  record_sound children kept = ap is_sound (record_is children) ∙ kept_sound t marks (of_fields children) xs kept

  some_by_layer : (x : Layer) (children : List Open) → type_layer t ≡ x → HoldsParts x (of_fields children) xs
      → is_buildable t ≡ true → 0 < length children
  some_by_layer (layer.Struct us) children is held can =
      let few = (and_parts (nat_le 1 (length us)) (are_buildable us) (sym (buildable_struct t us is) ∙ can)).0 in
      let many = ap length held ∙ opened_count us (slots_of_fields (length us) xs) (fields_count (length us) xs) in
      omega (arith, leb-true 1 (length us) few, many)
  some_by_layer _ children is held can = absurd held

  first_is : (children : List Open) (n : ℕ) → have_len (in_columns (map column_of children)) n ≡ true → 0 < length children
      → struct_len (map column_of children) ≡ n
  first_is [] n h some = absurd (omega arith)
  first_is (o ∷ os) n h some =
      eqb-true (column_len (column_of o)) n (and_parts (column_len (column_of o) == n) (have_len (in_columns (map column_of os)) n) h).0

  pub record_long : (children : List Open) → IsKept t marks (of_fields children) xs → struct_len (map column_of children) ≡ length marks
  record_long children kept =
      let columns = in_columns (map column_of children) in
      first_is children (length marks)
      (parts_of_4 (has_field_types (type_layer t) columns) (have_len columns (length marks)) (mask_fits (mask_from marks) (length marks))
      (are_sound columns) (kept_sound t marks (of_fields children) xs kept)).1
      (some_by_layer (type_layer t) children refl kept.held kept.can)

  -- ---- dictionaries

  pub keyed_is : (key : IntegerType) (uses : List ℕ) (known : List Slot) (child : Open)
      → dictionary t (mask_of_marks marks) (keys_from uses) (column_of child) ≡ parts_column t marks (keyed key uses known child)
  keyed_is key uses known child = ap (λ m. dictionary t m (keys_from uses) (column_of child)) (sym mask)

  pub keyed_sound : (key : IntegerType) (uses : List ℕ) (known : List Slot) (child : Open) → IsKept t marks (keyed key uses known child) xs
      → is_sound (dictionary t (mask_of_marks marks) (keys_from uses) (column_of child)) ≡ true
  keyed_sound key uses known child kept =
      ap is_sound (keyed_is key uses known child) ∙ kept_sound t marks (keyed key uses known child) xs kept

  keyed_by_layer : (x : Layer) (key : IntegerType) (uses : List ℕ) (known : List Slot) (child : Open) → type_layer t ≡ x
      → HoldsParts x (keyed key uses known child) xs → fits t xs ≡ true
      → (physical_type t ≡ physical.Dictionary key) × (greatest uses ≤ most_values key)
  keyed_by_layer (layer.Dictionary own value is_ordered) key uses known child is held fit =
      let named = ap greatest held.1 ∙ all_used xs in (
        layout_by_layer t (layer.Dictionary own value is_ordered) is ∙ ap physical.Dictionary (sym held.0),
        omega (arith, named, (values_fit_below t own value is_ordered is xs fit).0, ap most_values held.0),
      )
  keyed_by_layer _ key uses known child is held fit = absurd held

  pub keyed_lies : (key : IntegerType) (uses : List ℕ) (known : List Slot) (child : Open) → IsKept t marks (keyed key uses known child) xs
      → physical_type t ≡ physical.Dictionary key
  keyed_lies key uses known child kept = (keyed_by_layer (type_layer t) key uses known child refl kept.held kept.fit).0

  pub keyed_few : (key : IntegerType) (uses : List ℕ) (known : List Slot) (child : Open) → IsKept t marks (keyed key uses known child) xs
      → greatest uses ≤ most_values key
  keyed_few key uses known child kept = (keyed_by_layer (type_layer t) key uses known child refl kept.held kept.fit).1

-- ---- what is made of it

-- an answer of a column is one of a column that is the same
pub answered_as : (r : Result Column Error) (column own : Column) → OrOutOfMemory r (λ array. array ≡ column) → column ≡ own
    → OrOutOfMemory r (λ array. array ≡ own)
answered_as r column own is same = subst (λ c. OrOutOfMemory r (λ array. array ≡ c)) same is

-- the column of a builder with children
pub nested_column : (node : MutableNode) (head : Head) (children : MutableChildren) (o : Open) → node ≡ variant.Nested head children
    → seen (held_of node) ≡ o → IsHeld (held_of node) → parts_column head.data_type head.marks (parts_of children) ≡ column_of o
nested_column node head children o is view held =
    let t = head.data_type in
    let parts = parts_of children in
    let kept : IsKept t head.marks parts (slots (parts_column t head.marks parts)) = subst (λ (n : MutableNode). IsHeld (held_of n)) is held in
    column_kept t head.marks parts (slots (parts_column t head.marks parts)) kept
    ∙ ap column_of (sym (ap (λ (n : MutableNode). seen (held_of n)) is) ∙ view)

pub nested_kept : (node : MutableNode) (head : Head) (children : MutableChildren) → node ≡ variant.Nested head children → IsHeld (held_of node)
    → IsKept head.data_type head.marks (parts_of children) (slots (parts_column head.data_type head.marks (parts_of children)))
nested_kept node head children is held = subst (λ (n : MutableNode). IsHeld (held_of n)) is held

-- the same of what one holds by what stands below
pub kept_below : (t : DataType) (marks : List Bool) (children : MutableChildren) (parts : Parts) → parts_of children ≡ parts
    → IsKept t marks (parts_of children) (slots (parts_column t marks (parts_of children)))
    → IsKept t marks parts (slots (parts_column t marks parts))
kept_below t marks children parts is kept = subst (λ p. IsKept t marks p (slots (parts_column t marks p))) is kept
