-- The arrays of fields' columns are their slots, where each passes its test: tests may stand before all reads, or each before its own.
use Rattle.std.proofs.Common.{◌≡◌, ◌∙◌, Bool, true, false, ◌&&◌, List, [], ◌∷◌, map, length, refl, sym, ap}
use Rattle.std.specs.Prelude.{Option, Some, None}
use Rattle.std.proofs.lemmas.Bool.{true≢false}
use Rattle.ipc_format_array_reading.specs.columnar_memory.declared.DataType.TheOpen as layer
use Rattle.ipc_format_array_reading.specs.columnar_memory.declared.Field.{Field}
use Rattle.ipc_format_array_reading.specs.columns.Slots.{Slot}
use Rattle.ipc_format_array_reading.specs.flatbuffers.Reading.{◌>>=◌, guard}
use Rattle.ipc_format_array_reading.specs.grammar.Columns.{Place, Reader, behind_column, columns_below, ids_below, slots_in}
use Rattle.ipc_format_array_reading.specs.grammar.Schemas.{Ids, IdsList, ids_then, no_ids}
use Rattle.ipc_format_array_reading.proofs.TypeLayers.{Layer}
use Rattle.ipc_format_array_reading.specs.ArrayReads.{Test, fields_below, is_readable, pass_each}
use Rattle.ipc_format_reading.specs.Below.{arrays_below}
use Rattle.ipc_format_array_reading.specs.Parts.{has_children}
use Rattle.ipc_format_reading.proofs.JoinedSlots.{layer_arrays, arrays_any}
use Rattle.ipc_format_array_reading.proofs.Layers.{test_layer}

-- what reads each field
abbrev pub read_each : List Field → List (Field × Reader)
read_each fields = map (λ (u : Field). (u, slots_in u.data_type)) fields

-- what tests each field
abbrev pub test_each : List Field → List (Field × Test)
test_each fields = map (λ (u : Field). (u, is_readable u.data_type)) fields

-- ---- tests and reads

each_tested : {X Y Z : Type 0} (a b : Bool) (first : Option X) (others : Option Y) (f : X → Y → Option Z)
    → ((guard a >>= (λ _. first)) >>= (λ x. (guard b >>= (λ _. others)) >>= (λ y. f x y)))
    ≡ (guard (a && b) >>= (λ _. first >>= (λ x. others >>= (λ y. f x y))))
each_tested false b first others f = refl
each_tested true true None others f = refl
each_tested true false None others f = refl
each_tested true true (Some x) others f = refl
each_tested true false (Some x) others f = refl

-- the test of what stands below may come behind what stands before it
pub tested_later : {X Y Z : Type 0} (a b : Bool) (first : Option X) (later : X → Option Y) (f : X → Y → Option Z)
    → (guard (a && b) >>= (λ _. first >>= (λ x. later x >>= (λ y. f x y))))
    ≡ (guard a >>= (λ _. first >>= (λ x. (guard b >>= (λ _. later x)) >>= (λ y. f x y))))
tested_later false b first later f = refl
tested_later true true None later f = refl
tested_later true false None later f = refl
tested_later true true (Some x) later f = refl
tested_later true false (Some x) later f = refl

pub below_tested : (fields : List Field) (at : Place) (below : IdsList)
    → arrays_below fields at below ≡ (guard (pass_each (test_each fields) below) >>= (λ _. columns_below (read_each fields) at below))
below_tested [] at below = refl
below_tested (field ∷ fields) at no_ids = refl
below_tested (field ∷ fields) at (ids_then first others) =
    ap (λ (later : Option (List (List Slot))). (guard (is_readable field.data_type first)
    >>= (λ _. slots_in field.data_type (record at { ids = first })))
    >>= (λ column. later >>= (λ columns. Some (column ∷ columns)))) (below_tested fields (behind_column at field.data_type) others)
    ∙ each_tested (is_readable field.data_type first) (pass_each (test_each fields) others)
    (slots_in field.data_type (record at { ids = first }))
    (columns_below (read_each fields) (behind_column at field.data_type) others) (λ column columns. Some (column ∷ columns))

-- ---- the test of a layer with children

unlike : false ≡ true → ⊥
unlike e = true≢false (sym e)

pub layer_tested : (x : Layer) (here : Ids) → has_children x ≡ true
    → test_layer x here ≡ (layer_arrays x && pass_each (test_each (fields_below x)) (ids_below here))
layer_tested (layer.List item) here with_children = refl
layer_tested (layer.LargeList item) here with_children = refl
layer_tested (layer.FixedSizeList item size) here with_children = refl
layer_tested (layer.Map entry is_sorted) here with_children = refl
layer_tested (layer.Struct []) here with_children = refl
layer_tested (layer.Struct (u ∷ us)) here with_children = refl
layer_tested (layer.Union us numbers mode) here with_children =
    ap (λ (test : Bool). test && pass_each (test_each us) (ids_below here))
    (arrays_any (λ t. is_readable t) (λ u. is_readable u.data_type) (layer.Union us numbers mode))
layer_tested x here with_children = absurd (unlike with_children)
