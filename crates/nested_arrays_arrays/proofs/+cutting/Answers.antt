use Rattle.std.specs.Prelude.{slice_set}
use Rattle.std.proofs.Common.{rules, ◌<◌, length, ◌∙◌, ap, sym, subst, ◌+◌, ◌*◌, ◌≤◌, arith}
use Rattle.std.proofs.lemmas.List.Edits.{map_over_more}
use Rattle.nested_arrays_parts.specs.columns.SoundColumns.{is_sound}
use Rattle.nested_arrays_parts.specs.columns.StoredColumns.{Column, column_len, column_size, cut, unions, in_columns}
use Rattle.nested_arrays_parts.specs.columnar_memory.Window.{window}
use Rattle.nested_arrays_arrays.specs.AnyColumns.{column_of}
use Rattle.nested_arrays_arrays.proofs.CutNodes.{lists_cut, records_cut, fixed_lists_cut, spans_within, items_within, struct_children}
use Rattle.nested_arrays_arrays.proofs.CutNodes.{sound_after, fits_at, fits_from}
use Rattle.nested_arrays_arrays.proofs.CutNodes.{sparse_children, sparse_cut, dense_cut, with_offsets, sound_with_offsets}
use Rattle.nested_arrays_arrays.proofs.CutNodes.{size_over, within_over, length-over, get_or-any}
use Rattle.nested_arrays_parts.proofs.KeyCuts.{keyed_cut, keys_after, keys_within}
use Rattle.nested_arrays_arrays.proofs.+cutting.Goals as goal

pub any::AnyArray::slice-slice-requires-in-List : goal.any::AnyArray::slice-slice-requires-in-List
any::AnyArray::slice-slice-requires-in-List t c =
    spans_within _ _ _ _ _ _ _ (ap column_of (sym c.in-List.is) ∙ c.self.view_is) c.requires

pub any::AnyArray::slice-slice-requires-in-Dictionary : goal.any::AnyArray::slice-slice-requires-in-Dictionary
any::AnyArray::slice-slice-requires-in-Dictionary t c =
    keys_within _ _ _ _ _ _ _ (ap column_of (sym c.in-Dictionary.is) ∙ c.self.view_is) (fits_from _ _ c.in-Dictionary.is c.self.invariant.fits)
    c.requires

pub any::AnyArray::slice-slice-requires-in-FixedSizeList : goal.any::AnyArray::slice-slice-requires-in-FixedSizeList
any::AnyArray::slice-slice-requires-in-FixedSizeList t c =
    let is = ap column_of (sym c.in-FixedSizeList.is) ∙ c.self.view_is in
    let size = ap column_size is in
    let len = ap column_len is in
    (search (rules, size), omega (arith, c.requires, len))

pub any::AnyArray::slice-returns : goal.any::AnyArray::slice-returns
any::AnyArray::slice-returns t c = elim c.match-self.branch [
  | goal.any::AnyArray::slice-in-Flat w ↦ ap (λ i. column_of i.node) w.self-inside-is ∙ w.slice.ensures
      ∙ ap (λ col. cut col c.args.offset c.args.count) (ap column_of (sym w.in-Flat.is) ∙ c.self.view_is)
  | goal.any::AnyArray::slice-in-List w ↦ ap (λ i. column_of i.node) w.self-inside-is
      ∙ lists_cut _ _ _ _ _ _ _ _ _ (ap column_of (sym w.in-List.is) ∙ c.self.view_is) w.slice_mask.ensures w.slice-in-List.ensures.spans
      (spans_within _ _ _ _ _ _ _ (ap column_of (sym w.in-List.is) ∙ c.self.view_is) c.requires)
  | goal.any::AnyArray::slice-in-FixedSizeList w ↦ ap (λ i. column_of i.node) w.self-inside-is ∙ w.slice-in-FixedSizeList.ensures
      ∙ ap (λ col. cut col c.args.offset c.args.count) (ap column_of (sym w.in-FixedSizeList.is) ∙ c.self.view_is)
  | goal.any::AnyArray::slice-in-Struct w ↦ ap (λ i. column_of i.node) w.self-inside-is ∙ w.slice-in-Struct.ensures
      ∙ ap (λ col. cut col c.args.offset c.args.count) (ap column_of (sym w.in-Struct.is) ∙ c.self.view_is)
  | goal.any::AnyArray::slice-in-Map w ↦ ap (λ i. column_of i.node) w.self-inside-is ∙ w.slice-in-Map.ensures
      ∙ ap (λ col. cut col c.args.offset c.args.count) (ap column_of (sym w.in-Map.is) ∙ c.self.view_is)
  | goal.any::AnyArray::slice-in-Union w ↦ ap (λ i. column_of i.node) w.self-inside-is ∙ w.slice-in-Union.ensures
      ∙ ap (λ col. cut col c.args.offset c.args.count) (ap column_of (sym w.in-Union.is) ∙ c.self.view_is)
  | goal.any::AnyArray::slice-in-Dictionary w ↦ ap (λ i. column_of i.node) w.self-inside-is
      ∙ keyed_cut _ _ _ _ _ _ _ (ap column_of (sym w.in-Dictionary.is) ∙ c.self.view_is) w.slice-in-Dictionary.ensures
]

pub any::AnyArray::slice-invariant_of-self : goal.any::AnyArray::slice-invariant_of-self
any::AnyArray::slice-invariant_of-self t c = record {
  sound = sound_after c.args.self.now _ c.args.offset c.args.count (ap is_sound (sym c.self.view_is) ∙ c.self.invariant.sound) c.requires
      (any::AnyArray::slice-returns t c);
  fits = elim c.match-self.branch [
    | goal.any::AnyArray::slice-in-Flat w ↦ fits_at _ _ (ap (λ i. i.node) w.self-inside-is) tt
    | goal.any::AnyArray::slice-in-List w ↦ fits_at _ _ (ap (λ i. i.node) w.self-inside-is)
        (fits_from _ _ w.in-List.is c.self.invariant.fits ∙ sym w.slice-in-List.ensures.width)
    | goal.any::AnyArray::slice-in-FixedSizeList w ↦ fits_at _ _ (ap (λ i. i.node) w.self-inside-is) tt
    | goal.any::AnyArray::slice-in-Struct w ↦ fits_at _ _ (ap (λ i. i.node) w.self-inside-is) tt
    | goal.any::AnyArray::slice-in-Map w ↦ fits_at _ _ (ap (λ i. i.node) w.self-inside-is) tt
    | goal.any::AnyArray::slice-in-Union w ↦ fits_at _ _ (ap (λ i. i.node) w.self-inside-is) tt
    | goal.any::AnyArray::slice-in-Dictionary w ↦ fits_at _ _ (ap (λ i. i.node) w.self-inside-is)
        (keys_after _ _ _ _ _ (fits_from _ _ w.in-Dictionary.is c.self.invariant.fits) w.slice-in-Dictionary.ensures)
  ];
}

pub fixed_lists::FixedSizeListArray::slice-slice-requires : goal.fixed_lists::FixedSizeListArray::slice-slice-requires
fixed_lists::FixedSizeListArray::slice-slice-requires t c =
    let size = ap column_size c.self.view_is in (
      search (rules, size),
      subst (λ (child : Column). c.self.inside.size * c.args.offset + c.self.inside.size * c.args.count ≤ column_len child)
          (sym c.deref_mut.ensures.value)
          (items_within c.args.self.now _ _ _ _ c.args.offset c.args.count c.self.view_is c.requires),
    )

pub fixed_lists::FixedSizeListArray::slice-invariant_of-self : goal.fixed_lists::FixedSizeListArray::slice-invariant_of-self
fixed_lists::FixedSizeListArray::slice-invariant_of-self t c =
    sound_after c.args.self.now _ c.args.offset c.args.count (ap is_sound (sym c.self.view_is) ∙ c.self.invariant) c.requires
    (fixed_lists_cut c.args.self.now _ _ _ _ _ _ _ _ c.self.view_is c.slice_mask.ensures
    (c.slice.ensures
    ∙ ap (λ (child : Column). cut child (c.self.inside.size * c.args.offset) (c.self.inside.size * c.args.count)) c.deref_mut.ensures.value))

pub records::StructArray::slice-slice_each-requires : goal.records::StructArray::slice-slice_each-requires
records::StructArray::slice-slice_each-requires t c =
    let same = ap column_size c.self.view_is in
    (search (rules, same), struct_children c.args.self.now _ _ _ _ _ _ c.self.view_is c.self.invariant c.requires)

pub records::StructArray::slice-returns : goal.records::StructArray::slice-returns
records::StructArray::slice-returns t c =
    records_cut c.args.self.now _ _ _ _ _ _ _ _ c.self.view_is c.slice_mask.ensures c.slice_each.ensures

pub records::StructArray::slice-invariant_of-self : goal.records::StructArray::slice-invariant_of-self
records::StructArray::slice-invariant_of-self t c =
    sound_after c.args.self.now _ c.args.offset c.args.count (ap is_sound (sym c.self.view_is) ∙ c.self.invariant) c.requires
    (records_cut c.args.self.now _ _ _ _ _ _ _ _ c.self.view_is c.slice_mask.ensures c.slice_each.ensures)

pub records::slice_each-slice-requires : goal.records::slice_each-slice-requires
records::slice_each-slice-requires t c =
    let f = λ (x : Column). cut x c.args.offset c.args.count in
    let small : c.loop-value.value-index < length c.args.values.now.items =
    omega (
      arith,
      c.loop-value-test.true,
      length-over f c.args.values.now.items c.loop-value.value-items c.loop-value.value-index
          c.loop-value.invariant,
    ) in
    let size = size_over f c.args.values.now.items c.loop-value.value-items c.loop-value.value-index c.value-item.result small
    c.loop-value.invariant in (
      search (rules, size),
      within_over f c.args.values.now.items c.loop-value.value-items c.loop-value.value-index _ _ _ small
          c.loop-value.invariant c.requires,
    )

pub records::slice_each-loop-value-preserved : goal.records::slice_each-loop-value-preserved
records::slice_each-loop-value-preserved t c =
    let f = λ (x : Column). cut x c.args.offset c.args.count in
    let small : c.loop-value.value-index < length c.args.values.now.items =
    omega (
      arith,
      c.loop-value-test.true,
      length-over f c.args.values.now.items c.loop-value.value-items c.loop-value.value-index
          c.loop-value.invariant,
    ) in
    let inside : c.loop-value.value-index < length c.loop-value.value-items =
    omega (arith, small, length-over f c.args.values.now.items c.loop-value.value-items c.loop-value.value-index c.loop-value.invariant) in
    ap (slice_set c.loop-value.value-items c.loop-value.value-index) c.slice.ensures
    ∙ map_over_more f c.args.values.now.items c.loop-value.value-items c.loop-value.value-index _ small c.loop-value.invariant
    (get_or-any c.loop-value.value-items c.loop-value.value-index c.value-item.result _ inside)

pub unions::UnionArray::slice-slice_each-requires : goal.unions::UnionArray::slice-slice_each-requires
unions::UnionArray::slice-slice_each-requires t c =
    let size = ap column_size c.self.view_is in (
      search (rules, size),
      sparse_children c.args.self.now _ _ _ _ _ (with_offsets _ _ _ _ _ _ c.self.view_is c.in-None.is)
          (sound_with_offsets c.self.inside.data_type c.self.inside.types c.self.inside.offsets _ c.self.inside.fields.items c.self.invariant
          c.in-None.is) c.requires,
    )

pub unions::UnionArray::slice-returns : goal.unions::UnionArray::slice-returns
unions::UnionArray::slice-returns t c = elim c.match-self.branch [
  | goal.unions::UnionArray::slice-in-Some w ↦
      ap (λ i. unions i.data_type c.slice-2.new.self i.offsets (in_columns i.fields.items)) w.self-inside-is
      ∙ dense_cut c.args.self.now _ _ _ _ _ _ _ _ (with_offsets _ _ _ _ _ _ c.self.view_is w.in-Some.is)
      (c.slice-2.ensures ∙ ap (λ i. window i.types c.args.offset c.args.count) w.self-inside-is) w.slice.ensures
  | goal.unions::UnionArray::slice-in-None w ↦
      ap (λ i. unions i.data_type c.slice-2.new.self i.offsets (in_columns i.fields.items)) w.self-inside-is
      ∙ (λ j. unions c.self.inside.data_type c.slice-2.new.self (w.in-None.is j) (in_columns w.slice_each.new.values.items))
      ∙ sparse_cut c.args.self.now _ _ _ _ _ _ _ (with_offsets _ _ _ _ _ _ c.self.view_is w.in-None.is)
      (c.slice-2.ensures ∙ ap (λ i. window i.types c.args.offset c.args.count) w.self-inside-is) w.slice_each.ensures
]

pub unions::UnionArray::slice-invariant_of-self : goal.unions::UnionArray::slice-invariant_of-self
unions::UnionArray::slice-invariant_of-self t c =
    sound_after c.args.self.now _ c.args.offset c.args.count (ap is_sound (sym c.self.view_is) ∙ c.self.invariant) c.requires
    (unions::UnionArray::slice-returns t c)
