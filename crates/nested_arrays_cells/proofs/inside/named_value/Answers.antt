use Rattle.std.proofs.Common.{◌≡◌, ◌∙◌, ℕ, ap, arith, length, subst, sym}
use Rattle.nested_arrays_builder_arrays.specs.arrays.AnyColumns.{column_of}
use Rattle.nested_arrays_builder_arrays.specs.arrays.columnar_memory.Layouts.{physical_type}
use Rattle.nested_arrays_builder_arrays.specs.arrays.columns.StoredColumns.{Column, column_len, place_of}
use Rattle.nested_arrays_builder_arrays.specs.arrays.declared.any.Node.TheVariants as nodes
use Rattle.nested_arrays_builder_arrays.specs.arrays.parts.Keys.{keyed, numbers_in}
use Rattle.nested_arrays_builder_arrays.proofs.arrays_lemmas.KeyPlaces.{keys_count}
use Rattle.nested_arrays_builder_arrays.proofs.arrays_lemmas.parts_lemmas.SameForms.{null_slot}
use Rattle.nested_arrays_cells.specs.Inside.{IsCellValue}
use Rattle.nested_arrays_cells.proofs.CellPlaces.{value_cell}
use Rattle.nested_arrays_cells.proofs.StoredNumbers.{key_number}
use Rattle.nested_arrays_cells.proofs.inside.named_value.Goals as goal

pub is_valid-requires : goal.is_valid-requires
is_valid-requires c =
    let node = c.args.node.now in
    omega (arith, c.requires.within, keys_count (physical_type node.data_type) node.keys c.requires.whole.fits)

pub returns-then-not-is_valid : goal.returns-then-not-is_valid
returns-then-not-is_valid c =
    null_slot (column_of (nodes.Dictionary c.args.node.now)) c.args.i (sym c.is_valid.ensures ∙ c.if-not-is_valid.true)

pub number_at-requires : goal.number_at-requires
number_at-requires c =
    let node = c.args.node.now in
    omega (arith, c.requires.within, keys_count (physical_type node.data_type) node.keys c.requires.whole.fits)

pub place_named-requires : goal.place_named-requires
place_named-requires c =
    let node = c.args.node.now in
    (key_number c.number_at.result (physical_type node.data_type) node.keys c.args.i c.requires.whole.fits c.number_at.ensures).0

pub returns : goal.returns
returns c =
    let node = c.args.node.now in
    let key = (key_number c.number_at.result (physical_type node.data_type) node.keys c.args.i c.requires.whole.fits c.number_at.ensures).1 in
    let own = value_cell node.data_type node.keys node.values.value c.args.i c.place_named.result c.requires.whole.sound c.requires.within
    (sym c.is_valid.ensures ∙ c.if-not-is_valid.false) (c.place_named.ensures ∙ ap place_of key) in
    subst (λ (values : Column). IsCellValue (keyed node.data_type node.keys node.values.value) c.args.i values c.place_named.result)
    (sym c.deref.ensures) own
