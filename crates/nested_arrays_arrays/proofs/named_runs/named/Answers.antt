use Rattle.std.proofs.Common.{◌≡◌, ◌<◌, ap, arith, length, option_copied}
use Rattle.nested_arrays_parts.specs.columnar_memory.Layouts.{physical_type}
use Rattle.nested_arrays_parts.proofs.flat_lemmas.ColumnParts.{mark_of_slot}
use Rattle.nested_arrays_arrays.proofs.KeyMasks.{firsts_count}
use Rattle.nested_arrays_arrays.proofs.KeyPlaces.{key_within, keys_count}
use Rattle.nested_arrays_arrays.proofs.NamedRuns.{key_slot, marked, no_key, stored_place}
use Rattle.nested_arrays_arrays.proofs.named_runs.named.Goals as goal

pub mark_at-requires : goal.mark_at-requires
mark_at-requires g c =
    mark_of_slot c.args.node.now.keys (option_copied c.args.validity) c.args.i c.whole.ensures c.requires.stored.masked c.requires.within

pub bounds-keys-i : goal.bounds-keys-i
bounds-keys-i g c =
    let as_many = keys_count (physical_type c.args.node.now.data_type) c.args.node.now.keys c.requires.whole.fits in
    omega (arith, c.requires.within, as_many, ap length c.requires.stored.stored, firsts_count g.K.NativeType.numbers c.args.keys.now)

pub returns-then-not-mark_at-clause-shown : goal.returns-then-not-mark_at-clause-shown
returns-then-not-mark_at-clause-shown g c =
    let node = c.args.node.now in
    no_key node.data_type node.keys node.values.value c.args.i
    (marked (option_copied c.args.validity) node.keys c.args.i c.mark_at.result _ c.requires.stored.masked c.mark_at.ensures c.if-not-mark_at.true)

pub returns-clause-shown : goal.returns-clause-shown
returns-clause-shown g c =
    let node = c.args.node.now in
    let keys = c.args.keys.now in
    let as_many = keys_count (physical_type node.data_type) node.keys c.requires.whole.fits in
    let within : c.args.i < length keys =
    omega (arith, c.requires.within, as_many, ap length c.requires.stored.stored, firsts_count g.K.NativeType.numbers keys) in
    key_slot node.data_type node.keys node.values.value c.args.i c.place.result
    (marked (option_copied c.args.validity) node.keys c.args.i c.mark_at.result _ c.requires.stored.masked c.mark_at.ensures c.if-not-mark_at.false)
    (stored_place g.K.NativeType.numbers g.K.Number.value keys node.keys c.args.i c.index-keys-i.result c.place.result g.met.K.Index.numbers_law
    within c.index-keys-i.is c.requires.stored.stored c.place.ensures)

pub returns-clause-within : goal.returns-clause-within
returns-clause-within g c =
    let node = c.args.node.now in
    let keys = c.args.keys.now in
    let as_many = keys_count (physical_type node.data_type) node.keys c.requires.whole.fits in
    let within : c.args.i < length keys =
    omega (arith, c.requires.within, as_many, ap length c.requires.stored.stored, firsts_count g.K.NativeType.numbers keys) in
    key_within node.data_type node.keys node.values.value c.args.i c.place.result c.requires.whole.sound
    (omega (arith, c.requires.within, as_many))
    (marked (option_copied c.args.validity) node.keys c.args.i c.mark_at.result _ c.requires.stored.masked c.mark_at.ensures c.if-not-mark_at.false)
    (stored_place g.K.NativeType.numbers g.K.Number.value keys node.keys c.args.i c.index-keys-i.result c.place.result g.met.K.Index.numbers_law
    within c.index-keys-i.is c.requires.stored.stored c.place.ensures)
