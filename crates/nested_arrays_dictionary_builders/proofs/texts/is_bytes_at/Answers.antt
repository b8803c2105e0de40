use Rattle.std.proofs.Common.{◌≡◌, ◌<◌, ℕ, rules, subst, sym}
use Rattle.nested_arrays_sized_builders.specs.nulls.columns.Slots.{bytes}
use Rattle.nested_arrays_sized_builders.specs.nulls.columns.StoredColumns.{slot_at}
use Rattle.nested_arrays_sized_builders.specs.flat_arrays.ByteStrings.{ByteStrings, len_of}
use Rattle.nested_arrays_sized_builders.specs.cells.taken.builders.values.ByteBuilders.{from_zero, open_binary}
use Rattle.nested_arrays_sized_builders.proofs.nulls_lemmas.flat_lemmas.SoundStrings.{strings_len}
use Rattle.nested_arrays_dictionary_builders.proofs.ByteItems.{binary_same, told_by}
use Rattle.nested_arrays_dictionary_builders.proofs.texts.is_bytes_at.Goals as goal

pub has_bytes-requires : goal.has_bytes-requires
has_bytes-requires g c =
    let same : c.deref.result.now ≡ c.args.strings.now = search rules in
    subst (λ (a : ByteStrings). c.args.place < len_of a) (sym same)
    (subst (λ (n : ℕ). c.args.place < n) (strings_len (from_zero c.args.strings.now)) c.requires)

pub returns : goal.returns
returns g c =
    let own = c.args.strings.now in
    let item = c.args.item.now.items in
    let same : c.deref.result.now ≡ own = search rules in
    let given : c.as_slice.result.now ≡ item = search rules in
    let within : c.args.place < len_of own = subst (λ (n : ℕ). c.args.place < n) (strings_len (from_zero own)) c.requires in
    told_by c.args.place c.deref.result.now own c.as_slice.result.now item c.has_bytes.result (slot_at (open_binary own) c.args.place ≡ bytes item)
    same given c.has_bytes.ensures (binary_same g.O.Offset.IS_LARGE own c.whole.ensures c.args.place item within)
