use Rattle.std.proofs.Common.{◌≡◌, ◌<◌, ℕ, rules, subst, sym}
use Rattle.std.specs.String.{string_bytes}
use Rattle.nested_arrays_sized_builders.specs.nulls.columns.Slots.{text}
use Rattle.nested_arrays_sized_builders.specs.nulls.columns.StoredColumns.{slot_at}
use Rattle.nested_arrays_sized_builders.specs.flat_arrays.ByteStrings.{ByteStrings, len_of}
use Rattle.nested_arrays_sized_builders.specs.cells.taken.builders.values.ByteBuilders.{from_zero, open_text}
use Rattle.nested_arrays_sized_builders.proofs.nulls_lemmas.flat_lemmas.SoundStrings.{texts_len}
use Rattle.nested_arrays_dictionary_builders.proofs.ByteItems.{text_same, told_by}
use Rattle.nested_arrays_dictionary_builders.proofs.texts.is_text_at.Goals as goal

pub has_bytes-requires : goal.has_bytes-requires
has_bytes-requires g c =
    let same : c.deref.result.now ≡ c.args.texts.now = search rules in
    subst (λ (a : ByteStrings). c.args.place < len_of a) (sym same)
    (subst (λ (n : ℕ). c.args.place < n) (texts_len (from_zero c.args.texts.now)) c.requires)

pub returns : goal.returns
returns g c =
    let own = c.args.texts.now in
    let item = string_bytes c.args.item.now in
    let same : c.deref.result.now ≡ own = search rules in
    let given : c.as_bytes.result.now ≡ item = search rules in
    let within : c.args.place < len_of own = subst (λ (n : ℕ). c.args.place < n) (texts_len (from_zero own)) c.requires in
    told_by c.args.place c.deref.result.now own c.as_bytes.result.now item c.has_bytes.result (slot_at (open_text own) c.args.place ≡ text item)
    same given c.has_bytes.ensures (text_same g.O.Offset.IS_LARGE own c.whole.ensures.layout c.args.place item within)
