-- Compressed buffers are not read.
use Rattle.std.proofs.Common.{◌≡◌, ◌∙◌, Bool, ap, false, inl, inr, refl, sym, true}
use Rattle.std.specs.Prelude.{is_some}
use Rattle.std.proofs.lemmas.Bool.{false≢true}
use Rattle.ipc_format_column_writing.specs.columnar_memory.Layouts.{physical_type}
use Rattle.ipc_format_column_writing.specs.columnar_memory.declared.PhysicalType.TheVariants as physical
use Rattle.ipc_format_column_writing.specs.grammar.Messages.{V5}
use Rattle.ipc_format_column_writing.specs.grammar.Schemas.{ids, no_ids}
use Rattle.ipc_format_array_reading.specs.ArrayReads.{array_slots}
use Rattle.ipc_format_array_reading.proofs.Taking.{drop_none}
use Rattle.ipc_format_array_reading.specs.ReadArrays.{at_front, standing_in}
use Rattle.ipc_format_array_reading.proofs.KeyedReading.{as_plain}
use Rattle.ipc_format_array_reading.proofs.keyed.read_dictionary.Goals as goal

pub returns-then-not-has_keys : goal.returns-then-not-has_keys
returns-then-not-has_keys g c =
    inr (λ lies. false≢true (sym c.if-not-has_keys.true ∙ c.has_keys.ensures.1 lies), tt, refl, refl)

pub returns-then-is_some : goal.returns-then-is_some
returns-then-is_some g c =
    let lies : physical_type c.args.data_type ≡ physical.Dictionary g.K.DictionaryKey.KEY_TYPE =
    c.has_keys.ensures.0 c.if-not-has_keys.false in
    let full : is_some c.args.compression ≡ true = sym c.is_some.ensures ∙ c.if-is_some.true in
    inl (lies, full, (0, sym (drop_none c.args.field_nodes.now.items)), (0, sym (drop_none c.args.buffers.now.items)))

pub read_standing-requires : goal.read_standing-requires
read_standing-requires g c = c.has_keys.ensures.0 c.if-not-has_keys.false

pub returns : goal.returns
returns g c =
    let t = c.args.data_type in
    let key = g.K.DictionaryKey.KEY_TYPE in
    let nodes = c.args.field_nodes.now.items in
    let buffers = c.args.buffers.now.items in
    let plain : is_some c.args.compression ≡ false = sym c.is_some.ensures ∙ c.if-is_some.false in
    as_plain (physical_type t ≡ physical.Dictionary key) (is_some c.args.compression) (g.R.Room.told c.args.reader.now)
    (g.R.Room.told c.read_standing.new.reader) t
    (λ room. array_slots t (at_front nodes buffers V5 c.args.is_little_endian (standing_in c.args.dictionaries.now) c.args.limit c.args.block_offset
    (ids c.args.id no_ids) room)) 1 2 nodes c.read_standing.new.field_nodes.items buffers c.read_standing.new.buffers.items c.read_standing.result
    plain c.read_standing.ensures
