-- Ids and places, read one after the other.
use Rattle.std.proofs.Common.{◌≡◌, ◌+◌, ℕ, ℤ, List, map, drop, refl, sym, ap, arith, true, false, rules}
use Rattle.std.specs.Prelude.{Err, None, Ok, Option, Some, slice_get}
use Rattle.std.proofs.lemmas.Option.{slice_get_within}
use Rattle.ipc_format_column_writing.specs.column_reading.columnar_memory.Numbers.{Numbers, first_number, one}
use Rattle.ipc_format_column_writing.specs.column_reading.columnar_memory.declared.PrimitiveType.TheVariants as kinds
use Rattle.ipc_format_column_writing.specs.column_reading.messages.declared.values.Buffer.{Buffer}
use Rattle.ipc_format_column_writing.specs.column_reading.Buffers.{next_values, taken_in}
use Rattle.ipc_format_column_writing.proofs.reading_lemmas.ColumnReads.{takes_behind}
use Rattle.ipc_format_column_writing.proofs.reading_lemmas.Readings.{reads_behind, reads_made, reads_refused}
use Rattle.ipc_format_column_writing.proofs.reading_lemmas.Skipping.{end_behind}
use Rattle.ipc_format_array_reading.specs.Parts.{Parts, choices, next_choices, next_places, place_buffers}
use Rattle.ipc_format_array_reading.proofs.Taking.{drop_none}
use Rattle.ipc_format_array_reading.proofs.UnionReads.{choices_whole, negative_choices, ones_back, places_behind}
use Rattle.ipc_format_array_reading.proofs.begun.begin_union.Goals as goal

pub returns-in_default-slots_taken-clause-read : goal.returns-in_default-slots_taken-clause-read
returns-in_default-slots_taken-clause-read g c =
    let nodes = c.args.field_nodes.now.items in
    let node = c.in-Some.field_node in
    let there : slice_get nodes 0 ≡ Some node = search rules in
    let none : taken_in None node ≡ None = search rules in (
      (
        refl,
        λ room told.
            negative_choices c.args.mode c.args.is_little_endian nodes c.args.buffers.now.items c.args.block_offset node room there none,
      ),
      (1, c.pop_front.ensures.rest),
      (0, sym (drop_none c.args.buffers.now.items)),
    )

pub returns-in_err-places-clause-read : goal.returns-in_err-places-clause-read
returns-in_err-places-clause-read g c =
    let mode = c.args.mode in
    let little = c.args.is_little_endian in
    let nodes = c.args.field_nodes.now.items in
    let buffers = c.args.buffers.now.items in
    let origin = c.args.block_offset in
    let node = c.in-Some.field_node in
    let count = c.in-Some-slots_taken.count in
    let types = c.in_ok-types.types in
    let later = c.read_buffer.new.buffers.items in
    let mid = g.R.Room.told c.read_buffer.new.reader in
    let last = g.R.Room.told c.read_places.new.reader in
    let there : slice_get nodes 0 ≡ Some node = search rules in
    let counted : taken_in None node ≡ Some count = search rules in
    let error = c.in_err-places.field-0.0 in
    let is : c.from_residual-in_err-places.result ≡ Err error = search rules in
    rw is (
      reads_behind false (g.R.Room.told c.args.reader.now) mid last (map one) (next_values kinds.Int8 true buffers origin count) types
          (λ (parts : Parts). parts) (λ numbers room. places_behind mode little (drop 1 buffers) origin count numbers room)
          (next_choices mode little nodes buffers origin) (Err error) (choices_whole mode little nodes buffers origin node count there counted)
          c.in_ok-types.ensures.read
          (reads_refused false mid last (λ (places : Option (List ℤ)). places) (next_places mode little later origin count) (λ (parts : Parts). parts)
          (λ places room. Some (choices (map first_number (map one types)) places))
          (places_behind mode little (drop 1 buffers) origin count (map one types)) error
          (λ room. ap (λ (rest : List Buffer). places_behind mode little rest origin count (map one types) room) (sym c.in_ok-types.ensures.taken.1))
          c.in_err-places.ensures.read),
      (1, c.pop_front.ensures.rest),
      end_behind buffers later c.read_places.new.buffers.items 1 c.in_ok-types.ensures.taken.1 c.in_err-places.ensures.rest,
    )

pub returns-clause-read : goal.returns-clause-read
returns-clause-read g c =
    let mode = c.args.mode in
    let little = c.args.is_little_endian in
    let nodes = c.args.field_nodes.now.items in
    let buffers = c.args.buffers.now.items in
    let origin = c.args.block_offset in
    let node = c.in-Some.field_node in
    let count = c.in-Some-slots_taken.count in
    let types = c.in_ok-types.types in
    let places = c.in_ok-places.places in
    let later = c.read_buffer.new.buffers.items in
    let mid = g.R.Room.told c.read_buffer.new.reader in
    let last = g.R.Room.told c.read_places.new.reader in
    let there : slice_get nodes 0 ≡ Some node = search rules in
    let counted : taken_in None node ≡ Some count = search rules in
    let some = slice_get_within nodes 0 node there in
    let made : Parts = choices types places in (
      reads_behind false (g.R.Room.told c.args.reader.now) mid last (map one) (next_values kinds.Int8 true buffers origin count) types
          (λ (parts : Parts). parts) (λ numbers room. places_behind mode little (drop 1 buffers) origin count numbers room)
          (next_choices mode little nodes buffers origin) (Ok made) (choices_whole mode little nodes buffers origin node count there counted)
          c.in_ok-types.ensures.read
          (reads_made false mid last (λ (places : Option (List ℤ)). places) (next_places mode little later origin count) places
          (λ (parts : Parts). parts) (λ places room. Some (choices (map first_number (map one types)) places))
          (places_behind mode little (drop 1 buffers) origin count (map one types)) made
          (λ room. ap (λ (rest : List Buffer). places_behind mode little rest origin count (map one types) room) (sym c.in_ok-types.ensures.taken.1))
          c.in_ok-places.ensures.read (λ room. ap (λ numbers. Some (choices numbers places)) (ones_back types))),
      (omega (arith, some), c.pop_front.ensures.rest),
      takes_behind 1 (place_buffers mode) (1 + place_buffers mode) buffers later c.read_places.new.buffers.items refl c.in_ok-types.ensures.taken
          c.in_ok-places.ensures.rest,
    )
