-- The metadata are taken behind their length, and that behind the marker, where it stands.
use Rattle.std.proofs.Common.{rules, ◌≡◌, ◌+◌, ℤ, negsuc, subst, w32}
use Rattle.std.proofs.lemmas.Int.{to_z-of_z}
use Rattle.std.specs.Prelude.{Some, None, Err}
use Rattle.ipc_format_chunk_writing.specs.flatbuffers.FlatBuffers.{signed_at}
use Rattle.ipc_format_readers.specs.MessagesTaken.{TakesStated}
use Rattle.ipc_format_readers.proofs.MetadataTaken.{behind_marker, no_first, no_number, no_second, no_second_number, without_marker}
use Rattle.ipc_format_readers.proofs.block_messages.read_message_metadata.Goals as goal

pub returns-in_err-fill_from : goal.returns-in_err-fill_from
returns-in_err-fill_from g c =
    let error = c.in_err-fill_from.field-0.0 in
    let is : c.from_residual.result ≡ Err error = search rules in
    rw is (no_first (g.R.Room.told c.args.reader.now) (g.R.Room.told c.fill_from.new.self) c.args.place error c.in_err-fill_from.ensures.fills)

pub returns-in_default : goal.returns-in_default
returns-in_default g c =
    let part = c.fill_from.new.into.items in
    let none : signed_at w32 part 0 ≡ None = search rules in
    no_number (g.R.Room.told c.args.reader.now) c.args.place part c.in_ok-fill_from.ensures.fills.2 none

pub returns-then-first : goal.returns-then-first
returns-then-first g c =
    let part = c.fill_from.new.into.items in
    let first = c.in-Some.first in
    let is : signed_at w32 part 0 ≡ Some first = search rules in
    let unmarked : first ≡ negsuc 0 → ⊥ = search rules in
    without_marker (g.R.Room.told c.args.reader.now) (g.R.Room.told c.fill_from.new.self) (g.R.Room.told c.take_stated.new.reader) c.args.place
    part c.take_stated.new.metadata.items first c.take_stated.result c.in_ok-fill_from.ensures.fills.0 c.in_ok-fill_from.ensures.fills.2 is unmarked
    (subst (λ (z : ℤ). TakesStated (g.R.Room.told c.fill_from.new.self) (g.R.Room.told c.take_stated.new.reader) z (c.args.place + 4)
    c.take_stated.new.metadata.items c.take_stated.result) (to_z-of_z w32 first (search rules)) c.take_stated.ensures)

pub returns-in_err-fill_from-2 : goal.returns-in_err-fill_from-2
returns-in_err-fill_from-2 g c =
    let part = c.fill_from.new.into.items in
    let error = c.in_err-fill_from-2.field-0.0 in
    let result : c.from_residual-in_err-fill_from-2.result ≡ Err error = search rules in
    let is : signed_at w32 part 0 ≡ Some (negsuc 0) = search rules in
    rw result (no_second (g.R.Room.told c.args.reader.now) (g.R.Room.told c.fill_from.new.self) (g.R.Room.told c.fill_from-2.new.self)
    c.args.place part error c.in_ok-fill_from.ensures.fills.0 c.in_ok-fill_from.ensures.fills.2 is c.in_err-fill_from-2.ensures.fills)

pub returns-in_default-i32_at : goal.returns-in_default-i32_at
returns-in_default-i32_at g c =
    let part = c.fill_from.new.into.items in
    let second = c.fill_from-2.new.into.items in
    let is : signed_at w32 part 0 ≡ Some (negsuc 0) = search rules in
    let none : signed_at w32 second 0 ≡ None = search rules in
    no_second_number (g.R.Room.told c.args.reader.now) (g.R.Room.told c.fill_from.new.self) c.args.place part second c.in_ok-fill_from.ensures.fills.0
    c.in_ok-fill_from.ensures.fills.2 is c.in_ok-fill_from-2.ensures.fills.2 none

pub returns : goal.returns
returns g c =
    let part = c.fill_from.new.into.items in
    let second = c.fill_from-2.new.into.items in
    let stated = c.in-Some-i32_at.stated in
    let is : signed_at w32 part 0 ≡ Some (negsuc 0) = search rules in
    let says : signed_at w32 second 0 ≡ Some stated = search rules in
    behind_marker (g.R.Room.told c.args.reader.now) (g.R.Room.told c.fill_from.new.self) (g.R.Room.told c.fill_from-2.new.self)
    (g.R.Room.told c.take_stated-2.new.reader) c.args.place part second c.take_stated-2.new.metadata.items stated
    c.take_stated-2.result c.in_ok-fill_from.ensures.fills.0 c.in_ok-fill_from.ensures.fills.2 is c.in_ok-fill_from-2.ensures.fills.0
    c.in_ok-fill_from-2.ensures.fills.2 says
    (subst (λ (z : ℤ). TakesStated (g.R.Room.told c.fill_from-2.new.self) (g.R.Room.told c.take_stated-2.new.reader) z (c.args.place + 8)
    c.take_stated-2.new.metadata.items c.take_stated-2.result) (to_z-of_z w32 stated (search rules)) c.take_stated-2.ensures)
