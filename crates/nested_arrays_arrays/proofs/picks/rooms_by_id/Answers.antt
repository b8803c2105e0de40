use Rattle.std.proofs.Common.{◌≡◌, ◌∙◌, ◌<◌, ◌+◌, ◌-◌, ℕ, arith, length, pos, rules, set, subst, sym}
use Rattle.std.specs.Prelude.{FitsSigned, slice_index_or}
use Rattle.std.specs.Int.{cast_unsigned, w8}
use Rattle.std.proofs.lemmas.List.{length-set}
use Rattle.nested_arrays_parts.specs.columns.SoundColumns.{column_lens}
use Rattle.nested_arrays_parts.specs.columns.StoredColumns.{in_columns}
use Rattle.nested_arrays_arrays.proofs.RoomTables.{HoldsFrom, all_ids, no_ids, with_id, without_id}
use Rattle.nested_arrays_arrays.proofs.picks.rooms_by_id.Goals as goal

pub loop-place-init : goal.loop-place-init
loop-place-init c = record {
  long = search rules;
  held = no_ids 256 c.len_at-rooms.result c.args.ids.now (column_lens (in_columns c.args.arrays.now)) (omega arith) c.len_at-rooms.ensures;
}

pub loop-place-preserved-in-Ok : goal.loop-place-preserved-in-Ok
loop-place-preserved-in-Ok c =
    let ids = c.args.ids.now in
    let rooms = c.loop-place.rooms in
    let lens = column_lens (in_columns c.args.arrays.now) in
    let n = c.loop-place.place - 1 in
    let within : n < length ids = omega (arith, c.loop-place-test.true, c.loop-place.auto.place) in
    let next : c.loop-place.place ≡ n + 1 = omega (arith, c.loop-place-test.true) in
    let behind : ℕ → Type 0 = λ k. HoldsFrom rooms ids lens k in
    let fits : FitsSigned w8 c.in-Ok.id = search rules in
    let own : slice_index_or ids n (pos 0) ≡ c.in-Ok.id = search rules in
    let byte : c.cast_unsigned-byte.result ≡ cast_unsigned w8 c.in-Ok.id = search rules in
    let written : ℕ → Type 0 = λ at. HoldsFrom (set rooms at c.len_at.result) ids lens n in
    record {
      long = length-set rooms c.cast_unsigned-byte.result c.len_at.result ∙ c.loop-place.invariant.long;
      held = subst written (sym byte) (with_id rooms lens ids n c.in-Ok.id c.len_at.result within c.loop-place.invariant.long fits own
          c.len_at.ensures (subst behind next c.loop-place.invariant.held));
    }

pub loop-place-preserved : goal.loop-place-preserved
loop-place-preserved c =
    let ids = c.args.ids.now in
    let rooms = c.loop-place.rooms in
    let lens = column_lens (in_columns c.args.arrays.now) in
    let n = c.loop-place.place - 1 in
    let within : n < length ids = omega (arith, c.loop-place-test.true, c.loop-place.auto.place) in
    let next : c.loop-place.place ≡ n + 1 = omega (arith, c.loop-place-test.true) in
    let behind : ℕ → Type 0 = λ k. HoldsFrom rooms ids lens k in
    let large : FitsSigned w8 (slice_index_or ids n (pos 0)) → ⊥ = search rules in
    record {
      long = c.loop-place.invariant.long;
      held = without_id rooms lens ids n within large (subst behind next c.loop-place.invariant.held);
    }

pub returns : goal.returns
returns c = all_ids c.loop-place.rooms (column_lens (in_columns c.args.arrays.now)) c.args.ids.now c.loop-place.place (omega arith)
    c.loop-place.invariant.held
