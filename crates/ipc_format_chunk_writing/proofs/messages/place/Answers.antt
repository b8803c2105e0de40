use Rattle.std.proofs.Common.{arith, length, refl, rules}
use Rattle.std.specs.Prelude.{pos}
use Rattle.ipc_format_batch_reading.specs.Bodies.{parts}
use Rattle.ipc_format_batch_reading.specs.grammar.Encoding.{joined_columns}
use Rattle.ipc_format_batch_reading.proofs.Joined.{all_placed}
use Rattle.ipc_format_chunk_writing.proofs.PlacedBodies.{column_placed, column_refused, columns_placed, encoded_of}
use Rattle.ipc_format_chunk_writing.proofs.messages.place.Goals as goal

pub loop-array-init : goal.loop-array-init
loop-array-init c =
    λ i. parts (c.none_placed-placed.ensures.nodes i) (c.none_placed-placed.ensures.buffers i) (c.requires i) (pos (length (c.requires i)))

pub loop-array-preserved : goal.loop-array-preserved
loop-array-preserved c = column_placed c.args.arrays.now c.loop-array.array-index c.array-item.result _ _ c.loop-array-test.true c.array-item.is
    c.loop-array.invariant c.in_ok-place_next.ensures

pub returns-in_err-place_next : goal.returns-in_err-place_next
returns-in_err-place_next c =
    let whole = column_refused c.in_err-place_next.field-0.0 c.args.arrays.now c.loop-array.array-index c.array-item.result _ _
    c.loop-array-test.true c.array-item.is c.loop-array.invariant c.in_err-place_next.ensures in
    search (rules, whole)

pub returns : goal.returns
returns c = all_placed c.loop-array.placed (joined_columns (encoded_of c.args.arrays.now)) _ _ _ _ refl refl
    (columns_placed c.args.arrays.now c.loop-array.array-index _ (omega arith) c.loop-array.invariant)
