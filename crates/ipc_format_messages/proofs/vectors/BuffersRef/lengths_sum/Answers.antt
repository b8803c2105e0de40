use Rattle.std.proofs.Common.{◌≡◌, ◌≤◌, ◌+◌, ◌^◌, rules, arith}
use Rattle.std.specs.Prelude.{Some, None}
use Rattle.ipc_format_metadata.specs.flatbuffers.Views.{vector_of}
use Rattle.ipc_format_metadata.specs.grammar.Messages.{lengths_sum}
use Rattle.ipc_format_messages.specs.BufferLengths.{length_at, IsNoneOrLong}
use Rattle.ipc_format_messages.proofs.Lengths.{sum-init, sum-none, sum-next, sum-long, sum-done, none-or-long}
use Rattle.ipc_format_messages.proofs.vectors.BuffersRef.lengths_sum.Goals as goal

pub loop-k-init : goal.loop-k-init
loop-k-init c = sum-init c.args.self.now.bytes.now (vector_of c.args.self.now.vector)

pub returns-in_err-length : goal.returns-in_err-length
returns-in_err-length c =
    let bytes = c.args.self.now.bytes.now in
    let v = vector_of c.args.self.now.vector in
    let none : length_at bytes v c.loop-k.k ≡ None = search rules in
    let h : IsNoneOrLong (lengths_sum bytes v) =
    none-or-long _ (sum-none bytes v c.loop-k.sum c.loop-k.k c.loop-k-test.true none c.loop-k.invariant) in
    search (rules, h)

pub returns-in_err-sum : goal.returns-in_err-sum
returns-in_err-sum c =
    let bytes = c.args.self.now.bytes.now in
    let v = vector_of c.args.self.now.vector in
    let some : length_at bytes v c.loop-k.k ≡ Some c.in_ok-length.length = search rules in
    let long : 2 ^ 64 ≤ c.loop-k.sum + c.in_ok-length.length = search rules in
    let h : IsNoneOrLong (lengths_sum bytes v) =
    sum-long bytes v c.loop-k.sum c.loop-k.k c.in_ok-length.length c.loop-k-test.true some long c.loop-k.invariant in
    search (rules, h)

pub loop-k-preserved : goal.loop-k-preserved
loop-k-preserved c =
    let bytes = c.args.self.now.bytes.now in
    let v = vector_of c.args.self.now.vector in
    let some : length_at bytes v c.loop-k.k ≡ Some c.in_ok-length.length = search rules in
    let sum : c.in_ok-sum.sum ≡ c.loop-k.sum + c.in_ok-length.length = search rules in
    rw sum (sum-next bytes v c.loop-k.sum c.loop-k.k c.in_ok-length.length c.loop-k-test.true some c.loop-k.invariant)

pub returns : goal.returns
returns c =
    sum-done c.args.self.now.bytes.now (vector_of c.args.self.now.vector) c.loop-k.sum c.loop-k.k (omega arith) c.loop-k.invariant
