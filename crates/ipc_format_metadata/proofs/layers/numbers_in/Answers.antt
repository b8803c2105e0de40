use Rattle.std.proofs.Common.{◌≡◌, ◌+◌, ◌*◌, ◌++◌, ◌∷◌, [], sym, arith, rules}
use Rattle.std.specs.Prelude.{Some, None}
use Rattle.std.specs.Int.{w32}
use Rattle.ipc_format_grammar.specs.flatbuffers.FlatBuffers.{signed_at}
use Rattle.ipc_format_metadata.proofs.Numbers.{numbers-init, numbers-next, numbers-none, numbers-done}
use Rattle.ipc_format_metadata.proofs.layers.numbers_in.Goals as goal

pub loop-k-init : goal.loop-k-init
loop-k-init c =
    let empty : c.new-numbers.result ≡ [] = search rules in
    rw empty (numbers-init c.args.bytes.now c.args.vector.now.place c.args.vector.now.count)

pub returns-in_default : goal.returns-in_default
returns-in_default c =
    let none : signed_at w32 c.args.bytes.now (c.args.vector.now.place + 4 * c.loop-k.k) ≡ None = search rules in
    sym (numbers-none c.args.bytes.now c.args.vector.now.place c.args.vector.now.count c.loop-k.numbers c.loop-k.k c.loop-k-test.true none
    c.loop-k.invariant)

pub loop-k-preserved : goal.loop-k-preserved
loop-k-preserved c =
    let is : signed_at w32 c.args.bytes.now (c.args.vector.now.place + 4 * c.loop-k.k) ≡ Some c.in-Some.number = search rules in
    let pushed : c.push.new.self ≡ c.loop-k.numbers ++ c.in-Some.number ∷ [] = search rules in
    rw pushed (numbers-next c.args.bytes.now c.args.vector.now.place c.args.vector.now.count c.loop-k.numbers c.in-Some.number c.loop-k.k is
    c.loop-k.invariant)

pub returns : goal.returns
returns c = sym (numbers-done c.args.bytes.now c.args.vector.now.place c.args.vector.now.count c.loop-k.numbers c.loop-k.k (omega arith)
    c.loop-k.invariant)
