use Rattle.std.proofs.Common.{◌≡◌, ◌∙◌, ◌+◌, ◌++◌, ◌∷◌, [], ◌<◌, arith, length, map, sym, ap, subst}
use Rattle.std.specs.Vec.{vec_capacity, vec_len}
use Rattle.std.specs.Slice.Iter.{chunks_exact_rest}
use Rattle.ipc_format_column_bytes.specs.streams.columnar_memory.Numbers.{numbers_in}
use Rattle.ipc_format_column_bytes.specs.streams.columnar_memory.Windows.{window}
use Rattle.ipc_format_column_bytes.specs.streams.grammar.Values.{element_bytes}
use Rattle.ipc_format_column_reading.proofs.Decoding.{decoded_all, decoded_next, elements, kind_size_positive, room_left}
use Rattle.ipc_format_column_reading.proofs.read_basic.decoded.Goals as goal
use Rattle.ipc_format_column_reading.proofs.read_basic.decoded.Goals.{then-is_little_endian, else-is_little_endian}

pub push_reserved-requires : goal.push_reserved-requires
push_reserved-requires g c =
    let size = g.T.NativeType.SIZE in
    let steps = c.in-Some.ensures.steps in
    let kept = c.loop-chunk.invariant in
    let some : 0 < size = subst (λ n. 0 < n) (sym g.met.T.NativeType.size_law) (kind_size_positive g.T.NativeType.PRIMITIVE) in
    room_left size kept.0 (vec_len c.loop-chunk.values) (vec_capacity c.loop-chunk.values) c.in-Some.chunk.now
    (chunks_exact_rest c.loop-chunk.chunk-iterator) (chunks_exact_rest c.next.new.self) some steps.1.0 (steps.1.1 ∙ kept.1) kept.2 kept.3

pub loop-chunk-preserved : goal.loop-chunk-preserved
loop-chunk-preserved g c =
    let kind = g.T.NativeType.PRIMITIVE in
    let size = g.T.NativeType.SIZE in
    let f = numbers_in kind c.args.is_little_endian in
    let numbers = g.T.NativeType.numbers in
    let values = c.loop-chunk.values.items in
    let value = c.if-is_little_endian.value in
    let chunk = c.in-Some.chunk.now in
    let rest = chunks_exact_rest c.loop-chunk.chunk-iterator in
    let others = chunks_exact_rest c.next.new.self in
    let steps = c.in-Some.ensures.steps in
    let kept = c.loop-chunk.invariant in
    let some : 0 < size = subst (λ n. 0 < n) (sym g.met.T.NativeType.size_law) (kind_size_positive kind) in
    let spelled = c.bytes_from_slice-spelled.ensures in
    let is : numbers value ≡ numbers_in kind c.args.is_little_endian chunk =
    elim c.if-is_little_endian.branch [
      | then-is_little_endian w ↦ cc (w.value-is, w.from_le_bytes-value.ensures.value, w.if-is_little_endian.true, spelled)
      | else-is_little_endian w ↦ cc (w.value-is, w.from_be_bytes-value.ensures.value, w.if-is_little_endian.false, spelled)
    ] in
    let next = decoded_next f numbers size c.args.count kept.0 values value chunk rest others c.args.bytes.now some steps.1.0
    (steps.1.1 ∙ kept.1) is kept.2 kept.4 in
    let pushed : c.push_reserved.new.self.items ≡ values ++ value ∷ [] = c.push_reserved.ensures.items in
    let room : vec_len c.push_reserved.new.self + next.0 ≡ vec_capacity c.push_reserved.new.self =
    omega (arith, c.push_reserved.ensures.len, c.push_reserved.ensures.capacity, next.1, kept.3) in
    (next.0, steps.0 ∙ kept.1, next.2, room, ap (λ items. map numbers items ++ elements f size next.0 others) pushed ∙ next.3)

pub returns : goal.returns
returns g c =
    let kind = g.T.NativeType.PRIMITIVE in
    let size = g.T.NativeType.SIZE in
    let f = numbers_in kind c.args.is_little_endian in
    let rest = chunks_exact_rest c.loop-chunk.chunk-iterator in
    let kept = c.loop-chunk.invariant in
    let few : length rest < size = subst (λ n. length rest < n) kept.1 c.in-None.ensures.steps.1.0 in
    decoded_all f g.T.NativeType.numbers size c.args.count kept.0 c.loop-chunk.values.items rest c.args.bytes.now few kept.2 kept.4
    ∙ ap (λ n. window (λ i. f (element_bytes n c.args.bytes.now i)) 0 c.args.count) g.met.T.NativeType.size_law
