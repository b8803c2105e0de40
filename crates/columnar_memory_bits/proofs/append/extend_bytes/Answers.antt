use Rattle.std.proofs.Common.{◌≡◌, ◌++◌, ◌*◌, ◌+◌, ◌-◌, ◌/◌, ℕ, Bool, ap, arith, rules, refl, take, drop, length, vec_len}
use Rattle.columnar_memory_bits.specs.Bits.{bit_at, bytes_for}
use Rattle.columnar_memory_bits.specs.Appends.{KeepsBits}
use Rattle.columnar_memory_bits.proofs.Appends.{appends_at}
use Rattle.columnar_memory_bits.proofs.LastBytes.{extends_cut}
use Rattle.columnar_memory_bits.proofs.append.extend_bytes.Goals as goal

pub returns-clause-added : goal.returns-clause-added
returns-clause-added c =
    let old = c.args.to.now.items in
    let mid = c.extend_from_slice.new.self.items in
    let new = c.cut_bits.new.to.items in
    let bytes = c.args.bytes.now in
    let begin = c.args.offset / 8 in
    let part = take (begin + bytes_for c.args.len - begin) (drop begin bytes) in
    let grown : mid ≡ old ++ part = search rules in
    let size : begin + bytes_for c.args.len - begin ≡ bytes_for c.args.len = omega arith in
    let count : 8 * length old ≡ 8 * vec_len c.args.to.now = search rules in
    let whole : 8 * c.len-held.result + c.args.len ≡ 8 * length old + c.args.len = omega arith in
    let kept : KeepsBits mid new (8 * length old + c.args.len) = rw whole at c.cut_bits.ensures in
    let f : ℕ → Bool = λ i. bit_at bytes (c.args.offset + i) in
    appends_at old new f (8 * length old) (8 * vec_len c.args.to.now) c.args.len c.args.len count refl
    (extends_cut old mid new part bytes c.args.offset c.args.len grown (ap (λ n. take n (drop begin bytes)) size) c.requires.whole kept)
