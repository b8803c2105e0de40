use Rattle.std.proofs.Common.{◌≡◌, ◌++◌, ◌*◌, rules, length, take, vec_len, refl}
use Rattle.std.specs.Int.{w64, to_le_bytes}
use Rattle.columnar_memory_bits.specs.Bits.{bit, bytes_for}
use Rattle.columnar_memory_bits.proofs.Appends.{appends_word, appends_at}
use Rattle.columnar_memory_bits.proofs.append.extend_word.Goals as goal

pub returns-clause-added : goal.returns-clause-added
returns-clause-added c =
    let old = c.args.to.now.items in
    let new = c.extend_from_slice.new.self.items in
    let grown : new ≡ old ++ take (bytes_for c.args.len) (to_le_bytes w64 c.args.word) = search rules in
    let count : 8 * length old ≡ 8 * vec_len c.args.to.now = search rules in
    appends_at old new (bit c.args.word) (8 * length old) (8 * vec_len c.args.to.now) c.args.len c.args.len count refl
    (appends_word old new c.args.word c.args.len c.requires.few c.requires.small grown)
