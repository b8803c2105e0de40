use Rattle.std.proofs.Common.{◌≡◌, ◌∙◌, ◌≤◌, sym, arith}
use Rattle.columnar_memory_kernels.proofs.Chunks.{word_fits}
use Rattle.columnar_memory_kernels.proofs.InPlace.{none_written, step_behind, step_other, step_written, end_written}
use Rattle.columnar_memory_kernels.proofs.assign.assign_two.Goals as goal

pub loop-k-init : goal.loop-k-init
loop-k-init g c = record { callable = c.requires.callable; written = none_written _ _ _ _ }

pub from_word-left-requires : goal.from_word-left-requires
from_word-left-requires g c =
    let few : c.bits_of_word-n.result ≤ g.T.ChunkWidth.bits = omega (arith, c.bits_of_word-n.ensures.few, c.bits-width.ensures) in
    word_fits c.loop-k.bytes _ c.bits_of_word-n.result g.T.ChunkWidth.bits c.load_word.result few c.load_word.ensures

pub from_word-right-requires : goal.from_word-right-requires
from_word-right-requires g c =
    let few : c.bits_of_word-n.result ≤ g.T.ChunkWidth.bits = omega (arith, c.bits_of_word-n.ensures.few, c.bits-width.ensures) in
    word_fits c.args.other.now _ c.bits_of_word-n.result g.T.ChunkWidth.bits c.load_word-in-loop-k.result few c.load_word-in-loop-k.ensures

pub loop-k-preserved : goal.loop-k-preserved
loop-k-preserved g c =
    let n = c.bits_of_word-n.result in
    let left = step_behind g.T.ChunkWidth.bits c.bits-width.result c.args.len c.loop-k.k n c.bits-width.ensures c.bits_of_word-n.ensures.few
    c.bits_of_word-n.ensures.most _ _ _ c.load_word.result c.loop-k.invariant.written c.bits_of_word-n.ensures.within c.load_word.ensures in
    let right = step_other g.T.ChunkWidth.bits c.bits-width.result c.args.len c.loop-k.k n c.bits-width.ensures c.bits_of_word-n.ensures.few
    c.bits_of_word-n.ensures.most c.args.other.now c.args.offset c.load_word-in-loop-k.result c.bits_of_word-n.ensures.within
    c.load_word-in-loop-k.ensures in
    record {
      callable = c.loop-k.invariant.callable;
      written = step_written g.T.ChunkWidth.bits c.bits-width.result c.args.len c.loop-k.k n c.bits-width.ensures c.bits_of_word-n.ensures.few
          c.bits_of_word-n.ensures.most _ c.to_word.result _ _ _ c.loop-k.invariant.written record {
            left = c.from_word-left.result;
            right = c.from_word-right.result;
            result = c.op-answer.result;
            left_is = c.from_word-left.ensures ∙ left;
            right_is = c.from_word-right.ensures ∙ right;
            result_is = sym c.to_word.ensures;
            answers = c.op-answer.ensures;
          } c.write_word.ensures;
    }

pub returns : goal.returns
returns g c =
    let last : c.loop-k.k ≡ c.div_ceil-k-end.result = omega arith in
    end_written g.T.ChunkWidth.bits c.bits-width.result c.args.len c.loop-k.k c.div_ceil-k-end.result _ _ _ c.bits-width.ensures
    g.met.T.ChunkWidth.some c.div_ceil-k-end.ensures last c.loop-k.invariant.written
