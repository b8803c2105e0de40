use Rattle.std.proofs.Common.{◌≡◌, ◌∙◌, [], ◌+◌, ◌-◌, ◌/◌, ◌^◌, ◌<◌, length, ap, sym, arith, rules}
use Rattle.std.specs.Int.{w64, trailing_zeros}
use Rattle.columnar_memory_bitmap.specs.bits.Words.{set_places}
use Rattle.columnar_memory_bitmap.proofs.bits_lemmas.Places.{places_next, places_end, places_zero, places_none}
use Rattle.columnar_memory_kernels.proofs.bit_chunk_iter.BitChunkOnesIterator.next.Goals as goal
use Rattle.columnar_memory_kernels.proofs.bit_chunk_iter.BitChunkOnesIterator.next.Goals.{then-left-eq0-via-then-left-eq0}
use Rattle.columnar_memory_kernels.proofs.bit_chunk_iter.BitChunkOnesIterator.next.Goals.{then-left-eq0-via-else-left-eq0+then-place-self}

pub returns-then-left-eq0-clause-steps : goal.returns-then-left-eq0-clause-steps
returns-then-left-eq0-clause-steps g c =
    let it = c.self.inside in
    let none : set_places it.word it.start (it.end - it.start) ≡ [] = elim c.then-left-eq0.branch [
      | then-left-eq0-via-then-left-eq0 w ↦ places_zero it.word it.start (it.end - it.start) w.if-left-eq0.true
      | then-left-eq0-via-else-left-eq0+then-place-self w ↦
          places_end it.word it.start it.end (omega arith) (omega (arith, w.if-left-eq0.false)) (omega (arith, w.if-place-self.true))
    ] in
    (sym c.self.view_is ∙ none, places_none it.word it.end (it.end - it.end) (λ i h. absurd (omega arith)))

pub returns-clause-steps : goal.returns-clause-steps
returns-clause-steps g c =
    let it = c.self.inside in
    sym c.self.view_is ∙ places_next it.word it.start it.end (omega arith) (omega (arith, c.if-left-eq0.false)) (omega (arith, c.if-place-self.false))

pub returns-clause-goes : goal.returns-clause-goes
returns-clause-goes g c =
    let it = c.self.inside in
    let place = it.start + trailing_zeros w64 (it.word / 2 ^ it.start) in
    let step = sym c.self.view_is ∙ places_next it.word it.start it.end (omega arith) (omega (arith, c.if-left-eq0.false)) (omega (
      arith,
      c.if-place-self.false,
    )) in
    let shorter : length (set_places it.word (place + 1) (it.end - (place + 1))) < length c.args.self.now = omega (arith, ap length step) in
    search rules
