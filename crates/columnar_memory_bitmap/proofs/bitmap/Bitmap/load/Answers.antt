use Rattle.std.proofs.Common.{◌≡◌, ℕ, ◌+◌, ◌<◌, ◌∙◌, sym, ap, arith, length, Vec, Global}
use Rattle.std.specs.Prelude.{Some, slice_get}
use Rattle.columnar_memory_bits.specs.Bits.{bit, bit_at, bits_of}
use Rattle.columnar_memory_bits.specs.Words.{word}
use Rattle.columnar_memory_bitmap.proofs.Lists.{length-window, slice_get-window}
use Rattle.columnar_memory_bitmap.proofs.SameWords.{bit-word-window}
use Rattle.columnar_memory_bitmap.proofs.bitmap.Bitmap.load.Goals as goal

pub returns : goal.returns
returns c =
    let b = c.self.inside in
    let bytes = b.bytes.value.items in
    let read : c.deref-2.result.now ≡ bytes = c.deref-2.ensures.value ∙ ap (λ (v : Vec ℕ Global). v.items) c.deref.ensures in
    let is : c.load_word.result ≡ word (bits_of bytes (b.offset + c.args.place) c.args.len) =
    c.load_word.ensures ∙ ap (λ xs. word (bits_of xs (b.offset + c.args.place) c.args.len)) read in
    let long : length c.args.self.now ≡ b.len = ap length (sym c.self.view_is) ∙ length-window (bit_at bytes) b.offset b.len in
    record {
      few = c.requires.few;
      within = c.requires.within;
      same = λ (k : ℕ) (inside : k < c.args.len).
          let place : b.offset + (c.args.place + k) ≡ b.offset + c.args.place + k = omega arith in
          ap (λ bits. slice_get bits (c.args.place + k)) (sym c.self.view_is)
          ∙ slice_get-window (bit_at bytes) b.offset b.len (c.args.place + k) (omega (arith, c.requires.within))
          ∙ ap Some (ap (bit_at bytes) place ∙ sym (ap (λ n. bit n k) is
          ∙ bit-word-window (bit_at bytes) (b.offset + c.args.place) c.args.len k inside));
    }
