use Rattle.std.proofs.Common.{◌≡◌, ◌∙◌, ◌+◌, ◌≤◌, List, ℕ, ap, arith, length, sym}
use Rattle.nested_arrays_flat.specs.columnar_memory.Spans.{Spans, last_of, offsets_of}
use Rattle.nested_arrays_flat.specs.columns.Slots.{bytes}
use Rattle.nested_arrays_flat.specs.columns.StoredColumns.{string_at}
use Rattle.nested_arrays_flat.proofs.SoundStrings.{strings_len}
use Rattle.nested_arrays_parts.proofs.values.same_byte_strings.Goals as goal

pub same_spans-requires : goal.same_spans-requires
same_spans-requires g c =
    let spans : length c.offsets.result.now.lengths ≡ length c.args.left.now.offsets.lengths =
    ap (λ (s : Spans). length s.lengths) c.offsets.ensures in
    let other_spans : length c.offsets-2.result.now.lengths ≡ length c.args.right.now.offsets.lengths =
    ap (λ (s : Spans). length s.lengths) c.offsets-2.ensures in
    let last : last_of c.offsets.result.now ≡ last_of c.args.left.now.offsets = ap last_of c.offsets.ensures in
    let other_last : last_of c.offsets-2.result.now ≡ last_of c.args.right.now.offsets = ap last_of c.offsets-2.ensures in
    let bytes : length c.as_slice-bytes.result.now ≡ length c.args.left.now.bytes = ap length (c.as_slice-bytes.ensures ∙ c.values.ensures) in
    let other_bytes : length c.as_slice-other_bytes.result.now ≡ length c.args.right.now.bytes =
    ap length (c.as_slice-other_bytes.ensures ∙ c.values-2.ensures) in record {
      left_within = omega (arith, c.requires.left_within, spans, strings_len c.args.left.now);
      right_within = omega (arith, c.requires.right_within, other_spans, strings_len c.args.right.now);
      left_bytes = omega (arith, c.len-left.ensures.whole.within, last, bytes);
      right_bytes = omega (arith, c.len-right.ensures.whole.within, other_last, other_bytes);
    }

pub returns : goal.returns
returns g c =
    let i = c.args.i in
    let j = c.args.j in
    let stored = c.as_slice-bytes.ensures ∙ c.values.ensures in
    let other_stored = c.as_slice-other_bytes.ensures ∙ c.values-2.ensures in
    let injective : (a b : List ℕ) → bytes a ≡ bytes b → a ≡ b = λ a b h. cc in (
      λ is k h.
          ap bytes ((λ m. string_at (offsets_of (sym c.offsets.ensures m)) (sym stored m) (i + k)) ∙ c.same_spans.ensures.0 is k h
          ∙ (λ m. string_at (offsets_of (c.offsets-2.ensures m)) (other_stored m) (j + k))),
      λ same.
          c.same_spans.ensures.1 (λ k h.
          (λ m. string_at (offsets_of (c.offsets.ensures m)) (stored m) (i + k)) ∙ injective _ _ (same k h)
          ∙ (λ m. string_at (offsets_of (sym c.offsets-2.ensures m)) (sym other_stored m) (j + k))),
    )
