use Rattle.std.proofs.Common.{◌≡◌, ◌∙◌, rules, sym}
use Rattle.std.specs.Prelude.{◌↔◌, IsTrue}
use Rattle.std.proofs.lemmas.Bool.{false≢true}
use Rattle.nested_arrays_parts.proofs.SameStrings.{as_long, same_bytes}
use Rattle.nested_arrays_parts.specs.Ranges.{bytes_between}
use Rattle.nested_arrays_parts.proofs.strings.same_spans.Goals as goal

pub returns-then-not-same_lengths : goal.returns-then-not-same_lengths
returns-then-not-same_lengths g c = (
  λ is. absurd (false≢true is),
  λ all. absurd (false≢true (sym c.if-not-same_lengths.true ∙ c.same_lengths.ensures.1
      (as_long c.args.left.now c.args.right.now c.args.bytes.now c.args.other_bytes.now c.args.i c.args.j c.args.count c.requires.left_within
      c.requires.right_within c.requires.left_bytes c.requires.right_bytes all))),
)

pub returns : goal.returns
returns g c =
    let same = same_bytes c.args.left.now c.args.right.now c.args.bytes.now c.args.other_bytes.now c.args.i c.args.j c.args.count
    c.requires.left_within c.requires.right_within c.requires.left_bytes c.requires.right_bytes
    (c.same_lengths.ensures.0 c.if-not-same_lengths.false) in
    let equal : IsTrue c.eq.result ↔ (c.window.result.now ≡ c.window-2.result.now) = search rules in (
      λ is. same.0 (sym c.window.ensures ∙ equal.0 is ∙ c.window-2.ensures),
      λ all. equal.1 (c.window.ensures ∙ same.1 all ∙ sym c.window-2.ensures),
    )
