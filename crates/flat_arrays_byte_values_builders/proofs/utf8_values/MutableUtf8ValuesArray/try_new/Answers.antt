use Rattle.std.proofs.Common.{subst, sym, ◌∙◌}
use Rattle.std.specs.Prelude.{None}
use Rattle.flat_arrays_bytes.specs.ByteStrings.{byte_strings}
use Rattle.flat_arrays_bytes.specs.Fits.{Fits, text_layout}
use Rattle.flat_arrays_bytes.specs.Texts.{AllTexts}
use Rattle.flat_arrays_byte_values_builders.proofs.Growth.{values_of-trimmed}
use Rattle.flat_arrays_byte_values_builders.proofs.utf8_values.MutableUtf8ValuesArray.try_new.Goals as goal
use mathlib.Core.Bool.{true≢false}

pub returns-then-not-holds_texts : goal.returns-then-not-holds_texts
returns-then-not-holds_texts g c =
    let parts = byte_strings c.args.data_type c.args.offsets c.args.values.items None in (
      tt,
      (λ whole. absurd (true≢false (sym (c.holds_texts.ensures.1
          (subst AllTexts (sym (values_of-trimmed parts c.in_ok-builder.builder c.in_ok-builder.ensures.0 whole.0.within)) whole.1))
          ∙ c.if-not-holds_texts.true))),
    )

pub returns : goal.returns
returns g c =
    let parts = byte_strings c.args.data_type c.args.offsets c.args.values.items None in
    let fits : Fits (text_layout g.O.Offset.IS_LARGE) parts =
    subst (λ layout. Fits layout parts) c.text_layout_of-layout.ensures c.in_ok-builder.ensures.1 in (
      c.in_ok-builder.ensures.0,
      (
        fits,
        subst AllTexts (values_of-trimmed parts c.in_ok-builder.builder c.in_ok-builder.ensures.0 fits.within)
            (c.holds_texts.ensures.0 c.if-not-holds_texts.false),
      ),
    )
