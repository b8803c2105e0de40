-- What the readers by address answer where bytes spell an object.
use Rattle.std.proofs.Common.{◌≡◌, ℕ, ◌+◌, ◌*◌, ◌≤◌, ℤ, length, refl, ap, ◌∙◌, to_z-of_z}
use Rattle.std.specs.Prelude.{Some, FitsSigned}
use Rattle.std.specs.Int.{Width, byte_len, cast_signed, cast_unsigned}
use Rattle.ipc_format_grammar.specs.flatbuffers.FlatBuffers.{number_field, signed_field, signed_at, truth_field, table_field, reference_field, vector_field}
use Rattle.ipc_format_grammar.specs.flatbuffers.FlatBuffers.{string_field, element_at, root_of}
use Rattle.ipc_format_laws.specs.Answers.{AbsentReads, NumbersRead, TruthsRead, TablesRead, ReferencesRead, ElementsRead, TextsRead, EachRead}
use Rattle.ipc_format_laws.specs.Answers.{RootsRead}

pub absent_reads : AbsentReads
unfolding number_field signed_field truth_field table_field reference_field vector_field string_field
absent_reads bytes found slot h = record {
  number = λ (w : Width) (absent : ℕ). rw (h.is_absent (byte_len w)) refl;
  signed = λ (w : Width) (absent : ℤ). rw (h.is_absent (byte_len w)) refl;
  truth = rw (h.is_absent 1) refl;
  reference = rw (h.is_absent 4) refl;
  table = rw (h.is_absent 4) refl;
  vector = λ (width : ℕ). rw (h.is_absent 4) refl;
  string = rw (h.is_absent 4) refl;
}

pub numbers_read : NumbersRead
unfolding number_field signed_field signed_at
numbers_read bytes found slot w n h = record {
  number = λ (absent : ℕ). rw (h.stands, h.holds) refl;
  signed = λ (absent : ℤ). rw (h.stands, h.holds) refl;
  value = λ (absent z : ℤ) (fits : FitsSigned w z) (e : n ≡ cast_unsigned w z). rw (h.stands, h.holds)
      (ap Some (ap (cast_signed w) e ∙ to_z-of_z fits));
}

pub truths_read : TruthsRead
unfolding number_field truth_field
truths_read bytes found slot n h = rw (h.stands, h.holds) refl

pub tables_read : TablesRead
unfolding table_field
tables_read bytes found slot fields h = record { child = h.target.found; table = rw (h.stands, h.target.stands) refl; slots = h.target.slots }

pub references_read : ReferencesRead
unfolding vector_field
references_read bytes found slot objects h = record {
  child = h.target.found;
  vector = rw (h.stands, h.target.stands) refl;
  count_is =
      h.target.count_is;
  each = h.target.each;
}

pub elements_read : ElementsRead
unfolding vector_field
elements_read bytes found slot count content h = record {
  place = h.place + 4;
  vector = λ (width : ℕ) (enough : count * width ≤ length content). rw (h.stands, h.target.stands width enough) refl;
  holds = h.target.holds;
}

pub texts_read : TextsRead
unfolding string_field
texts_read bytes found slot content h = rw (h.stands, h.target) refl

pub each_read : EachRead
unfolding element_at
each_read bytes found k fields h = record { child = h.target.found; table = rw (h.stands, h.target.stands) refl; slots = h.target.slots }

pub roots_read : RootsRead
unfolding root_of
roots_read bytes fields h = record { child = h.spelled.found; table = rw (h.stands, h.spelled.stands) refl; slots = h.spelled.slots }
