use Rattle.std.proofs.Common.{◌≡◌, drop, map}
use Rattle.columnar_memory_types.specs.Texts.{are_true, has_texts}
use Rattle.columnar_memory_types.proofs.whole.+wholeness.Given as goal

-- the fields that were passed have texts
abbrev pub invariant-whole_fields-loop-field : goal.invariant-whole_fields-loop-field
invariant-whole_fields-loop-field l = are_true (map has_texts l.fields) ≡ are_true (map has_texts (drop l.field-index l.fields))
