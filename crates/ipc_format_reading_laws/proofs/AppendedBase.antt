-- What is kept of a file to which batches may be appended: its parts, and where its last message ends.
use Rattle.std.proofs.Common.{◌≡◌, ℕ, ◌≤◌, Bool, true, false, not, List, [], ◌++◌, length, map, refl, ap, subst, arith}
use Rattle.std.proofs.Common.{nat_le, nat_lt}
use Rattle.std.specs.Prelude.{Option, Some, None, is_none, if◌then◌else◌}
use Rattle.std.specs.List.{list_any}
use Rattle.std.specs.Int.{w32}
use Rattle.std.proofs.lemmas.Bool.{ltb-false}
use Rattle.std.proofs.lemmas.List.{map-append}
use Rattle.ipc_format_laws.specs.flatbuffers.Reading.{window_at}
use Rattle.ipc_format_laws.specs.flatbuffers.FlatBuffers.{TablePlace, number_at, reference_at, root_of}
use Rattle.ipc_format_laws.specs.grammar.Limits.{most_dictionaries}
use Rattle.ipc_format_laws.specs.grammar.Messages.{Header}
use Rattle.ipc_format_laws.specs.grammar.Schemas.{SchemaIn}
use Rattle.ipc_format_laws.specs.grammar.SchemaGrammar.{schema_in}
use Rattle.ipc_format_laws.specs.grammar.Columns.{Dictionary}
use Rattle.ipc_format_laws.specs.grammar.Dictionaries.{Entry}
use Rattle.ipc_format_laws.specs.grammar.Files as read
use Rattle.ipc_format_laws.specs.grammar.Files.{Footer, footer_in, entries_at, is_dictionary, header_in}
use Rattle.ipc_format_laws.specs.grammar.Tables.{layout_of}
use Rattle.ipc_format_laws.specs.grammar.AppendedFiles.{is_negative, kept_block, greatest_end, is_empty, append_bar, AppendBar, big_endian}
use Rattle.ipc_format_laws.specs.grammar.AppendedFiles.{no_record_batch, negative_body, block_past_end}
use Rattle.ipc_format_laws.specs.grammar.AppendedFiles.{standing_behind, as_told, Base, base_of, base_end}
use Rattle.ipc_format_laws.proofs.Firsts.{came_of, same_value}
use Rattle.ipc_format_laws.proofs.StreamReaders.{passed}
use Rattle.ipc_format_reading_laws.proofs.AppendedBytes.{window_inside}

-- ---- nothing bars it

not_barred : (test : Bool) (bar : AppendBar) (rest : Option AppendBar) → (if test then Some bar else rest) ≡ None → (test ≡ false) × (rest ≡ None)
not_barred true bar rest e = absurd cc
not_barred false bar rest e = (refl, e)

was_not : (test : Bool) → not test ≡ false → test ≡ true
was_not true e = refl
was_not false e = absurd cc

-- what is known of a file that nothing bars
record MayGrow (is_little_endian : Bool) (size : ℕ) (dictionaries record_batches : List read.Block) : Type 0 where
  little : is_little_endian ≡ true
  some : is_empty record_batches ≡ false
  inside : greatest_end (map kept_block (dictionaries ++ record_batches)) ≤ size

may_grow : (is_little_endian : Bool) (size : ℕ) (dictionaries record_batches : List read.Block)
    → append_bar is_little_endian size dictionaries record_batches ≡ None → MayGrow is_little_endian size dictionaries record_batches
unfolding append_bar
may_grow is_little_endian size dictionaries record_batches e =
    let blocks = dictionaries ++ record_batches in
    let end = greatest_end (map kept_block blocks) in
    let order = not_barred (not is_little_endian) big_endian _ e in
    let batches = not_barred (is_empty record_batches) no_record_batch _ order.1 in
    let bodies = not_barred (list_any (λ (block : read.Block). is_negative block.body_length) blocks) negative_body _ batches.1 in
    let past = not_barred (nat_lt size end) block_past_end None bodies.1 in
    record { little = was_not is_little_endian order.0; some = batches.0; inside = omega (arith, ltb-false size end past.0) }

none_of : (bar : Option AppendBar) → is_none bar ≡ true → bar ≡ None
none_of None e = refl
none_of (Some bar) e = absurd cc

-- the parts of what is kept
pub record IsBase (bytes : List ℕ) (base : Base) : Type 0 where
  pub footer : Footer
  pub has_footer : footer_in bytes ≡ Some footer
  pub its_schema : schema_in footer.bytes footer.schema ≡ Some base.found
  pub little : base.found.is_little_endian ≡ true
  pub some : is_empty footer.record_batches ≡ false
  pub inside : base_end base ≤ length bytes
  pub entries : List Entry
  pub has_entries : entries_at is_dictionary bytes footer.dictionaries ≡ Some entries
  pub standing : List Dictionary
  pub stands : standing_behind (layout_of base.found) [] entries ≡ Some standing
  pub dictionaries : base.dictionaries ≡ map kept_block footer.dictionaries
  pub record_batches : base.record_batches ≡ map kept_block footer.record_batches
  pub told : base.told ≡ map as_told standing

pub is_base : (bytes : List ℕ) (base : Base) → base_of bytes ≡ Some base → IsBase bytes base
unfolding base_of
is_base bytes base e =
    let footer = came_of {A = Footer} (footer_in bytes) _ base e in
    let found = came_of {A = SchemaIn} (schema_in footer.0.bytes footer.0.schema) _ base footer.2 in
    let bar = append_bar found.0.is_little_endian (length bytes) footer.0.dictionaries footer.0.record_batches in
    let free = passed (is_none bar) _ base found.2 in
    let few = passed (nat_le (length footer.0.dictionaries) most_dictionaries) _ base free.1 in
    let entries = came_of {A = List Entry} (entries_at is_dictionary bytes footer.0.dictionaries) _ base few.1 in
    let standing = came_of {A = List Dictionary} (standing_behind (layout_of found.0) [] entries.0) _ base entries.2 in
    let grows = may_grow found.0.is_little_endian (length bytes) footer.0.dictionaries footer.0.record_batches (none_of bar free.0) in
    let its : Base = record {
      found = found.0;
      dictionaries = map kept_block footer.0.dictionaries;
      record_batches = map kept_block footer.0.record_batches;
      told = map as_told standing.0;
    } in
    let whole : IsBase bytes its = record {
      footer = footer.0;
      has_footer = footer.1;
      its_schema = found.1;
      little = grows.little;
      some = grows.some;
      inside = omega (arith, grows.inside, ap greatest_end (map-append kept_block footer.0.dictionaries footer.0.record_batches));
      entries = entries.0;
      has_entries = entries.1;
      standing = standing.0;
      stands = standing.1;
      dictionaries = refl;
      record_batches = refl;
      told = refl;
    } in
    subst (IsBase bytes) (same_value its base standing.2) whole

-- ---- where its messages stand

-- metadata with a header has at least the four bytes of its root's reference
pub header_long : (metadata : List ℕ) (header : Header) → header_in metadata ≡ Some header → 4 ≤ length metadata
unfolding header_in root_of reference_at number_at
header_long metadata header e =
    let root = came_of {A = TablePlace} (root_of metadata) _ header e in
    let target = came_of {A = ℕ} (reference_at metadata 0) _ root.0 root.1 in
    let distance = came_of {A = ℕ} (number_at w32 metadata 0) _ target.0 target.1 in
    let part = came_of {A = List ℕ} (window_at metadata 0 4) _ distance.0 distance.1 in
    omega (arith, (window_inside metadata 0 4 part.0 part.1).0)
