-- A field reads back in its one form where its type does.
use Rattle.std.proofs.Common.{◌≡◌, ℕ, ◌+◌, ◌≤◌, ◌<◌, ◌^◌, ℤ, Bool, true, false, ◌&&◌, cond, List, [], ◌∷◌, ◌++◌, refl, sym, ap, subst, ◌∙◌, arith}
use Rattle.std.specs.Prelude.{Option, Some, None, is_some, nat_eq}
use Rattle.std.specs.Int.{w8}
use Rattle.std.specs.Str.{is_utf8, chars}
use lib.Utf8.{encode as encode_characters}
use Rattle.std.specs.Cmp.Lexicographic.{pointwise}
use denote.Hole.Carrier
use Rattle.ipc_format_grammar.specs.flatbuffers.Objects.{Object, references, text, no_field, number_then, refers_then}
use Rattle.ipc_format_laws.specs.Theorem.{Fits, FitsObjects, FitsTable}
use Rattle.ipc_format_grammar.specs.columnar_memory.declared.DataType.{DataType}
use Rattle.ipc_format_grammar.specs.columnar_memory.declared.DataType.TheOpen as layer
use Rattle.ipc_format_grammar.specs.columnar_memory.declared.DataType.TheViews.{roll-DataType, out-DataType, out-roll-DataType}
use Rattle.ipc_format_grammar.specs.columnar_memory.declared.IntegerType.{IntegerType}
use Rattle.ipc_format_grammar.specs.Schemas.{IdsList, ids, FieldIn, extension_name_key, extension_metadata_key}
use Rattle.ipc_format_grammar.specs.SchemaObjects.{Told, truth, refers_if, metadata_object, extension_pairs, written_pairs, encoding_object}
use Rattle.ipc_format_grammar.specs.SchemaObjects.{field_table, told_field_step}
use Rattle.ipc_format_grammar.specs.Writable.{Report, field_step, normalised_step, normalised_pairs, with_extension_of, with_extension_under}
use Rattle.ipc_format_grammar.specs.Writable.{without_key}
use Rattle.ipc_format_laws.specs.Schemas.{IdsTold, FitsId, id_if, ids_field_step, texts_field_step, are_texts, is_ascending}
use Rattle.ipc_format_laws.proofs.FieldSteps.{FieldReads, encode, extend, id_read, read_pairs, field_read, field_reads}
use Rattle.ipc_format_laws.proofs.SchemaParts.{FitsExtension, tables_in, tables_among, tables_if, refers_fit, encoding_fits, metadata_fits}
use Rattle.ipc_format_laws.proofs.SchemaParts.{truth_small, both}
use Rattle.ipc_format_laws.proofs.SchemaSteps.{TypeClaim, FieldClaim}
use Rattle.ipc_format_laws.proofs.Ordered.{with_pairs_of, others_of, pairs_are, extension_is}

-- ---- its metadata

of_extension : (told : Option (List ℕ × Option (List ℕ))) (stripped : DataType) (ws : List (List ℕ × List ℕ))
    → with_extension_of ws (out-DataType stripped) ≡ ws → with_extension_of ws (out-DataType (extend told stripped)) ≡ with_pairs_of told ws
unfolding roll-DataType denote.Hole.Carrier.roll
of_extension None stripped ws plain = plain
of_extension (Some (name, metadata)) stripped ws plain = ap (with_extension_of ws) (out-roll-DataType (layer.Extension name stripped metadata))

under_extension : (told : Option (List ℕ × Option (List ℕ))) (stripped : DataType) (ws : List (List ℕ × List ℕ))
    → with_extension_under ws (out-DataType stripped) ≡ ws → with_extension_under ws (out-DataType (extend told stripped)) ≡ with_pairs_of told ws
unfolding roll-DataType denote.Hole.Carrier.roll
under_extension None stripped ws plain = plain
under_extension (Some (name, metadata)) stripped ws plain = ap (with_extension_under ws)
    (out-roll-DataType (layer.Extension name stripped metadata))

under_all : (dictionary : Option (IntegerType × Bool)) (told : Option (List ℕ × Option (List ℕ))) (stripped : DataType)
    (ws : List (List ℕ × List ℕ))
    → with_extension_of ws (out-DataType stripped) ≡ ws → with_extension_under ws (out-DataType stripped) ≡ ws
    → with_extension_under ws (out-DataType (encode dictionary (extend told stripped))) ≡ with_pairs_of told ws
unfolding roll-DataType denote.Hole.Carrier.roll
under_all None told stripped ws plain under = under_extension told stripped ws under
under_all (Some (key, is_ordered)) told stripped ws plain under =
    ap (with_extension_under ws) (out-roll-DataType (layer.Dictionary key (extend told stripped) is_ordered)) ∙ of_extension told stripped ws plain

ids_are : (dictionary : Option (IntegerType × Bool)) (is_encoded : Bool) (id : Option ℤ) → is_encoded ≡ is_some dictionary
    → id_read dictionary id ≡ id_if is_encoded id
ids_are None is_encoded id e = rw e refl
ids_are (Some encoding) is_encoded None e = rw e refl
ids_are (Some encoding) is_encoded (Some id) e = rw e refl

-- ---- its texts

texts_removed : (key : List ℕ) (pairs : List (List ℕ × List ℕ)) → are_texts pairs ≡ true → are_texts (without_key key pairs) ≡ true
texts_removed key [] e = refl
texts_removed key (pair ∷ pairs) e =
    let parts = both (is_utf8 pair.0 && is_utf8 pair.1) (are_texts pairs) e in
    by (pointwise nat_eq key pair.0) parts.0 parts.1 (texts_removed key pairs parts.1)
  where
    by : (b : Bool) → (is_utf8 pair.0 && is_utf8 pair.1) ≡ true → are_texts pairs ≡ true → are_texts (without_key key pairs) ≡ true → are_texts
        (cond b pairs (pair ∷ without_key key pairs)) ≡ true
    by true here whole rest = whole
    by false here whole rest = rw (here, rest) refl

name_is_text : is_utf8 extension_name_key ≡ true
unfolding is_utf8 chars encode_characters
name_is_text = refl

metadata_is_text : is_utf8 extension_metadata_key ≡ true
unfolding is_utf8 chars encode_characters
metadata_is_text = refl

texts_written : (told : Option (List ℕ × Option (List ℕ))) (pairs : List (List ℕ × List ℕ)) → FitsExtension told → are_texts pairs ≡ true
    → are_texts (written_pairs told pairs) ≡ true
texts_written told pairs fit e = by told fit (texts_removed extension_metadata_key (without_key extension_name_key pairs)
    (texts_removed extension_name_key pairs e))
  where
    by : (t : Option (List ℕ × Option (List ℕ))) → FitsExtension t → are_texts (others_of pairs) ≡ true → are_texts
        (extension_pairs t ++ others_of pairs) ≡ true
    by None f others = others
    by (Some (name, None)) f others = rw (name_is_text, f.0, others) refl
    by (Some (name, Some metadata)) f others = rw (metadata_is_text, f.1, name_is_text, f.0, others) refl

-- ---- its table

table_small : (name : List ℕ) (b tag : ℕ) (type_table : Object) (encoding : Option Object) (children : Object) (metadata : Option Object)
    → FitsTable (refers_then (text name) (number_then w8 b (number_then w8 tag
    (refers_then type_table (refers_if encoding (refers_then children (refers_if metadata no_field)))))))
table_small name b tag type_table None children None = record { vtable_size = omega arith; table_size = omega arith }
table_small name b tag type_table None children (Some metadata) = record { vtable_size = omega arith; table_size = omega arith }
table_small name b tag type_table (Some encoding) children None = record { vtable_size = omega arith; table_size = omega arith }
table_small name b tag type_table (Some encoding) children (Some metadata) = record { vtable_size = omega arith; table_size = omega arith }

field_fits : (name : List ℕ) (is_nullable : Bool) (pairs : List (List ℕ × List ℕ)) (told : Told) (id : Option ℤ) → is_utf8 name ≡ true
    → are_texts (written_pairs told.extension pairs) ≡ true → FitsId id → told.tag < 2 ^ 8 → Fits told.type_table → FitsObjects told.children
    → Fits (field_table name is_nullable pairs told id)
field_fits name is_nullable pairs told id is_text texts fit-id small fits children = record {
  here = table_small name (truth is_nullable) told.tag told.type_table (encoding_object told.dictionary id) (references told.children)
      (metadata_object (written_pairs told.extension pairs));
  rest = record {
    here = is_text;
    rest = record {
      here = truth_small is_nullable;
      rest = record {
        here = small;
        rest = record {
          here = fits;
          rest =
              refers_fit (encoding_object told.dictionary id) (refers_then (references told.children)
              (refers_if (metadata_object (written_pairs told.extension pairs)) no_field)) (encoding_fits told.dictionary id fit-id)
              (record {
                here = children;
                rest = refers_fit (metadata_object (written_pairs told.extension pairs)) no_field
                    (metadata_fits (written_pairs told.extension pairs) texts) tt;
              });
        };
      };
    };
  };
}

field_few : (name : List ℕ) (is_nullable : Bool) (pairs : List (List ℕ × List ℕ)) (told : Told) (id : Option ℤ) (visits : ℕ)
    → visits ≤ tables_among told.children → visits + 1 ≤ tables_in (field_table name is_nullable pairs told id)
field_few name is_nullable pairs told id visits few =
    omega (
      arith,
      tables_if (encoding_object told.dictionary id) (refers_then (references told.children)
          (refers_if (metadata_object (written_pairs told.extension pairs)) no_field)),
    )

-- ---- the field

pub field_claim : (name : List ℕ) (is_nullable : Bool) (pairs : List (List ℕ × List ℕ)) (told : IdsList → Told) (normal : DataType)
    (report : Report) (its_ids : IdsTold) (texts : Bool)
    → TypeClaim told normal report its_ids texts
    → FieldClaim (told_field_step (record { name = name; data_type = told; is_nullable = is_nullable; metadata = pairs }))
    (normalised_step (record { name = name; data_type = normal; is_nullable = is_nullable; metadata = pairs }))
    (field_step (record { name = name; data_type = report; is_nullable = is_nullable; metadata = pairs }))
    (ids_field_step (record { name = name; data_type = its_ids; is_nullable = is_nullable; metadata = pairs }))
    (texts_field_step (record { name = name; data_type = texts; is_nullable = is_nullable; metadata = pairs }))
unfolding roll-DataType denote.Hole.Carrier.roll
field_claim name is_nullable pairs told normal report its_ids texts claim allowed has_texts (ids id below) fit =
    let third = both (is_utf8 name && are_texts pairs && is_ascending pairs) texts has_texts in
    let second = both (is_utf8 name && are_texts pairs) (is_ascending pairs) third.0 in
    let first = both (is_utf8 name) (are_texts pairs) second.0 in
    let h = claim allowed third.1 below fit.1 in
    let t = told below in
    let pairs-are : read_pairs t.extension pairs ≡ normalised_pairs normal pairs =
    pairs_are t.extension pairs second.1 ∙ sym (ap (λ (d : DataType). with_extension_under (others_of pairs) (out-DataType d)) h.whole
    ∙ under_all t.dictionary t.extension h.stripped (others_of pairs) (h.plain_of (others_of pairs)) (h.plain_under (others_of pairs))) in
    let made : DataType → List (List ℕ × List ℕ) → Option ℤ → FieldIn = λ (d : DataType) (ps : List (List ℕ × List ℕ)) (i : Option ℤ).
    record { field = record { name = name; data_type = d; is_nullable = is_nullable; metadata = ps }; ids = ids i (its_ids.below below) } in
    let result : field_read name is_nullable pairs t id h.stripped (its_ids.below below) ≡ made normal (normalised_pairs normal pairs)
    (id_if its_ids.is_encoded id) =
    ap (λ (d : DataType). made d (read_pairs t.extension pairs) (id_read t.dictionary id)) (sym h.whole)
    ∙ ap (λ (ps : List (List ℕ × List ℕ)). made normal ps (id_read t.dictionary id)) pairs-are
    ∙ ap (λ (i : Option ℤ). made normal (normalised_pairs normal pairs) i) (ids_are t.dictionary its_ids.is_encoded id h.encoded_is) in
    let read = field_reads name is_nullable pairs t id h.stripped (its_ids.below below) report.levels h.visits fit.0
    (extension_is t.extension pairs h.stripped second.1) h.reads in
    record {
      visits = h.visits + 1;
      reads = subst (λ (r : FieldIn). FieldReads (field_table name is_nullable pairs t id) r (report.levels + 1) (h.visits + 1)) result read;
      fits = field_fits name is_nullable pairs t id first.0
          (texts_written t.extension pairs h.extension_fits first.1) fit.0 h.tag_fits h.table_fits h.children_fit;
      few = field_few name is_nullable pairs t id h.visits h.few;
    }
