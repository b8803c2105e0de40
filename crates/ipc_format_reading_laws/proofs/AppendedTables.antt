-- A file to which batches of stored columns were appended reads as its old table joined with their rows.
use Rattle.std.proofs.Common.{◌≡◌, ◌∙◌, ℕ, ◌+◌, ◌-◌, ◌<◌, ◌≤◌, ◌^◌, true, false, List, [], ◌∷◌, ◌++◌, length, map, take, replicate, refl, sym, ap}
use Rattle.std.proofs.Common.{subst, Bool, arith, append_assoc, length-append}
use Rattle.std.specs.Prelude.{Some}
use Rattle.std.specs.List.{All, list_all}
use Rattle.std.proofs.lemmas.Bool.{leb-true, ltb-true}
use Rattle.std.proofs.lemmas.Grind.{flat_map-append}
use Rattle.std.proofs.lemmas.List.{length-map, length-replicate, length-take-le, map-append}
use Rattle.std.proofs.lemmas.List.Elements.{All-head}
use Rattle.std.proofs.lemmas.Option.{same_Some}
use Rattle.ipc_format_laws.specs.columnar_memory.declared.Schema.{Schema}
use Rattle.ipc_format_laws.specs.columns.Slots.{Slot}
use Rattle.ipc_format_laws.specs.columns.StoredColumns.{Column}
use Rattle.ipc_format_laws.specs.columns.Tables.{Table, batch_rows, rows_of_batches}
use Rattle.ipc_format_laws.specs.grammar.Limits.{most_dictionaries, file_limit}
use Rattle.ipc_format_laws.specs.grammar.Messages.{Header, Version, version_in}
use Rattle.ipc_format_laws.specs.grammar.Writable.{is_writable, normalised, normalised_field}
use Rattle.ipc_format_laws.specs.grammar.Ids.{ids_fit_fields, all_are_ids}
use Rattle.ipc_format_laws.specs.grammar.Columns.{Dictionary}
use Rattle.ipc_format_laws.specs.grammar.Dictionaries.{Entry, Layout}
use Rattle.ipc_format_laws.specs.grammar.GivenDictionaries.{Given}
use Rattle.ipc_format_laws.specs.grammar.Framing.{Frame, frame_at}
use Rattle.ipc_format_laws.specs.grammar.Files as read
use Rattle.ipc_format_laws.specs.grammar.Files.{metadata_of, header_in, entry_at, entries_at, file_entries, is_dictionary, is_record_batch}
use Rattle.ipc_format_laws.specs.grammar.Tables.{file, layout_of, batches_of, table_of}
use Rattle.ipc_format_laws.specs.grammar.WrittenMessages.{fits_limit, end_mark}
use Rattle.ipc_format_laws.specs.grammar.WrittenStreams.{Batch, belongs, messages_after, bytes_of_messages, batch_of_stored, batches_written}
use Rattle.ipc_format_laws.specs.grammar.WrittenFiles.{WrittenBlock, Blocks, batch_blocks, is_footer, fits_file_limit, file_end, none_replaced}
use Rattle.ipc_format_laws.specs.grammar.WrittenFiles.{all_given}
use Rattle.ipc_format_laws.specs.grammar.AppendedFiles.{kept_block, is_empty, Base, base_of, base_end, base_start, appended_blocks}
use Rattle.ipc_format_laws.specs.grammar.AppendedFiles.{has_few_dictionaries, appended_footer, appended_messages, padding_to, appended_bytes, appended}
use Rattle.ipc_format_laws.specs.Footers.{block_read, FitBlocks, HasFooter}
use Rattle.ipc_format_laws.specs.Schemas.{HasTexts, ids_read}
use Rattle.ipc_format_laws.proofs.Firsts.{came_of, same_value}
use Rattle.ipc_format_laws.proofs.Places.{Stands}
use Rattle.ipc_format_laws.proofs.StreamReaders.{passed}
use Rattle.ipc_format_laws.proofs.Texts.{schemas_read_have_texts}
use Rattle.ipc_format_reading_laws.specs.AppendLaws.{AppendedFilesReadBack}
use Rattle.ipc_format_reading_laws.specs.StoredColumns.{StoredColumnsReadBack}
use Rattle.ipc_format_reading_laws.specs.StoredTables.{stored_chunks, read_batches, HoldsBatches}
use Rattle.ipc_format_reading_laws.proofs.AppendedBase.{IsBase, is_base, header_long}
use Rattle.ipc_format_reading_laws.proofs.AppendedBlocks.{kept_blocks_fit, fit_both}
use Rattle.ipc_format_reading_laws.proofs.AppendedEntries.{again, entry_more, moved_to, entries_more, standing_moved, standing_then}
use Rattle.ipc_format_reading_laws.proofs.AppendedEntries.{batches_moved}
use Rattle.ipc_format_reading_laws.proofs.AppendedFooters.{behind_base, begins_with_base, appended_footers}
use Rattle.ipc_format_reading_laws.proofs.AppendedIds.{schemas_read_have_ids}
use Rattle.ipc_format_reading_laws.proofs.AppendedNormal.{AreNormal, standing_normal, told_are_read}
use Rattle.ipc_format_reading_laws.proofs.AppendedOld.{came_as, entries_join, again_all, SameMessage, Old, old_of, read_in}
use Rattle.ipc_format_reading_laws.proofs.AppendedReads.{new_reads}
use Rattle.ipc_format_reading_laws.proofs.IsolatedBuffers.{Extends}
use Rattle.ipc_format_reading_laws.proofs.StoredGivenFits.{ids_are_read}
use Rattle.ipc_format_reading_laws.proofs.StoredGivenLists.{Each}
use Rattle.ipc_format_reading_laws.proofs.StoredGivenStanding.{as_read}
use Rattle.ipc_format_reading_laws.proofs.StoredTablesBatches.{IsBatch}
use Rattle.ipc_format_reading_laws.proofs.StoredTablesBelong.{batches_same, are_batches, all_bring_few}
use Rattle.ipc_format_reading_laws.proofs.StoredTablesBlocks.{BlocksRead, all_written, blocks_stand}
use Rattle.ipc_format_reading_laws.proofs.StoredTablesFiles.{rooms, entries_found, contents_found}
use Rattle.ipc_format_reading_laws.proofs.StoredTablesNormal.{normal_again}
use Rattle.ipc_format_reading_laws.proofs.StoredTablesOnce.{given_of_all, given_all}
use Rattle.ipc_format_reading_laws.proofs.StoredTablesStreams.{layout_with, holds_batches}

-- ---- what was asked

-- what is asked of batches that are appended
pub record WasAppended (bytes new : List ℕ) (base : Base) (batches : List (List Column)) (all : List Batch) : Type 0 where
  pub belong : list_all (belongs base.found.schema base.found.ids) (stored_chunks batches) ≡ true
  pub once : none_replaced base.told (all_given all) ≡ true
  pub fit : list_all fits_limit (messages_after base.told all) ≡ true
  pub few : length (appended_blocks base all).dictionaries ≤ most_dictionaries
  pub footer : is_footer (appended_footer base all) ≡ true
  pub short : length (appended_bytes base bytes all) < 2 ^ 63
  pub bytes_are : appended_bytes base bytes all ≡ new

pub was_appended : (bytes new : List ℕ) (base : Base) (batches : List (List Column)) → base_of bytes ≡ Some base
    → appended bytes (stored_chunks batches) ≡ Some new
    → WasAppended bytes new base batches (map (batch_of_stored base.found.ids) batches)
unfolding appended
was_appended bytes new base batches is e =
    let schema = base.found.schema in
    let below = base.found.ids in
    let chunks = stored_chunks batches in
    let written = batches_written schema below chunks in
    let rest = came_as {A = Base} (base_of bytes) _ base new is e in
    let belong = passed (list_all (belongs schema below) chunks) _ new rest in
    let once = passed (none_replaced base.told (all_given written)) _ new belong.1 in
    let fit = passed (list_all fits_limit (messages_after base.told written)) _ new once.1 in
    let few = passed (has_few_dictionaries (appended_blocks base written)) _ new fit.1 in
    let footer = passed (is_footer (appended_footer base written)) _ new few.1 in
    let short = passed (fits_file_limit (appended_bytes base bytes written)) _ new footer.1 in
    let its : WasAppended bytes new base batches written = record {
      belong = belong.0;
      once = once.0;
      fit = fit.0;
      few = leb-true (length (appended_blocks base written).dictionaries) most_dictionaries few.0;
      footer = footer.0;
      short = ltb-true (length (appended_bytes base bytes written)) file_limit short.0;
      bytes_are = same_Some (appended_bytes base bytes written) new short.1;
    } in
    subst (WasAppended bytes new base batches) (batches_same schema below batches) its

-- ---- the bytes

-- the new messages stand behind the file's own
new_messages_stand : (base : Base) (bytes : List ℕ) (batches : List Batch) → base_end base ≤ length bytes
    → Stands (appended_bytes base bytes batches) (base_start base) (bytes_of_messages (messages_after base.told batches))
unfolding appended_bytes appended_messages
new_messages_stand base bytes batches inside =
    let cut = take (base_end base) bytes in
    let zeros = replicate (base_start base - base_end base) 0 in
    let messages = bytes_of_messages (messages_after base.told batches) in
    let padding = padding_to (length bytes) (appended_messages base bytes batches) (file_end (appended_footer base batches)) in
    let behind = file_end (appended_footer base batches) in
    let before = cut ++ zeros in
    record {
      before = before;
      after = end_mark ++ padding ++ behind;
      whole = ap (λ (x : List ℕ). x ++ behind) (append_assoc (before ++ messages) end_mark padding)
          ∙ append_assoc (before ++ messages) (end_mark ++ padding) behind
          ∙ append_assoc before messages (end_mark ++ padding ++ behind);
      at = omega (
        arith,
        length-append cut zeros,
        length-take-le (base_end base) bytes inside,
        length-replicate {A = ℕ} (base_start base - base_end base) 0,
      );
    }

-- the new file is not shorter than the old one
not_shorter : (base : Base) (bytes : List ℕ) (batches : List Batch) → length bytes ≤ length (appended_bytes base bytes batches)
unfolding appended_bytes
not_shorter base bytes batches =
    let before = appended_messages base bytes batches in
    let behind = file_end (appended_footer base batches) in
    let padding = padding_to (length bytes) before behind in
    omega (
      arith,
      length-append (before ++ padding) behind,
      length-append before padding,
      length-replicate {A = ℕ} (length bytes - (length before + length behind)) 0,
    )

-- ---- where the file's last message ends

entry_long : (bytes : List ℕ) (block : read.Block) (entry : Entry) → entry_at is_record_batch bytes block ≡ Some entry → 4 ≤ length entry.metadata
unfolding entry_at
entry_long bytes block entry e =
    let frame = came_of {A = Frame} (frame_at bytes block.offset) _ entry e in
    let metadata = came_of {A = List ℕ} (metadata_of frame.0) _ entry frame.2 in
    let header = came_of {A = Header} (header_in metadata.0) _ entry metadata.2 in
    let test = passed (is_record_batch header.0) _ entry header.2 in
    let version = came_of {A = Version} (version_in metadata.0) _ entry test.1 in
    let found : Entry = record {
      metadata = metadata.0;
      header = header.0;
      version = version.0;
      room = bytes;
      origin = block.offset + block.metadata_length;
    } in
    subst (λ (its : Entry). 4 ≤ length its.metadata) (same_value found entry version.2) (header_long metadata.0 header.0 header.1)

end_long : (bytes : List ℕ) (end : ℕ) (blocks : List read.Block) (entries : List Entry) → is_empty blocks ≡ false → end ≤ length bytes
    → All (SameMessage end bytes) blocks → entries_at is_record_batch bytes blocks ≡ Some entries → 8 ≤ end
end_long bytes end [] entries some inside same e = absurd cc
end_long bytes end (block ∷ blocks) entries some inside same e =
    let first = came_of {A = Entry} (entry_at is_record_batch bytes block) _ entries e in
    let more = entry_more is_record_batch bytes (take end bytes) [] block first.0 (All-head (SameMessage end bytes) block blocks same) first.1 in
    omega (arith, more.inside, entry_long bytes block first.0 first.1, length-take-le end bytes inside)

-- ---- the messages of the new file

-- where there is a block there is a message
some_entries : (bytes : List ℕ) (blocks : List read.Block) (entries : List Entry) → is_empty blocks ≡ false
    → entries_at is_record_batch bytes blocks ≡ Some entries → is_empty entries ≡ false
some_entries bytes [] entries some e = absurd cc
some_entries bytes (block ∷ blocks) entries some e =
    let first = came_of {A = Entry} (entry_at is_record_batch bytes block) _ entries e in
    let others = came_of {A = List Entry} (entries_at is_record_batch bytes blocks) _ entries first.2 in
    subst (λ (them : List Entry). is_empty them ≡ false) (same_value (first.0 ∷ others.0) entries others.2) refl

not_none : (f : Entry → Entry) (xs ys : List Entry) → is_empty xs ≡ false → map f xs ++ ys ≡ [] → ⊥
not_none f [] ys some none = absurd cc
not_none f (x ∷ xs) ys some none = absurd cc

-- a file's own blocks and new ones, as they are read
pub blocks_joined : (own new : List WrittenBlock) (old : List read.Block) → own ≡ map kept_block old
    → map block_read (own ++ new) ≡ map again old ++ map block_read new
blocks_joined own new old is =
    map-append block_read own new
    ∙ ap (λ (them : List read.Block). them ++ map block_read new) (ap (map block_read) is ∙ again_all old)

-- the messages at a file's own blocks and at new ones
pub joined_entries : (is_of_kind : Header → Bool) (bytes : List ℕ) (own new : List WrittenBlock) (old : List read.Block) (first behind : List Entry)
    → own ≡ map kept_block old → entries_at is_of_kind bytes (map again old) ≡ Some first
    → entries_at is_of_kind bytes (map block_read new) ≡ Some behind
    → entries_at is_of_kind bytes (map block_read (own ++ new)) ≡ Some (first ++ behind)
joined_entries is_of_kind bytes own new old first behind is e found =
    ap (entries_at is_of_kind bytes) (blocks_joined own new old is)
    ∙ entries_join is_of_kind bytes (map again old) (map block_read new) first behind e found

-- ---- schemas

-- what is known of a schema that is read
record ReadSchema (base : Base) : Type 0 where
  texts : HasTexts base.found.schema
  writable : is_writable base.found.schema ≡ true
  fit : ids_fit_fields base.found.schema.fields base.found.ids ≡ true
  all_ids : all_are_ids base.found.ids ≡ true

read_schema : (bytes : List ℕ) (base : Base) → IsBase bytes base → ReadSchema base
read_schema bytes base is =
    let its = schemas_read_have_ids is.footer.bytes is.footer.schema base.found is.its_schema in
    record {
      texts = schemas_read_have_texts is.footer.bytes is.footer.schema base.found is.its_schema;
      writable = its.1;
      fit = its.0.0;
      all_ids = its.0.1;
    }

fields_are : (schema : Schema) → (normalised schema).fields ≡ map normalised_field schema.fields
unfolding normalised
fields_are schema = refl

fields_normal : (schema : Schema) → HasTexts schema → AreNormal (normalised schema).fields
unfolding normalised
fields_normal schema texts = ap (λ (s : Schema). s.fields) (normal_again schema texts)

pub rows_join : (some others : List (List (List Slot))) → rows_of_batches (some ++ others) ≡ rows_of_batches some ++ rows_of_batches others
rows_join some others = flat_map-append batch_rows some others

-- ---- the new file

module _ (stored : StoredColumnsReadBack) (bytes : List ℕ) (base : Base) (is : IsBase bytes base) (table : Table) (old : Old bytes base is table)
    (batches : List (List Column)) where
  abbrev pub all : List Batch
  all = map (batch_of_stored base.found.ids) batches

  -- the new file's bytes: the old ones up to the end of the last message, and others
  abbrev pub room : List ℕ
  room = take (base_end base) bytes ++ behind_base base bytes all

  abbrev pub new_blocks : Blocks
  new_blocks = batch_blocks (base_start base) base.told all

  abbrev layout : Layout
  layout = layout_of base.found

  -- its entries, and what they give
  record EntriesGive : Type 0 where
    entries : List Entry
    found : file_entries room (map block_read (appended_blocks base all).dictionaries) (map block_read (appended_blocks base all).record_batches)
        ≡ Some entries
    reads : batches_of layout [] entries ≡ Some (old.batches ++ read_batches batches)

  entries_give : HasTexts base.found.schema → length bytes ≤ length room → Each (IsBatch base.found.schema.fields base.found.ids) batches
      → none_replaced base.told (given_of_all base.found.ids batches) ≡ true
      → length (appended_blocks base all).dictionaries ≤ most_dictionaries
      → BlocksRead room new_blocks (all_written base.told all) all → EntriesGive
  entries_give texts size its once few blocks =
      let end = base_end base in
      let cut = take end bytes in
      let others = behind_base base bytes all in
      let footer = is.footer in
      let own = entries_more is_dictionary bytes cut others footer.dictionaries is.entries old.dictionaries_same is.has_entries in
      let batch_own = entries_more is_record_batch bytes cut others footer.record_batches old.columns old.batches_same old.has_columns in
      let move = moved_to room in
      let values = map move is.entries ++ blocks.values in
      let columns = map move old.columns ++ blocks.columns in
      let has_values = joined_entries is_dictionary room base.dictionaries new_blocks.dictionaries footer.dictionaries (map move is.entries)
      blocks.values is.dictionaries own.there blocks.values_read in
      let has_columns = joined_entries is_record_batch room base.record_batches new_blocks.record_batches footer.record_batches
      (map move old.columns) blocks.columns is.record_batches batch_own.there blocks.columns_read in
      let count : length (map block_read (appended_blocks base all).dictionaries) ≤ most_dictionaries =
      omega (arith, few, length-map (appended_blocks base all).dictionaries block_read) in
      let some = some_entries bytes footer.record_batches old.columns is.some old.has_columns in
      let standing = standing_moved layout room [] is.entries is.standing
      (read_in layout bytes others end is.entries is.inside size own.rooms old.dictionaries_before) is.stands in
      let normal = standing_normal layout [] is.entries is.standing (fields_normal base.found.schema texts) refl is.stands in
      let told : map as_read base.told ≡ is.standing = ap (map as_read) is.told ∙ told_are_read is.standing normal in
      let now = new_reads stored layout base.found.schema.fields is.little (fields_are base.found.schema) base.told batches blocks.values
      blocks.columns its once blocks.are_values blocks.are_columns in
      let extends : Extends is.standing (map as_read now.now) =
      subst (λ (standing : List Dictionary). Extends standing (map as_read now.now)) told now.extends in
      record {
        entries = values ++ columns;
        found = entries_found room (map block_read (appended_blocks base all).dictionaries)
            (map block_read (appended_blocks base all).record_batches) values columns count has_values has_columns
            (not_none move old.columns blocks.columns some);
        reads = ap (batches_of layout []) (append_assoc (map move is.entries) blocks.values columns)
            ∙ standing_then layout [] (map move is.entries) (blocks.values ++ columns) is.standing standing
            ∙ ap (λ (standing : List Dictionary). batches_of layout standing (blocks.values ++ columns)) (sym told)
            ∙ standing_then layout (map as_read base.told) blocks.values columns (map as_read now.now) now.stands
            ∙ batches_moved layout room is.standing (map as_read now.now) old.columns blocks.columns old.batches (read_batches batches) extends
            (read_in layout bytes others end old.columns is.inside size batch_own.rooms old.batches_before) batch_own.of_kind old.reads now.reads;
      }

  -- its footer
  has_footer : ReadSchema base → is_footer (appended_footer base all) ≡ true → BlocksRead room new_blocks (all_written base.told all) all
      → HasFooter (appended_bytes base bytes all) (appended_footer base all) (normalised base.found.schema)
      (ids_read base.found.schema base.found.ids) (appended_blocks base all)
  has_footer schema footer blocks =
      let end = end_long bytes (base_end base) is.footer.record_batches old.columns is.some is.inside old.batches_same old.has_columns in
      let long : 6 ≤ base_end base = omega (arith, end) in
      let fit = kept_blocks_fit bytes is.footer is.has_footer in
      let fit_dictionaries = fit_both base.dictionaries new_blocks.dictionaries (subst FitBlocks (sym is.dictionaries) fit.0)
      blocks.fit_dictionaries in
      let fit_batches = fit_both base.record_batches new_blocks.record_batches (subst FitBlocks (sym is.record_batches) fit.1) blocks.fit_batches in
      appended_footers base bytes all is.footer is.has_footer is.inside long schema.writable schema.texts schema.all_ids fit_dictionaries
      fit_batches footer

  -- what is known of the new file's parts
  pub record NewParts : Type 0 where
    pub size : length bytes ≤ length room
    pub its : Each (IsBatch base.found.schema.fields base.found.ids) batches
    pub once : none_replaced base.told (given_of_all base.found.ids batches) ≡ true
    pub few : length (appended_blocks base all).dictionaries ≤ most_dictionaries
    pub blocks : BlocksRead room new_blocks (all_written base.told all) all
    pub has : HasFooter room (appended_footer base all) (normalised base.found.schema) (ids_read base.found.schema base.found.ids)
        (appended_blocks base all)

  pub new_parts : (new : List ℕ) → WasAppended bytes new base batches all → NewParts
  new_parts new was =
      let schema = base.found.schema in
      let below = base.found.ids in
      let its_schema = read_schema bytes base is in
      let begins = begins_with_base base bytes all in
      let its = are_batches schema below batches its_schema.fit was.belong in
      let few = all_bring_few schema below batches its_schema.writable its in
      let blocks : BlocksRead room new_blocks (all_written base.told all) all =
      subst (λ (them : List ℕ). BlocksRead them new_blocks (all_written base.told all) all) begins
      (blocks_stand all base.told (base_start base) (rooms schema below batches its_schema.all_ids was.belong few) was.fit was.short
      (new_messages_stand base bytes all is.inside)) in
      record {
        size = omega (arith, not_shorter base bytes all, ap length begins);
        its = its;
        once = subst (λ (given : List Given). none_replaced base.told given ≡ true) (given_all below batches) was.once;
        few = was.few;
        blocks = blocks;
        has = subst (λ (them : List ℕ). HasFooter them (appended_footer base all) (normalised schema) (ids_read schema below)
            (appended_blocks base all)) begins (has_footer its_schema was.footer blocks);
      }

  pub new_holds : NewParts → length (rows_of_batches (old.batches ++ read_batches batches)) < 2 ^ 64
      → HoldsBatches file room base.found.schema (old.batches ++ read_batches batches)
  new_holds parts small =
      let schema = base.found.schema in
      let below = base.found.ids in
      let its_schema = read_schema bytes base is in
      let given = entries_give its_schema.texts parts.size parts.its parts.once parts.few parts.blocks in
      let reads : batches_of (layout_with (normalised schema) below) [] given.entries ≡ Some (old.batches ++ read_batches batches) =
      ap (λ (order : Bool). batches_of (record { fields = (normalised schema).fields; below = below; is_little_endian = order }) [] given.entries)
      (sym is.little) ∙ given.reads in
      holds_batches file room schema below given.entries (old.batches ++ read_batches batches) its_schema.texts
      (ids_are_read schema.fields below its_schema.fit) small
      (contents_found room (appended_footer base all) schema below (appended_blocks base all) given.entries parts.has given.found) reads

-- ---- the law

pub appended_files : StoredColumnsReadBack → AppendedFilesReadBack
appended_files stored bytes new base batches table e before its_table became small =
    let is = is_base bytes base e in
    let old = old_of bytes base is table before its_table in
    let all = map (batch_of_stored base.found.ids) batches in
    let more = rows_of_batches (read_batches batches) in
    let was = was_appended bytes new base batches e became in
    let joins = rows_join old.batches (read_batches batches) in
    let rows : rows_of_batches old.batches ≡ table.rows = ap (λ (t : Table). t.rows) old.whole in
    let few : length (rows_of_batches (old.batches ++ read_batches batches)) < 2 ^ 64 =
    subst (λ (them : List (List Slot)). length them < 2 ^ 64) (ap (λ (them : List (List Slot)). them ++ more) (sym rows) ∙ sym joins) small in
    let holds = new_holds stored bytes base is table old batches (new_parts stored bytes base is table old batches new was) few in
    let whole : table_of file new
    ≡ Some (record { schema = normalised base.found.schema; rows = rows_of_batches (old.batches ++ read_batches batches) }) =
    subst (λ (room : List ℕ). table_of file room
    ≡ Some (record { schema = normalised base.found.schema; rows = rows_of_batches (old.batches ++ read_batches batches) }))
    (sym (begins_with_base base bytes all) ∙ was.bytes_are) holds.as_table in
    subst (λ (t : Table). table_of file new ≡ Some (record t { rows = t.rows ++ more })) old.whole
    (whole ∙ ap (λ (them : List (List Slot)). Some (record { schema = normalised base.found.schema; rows = them })) joins)
