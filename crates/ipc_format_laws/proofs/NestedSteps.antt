-- Types over fields, dictionaries and extensions read back where what is below them does.
use Rattle.std.proofs.Common.{◌≡◌, ℕ, zero, suc, ◌+◌, ◌≤◌, ◌<◌, ◌^◌, ℤ, pos, Bool, true, false, not, ◌&&◌, List, [], ◌∷◌, length, map, refl, sym}
use Rattle.std.proofs.Common.{ap, subst, ◌∙◌, arith}
use Rattle.std.specs.Prelude.{Option, Some, None, nat_le, nat_lt, ◌==◌, negsuc, get_or, FitsSigned}
use Rattle.std.proofs.lemmas.Bool.{ltb-true}
use Rattle.std.specs.List.{list_all}
use Rattle.std.specs.Int.{w8, w32}
use Rattle.std.specs.Str.{is_utf8}
use denote.Hole.Carrier
use Rattle.ipc_format_grammar.specs.flatbuffers.Objects.{Object, Objects, table, references, no_field, number_then, object_then}
use Rattle.ipc_format_grammar.specs.flatbuffers.FlatBuffers.{TablePlace}
use Rattle.ipc_format_laws.specs.Spelling.{Spells, SpellsReference}
use Rattle.ipc_format_laws.specs.Theorem.{Fits, FitsObjects}
use Rattle.ipc_format_grammar.specs.columnar_memory.declared.DataType.{DataType}
use Rattle.ipc_format_grammar.specs.columnar_memory.declared.DataType.TheOpen as layer
use Rattle.ipc_format_grammar.specs.columnar_memory.declared.DataType.TheVariants as types
use Rattle.ipc_format_grammar.specs.columnar_memory.declared.DataType.TheViews.{roll-DataType}
use Rattle.ipc_format_grammar.specs.columnar_memory.declared.Field.{Field}
use Rattle.ipc_format_grammar.specs.columnar_memory.declared.IntegerType.{IntegerType}
use Rattle.ipc_format_grammar.specs.columnar_memory.declared.UnionMode.{UnionMode}
use Rattle.ipc_format_grammar.specs.columnar_memory.declared.UnionMode.TheVariants as modes
use Rattle.ipc_format_grammar.specs.Types.{Tag, tag_of}
use Rattle.ipc_format_grammar.specs.Schemas.{Ids, IdsList, ids, no_ids, ids_then, FieldIn, Visits, type_in, child_in, with_child, fields_of, ids_of}
use Rattle.ipc_format_grammar.specs.SchemaObjects.{Told, nested, objects_of, empty_table, long_table, truth, mode_number}
use Rattle.ipc_format_grammar.specs.Writable.{is_union_id, are_union_ids, are_distinct, Report, Shape, over, over_all, deepest, is_size, is_plain}
use Rattle.ipc_format_grammar.specs.Writable.{is_dictionary, is_struct_of_two, plain, dictionary, extension, struct_of_two, shape_of_struct}
use Rattle.ipc_format_laws.specs.Schemas.{IdsTold, FitIds, FitIdsList, over_ids, each_ids, are_true, is_text_or_none}
use Rattle.ipc_format_laws.proofs.FieldSteps.{TypeReads, ListReads, no_fields, fields_then, encode, extend}
use Rattle.ipc_format_laws.proofs.SchemaParts.{TypeBack, FieldBack, tables_among, both}
use Rattle.ipc_format_laws.proofs.TypeTables.{union_fields, ids_length, FitIds as FitNumbers}
use Rattle.ipc_format_laws.proofs.TypeSteps.{first_ids, one_object, over_reads, fixed_lists_read, maps_read, structs_read}
use Rattle.ipc_format_laws.proofs.TypeSteps.{unions_read}
use Rattle.ipc_format_laws.proofs.SchemaSteps.{TypeClaim, FieldClaim, LayerClaim, IsBare, bare_back, empty_fits, long_fits, size_fits}

-- ---- over one field

one_ids : (f : Ids → Ids) (below : IdsList) → each_ids (f ∷ []) below ≡ ids_then (f (first_ids below)) no_ids
one_ids f no_ids = refl
one_ids f (ids_then first others) = refl

first_fits : (below : IdsList) → FitIdsList below → FitIds (first_ids below)
first_fits no_ids fit = (tt, tt)
first_fits (ids_then first others) fit = fit.0

over_back : (n : ℕ) (type_table : Object) (x : layer.DataType-F DataType Field) (b : Bool) (told : Ids → Object) (normal : Field) (report : Report)
    (its_ids : Ids → Ids) (below : IdsList)
    → n < 2 ^ 8 → Fits type_table → IsBare x → (h : FieldBack (told (first_ids below)) normal report (its_ids (first_ids below)))
    → TypeReads (nested n type_table (told ∷ []) below) (roll-DataType x) (ids_then (its_ids (first_ids below)) no_ids) (report.levels + 1) h.visits
    → TypeBack (nested n type_table (told ∷ []) below) (roll-DataType x) (over b report) false (each_ids (its_ids ∷ []) below)
over_back n type_table x b told normal report its_ids below small fits is_bare h read =
    bare_back n type_table (objects_of (told ∷ []) below) x (over b report) (each_ids (its_ids ∷ []) below) h.visits small fits
    (subst (λ (objects : Objects). FitsObjects objects) (sym (one_object told below)) (record { here = h.fits; rest = tt }))
    (subst (λ (objects : Objects). h.visits ≤ tables_among objects) (sym (one_object told below)) (omega (arith, h.few))) is_bare
    (subst (λ (l : IdsList). TypeReads (nested n type_table (told ∷ []) below) (roll-DataType x) l (report.levels + 1) h.visits)
    (sym (one_ids its_ids below)) read)

-- a type over one field whose table has no slots
pub items_claim : (n : ℕ) (tag : Tag) (make : Field → DataType) (x : layer.DataType-F DataType Field) (told : Ids → Object) (normal : Field)
    (report : Report) (its_ids : Ids → Ids) (texts : Bool)
    → n < 2 ^ 8 → tag_of n ≡ Some tag → make normal ≡ roll-DataType x → IsBare x
    → ((bytes : List ℕ) (read : TablePlace → Visits FieldIn) (field found : TablePlace) (total left : ℕ) (result : FieldIn)
    → child_in read bytes field total ≡ Some (result, left) → type_in None read bytes tag field found total ≡ Some (with_child make (result, left)))
    → FieldClaim told normal report its_ids texts
    → TypeClaim (nested n empty_table (told ∷ [])) (roll-DataType x) (over true report) (over_ids (its_ids ∷ [])) texts
items_claim n tag make x told normal report its_ids texts small tag-is made is_bare read claim allowed has_texts below fit =
    let h = claim allowed has_texts (first_ids below) (first_fits below fit) in
    let result : FieldIn = record { field = normal; ids = its_ids (first_ids below) } in
    over_back n empty_table x true told normal report its_ids below small empty_fits is_bare h
    (subst (λ (t : DataType). TypeReads (nested n empty_table (told ∷ []) below) t (ids_then (its_ids (first_ids below)) no_ids)
    (report.levels + 1) h.visits) made
    (over_reads n tag no_field make told below result (report.levels + 1) h.visits tag-is h.reads
    (λ bytes r field found total left s e. read bytes r field found total left result e)))

pub fixed_list_claim : (size : ℕ) (told : Ids → Object) (normal : Field) (report : Report) (its_ids : Ids → Ids) (texts : Bool)
    → FieldClaim told normal report its_ids texts
    → LayerClaim (layer.FixedSizeList told size) (layer.FixedSizeList normal size) (layer.FixedSizeList report size)
    (layer.FixedSizeList its_ids size) (layer.FixedSizeList texts size)
unfolding roll-DataType denote.Hole.Carrier.roll
fixed_list_claim size told normal report its_ids texts claim allowed has_texts below fit =
    let parts = both (is_size size) report.is_allowed allowed in
    let small = size_fits size parts.0 in
    let h = claim parts.1 has_texts (first_ids below) (first_fits below fit) in
    over_back 16 (long_table size) (layer.FixedSizeList normal size) (is_size size) told normal report its_ids below (omega arith)
    (long_fits size small.1) (λ ws. refl, λ ws. refl) h
    (fixed_lists_read size told below (record { field = normal; ids = its_ids (first_ids below) })
    (report.levels + 1) h.visits small.0 small.1 h.reads)

truth_fits : (b : Bool) → Fits (table (number_then w8 (truth b) no_field))
truth_fits true = record { here = record { vtable_size = omega arith; table_size = omega arith }; rest = record { here = omega arith; rest = tt } }
truth_fits false = record { here = record { vtable_size = omega arith; table_size = omega arith }; rest = record { here = omega arith; rest = tt } }

pub map_claim : (is_sorted : Bool) (told : Ids → Object) (normal : Field) (report : Report) (its_ids : Ids → Ids) (texts : Bool)
    → FieldClaim told normal report its_ids texts
    → LayerClaim (layer.Map told is_sorted) (layer.Map normal is_sorted) (layer.Map report is_sorted) (layer.Map its_ids is_sorted)
    (layer.Map texts is_sorted)
unfolding roll-DataType denote.Hole.Carrier.roll
map_claim is_sorted told normal report its_ids texts claim allowed has_texts below fit =
    let parts = both (is_struct_of_two report.shape) report.is_allowed allowed in
    let h = claim parts.1 has_texts (first_ids below) (first_fits below fit) in
    over_back 17 (table (number_then w8 (truth is_sorted) no_field)) (layer.Map normal is_sorted)
    (is_struct_of_two report.shape) told normal report its_ids below (omega arith) (truth_fits is_sorted) (λ ws. refl, λ ws. refl) h
    (maps_read is_sorted told below (record { field = normal; ids = its_ids (first_ids below) }) (report.levels + 1) h.visits h.reads)

-- ---- over all fields

pub record ChildrenBack (objects : Objects) (normals : List Field) (reports : List Report) (below : IdsList) : Type 0 where
  pub results : List FieldIn
  pub visits : ℕ
  pub reads : ListReads objects results (deepest reports) visits
  pub fields_are : fields_of results ≡ normals
  pub ids_are : ids_of results ≡ below
  pub fit : FitsObjects objects
  pub few : visits ≤ tables_among objects

abbrev is_allowed : Report → Bool
is_allowed child = child.is_allowed

-- a first child with the others
child_then : {object : Object} {objects : Objects} {normal : Field} {normals : List Field} {report : Report} {reports : List Report} {its_ids : Ids}
    {below : IdsList}
    → FieldBack object normal report its_ids → ChildrenBack objects normals reports below
    → ChildrenBack (object_then object objects) (normal ∷ normals) (report ∷ reports) (ids_then its_ids below)
child_then {object} {objects} {normal} {normals} {report} {reports} {its_ids} {below} h more = record {
  results = record { field = normal; ids = its_ids } ∷ more.results;
  visits = h.visits + more.visits;
  reads = fields_then h.reads more.reads;
  fields_are = ap (λ (fs : List Field). normal ∷ fs) more.fields_are;
  ids_are = ap (λ (l : IdsList). ids_then its_ids l) more.ids_are;
  fit = record { here = h.fits; rest = more.fit };
  few = omega (arith, h.few, more.few);
}

-- the fields below, as the items of a list that each have a field with its claim
module _ {X : Type 0} (field_at : X → Field) (told : Field → Ids → Object) (normal : Field → Field) (report : Field → Report)
    (its_ids : Field → Ids → Ids) (texts : Field → Bool)
    (claim : (x : X) → FieldClaim (told (field_at x)) (normal (field_at x)) (report (field_at x)) (its_ids (field_at x)) (texts (field_at x))) where
  pub children_back : (items : List X) (below : IdsList) → list_all is_allowed (map report (map field_at items)) ≡ true
      → are_true (map texts (map field_at items)) ≡ true → FitIdsList below
      → ChildrenBack (objects_of (map told (map field_at items)) below) (map normal (map field_at items)) (map report (map field_at items))
      (each_ids (map its_ids (map field_at items)) below)
  children_back [] below allowed has_texts fit = record {
    results = [];
    visits = 0;
    reads = no_fields;
    fields_are = refl;
    ids_are = refl;
    fit =
        tt;
    few = omega arith;
  }
  children_back (x ∷ items) no_ids allowed has_texts fit =
      let first-allowed = both (report (field_at x)).is_allowed (list_all is_allowed (map report (map field_at items))) allowed in
      let first-texts = both (texts (field_at x)) (are_true (map texts (map field_at items))) has_texts in
      child_then (claim x first-allowed.0 first-texts.0 (ids None no_ids) (tt, tt)) (children_back items no_ids first-allowed.1 first-texts.1 tt)
  children_back (x ∷ items) (ids_then first others) allowed has_texts fit =
      let first-allowed = both (report (field_at x)).is_allowed (list_all is_allowed (map report (map field_at items))) allowed in
      let first-texts = both (texts (field_at x)) (are_true (map texts (map field_at items))) has_texts in
      child_then (claim x first-allowed.0 first-texts.0 first fit.0) (children_back items others first-allowed.1 first-texts.1 fit.1)

-- what is shown of a type over fields, from its reading
all_back : (n : ℕ) (type_table : Object) (x : layer.DataType-F DataType Field) (b : Bool) (shape : Shape) (told : List (Ids → Object))
    (normals : List Field) (reports : List Report) (its_ids : List (Ids → Ids)) (below : IdsList)
    → n < 2 ^ 8 → Fits type_table → IsBare x → (h : ChildrenBack (objects_of told below) normals reports (each_ids its_ids below))
    → TypeReads (nested n type_table told below) (roll-DataType x) (each_ids its_ids below) (deepest reports) h.visits
    → TypeBack (nested n type_table told below) (roll-DataType x) (over_all b shape reports) false (each_ids its_ids below)
all_back n type_table x b shape told normals reports its_ids below small fits is_bare h read =
    bare_back n type_table (objects_of told below) x (over_all b shape reports) (each_ids its_ids below) h.visits small fits h.fit h.few is_bare read

ids_fit : (zs : List ℤ) → list_all is_union_id zs ≡ true → (k : ℕ) (d : ℤ) → k < length zs → FitsSigned w32 (get_or zs k d)
ids_fit [] e k d inside = absurd (omega arith)
ids_fit (pos n ∷ zs) e zero d inside = let small = ltb-true n 128 (both (nat_lt n 128) (list_all is_union_id zs) e).0 in omega arith
ids_fit (negsuc n ∷ zs) e zero d inside = absurd cc
ids_fit (z ∷ zs) e (suc k) d inside = ids_fit zs (both (is_union_id z) (list_all is_union_id zs) e).1 k d (omega arith)

numbers_fit : (numbers : Option (List ℤ)) (count : ℕ) → are_union_ids numbers count ≡ true → FitNumbers numbers
numbers_fit None count e = tt
numbers_fit (Some zs) count e =
    let parts = both ((length zs == count) && list_all is_union_id zs) (are_distinct zs) e in
    ids_fit zs (both (length zs == count) (list_all is_union_id zs) parts.0).1

union_small : (mode : UnionMode) → mode_number mode < 2 ^ 16
union_small modes.Sparse = omega arith
union_small modes.Dense = omega arith

union_fits : (mode : UnionMode) (numbers : Option (List ℤ)) → Fits (table (union_fields mode numbers))
union_fits mode None = record {
  here = record { vtable_size = omega arith; table_size = omega arith };
  rest = record
      { here = union_small mode; rest = tt };
}
union_fits mode (Some zs) = record {
  here = record { vtable_size = omega arith; table_size = omega arith };
  rest = record { here = union_small mode; rest = record { here = omega (arith, ids_length zs); rest = tt } };
}

module _ {X : Type 0} (field_at : X → Field) (told : Field → Ids → Object) (normal : Field → Field) (report : Field → Report)
    (its_ids : Field → Ids → Ids) (texts : Field → Bool)
    (claim : (x : X) → FieldClaim (told (field_at x)) (normal (field_at x)) (report (field_at x)) (its_ids (field_at x)) (texts (field_at x)))
    (items : List X) where
  pub struct_claim : LayerClaim (layer.Struct (map told (map field_at items))) (layer.Struct (map normal (map field_at items)))
      (layer.Struct (map report (map field_at items)))
      (layer.Struct (map its_ids (map field_at items))) (layer.Struct (map texts (map field_at items)))
  unfolding roll-DataType denote.Hole.Carrier.roll
  struct_claim allowed has_texts below fit =
      let children = map field_at items in
      let parts = both (nat_le 1 (length (map report children))) (list_all is_allowed (map report children)) allowed in
      let h = children_back field_at told normal report its_ids texts claim items below parts.1 has_texts fit in
      let read = structs_read (map told children) below h.results (deepest (map report children)) h.visits h.reads in
      let with_ids = subst (λ (l : IdsList). TypeReads (nested 13 empty_table (map told children) below) (types.Struct (fields_of h.results)) l
      (deepest (map report children)) h.visits) h.ids_are read in
      let with_fields = subst (λ (fs : List Field). TypeReads (nested 13 empty_table (map told children) below) (types.Struct fs)
      (each_ids (map its_ids children) below) (deepest (map report children)) h.visits) h.fields_are with_ids in
      all_back 13 empty_table (layer.Struct (map normal children)) (nat_le 1 (length (map report children))) (shape_of_struct (map report children))
      (map told children) (map normal children) (map report children) (map its_ids children) below
      (omega arith) empty_fits (λ ws. refl, λ ws. refl) h with_fields

  pub union_claim : (numbers : Option (List ℤ)) (mode : UnionMode)
      → LayerClaim (layer.Union (map told (map field_at items)) numbers mode) (layer.Union (map normal (map field_at items)) numbers mode)
      (layer.Union (map report (map field_at items)) numbers mode) (layer.Union (map its_ids (map field_at items)) numbers mode)
      (layer.Union (map texts (map field_at items)) numbers mode)
  unfolding roll-DataType denote.Hole.Carrier.roll
  union_claim numbers mode allowed has_texts below fit =
      let children = map field_at items in
      let b = nat_le 1 (length (map report children)) && are_union_ids numbers (length (map report children)) in
      let parts = both b (list_all is_allowed (map report children)) allowed in
      let counted = both (nat_le 1 (length (map report children))) (are_union_ids numbers (length (map report children))) parts.0 in
      let h = children_back field_at told normal report its_ids texts claim items below parts.1 has_texts fit in
      let read = unions_read mode numbers (map told children) below h.results (deepest (map report children)) h.visits
      (numbers_fit numbers (length (map report children)) counted.1) h.reads in
      let with_ids = subst (λ (l : IdsList). TypeReads (nested 14 (table (union_fields mode numbers)) (map told children) below)
      (types.Union (fields_of h.results) numbers mode) l (deepest (map report children)) h.visits) h.ids_are read in
      let with_fields = subst (λ (fs : List Field). TypeReads (nested 14 (table (union_fields mode numbers)) (map told children) below)
      (types.Union fs numbers mode) (each_ids (map its_ids children) below) (deepest (map report children)) h.visits) h.fields_are with_ids in
      all_back 14 (table (union_fields mode numbers)) (layer.Union (map normal children) numbers mode) b plain (map told children)
      (map normal children) (map report children) (map its_ids children) below
      (omega arith) (union_fits mode numbers) (λ ws. refl, λ ws. refl) h with_fields

-- ---- dictionaries and extensions

retold : {told other : Told} {stripped : DataType} {below : IdsList} {deep visits : ℕ} → told.tag ≡ other.tag → told.type_table ≡ other.type_table
    → told.children ≡ other.children → TypeReads told stripped below deep visits → TypeReads other stripped below deep visits
retold {told} {other} tag-is table-is children-are h = record {
  tag = h.tag;
  tag_is = ap tag_of (sym tag-is) ∙ h.tag_is;
  type_fields = h.type_fields;
  table_is = sym table-is ∙ h.table_is;
  reads = λ (bytes : List ℕ) (levels : ℕ) (field found : TablePlace) (total left : ℕ) enough e s children.
      h.reads bytes levels field found total left enough e s (subst
      (λ (objects : Objects). SpellsReference bytes field 5 (λ (place : ℕ). Spells bytes place (references objects)))
      (sym children-are) children);
}

not_true : (b : Bool) → not b ≡ true → b ≡ false
not_true true e = absurd cc
not_true false e = refl

pub dictionary_claim : (key : IntegerType) (is_ordered : Bool) (told : IdsList → Told) (normal : DataType) (report : Report) (its_ids : IdsTold)
    (texts : Bool)
    → TypeClaim told normal report its_ids texts
    → LayerClaim (layer.Dictionary key told is_ordered) (layer.Dictionary key normal is_ordered) (layer.Dictionary key report is_ordered)
    (layer.Dictionary key its_ids is_ordered) (layer.Dictionary key texts is_ordered)
unfolding roll-DataType denote.Hole.Carrier.roll
dictionary_claim key is_ordered told normal report its_ids texts claim allowed has_texts below fit =
    let parts = both report.is_allowed (not (is_dictionary report.shape)) allowed in
    let h = claim parts.0 has_texts below fit in
    let none : (told below).dictionary ≡ None = h.no_dictionary (not_true (is_dictionary report.shape) parts.1) in
    let value : normal ≡ extend (told below).extension h.stripped = h.whole ∙ ap
    (λ (d : Option (IntegerType × Bool)). encode d (extend (told below).extension h.stripped)) none in
    record {
      stripped = h.stripped;
      visits = h.visits;
      reads = retold refl refl refl h.reads;
      whole = ap (λ (d : DataType). types.Dictionary key d is_ordered) value;
      plain_of = h.plain_of;
      plain_under = h.plain_under;
      encoded_is = refl;
      tag_fits = h.tag_fits;
      table_fits = h.table_fits;
      children_fit = h.children_fit;
      few = h.few;
      extension_fits = h.extension_fits;
      no_dictionary = λ e. absurd cc;
      no_extension = λ e. absurd cc;
    }

plain_is_no_dictionary : (shape : Shape) → is_plain shape ≡ true → is_dictionary shape ≡ false
plain_is_no_dictionary plain e = refl
plain_is_no_dictionary dictionary e = absurd cc
plain_is_no_dictionary extension e = absurd cc
plain_is_no_dictionary struct_of_two e = refl

pub extension_claim : (name : List ℕ) (metadata : Option (List ℕ)) (told : IdsList → Told) (normal : DataType) (report : Report) (its_ids : IdsTold)
    (texts : Bool)
    → TypeClaim told normal report its_ids texts
    → LayerClaim (layer.Extension name told metadata) (layer.Extension name normal metadata) (layer.Extension name report metadata)
    (layer.Extension name its_ids metadata) (layer.Extension name texts metadata)
unfolding roll-DataType denote.Hole.Carrier.roll
extension_claim name metadata told normal report its_ids texts claim allowed has_texts below fit =
    let parts = both report.is_allowed (is_plain report.shape) allowed in
    let its_texts = both (is_utf8 name && is_text_or_none metadata) texts has_texts in
    let h = claim parts.0 its_texts.1 below fit in
    let none : (told below).dictionary ≡ None = h.no_dictionary (plain_is_no_dictionary report.shape parts.1) in
    let bare : (told below).extension ≡ None = h.no_extension parts.1 in
    let value : normal ≡ h.stripped = h.whole ∙ ap (λ (d : Option (IntegerType × Bool)). encode d (extend (told below).extension h.stripped)) none
    ∙ ap (λ (e : Option (List ℕ × Option (List ℕ))). extend e h.stripped) bare in
    record {
      stripped = h.stripped;
      visits = h.visits;
      reads = retold refl refl refl h.reads;
      whole = ap (λ (d : DataType). types.Extension name d metadata) value ∙ sym
          (ap (λ (d : Option (IntegerType × Bool)). encode d (types.Extension name h.stripped metadata)) none);
      plain_of = h.plain_of;
      plain_under = h.plain_under;
      encoded_is = h.encoded_is;
      tag_fits = h.tag_fits;
      table_fits = h.table_fits;
      children_fit = h.children_fit;
      few = h.few;
      extension_fits = both (is_utf8 name) (is_text_or_none metadata) its_texts.0;
      no_dictionary = λ e. none;
      no_extension = λ e. absurd cc;
    }
