-- Each layer of a type reads back where those below it do.
use Rattle.std.proofs.Common.{◌≡◌, ℕ, ◌≤◌, ◌<◌, ◌^◌, pos, Bool, true, false, not, ◌&&◌, List, refl, ap, subst, ◌∙◌, arith}
use Rattle.std.specs.Prelude.{Option, Some, None, nat_le}
use Rattle.std.proofs.lemmas.Bool.{leb-true, ltb-true}
use Rattle.ipc_format_grammar.specs.columnar_memory.declared.IntegerType.{IntegerType}
use Rattle.ipc_format_grammar.specs.flatbuffers.FlatBuffers.{TablePlace}
use Rattle.ipc_format_grammar.specs.flatbuffers.Objects.{Object, Objects, no_object, table}
use Rattle.ipc_format_laws.specs.Theorem.{Fits, FitsObjects}
use Rattle.ipc_format_grammar.specs.columnar_memory.declared.DataType.{DataType}
use Rattle.ipc_format_grammar.specs.columnar_memory.declared.DataType.TheOpen as layer
use Rattle.ipc_format_grammar.specs.columnar_memory.declared.DataType.TheVariants as types
use Rattle.ipc_format_grammar.specs.columnar_memory.declared.DataType.TheViews.{roll-DataType, out-roll-DataType}
use Rattle.ipc_format_grammar.specs.columnar_memory.declared.Field.{Field}
use Rattle.ipc_format_grammar.specs.columnar_memory.declared.TimeUnit.{TimeUnit}
use Rattle.ipc_format_grammar.specs.columnar_memory.declared.TimeUnit.TheVariants as units
use Rattle.ipc_format_grammar.specs.columnar_memory.declared.IntervalUnit.{IntervalUnit}
use Rattle.ipc_format_grammar.specs.columnar_memory.declared.IntervalUnit.TheVariants as intervals
use Rattle.ipc_format_grammar.specs.Schemas.{Ids, IdsList, no_ids, FieldIn, Visits, type_in}
use Rattle.ipc_format_grammar.specs.Types.{Tag, tag_of, integer_of, type_of_integer, date_of, time_of, decimal_of}
use Rattle.ipc_format_grammar.specs.SchemaObjects.{Told, flat, told_step, empty_table, int_object, short_table, long_table, unit_number}
use Rattle.ipc_format_grammar.specs.SchemaObjects.{interval_number}
use Rattle.ipc_format_grammar.specs.Writable.{is_short, fits_i32, is_size, Report, leaf, report_step, with_extension_of, with_extension_under}
use Rattle.ipc_format_laws.specs.Schemas.{is_text_or_none, IdsTold, ids_step, texts_step, FitIds, FitIdsList}
use Rattle.ipc_format_laws.proofs.FieldSteps.{TypeReads}
use Rattle.ipc_format_laws.proofs.SchemaParts.{TypeBack, FieldBack, tables_among, both, int_fits}
use Rattle.ipc_format_laws.proofs.TypeTables.{timestamp_fields, time_fields, decimal_fields, unit_small}
use Rattle.ipc_format_laws.proofs.TypeSteps as steps

-- what is shown of a type, by what is told of it, its one form, what is asked of it, the ids in it, and its texts
abbrev pub TypeClaim : (IdsList → Told) → DataType → Report → IdsTold → Bool → Type 0
TypeClaim told normal report its_ids has_texts = report.is_allowed ≡ true → has_texts ≡ true → (below : IdsList) → FitIdsList below
    → TypeBack (told below) normal report its_ids.is_encoded (its_ids.below below)

-- the same of a field
abbrev pub FieldClaim : (Ids → Object) → Field → Report → (Ids → Ids) → Bool → Type 0
FieldClaim told normal report its_ids has_texts = report.is_allowed ≡ true → has_texts ≡ true → (i : Ids) → FitIds i
    → FieldBack (told i) normal report (its_ids i)

-- a layer where its parts are told, have their one form, and so on
abbrev pub LayerClaim : layer.DataType-F (IdsList → Told) (Ids → Object) → layer.DataType-F DataType Field → layer.DataType-F Report Report
    → layer.DataType-F IdsTold (Ids → Ids)
    → layer.DataType-F Bool Bool → Type 0
LayerClaim told normal report its_ids has_texts = TypeClaim (told_step told) (roll-DataType normal) (report_step report) (ids_step its_ids)
    (texts_step has_texts)

-- what is told of a type without a dictionary and an extension
abbrev pub bare : ℕ → Object → Objects → Told
bare n type_table children = record { tag = n; type_table = type_table; children = children; dictionary = None; extension = None }

-- a layer of a type that is no extension
abbrev pub IsBare : layer.DataType-F DataType Field → Type 0
IsBare x = ((ws : List (List ℕ × List ℕ)) → with_extension_of ws x ≡ ws) × ((ws : List (List ℕ × List ℕ)) → with_extension_under ws x ≡ ws)

-- what is shown of a type without a dictionary and an extension, from its reading
pub bare_back : (n : ℕ) (type_table : Object) (children : Objects) (x : layer.DataType-F DataType Field) (report : Report) (below : IdsList)
    (visits : ℕ)
    → n < 2 ^ 8 → Fits type_table → FitsObjects children → visits ≤ tables_among children → IsBare x
    → TypeReads (bare n type_table children) (roll-DataType x) below report.levels visits
    → TypeBack (bare n type_table children) (roll-DataType x) report false below
bare_back n type_table children x report below visits small fits fit few is_bare read = record {
  stripped = roll-DataType x;
  visits = visits;
  reads = read;
  whole = refl;
  plain_of = λ (ws : List (List ℕ × List ℕ)). ap (with_extension_of ws) (out-roll-DataType x) ∙ is_bare.0 ws;
  plain_under = λ (ws : List (List ℕ × List ℕ)). ap (with_extension_under ws) (out-roll-DataType x) ∙ is_bare.1 ws;
  encoded_is = refl;
  tag_fits = small;
  table_fits = fits;
  children_fit = fit;
  few = few;
  extension_fits = tt;
  no_dictionary = λ e. refl;
  no_extension = λ e. refl;
}

-- a type without fields below it
pub leaf_claim : (n : ℕ) (type_table : Object) (x : layer.DataType-F DataType Field) (b has_texts : Bool) → n < 2 ^ 8 → IsBare x
    → (b ≡ true → has_texts ≡ true → Fits type_table × ((below : IdsList) → TypeReads (flat n type_table below) (roll-DataType x) no_ids 0 0))
    → TypeClaim (flat n type_table) (roll-DataType x) (leaf b) (record { is_encoded = false; below = λ below. no_ids }) has_texts
leaf_claim n type_table x b has_texts small is_bare h allowed texts below fit =
    let shown = h allowed texts in
    bare_back n type_table no_object x (leaf b) no_ids 0 small shown.0 tt (omega arith) is_bare (shown.1 below)

-- a type that is not written
pub unwritten_claim : (told : IdsList → Told) (normal : DataType) (its_ids : IdsTold) (has_texts : Bool)
    → TypeClaim told normal (leaf false) its_ids has_texts
unwritten_claim told normal its_ids has_texts allowed texts below fit = absurd cc

pub empty_fits : Fits empty_table
empty_fits = record { here = record { vtable_size = omega arith; table_size = omega arith }; rest = tt }

pub short_fits : (n : ℕ) → n < 2 ^ 16 → Fits (short_table n)
short_fits n small = record { here = record { vtable_size = omega arith; table_size = omega arith }; rest = record { here = small; rest = tt } }

-- a type whose table has no slots
pub empty_claim : (n : ℕ) (tag : Tag) (x : layer.DataType-F DataType Field) → n < 2 ^ 8 → tag_of n ≡ Some tag → IsBare x
    → ((bytes : List ℕ) (read : TablePlace → Visits FieldIn) (field found : TablePlace) (total : ℕ) → type_in None read bytes tag field found total
    ≡ Some (record { data_type = roll-DataType x; below = no_ids }, total))
    → TypeClaim (flat n empty_table) (roll-DataType x) (leaf true) (record { is_encoded = false; below = λ below. no_ids }) true
empty_claim n tag x small tag-is is_bare read =
    leaf_claim n empty_table x true true small is_bare
    (λ allowed texts. (empty_fits, λ (below : IdsList). steps.plain_reads n tag (roll-DataType x) below tag-is read))

pub integer_claim : (bits : ℕ) (is_signed : Bool) (integer : IntegerType) (x : layer.DataType-F DataType Field) → bits < 2 ^ 31
    → integer_of (pos bits) is_signed ≡ Some integer → type_of_integer integer ≡ roll-DataType x → IsBare x
    → TypeClaim (flat 2 (int_object bits is_signed)) (roll-DataType x) (leaf true) (record { is_encoded = false; below = λ below. no_ids }) true
integer_claim bits is_signed integer x small e type-is is_bare =
    leaf_claim 2 (int_object bits is_signed) x true true (omega arith) is_bare
    (λ allowed texts. (
      int_fits bits is_signed (omega arith),
      λ (below : IdsList).
          subst (λ (t : DataType). TypeReads (flat 2 (int_object bits is_signed) below) t no_ids 0 0) type-is
          (steps.integer_reads bits is_signed integer below small e),
    ))

pub date_claim : (unit : ℕ) (x : layer.DataType-F DataType Field) → unit < 2 ^ 15 → date_of (pos unit) ≡ Some (roll-DataType x) → IsBare x
    → TypeClaim (flat 8 (short_table unit)) (roll-DataType x) (leaf true) (record { is_encoded = false; below = λ below. no_ids }) true
date_claim unit x small e is_bare =
    leaf_claim 8 (short_table unit) x true true (omega arith) is_bare
    (λ allowed texts. (short_fits unit (omega arith), λ (below : IdsList). steps.dates_read unit (roll-DataType x) below small e))

pub interval_fits : (unit : IntervalUnit) → interval_number unit < 2 ^ 16
interval_fits intervals.YearMonth = omega arith
interval_fits intervals.DayTime = omega arith
interval_fits intervals.MonthDayNano = omega arith

pub unit_fits : (unit : TimeUnit) → unit_number unit < 2 ^ 16
unit_fits unit = omega (arith, unit_small unit)

pub timestamp_fits : (u : TimeUnit) (timezone : Option (List ℕ)) → is_text_or_none timezone ≡ true → Fits (table (timestamp_fields u timezone))
timestamp_fits u None e = record {
  here = record { vtable_size = omega arith; table_size = omega arith };
  rest = record
      { here = unit_fits u; rest = tt };
}
timestamp_fits u (Some zone) e = record {
  here = record { vtable_size = omega arith; table_size = omega arith };
  rest = record
      { here = unit_fits u; rest = record { here = e; rest = tt } };
}

time_fits : (u : TimeUnit) (bits : ℕ) → bits < 2 ^ 32 → Fits (table (time_fields (unit_number u) bits))
time_fits u bits small = record {
  here = record { vtable_size = omega arith; table_size = omega arith };
  rest = record
      { here = unit_fits u; rest = record { here = small; rest = tt } };
}

pub short_time : (u : TimeUnit) → is_short u ≡ true → time_of (pos 32) u ≡ Some (types.Time32 u)
short_time units.Second e = refl
short_time units.Millisecond e = refl
short_time units.Microsecond e = absurd cc
short_time units.Nanosecond e = absurd cc

pub long_time : (u : TimeUnit) → not (is_short u) ≡ true → time_of (pos 64) u ≡ Some (types.Time64 u)
long_time units.Second e = absurd cc
long_time units.Millisecond e = absurd cc
long_time units.Microsecond e = refl
long_time units.Nanosecond e = refl

pub time_claim : (u : TimeUnit) (bits : ℕ) (x : layer.DataType-F DataType Field) (b : Bool) → bits < 2 ^ 31
    → (b ≡ true → time_of (pos bits) u ≡ Some (roll-DataType x)) → IsBare x
    → TypeClaim (flat 9 (table (time_fields (unit_number u) bits))) (roll-DataType x) (leaf b)
    (record { is_encoded = false; below = λ below. no_ids }) true
time_claim u bits x b small e is_bare =
    leaf_claim 9 (table (time_fields (unit_number u) bits)) x b true (omega arith) is_bare
    (λ allowed texts. (time_fits u bits (omega arith), λ (below : IdsList). steps.times_read u bits (roll-DataType x) below small (e allowed)))

decimal_fits : (precision scale bits : ℕ) → precision < 2 ^ 31 → scale < 2 ^ 31 → bits < 2 ^ 31 → Fits (table (decimal_fields precision scale bits))
decimal_fits precision scale bits small small-too short = record {
  here = record { vtable_size = omega arith; table_size = omega arith };
  rest = record { here = omega arith; rest = record { here = omega arith; rest = record { here = omega arith; rest = tt } } };
}

pub decimal_claim : (p s bits : ℕ) (x : layer.DataType-F DataType Field) → bits < 2 ^ 31 → decimal_of (pos bits) p s ≡ Some (roll-DataType x)
    → IsBare x
    → TypeClaim (flat 7 (table (decimal_fields p s bits))) (roll-DataType x) (leaf (fits_i32 p && fits_i32 s))
    (record { is_encoded = false; below = λ below. no_ids }) true
decimal_claim p s bits x short e is_bare =
    leaf_claim 7 (table (decimal_fields p s bits)) x (fits_i32 p && fits_i32 s) true (omega arith) is_bare (λ allowed texts.
    let small = both (fits_i32 p) (fits_i32 s) allowed in
    let p-small = ltb-true p (2 ^ 31) small.0 in
    let s-small = ltb-true s (2 ^ 31) small.1 in (
      decimal_fits p s bits p-small s-small short,
      λ (below : IdsList).
          steps.decimals_read p s bits (roll-DataType x) below p-small s-small short e,
    ))

pub size_fits : (size : ℕ) → is_size size ≡ true → (1 ≤ size) × (size < 2 ^ 31)
size_fits size e = let parts = both (nat_le 1 size) (fits_i32 size) e in (leb-true 1 size parts.0, ltb-true size (2 ^ 31) parts.1)

pub long_fits : (n : ℕ) → n < 2 ^ 31 → Fits (long_table n)
long_fits n small = record {
  here = record { vtable_size = omega arith; table_size = omega arith };
  rest = record
      { here = omega arith; rest = tt };
}
