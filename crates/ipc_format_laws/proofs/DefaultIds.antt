-- The default ids of dictionaries.
use Rattle.std.proofs.Common.{◌≡◌, ℕ, zero, suc, ◌+◌, List, [], ◌∷◌, ◌++◌, map, refl, sym, ap, ◌∙◌, subst, Bool, true, false, arith}
use Rattle.std.specs.Prelude.{◌&&◌, pos, not, sum_by, nat_le, Some, None}
use Rattle.std.specs.List.{list_all}
use Rattle.std.proofs.lemmas.Bool.{and_parts, and_from, both_ways}
use Rattle.std.proofs.lemmas.List.Sums.{sum_by-cons}
use Rattle.ipc_format_grammar.specs.columnar_memory.declared.DataType.{DataType, map-DataType}
use Rattle.ipc_format_grammar.specs.columnar_memory.declared.DataType.TheOpen as layer
use Rattle.ipc_format_grammar.specs.columnar_memory.declared.DataType.TheFolds.{fold-Field, fold-roll-DataType, fold-roll-Field, ind-DataType}
use Rattle.ipc_format_grammar.specs.columnar_memory.declared.DataType.TheViews.{roll-DataType, roll-Field}
use Rattle.ipc_format_grammar.specs.columnar_memory.declared.Field.{Field, map-Field}
use Rattle.ipc_format_grammar.specs.columnar_memory.declared.Schema.{Schema}
use Rattle.ipc_format_grammar.specs.Schemas.{Ids, IdsList, ids, no_ids}
use Rattle.ipc_format_grammar.specs.Writable.{Report, Shape, plain, dictionary, extension, struct_of_two, is_plain, is_dictionary}
use Rattle.ipc_format_grammar.specs.Writable.{is_struct_of_two, is_size, over_all, report_step, field_step, report_of, reports_of}
use Rattle.ipc_format_grammar.specs.Writable.{is_writable}
use Rattle.ipc_format_grammar.specs.Columns.{ids_below}
use Rattle.ipc_format_grammar.specs.Ids.{Numbering, number_each, without_own, number_step, numbered, number_fields, default_ids, Fitting}
use Rattle.ipc_format_grammar.specs.Ids.{fit_each, has_no_own, fit_step, ids_fit, ids_fit_fields}
use Rattle.ipc_format_laws.specs.DefaultIds.{ids_in_order, all_in_order, ids_from, DefaultsFit, DefaultsCount}

-- ---- ids from a number on

moved : (n d : ℕ) → n + suc d ≡ suc n + d
moved n d = omega arith

one_sooner : (d s : ℕ) → suc (d + s) ≡ suc d + s
one_sooner d s = omega arith

nothing_added : (n : ℕ) → n + 0 ≡ n
nothing_added n = omega arith

added_nothing : (n : ℕ) → 0 + n ≡ n
added_nothing n = omega arith

one_after : (n : ℕ) → n + 1 ≡ suc n
one_after n = omega arith

ids_from-append : (n d s : ℕ) → ids_from n d ++ ids_from (n + d) s ≡ ids_from n (d + s)
ids_from-append n zero s = ap (λ m. ids_from m s) (nothing_added n) ∙ ap (ids_from n) (sym (added_nothing s))
ids_from-append n (suc d) s =
    ap (λ m. pos n ∷ (ids_from (suc n) d ++ ids_from m s)) (moved n d) ∙ ap (λ rest. pos n ∷ rest) (ids_from-append (suc n) d s)
    ∙ ap (ids_from n) (one_sooner d s)

-- ---- what holds of a type's ids, and of the ids of some fields

record Facts (fit : Fitting) (report : Report) (n : ℕ) (found : Ids × ℕ) : Type 0 where
  fits : fit found.0 ≡ true
  owns : is_dictionary report.shape ≡ false → ids None (ids_below found.0) ≡ found.0
  next : found.1 ≡ n + report.dictionaries
  order : ids_in_order found.0 ≡ ids_from n report.dictionaries

record ListFacts (fits_each : IdsList → Bool) (count : ℕ) (n : ℕ) (found : IdsList × ℕ) : Type 0 where
  all_fit : fits_each found.0 ≡ true
  last : found.1 ≡ n + count
  in_order : all_in_order found.0 ≡ ids_from n count

abbrev report_field : Field → Report
report_field = fold-Field Report Report report_step field_step

abbrev number_field : Field → Numbering
number_field = fold-Field Numbering Numbering number_step (λ field. field.data_type)

abbrev fit_field : Field → Fitting
fit_field = fold-Field Fitting Fitting fit_step (λ field. field.data_type)

abbrev Numbers : DataType → Type 0
Numbers t = (report_of t).is_allowed ≡ true → (n : ℕ) → Facts (ids_fit t) (report_of t) n (numbered t n)

abbrev FieldNumbers : Field → Type 0
FieldNumbers u = (report_field u).is_allowed ≡ true → (n : ℕ) → Facts (fit_field u) (report_field u) n (number_field u n)

abbrev D : Type 0
D = (t : DataType) × Numbers t

abbrev F : Type 0
F = (u : Field) × FieldNumbers u

abbrev Layer : Type 0
Layer = layer.DataType-F DataType Field

abbrev plain_layer : layer.DataType-F D F → Layer
plain_layer y = map-DataType D F DataType Field (λ e. e.0) (λ e. e.0) y

abbrev layer_report : Layer → Report
layer_report x = report_step (map-DataType DataType Field Report Report report_of report_field x)

abbrev layer_number : Layer → Numbering
layer_number x = number_step (map-DataType DataType Field Numbering Numbering numbered number_field x)

abbrev layer_fit : Layer → Fitting
layer_fit x = fit_step (map-DataType DataType Field Fitting Fitting ids_fit fit_field x)

abbrev all_allowed : List Report → Bool
all_allowed reports = list_all (λ (child : Report). child.is_allowed) reports

abbrev dictionaries_of : List Report → ℕ
dictionaries_of reports = sum_by (λ (child : Report). child.dictionaries) reports

associates : (a b c d e : ℕ) → a ≡ b + c → d ≡ a + e → d ≡ b + (c + e)
associates a b c d e h g = omega arith

-- one field's ids before those of others
before : (fit : Fitting) (report : Report) (number : Numbering) (tests : IdsList → Bool) (count n : ℕ) (rest : ℕ → IdsList × ℕ)
    → Facts fit report n (number n) → ListFacts tests count (number n).1 (rest (number n).1)
    → (fit (number n).0 && tests (rest (number n).1).0 ≡ true) × ((rest (number n).1).1 ≡ n + (report.dictionaries + count))
    × (ids_in_order (number n).0 ++ all_in_order (rest (number n).1).0 ≡ ids_from n (report.dictionaries + count))
before fit report number tests count n rest here others = (
  and_from (fit (number n).0) (tests (rest (number n).1).0) here.fits others.all_fit,
  associates (number n).1 n report.dictionaries (rest (number n).1).1 count here.next others.last,
  (λ j. here.order j ++ others.in_order j) ∙ ap (λ m. ids_from n report.dictionaries ++ ids_from m count) here.next
      ∙ ids_from-append n report.dictionaries count,
)

each_facts : (ys : List F) (n : ℕ) → all_allowed (map report_field (map (λ e. e.0) ys)) ≡ true
    → ListFacts (fit_each (map fit_field (map (λ e. e.0) ys))) (dictionaries_of (map report_field (map (λ e. e.0) ys))) n
    (number_each (map number_field (map (λ e. e.0) ys)) n)
each_facts [] n h = record { all_fit = refl; last = sym (nothing_added n); in_order = refl }
each_facts (y ∷ ys) n h =
    let reports = map report_field (map (λ e. e.0) ys) in
    let parts = and_parts (report_field y.0).is_allowed (all_allowed reports) h in
    let sum : dictionaries_of (report_field y.0 ∷ reports) ≡ (report_field y.0).dictionaries + dictionaries_of reports =
    sum_by-cons (λ (child : Report). child.dictionaries) (report_field y.0) reports in
    let both = before (fit_field y.0) (report_field y.0) (number_field y.0) (fit_each (map fit_field (map (λ e. e.0) ys)))
    (dictionaries_of reports) n
    (number_each (map number_field (map (λ e. e.0) ys))) (y.1 parts.0 n) (each_facts ys (number_field y.0 n).1 parts.1) in
    record { all_fit = both.0; last = both.1 ∙ ap (λ s. n + s) (sym sum); in_order = both.2 ∙ ap (ids_from n) (sym sum) }

-- ---- one layer

-- a type with no id of its own
without : (tests : IdsList → Bool) (report : Report) (count n : ℕ) (found : IdsList × ℕ) → ListFacts tests count n found → count
    ≡ report.dictionaries
    → Facts (λ here. has_no_own here && tests (ids_below here)) report n (without_own found)
without tests report count n found h same = record {
  fits = h.all_fit;
  owns = λ _. refl;
  next = h.last ∙ ap (λ s. n + s) same;
  order = h.in_order ∙ ap (ids_from n) same;
}

no_facts : (n : ℕ) → ListFacts (fit_each []) 0 n (no_ids, n)
no_facts n = record { all_fit = refl; last = sym (nothing_added n); in_order = refl }

one_facts : (y : F) (n : ℕ) → (report_field y.0).is_allowed ≡ true
    → ListFacts (fit_each (fit_field y.0 ∷ [])) (dictionaries_of (report_field y.0 ∷ [])) n (number_each (number_field y.0 ∷ []) n)
one_facts y n h = each_facts (y ∷ []) n (and_from (report_field y.0).is_allowed true h refl)

plain_is_no_dictionary : (s : Shape) → is_plain s ≡ true → is_dictionary s ≡ false
plain_is_no_dictionary plain h = refl
plain_is_no_dictionary struct_of_two h = refl
plain_is_no_dictionary dictionary h = absurd (both_ways false refl h)
plain_is_no_dictionary extension h = refl

not_so : (b : Bool) → not b ≡ true → b ≡ false
not_so true h = absurd (both_ways false refl h)
not_so false h = refl

-- a dictionary's own id, where its values have none
dictionary_facts : (fit : Fitting) (report : Report) (n : ℕ) (found : Ids × ℕ) (over : Report) (over_fit : Fitting)
    → Facts fit report (n + 1) found → is_dictionary report.shape ≡ false → is_dictionary over.shape ≡ true
    → over.dictionaries ≡ report.dictionaries + 1 → over_fit (ids (Some (pos n)) (ids_below found.0)) ≡ fit (ids None (ids_below found.0))
    → Facts over_fit over n (ids (Some (pos n)) (ids_below found.0), found.1)
dictionary_facts fit report n found over over_fit h other is count same = record {
  fits = same ∙ ap fit (h.owns other) ∙ h.fits;
  owns = λ not_it. absurd (both_ways (is_dictionary over.shape) not_it is);
  next = counted found.1 n report.dictionaries over.dictionaries h.next count;
  order = ap (λ rest. pos n ∷ rest) (ap ids_in_order (h.owns other) ∙ h.order) ∙ ap (λ m. pos n ∷ ids_from m report.dictionaries) (one_after n)
      ∙ ap (ids_from n) (sym (count ∙ one_after report.dictionaries));
}
  where
    counted : (a n d e : ℕ) → a ≡ n + 1 + d → e ≡ d + 1 → a ≡ n + e
    counted a n d e h g = omega arith

layer_facts : (y : layer.DataType-F D F) → (layer_report (plain_layer y)).is_allowed ≡ true → (n : ℕ)
    → Facts (layer_fit (plain_layer y)) (layer_report (plain_layer y)) n (layer_number (plain_layer y) n)
layer_facts (layer.List item) h n = without _ _ _ n _ (one_facts item n (and_parts true (report_field item.0).is_allowed h).1) (added_nothing _)
layer_facts (layer.LargeList item) h n = without _ _ _ n _ (one_facts item n (and_parts true (report_field item.0).is_allowed h).1) (added_nothing _)
layer_facts (layer.FixedSizeList item size) h n =
    without _ _ _ n _ (one_facts item n (and_parts (is_size size) (report_field item.0).is_allowed h).1) (added_nothing _)
layer_facts (layer.Map entry is_sorted) h n =
    without _ _ _ n _ (one_facts entry n (and_parts (is_struct_of_two (report_field entry.0).shape) (report_field entry.0).is_allowed h).1)
    (added_nothing _)
layer_facts (layer.Struct children) h n =
    without _ _ _ n _ (each_facts children n (and_parts _ (all_allowed (map report_field (map (λ e. e.0) children))) h).1) refl
layer_facts (layer.Union children type_ids mode) h n =
    without _ _ _ n _ (each_facts children n (and_parts _ (all_allowed (map report_field (map (λ e. e.0) children))) h).1) refl
layer_facts (layer.Dictionary key value is_ordered) h n =
    let parts = and_parts (report_of value.0).is_allowed (not (is_dictionary (report_of value.0).shape)) h in
    dictionary_facts (ids_fit value.0) (report_of value.0) n (numbered value.0 (n + 1)) _ _ (value.1 parts.0 (n + 1))
    (not_so (is_dictionary (report_of value.0).shape) parts.1) refl refl refl
layer_facts (layer.Extension name inner metadata) h n =
    let parts = and_parts (report_of inner.0).is_allowed (is_plain (report_of inner.0).shape) h in
    let below = inner.1 parts.0 n in
    let owns = below.owns (plain_is_no_dictionary (report_of inner.0).shape parts.1) in
    record { fits = below.fits; owns = λ _. owns; next = below.next; order = below.order }
layer_facts _ h n = without (fit_each []) _ 0 n (no_ids, n) (no_facts n) refl

-- ---- every type

layer_numbers : (x : Layer) (y : layer.DataType-F D F) → plain_layer y ≡ x → Numbers (roll-DataType x)
layer_numbers x y is =
    let all : ((layer_report x).is_allowed ≡ true → (n : ℕ) → Facts (layer_fit x) (layer_report x) n (layer_number x n)) =
    subst (λ (x : Layer). (layer_report x).is_allowed ≡ true → (n : ℕ)
    → Facts (layer_fit x) (layer_report x) n (layer_number x n)) is (layer_facts y) in
    let report : layer_report x ≡ report_of (roll-DataType x) = sym (fold-roll-DataType Report Report report_step field_step x) in
    let number : layer_number x ≡ numbered (roll-DataType x) = sym (fold-roll-DataType Numbering Numbering number_step
    (λ field. field.data_type) x) in
    let fit : layer_fit x ≡ ids_fit (roll-DataType x) = sym (fold-roll-DataType Fitting Fitting fit_step (λ field. field.data_type) x) in
    subst (λ (r : Report). r.is_allowed ≡ true → (n : ℕ) → Facts (ids_fit (roll-DataType x)) r n (numbered (roll-DataType x) n)) report
    (subst (λ (g : Numbering). (layer_report x).is_allowed ≡ true → (n : ℕ) → Facts (ids_fit (roll-DataType x)) (layer_report x) n (g n)) number
    (subst (λ (f : Fitting). (layer_report x).is_allowed ≡ true → (n : ℕ) → Facts f (layer_report x) n (layer_number x n)) fit all))

field_numbers : (x : layer.Field-F DataType Field) (y : layer.Field-F D F) → map-Field D F DataType Field (λ e. e.0) (λ e. e.0) y ≡ x
    → FieldNumbers (roll-Field x)
field_numbers x y is =
    let all : Numbers x.data_type = subst Numbers (ap (λ (x : layer.Field-F DataType Field). x.data_type) is) y.data_type.1 in
    let report : report_of x.data_type ≡ report_field (roll-Field x) = sym (fold-roll-Field Report Report report_step field_step x) in
    let number : numbered x.data_type ≡ number_field (roll-Field x) = sym (fold-roll-Field Numbering Numbering number_step
    (λ field. field.data_type) x) in
    let fit : ids_fit x.data_type ≡ fit_field (roll-Field x) = sym (fold-roll-Field Fitting Fitting fit_step (λ field. field.data_type) x) in
    subst (λ (r : Report). r.is_allowed ≡ true → (n : ℕ) → Facts (fit_field (roll-Field x)) r n (number_field (roll-Field x) n)) report
    (subst (λ (g : Numbering). (report_of x.data_type).is_allowed ≡ true → (n : ℕ)
    → Facts (fit_field (roll-Field x)) (report_of x.data_type) n (g n)) number
    (subst (λ (f : Fitting). (report_of x.data_type).is_allowed ≡ true → (n : ℕ)
    → Facts f (report_of x.data_type) n (numbered x.data_type n)) fit all))

type_numbers : (t : DataType) → Numbers t
type_numbers = ind-DataType Numbers FieldNumbers (λ x y is. layer_numbers x y is) (λ x y is. field_numbers x y is)

-- ---- schemas

fields_facts : (fields : List Field) (n : ℕ) → all_allowed (reports_of fields) ≡ true
    → ListFacts (ids_fit_fields fields) (dictionaries_of (reports_of fields)) n (number_fields fields n)
fields_facts [] n h = record { all_fit = refl; last = sym (nothing_added n); in_order = refl }
fields_facts (field ∷ fields) n h =
    let t = field.data_type in
    let parts = and_parts (report_of t).is_allowed (all_allowed (reports_of fields)) h in
    let sum : dictionaries_of (reports_of (field ∷ fields)) ≡ (report_of t).dictionaries + dictionaries_of (reports_of fields) =
    sum_by-cons (λ (child : Report). child.dictionaries) (report_of t) (reports_of fields) in
    let both = before (ids_fit t) (report_of t) (numbered t) (ids_fit_fields fields) (dictionaries_of (reports_of fields)) n
    (number_fields fields) (type_numbers t parts.0 n) (fields_facts fields (numbered t n).1 parts.1) in
    record { all_fit = both.0; last = both.1 ∙ ap (λ s. n + s) (sym sum); in_order = both.2 ∙ ap (ids_from n) (sym sum) }

allowed : (schema : Schema) → is_writable schema ≡ true → all_allowed (reports_of schema.fields) ≡ true
unfolding is_writable
allowed schema h =
    let all = over_all true plain (reports_of schema.fields) in
    let first = and_parts (all.is_allowed && nat_le all.levels 64) (nat_le all.dictionaries 65536) h in
    let second = and_parts all.is_allowed (nat_le all.levels 64) first.0 in
    (and_parts true (all_allowed (reports_of schema.fields)) second.0).1

pub defaults_fit : DefaultsFit
unfolding default_ids
defaults_fit schema h = (fields_facts schema.fields 0 (allowed schema h)).all_fit

pub defaults_count : DefaultsCount
unfolding default_ids
defaults_count schema h = (fields_facts schema.fields 0 (allowed schema h)).in_order
