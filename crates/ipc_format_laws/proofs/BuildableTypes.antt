-- Types that are written and in which no union stands are those of which slots are stored as they come.
use Rattle.std.proofs.Common.{◌≡◌, ◌∙◌, Bool, true, false, List, [], ◌∷◌, length, map, refl, sym, ap, subst}
use Rattle.std.specs.Prelude.{◌&&◌, nat_le}
use Rattle.std.specs.List.{list_all}
use Rattle.std.proofs.lemmas.Bool.{and_parts, and_from, or_parts}
use Rattle.std.proofs.lemmas.List.{length-map}
use denote.Hole.Carrier
use Rattle.ipc_format_grammar.specs.columnar_memory.declared.DataType.{DataType, map-DataType}
use Rattle.ipc_format_grammar.specs.columnar_memory.declared.DataType.TheOpen as layer
use Rattle.ipc_format_grammar.specs.columnar_memory.declared.DataType.TheFolds.{fold-Field, fold-roll-DataType, para-roll-DataType, fold-roll-Field}
use Rattle.ipc_format_grammar.specs.columnar_memory.declared.DataType.TheFolds.{para-roll-Field, ind-DataType}
use Rattle.ipc_format_grammar.specs.columnar_memory.declared.DataType.TheViews.{roll-DataType, roll-Field, out-DataType, out-roll-DataType}
use Rattle.ipc_format_grammar.specs.columnar_memory.declared.Field.{Field, map-Field}
use Rattle.ipc_format_grammar.specs.columns.FreshLaws.{buildable_step, is_buildable}
use Rattle.ipc_format_grammar.specs.columns.SoundColumns.{is_entry}
use Rattle.ipc_format_grammar.proofs.columns_lemmas.Claims.{TypeWith, FieldWith, LayerWith, bare_layer}
use Rattle.ipc_format_grammar.proofs.columns_lemmas.FreshLengths.{answers, can_all}
use Rattle.ipc_format_grammar.proofs.columns_lemmas.FreshLengths.{buildable_field, buildable_layer, unlike}
use Rattle.ipc_format_grammar.proofs.columns_lemmas.TypeLayers.{Layer}
use Rattle.ipc_format_grammar.specs.Encoding.{any_of, union_step, has_union}
use Rattle.ipc_format_grammar.specs.Writable.{Report, report_step, field_step, report_of, is_struct_of_two, is_size, fits_i32}
use Rattle.ipc_format_laws.specs.FreshEncodings.{WritableIsBuildable}

abbrev report_field : Field → Report
report_field = fold-Field Report Report report_step field_step

abbrev union_field : Field → Bool
union_field = fold-Field Bool Bool union_step (λ field. field.data_type)

-- what a report says of a type
record Says (report : Report) (union buildable entry : Bool) : Type 0 where
  builds : report.is_allowed ≡ true → union ≡ false → buildable ≡ true
  enters : is_struct_of_two report.shape ≡ true → entry ≡ true

abbrev SaysOfType : DataType → Type 0
SaysOfType t = Says (report_of t) (has_union t) (is_buildable t) (is_entry (out-DataType t))

abbrev SaysOfField : Field → Type 0
SaysOfField u = Says (report_field u) (union_field u) (buildable_field u) (is_entry (out-DataType u.data_type))

at_roll : (x : Layer)
    → Says (report_step (map-DataType DataType Field Report Report report_of report_field x))
    (union_step (map-DataType DataType Field Bool Bool has_union union_field x)) (buildable_layer x) (is_entry x) → SaysOfType (roll-DataType x)
at_roll x h = rw (
  fold-roll-DataType Report Report report_step field_step x,
  fold-roll-DataType Bool Bool union_step (λ field. field.data_type) x,
  para-roll-DataType Bool Bool buildable_step (λ field. field.data_type.1) x,
  out-roll-DataType x,
) h

-- a type that is built in any case, and one that isn't written
plainly : (report : Report) (union entry : Bool) → is_struct_of_two report.shape ≡ false → Says report union true entry
plainly report union entry other = record { builds = λ allowed none. refl; enters = λ two. absurd (unlike (sym other ∙ two)) }

abbrev Children : Type 0
Children = List (FieldWith SaysOfField)

abbrev fields_of : Children → List Field
fields_of ys = map (λ e. e.0) ys

children_build : (ys : Children) → list_all (λ (child : Report). child.is_allowed) (map report_field (fields_of ys)) ≡ true
    → any_of (map union_field (fields_of ys)) ≡ false → can_all (fields_of ys) ≡ true
children_build [] allowed none = refl
children_build (y ∷ ys) allowed none =
    let allows = and_parts (report_field y.0).is_allowed (list_all (λ (child : Report). child.is_allowed) (map report_field
    (fields_of ys))) allowed in
    let nones = or_parts (union_field y.0) (any_of (map union_field (fields_of ys))) none in
    and_from (buildable_field y.0) (can_all (fields_of ys)) (y.1.builds allows.0 nones.0) (children_build ys allows.1 nones.1)

struct_builds : (ys : Children) → (report_step (layer.Struct (map report_field (fields_of ys)))).is_allowed ≡ true
    → any_of (map union_field (fields_of ys)) ≡ false → (nat_le 1 (length (answers (fields_of ys))) && can_all (fields_of ys)) ≡ true
struct_builds ys allowed none =
    let us : List Field = fields_of ys in
    let parts = and_parts (nat_le 1 (length (map report_field us))) (list_all (λ (child : Report). child.is_allowed) (map report_field us)) allowed in
    and_from (nat_le 1 (length (answers us))) (can_all us)
    (ap (nat_le 1) (length-map us (λ u. (u, buildable_field u)) ∙ sym (length-map us report_field)) ∙ parts.0) (children_build ys parts.1 none)

struct_says : (ys : Children) → Says (report_step (layer.Struct (map report_field (fields_of ys)))) (any_of (map union_field (fields_of ys)))
    (nat_le 1 (length (answers (fields_of ys))) && can_all (fields_of ys)) (is_entry (layer.Struct (fields_of ys)))
struct_says [] = record { builds = struct_builds []; enters = λ two. absurd (unlike two) }
struct_says (key ∷ []) = record { builds = struct_builds (key ∷ []); enters = λ two. absurd (unlike two) }
struct_says (key ∷ value ∷ []) = record { builds = struct_builds (key ∷ value ∷ []); enters = λ two. refl }
struct_says (key ∷ value ∷ other ∷ more) = record { builds = struct_builds (key ∷ value ∷ other ∷ more); enters = λ two. absurd (unlike two) }

says_step : (y : LayerWith SaysOfType SaysOfField) → SaysOfType (roll-DataType (bare_layer SaysOfType SaysOfField y))
says_step (layer.List item) = at_roll (layer.List item.0) (record { builds = item.1.builds; enters = λ two. absurd (unlike two) })
says_step (layer.LargeList item) = at_roll (layer.LargeList item.0) (record { builds = item.1.builds; enters = λ two. absurd (unlike two) })
says_step (layer.FixedSizeList item size) = at_roll (layer.FixedSizeList item.0 size) (record {
  builds = λ allowed none.
      let parts = and_parts (is_size size) (report_field item.0).is_allowed allowed in
      and_from (nat_le 1 size) (buildable_field item.0) (and_parts (nat_le 1 size) (fits_i32 size) parts.0).0 (item.1.builds parts.1 none);
  enters = λ two. absurd (unlike two);
})
says_step (layer.FixedSizeBinary size) = at_roll (layer.FixedSizeBinary size) (record {
  builds = λ allowed none. (and_parts (nat_le 1 size) (fits_i32 size) allowed).0;
  enters = λ two. absurd (unlike two);
})
says_step (layer.Map entry is_sorted) = at_roll (layer.Map entry.0 is_sorted) (record {
  builds = λ allowed none.
      let parts = and_parts (is_struct_of_two (report_field entry.0).shape) (report_field entry.0).is_allowed allowed in
      and_from (is_entry (out-DataType entry.0.data_type)) (buildable_field entry.0) (entry.1.enters parts.0) (entry.1.builds parts.1 none);
  enters = λ two. absurd (unlike two);
})
says_step (layer.Struct children) = at_roll (layer.Struct (fields_of children)) (struct_says children)
says_step (layer.Union children ids mode) =
    at_roll (layer.Union (fields_of children) ids mode)
    (record { builds = λ allowed none. absurd (unlike (sym none)); enters = λ two. absurd (unlike two) })
says_step (layer.Dictionary key value is_ordered) = at_roll (layer.Dictionary key value.0 is_ordered) (record {
  builds = λ allowed none. value.1.builds (and_parts (report_of value.0).is_allowed _ allowed).0 none;
  enters = λ two. absurd (unlike two);
})
says_step (layer.Extension name inner metadata) = at_roll (layer.Extension name inner.0 metadata) (record {
  builds = λ allowed none. inner.1.builds (and_parts (report_of inner.0).is_allowed _ allowed).0 none;
  enters = λ two. absurd (unlike two);
})
says_step layer.Float16 = at_roll layer.Float16 (record { builds = λ allowed none. absurd (unlike allowed); enters = λ two. absurd (unlike two) })
says_step layer.Float32 = at_roll layer.Float32 (record { builds = λ allowed none. absurd (unlike allowed); enters = λ two. absurd (unlike two) })
says_step layer.Float64 = at_roll layer.Float64 (record { builds = λ allowed none. absurd (unlike allowed); enters = λ two. absurd (unlike two) })
says_step y = at_roll (bare_layer SaysOfType SaysOfField y) (plainly _ _ _ refl)

field_says : (x : layer.Field-F DataType Field) → SaysOfType x.data_type → SaysOfField (roll-Field x)
unfolding roll-DataType denote.Hole.Carrier.roll
field_says x h = rw (
  fold-roll-Field Report Report report_step field_step x,
  fold-roll-Field Bool Bool union_step (λ field. field.data_type) x,
  para-roll-Field Bool Bool buildable_step (λ field. field.data_type.1) x,
) h

says_all : (t : DataType) → SaysOfType t
says_all = ind-DataType SaysOfType SaysOfField (λ x y is. subst (λ (x : Layer). SaysOfType (roll-DataType x)) is (says_step y))
    (λ x y is. subst (λ (x : layer.Field-F DataType Field). SaysOfField (roll-Field x)) is
    (field_says (map-Field (TypeWith SaysOfType) (FieldWith SaysOfField) DataType Field (λ e. e.0) (λ e. e.0) y) y.data_type.1))

pub writable_is_buildable : WritableIsBuildable
writable_is_buildable t allowed none = (says_all t).builds allowed none
