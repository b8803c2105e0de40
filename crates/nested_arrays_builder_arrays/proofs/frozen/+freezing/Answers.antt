use Rattle.std.proofs.Common.{rules, ◌≡◌, ◌∙◌, ◌≤◌, [], length, true, ap, sym, subst, arith}
use Rattle.std.proofs.lemmas.Iterator.Adapters.{YieldsList-from_vec}
use Rattle.std.proofs.lemmas.Iterator.Consumers.{YieldsList-turn}
use Rattle.nested_arrays_builders.specs.columnar_memory.Spans.{offsets_of}
use Rattle.nested_arrays_builders.specs.arrays.Lengths.{size_of}
use Rattle.nested_arrays_builders.specs.columns.SoundColumns.{is_sound}
use Rattle.nested_arrays_builders.specs.columns.StoredColumns.{dictionary, fixed_lists, lists}
use Rattle.nested_arrays_builders.specs.parts.Marks.{mask_of_marks}
use Rattle.nested_arrays_builders.specs.parts.Open.{Open, column_of}
use Rattle.nested_arrays_builders.specs.Nodes.{parts_of}
use Rattle.nested_arrays_builders.specs.values.Uses.{keys_from}
use Rattle.nested_arrays_builders.specs.Parts.{listed, sized, of_fields, keyed, parts_column, parts_size, type_size, types_size}
use Rattle.nested_arrays_builders.specs.Widths.{is_large, spans_in}
use Rattle.nested_arrays_builders.proofs.CutParts.{one_child}
use Rattle.nested_arrays_builders.proofs.HeldNodes.{nested_size}
use Rattle.nested_arrays_builder_arrays.proofs.KeptArrays.{answered_as, nested_column, nested_kept, kept_below, list_is}
use Rattle.nested_arrays_builder_arrays.proofs.KeptArrays.{list_sound, list_lies, sized_is}
use Rattle.nested_arrays_builder_arrays.proofs.KeptArrays.{keyed_is, keyed_sound, keyed_lies, keyed_few}
use Rattle.nested_arrays_builder_arrays.proofs.KeptArrays.{sized_sound, record_is, record_sound, record_long}
use Rattle.nested_arrays_builder_arrays.proofs.frozen.+freezing.Goals as goal

pub into_array-freeze_nested-requires : goal.into_array-freeze_nested-requires
into_array-freeze_nested-requires t c =
    let size = nested_size c.into_node.result c.in-Nested.head c.in-Nested.children c.args.builder c.in-Nested.is c.into_node.ensures.seen
    c.into_node.ensures.held in
    (search (rules, size), nested_kept c.into_node.result c.in-Nested.head c.in-Nested.children c.in-Nested.is c.into_node.ensures.held)

pub into_array-returns-in-Nested : goal.into_array-returns-in-Nested
into_array-returns-in-Nested t c =
    answered_as c.freeze_nested.result _ (column_of c.args.builder) c.freeze_nested.ensures
    (nested_column c.into_node.result c.in-Nested.head c.in-Nested.children c.args.builder c.in-Nested.is c.into_node.ensures.seen
    c.into_node.ensures.held)

pub freeze_nested-freeze_list-requires : goal.freeze_nested-freeze_list-requires
freeze_nested-freeze_list-requires t c =
    let d = c.args.head.data_type in
    let marks = c.args.head.marks in
    let large = is_large c.in-List.offsets in
    let spans = spans_in c.in-List.offsets in
    let is = ap parts_of c.in-List.is in
    let kept = kept_below d marks c.args.children (listed large spans c.in-List.values.value) is c.requires in
    let size : type_size c.into_inner.result.data_type ≡ parts_size (parts_of c.args.children) =
    ap (λ (o : Open). type_size o.data_type) c.into_inner.ensures ∙ sym (ap parts_size is) in (
      search (rules, size),
      (
        subst (λ (o : Open). is_sound (lists d (mask_of_marks marks) (offsets_of spans) (column_of o)) ≡ true) (sym c.into_inner.ensures)
            (list_sound d marks _ large spans c.in-List.values.value kept),
        list_lies d marks _ large spans c.in-List.values.value kept,
      ),
    )

pub freeze_nested-returns-in-List : goal.freeze_nested-returns-in-List
freeze_nested-returns-in-List t c =
    let d = c.args.head.data_type in
    let marks = c.args.head.marks in
    let large = is_large c.in-List.offsets in
    let spans = spans_in c.in-List.offsets in
    answered_as c.freeze_list.result _ (parts_column d marks (parts_of c.args.children)) c.freeze_list.ensures
    (ap (λ (o : Open). lists d (mask_of_marks marks) (offsets_of spans) (column_of o)) c.into_inner.ensures
    ∙ list_is d marks [] large spans c.in-List.values.value ∙ ap (parts_column d marks) (sym (ap parts_of c.in-List.is)))

pub freeze_nested-freeze_sized-requires : goal.freeze_nested-freeze_sized-requires
freeze_nested-freeze_sized-requires t c =
    let d = c.args.head.data_type in
    let marks = c.args.head.marks in
    let child = c.in-FixedSizeList.values.value in
    let is = ap parts_of c.in-FixedSizeList.is in
    let kept = kept_below d marks c.args.children (sized c.in-FixedSizeList.field-0 child) is c.requires in
    let size : type_size c.into_inner-in-FixedSizeList.result.data_type ≡ parts_size (parts_of c.args.children) =
    ap (λ (o : Open). type_size o.data_type) c.into_inner-in-FixedSizeList.ensures ∙ sym (ap parts_size is) in (
      search (rules, size),
      subst (λ (o : Open). is_sound (fixed_lists d (mask_of_marks marks) (size_of d) (column_of o)) ≡ true)
          (sym c.into_inner-in-FixedSizeList.ensures) (sized_sound d marks _ c.in-FixedSizeList.field-0 child kept),
    )

pub freeze_nested-returns-in-FixedSizeList : goal.freeze_nested-returns-in-FixedSizeList
freeze_nested-returns-in-FixedSizeList t c =
    let d = c.args.head.data_type in
    let marks = c.args.head.marks in
    let child = c.in-FixedSizeList.values.value in
    let kept = kept_below d marks c.args.children (sized c.in-FixedSizeList.field-0 child) (ap parts_of c.in-FixedSizeList.is) c.requires in
    answered_as c.freeze_sized.result _ (parts_column d marks (parts_of c.args.children)) c.freeze_sized.ensures
    (ap (λ (o : Open). fixed_lists d (mask_of_marks marks) (size_of d) (column_of o)) c.into_inner-in-FixedSizeList.ensures
    ∙ sized_is d marks _ c.in-FixedSizeList.field-0 child kept ∙ ap (parts_column d marks) (sym (ap parts_of c.in-FixedSizeList.is)))

pub freeze_nested-freeze_struct-requires : goal.freeze_nested-freeze_struct-requires
freeze_nested-freeze_struct-requires t c =
    let d = c.args.head.data_type in
    let marks = c.args.head.marks in
    let children = c.in-Struct.fields.items in
    let is = ap parts_of c.in-Struct.is in
    let kept = kept_below d marks c.args.children (of_fields children) is c.requires in
    let size : types_size children ≡ parts_size (parts_of c.args.children) = sym (ap parts_size is) in
    (search (rules, size), (record_sound d marks _ children kept, record_long d marks _ children kept))

pub freeze_nested-returns-in-Struct : goal.freeze_nested-returns-in-Struct
freeze_nested-returns-in-Struct t c =
    let d = c.args.head.data_type in
    let marks = c.args.head.marks in
    answered_as c.freeze_struct.result _ (parts_column d marks (parts_of c.args.children)) c.freeze_struct.ensures
    (record_is d marks [] c.in-Struct.fields.items ∙ ap (parts_column d marks) (sym (ap parts_of c.in-Struct.is)))

pub freeze_nested-freeze_keyed-requires : goal.freeze_nested-freeze_keyed-requires
freeze_nested-freeze_keyed-requires t c =
    let d = c.args.head.data_type in
    let marks = c.args.head.marks in
    let key = c.in-Dictionary.keys.key in
    let uses = c.in-Dictionary.keys.uses in
    let known = c.in-Dictionary.keys.known in
    let child = c.in-Dictionary.values.value in
    let is = ap parts_of c.in-Dictionary.is in
    let kept = kept_below d marks c.args.children (keyed key uses known child) is c.requires in
    let size : type_size c.into_inner-in-Dictionary.result.data_type ≡ parts_size (parts_of c.args.children) =
    ap (λ (o : Open). type_size o.data_type) c.into_inner-in-Dictionary.ensures ∙ sym (ap parts_size is) in (
      search (rules, size),
      (
        subst (λ (o : Open). is_sound (dictionary d (mask_of_marks marks) (keys_from uses) (column_of o)) ≡ true)
            (sym c.into_inner-in-Dictionary.ensures) (keyed_sound d marks _ key uses known child kept),
        (keyed_lies d marks _ key uses known child kept, keyed_few d marks _ key uses known child kept),
      ),
    )

pub freeze_nested-returns-in-Dictionary : goal.freeze_nested-returns-in-Dictionary
freeze_nested-returns-in-Dictionary t c =
    let d = c.args.head.data_type in
    let marks = c.args.head.marks in
    let key = c.in-Dictionary.keys.key in
    let uses = c.in-Dictionary.keys.uses in
    let known = c.in-Dictionary.keys.known in
    answered_as c.freeze_keyed.result _ (parts_column d marks (parts_of c.args.children)) c.freeze_keyed.ensures
    (ap (λ (o : Open). dictionary d (mask_of_marks marks) (keys_from uses) (column_of o)) c.into_inner-in-Dictionary.ensures
    ∙ keyed_is d marks [] key uses known c.in-Dictionary.values.value ∙ ap (parts_column d marks) (sym (ap parts_of c.in-Dictionary.is)))

pub freeze_each-into_array-requires : goal.freeze_each-into_array-requires
freeze_each-into_array-requires t c =
    let os = c.args.builders.items in
    let turn = YieldsList-turn (YieldsList-from_vec os c.into_iter-builder-iterator.ensures.into_iter_gives.0
    (c.into_iter-builder-iterator.ensures.into_iter_gives.1 ∙ c.args.builders.ok.0)) c.loop-builder.yielded c.loop-builder.builder-iterator
    c.loop-builder.yielded_by c.next.result c.next.new.self c.in-Some.builder c.in-Some.is c.next.ensures.steps in
    let size : type_size c.in-Some.builder.data_type ≤ types_size os =
    omega (arith, one_child os (length c.loop-builder.yielded) c.in-Some.builder turn.0, ap (λ (o : Open). type_size o.data_type) turn.1) in
    (search (rules, size), tt)
