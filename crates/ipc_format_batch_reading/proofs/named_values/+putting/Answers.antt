-- Each layer's values are put under their ids.
use Rattle.std.proofs.Common.{◌≡◌, ◌∙◌, ◌+◌, suc, List, drop, ap, sym, subst, arith, rules}
use Rattle.std.specs.Prelude.{IfOk}
use Rattle.ipc_format_reading.specs.columnar_memory.declared.DataType.{DataType}
use Rattle.ipc_format_reading.specs.columnar_memory.declared.Field.{Field}
use Rattle.ipc_format_reading.specs.grammar.Columns.{first_ids}
use Rattle.ipc_format_reading.specs.grammar.Dictionaries.{values_in, values_of}
use Rattle.ipc_format_reading.specs.metadata.Views.{ids_views}
use Rattle.ipc_format_reading.specs.metadata.declared.ipc_schema.IpcField.{IpcField}
use Rattle.ipc_format_reading.specs.grammar.Schemas.{ids}
use Rattle.ipc_format_reading.specs.array_reading.column_writing.column_reading.column_bytes.streams.Values.{ids_beside, values_or_within}
use Rattle.ipc_format_batch_reading.specs.NamedValues.{GainsValues}
use Rattle.ipc_format_reading.proofs.Finding.{in_dictionary, in_extension, in_list, in_large_list, in_fixed_list, in_map}
use Rattle.ipc_format_reading.proofs.Finding.{in_struct, in_union}
use Rattle.ipc_format_batch_reading.proofs.NamedValues.{gains_as, gains_more}
use Rattle.ipc_format_batch_reading.proofs.named_values.+putting.Goals as goal

pub put_type-returns-in-Dictionary : goal.put_type-returns-in-Dictionary
put_type-returns-in-Dictionary t c =
    let own = c.args.own in
    let below = ids_views c.args.below.now in
    let said : IfOk c.put_values.result (λ _. GainsValues c.args.found.now c.put_values.new.found
    (λ id. values_or_within c.get.result.now own id below)) = search rules in
    gains_as c.put_values.result c.args.found.now c.put_values.new.found
    (λ id. values_or_within c.get.result.now own id below)
    (λ id. values_in c.args.data_type.now id (ids_beside own c.args.below.now))
    (λ id. ap (λ (value : DataType). values_or_within value own id below) c.get.ensures
    ∙ sym (in_dictionary c.in-Dictionary.field-0 c.in-Dictionary.value c.in-Dictionary.field-2 id own below)
    ∙ ap (λ (of : DataType). values_in of id (ids_beside own c.args.below.now)) (sym c.in-Dictionary.is))
    said

pub put_type-returns-in-List : goal.put_type-returns-in-List
put_type-returns-in-List t c =
    let own = c.args.own in
    let below = ids_views c.args.below.now in
    let said : IfOk c.put_field.result (λ _. GainsValues c.args.found.now c.put_field.new.found
    (λ id. values_in c.get-in-List.result.now.data_type id (first_ids below))) = search rules in
    gains_as c.put_field.result c.args.found.now c.put_field.new.found
    (λ id. values_in c.get-in-List.result.now.data_type id (first_ids below))
    (λ id. values_in c.args.data_type.now id (ids_beside own c.args.below.now))
    (λ id. ap (λ (item : Field). values_in item.data_type id (first_ids below)) c.get-in-List.ensures
    ∙ sym (in_list c.in-List.item id own below)
    ∙ ap (λ (of : DataType). values_in of id (ids_beside own c.args.below.now)) (sym c.in-List.is))
    said

pub put_type-returns-in-LargeList : goal.put_type-returns-in-LargeList
put_type-returns-in-LargeList t c =
    let own = c.args.own in
    let below = ids_views c.args.below.now in
    let said : IfOk c.put_field-in-LargeList.result (λ _. GainsValues c.args.found.now c.put_field-in-LargeList.new.found
    (λ id. values_in c.get-in-LargeList.result.now.data_type id (first_ids below))) = search rules in
    gains_as c.put_field-in-LargeList.result c.args.found.now c.put_field-in-LargeList.new.found
    (λ id. values_in c.get-in-LargeList.result.now.data_type id (first_ids below))
    (λ id. values_in c.args.data_type.now id (ids_beside own c.args.below.now))
    (λ id. ap (λ (item : Field). values_in item.data_type id (first_ids below)) c.get-in-LargeList.ensures
    ∙ sym (in_large_list c.in-LargeList.item id own below)
    ∙ ap (λ (of : DataType). values_in of id (ids_beside own c.args.below.now)) (sym c.in-LargeList.is))
    said

pub put_type-returns-in-FixedSizeList : goal.put_type-returns-in-FixedSizeList
put_type-returns-in-FixedSizeList t c =
    let own = c.args.own in
    let below = ids_views c.args.below.now in
    let said : IfOk c.put_field-in-FixedSizeList.result (λ _. GainsValues c.args.found.now c.put_field-in-FixedSizeList.new.found
    (λ id. values_in c.get-in-FixedSizeList.result.now.data_type id (first_ids below))) = search rules in
    gains_as c.put_field-in-FixedSizeList.result c.args.found.now c.put_field-in-FixedSizeList.new.found
    (λ id. values_in c.get-in-FixedSizeList.result.now.data_type id (first_ids below))
    (λ id. values_in c.args.data_type.now id (ids_beside own c.args.below.now))
    (λ id. ap (λ (item : Field). values_in item.data_type id (first_ids below)) c.get-in-FixedSizeList.ensures
    ∙ sym (in_fixed_list c.in-FixedSizeList.item c.in-FixedSizeList.field-1 id own below)
    ∙ ap (λ (of : DataType). values_in of id (ids_beside own c.args.below.now)) (sym c.in-FixedSizeList.is))
    said

pub put_type-returns-in-Map : goal.put_type-returns-in-Map
put_type-returns-in-Map t c =
    let own = c.args.own in
    let below = ids_views c.args.below.now in
    let said : IfOk c.put_field-in-Map.result (λ _. GainsValues c.args.found.now c.put_field-in-Map.new.found
    (λ id. values_in c.get-in-Map.result.now.data_type id (first_ids below))) = search rules in
    gains_as c.put_field-in-Map.result c.args.found.now c.put_field-in-Map.new.found
    (λ id. values_in c.get-in-Map.result.now.data_type id (first_ids below))
    (λ id. values_in c.args.data_type.now id (ids_beside own c.args.below.now))
    (λ id. ap (λ (entry : Field). values_in entry.data_type id (first_ids below)) c.get-in-Map.ensures
    ∙ sym (in_map c.in-Map.entry c.in-Map.field-1 id own below)
    ∙ ap (λ (of : DataType). values_in of id (ids_beside own c.args.below.now)) (sym c.in-Map.is))
    said

pub put_type-returns-in-Struct : goal.put_type-returns-in-Struct
put_type-returns-in-Struct t c =
    let own = c.args.own in
    let below = ids_views c.args.below.now in
    let said : IfOk c.put_fields.result (λ _. GainsValues c.args.found.now c.put_fields.new.found
    (λ id. values_of c.as_slice.result.now id below)) = search rules in
    gains_as c.put_fields.result c.args.found.now c.put_fields.new.found
    (λ id. values_of c.as_slice.result.now id below)
    (λ id. values_in c.args.data_type.now id (ids_beside own c.args.below.now))
    (λ id. ap (λ (fields : List Field). values_of fields id below) c.as_slice.ensures
    ∙ sym (in_struct c.in-Struct.fields id own below)
    ∙ ap (λ (of : DataType). values_in of id (ids_beside own c.args.below.now)) (sym c.in-Struct.is))
    said

pub put_type-returns-in-Union : goal.put_type-returns-in-Union
put_type-returns-in-Union t c =
    let own = c.args.own in
    let below = ids_views c.args.below.now in
    let said : IfOk c.put_fields-in-Union.result (λ _. GainsValues c.args.found.now c.put_fields-in-Union.new.found
    (λ id. values_of c.as_slice-in-Union.result.now id below)) = search rules in
    gains_as c.put_fields-in-Union.result c.args.found.now c.put_fields-in-Union.new.found
    (λ id. values_of c.as_slice-in-Union.result.now id below)
    (λ id. values_in c.args.data_type.now id (ids_beside own c.args.below.now))
    (λ id. ap (λ (fields : List Field). values_of fields id below) c.as_slice-in-Union.ensures
    ∙ sym (in_union c.in-Union.fields c.in-Union.field-1 c.in-Union.field-2 id own below)
    ∙ ap (λ (of : DataType). values_in of id (ids_beside own c.args.below.now)) (sym c.in-Union.is))
    said

pub put_type-returns-in-Extension : goal.put_type-returns-in-Extension
put_type-returns-in-Extension t c =
    let own = c.args.own in
    let below = ids_views c.args.below.now in
    let said : IfOk c.put_type.result (λ _. GainsValues c.args.found.now c.put_type.new.found
    (λ id. values_in c.get-in-Extension.result.now id (ids own below))) = search rules in
    gains_as c.put_type.result c.args.found.now c.put_type.new.found
    (λ id. values_in c.get-in-Extension.result.now id (ids own below))
    (λ id. values_in c.args.data_type.now id (ids_beside own c.args.below.now))
    (λ id. ap (λ (inner : DataType). values_in inner id (ids own below)) c.get-in-Extension.ensures
    ∙ sym (in_extension c.in-Extension.field-0 c.in-Extension.inner c.in-Extension.field-2 id own below)
    ∙ ap (λ (of : DataType). values_in of id (ids_beside own c.args.below.now)) (sym c.in-Extension.is))
    said

pub put_fields-loop-k-preserved : goal.put_fields-loop-k-preserved
put_fields-loop-k-preserved t c =
    let k = c.loop-k.k in
    let field = c.index-fields-k.result in
    let next : k + 1 ≡ suc k = omega arith in
    let gains : GainsValues c.loop-k.found c.put_field.new.found
    (λ id. values_in field.data_type id (first_ids (ids_views (drop k c.args.ipc_fields.now)))) =
    subst (λ (below : List IpcField). GainsValues c.loop-k.found c.put_field.new.found
    (λ id. values_in field.data_type id (first_ids (ids_views below)))) c.ids_from.ensures c.in_ok-put_field.ensures in
    rw next (gains_more c.args.found.now c.loop-k.found c.put_field.new.found c.args.fields.now c.args.ipc_fields.now k field (search rules)
    (search rules) c.loop-k.invariant gains)
