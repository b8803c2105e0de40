use Rattle.std.proofs.Common.{map, rules}
use Rattle.ipc_format_writing.specs.grammar.Schemas.{ids}
use Rattle.ipc_format_writing.specs.grammar.SchemaObjects.{objects_of}
use Rattle.ipc_format_writing.specs.metadata.Views.{ids_views}
use Rattle.ipc_format_writing.specs.Pieces.{field_told}
use Rattle.ipc_format_values.proofs.FieldValues.{fields_more}
use Rattle.ipc_format_values.proofs.serializing.+fields.Goals as goal

pub each_of-loop-k-preserved : goal.each_of-loop-k-preserved
each_of-loop-k-preserved t c =
    let here = c.first_beside-here.result in
    fields_more c.loop-k.made c.push.new.self c.in_ok-field_of.field-0 c.args.fields.now c.loop-k.k c.index-fields-k.result
    (ids_views c.loop-k.rest.now) (ids_views here.others.now) (ids here.own (ids_views here.below.now))
    (objects_of (map field_told c.args.fields.now) (ids_views c.args.beside.now)) c.loop-k-test.true c.index-fields-k.is
    c.first_beside-here.ensures.first c.first_beside-here.ensures.others (search rules) c.in_ok-field_of.ensures c.loop-k.invariant
