-- How a type is told, as the definitions have it.
use Rattle.std.specs.Prelude.{ℕ, map, None}
use Rattle.ipc_format_writing.specs.flatbuffers.Objects.{Object, Objects}
use Rattle.ipc_format_writing.specs.grammar.SchemaObjects as objects
use Rattle.ipc_format_writing.specs.Pieces.{extension_view}
use Rattle.ipc_format_values.specs.declared.told.Told.{Told}
use Rattle.ipc_format_values.specs.declared.types.Type_.{Type_}
use Rattle.ipc_format_values.specs.ValueObjects.{type_tag, type_value, field_value, objects_list}

-- the tag of a type's table, and the table
abbrev pub type_kind : Type_ → ℕ × Object
type_kind of = (type_tag of, type_value of)

abbrev pub told_view : Told → objects.Told
told_view told = record {
  tag = type_tag told.type_;
  type_table = type_value told.type_;
  children = objects_list (map field_value told.children);
  dictionary = told.dictionary;
  extension = extension_view told.extension;
}

-- a type's own table over the fields below it
abbrev pub told_over : objects.Told → Objects → objects.Told
told_over told children =
    record { tag = told.tag; type_table = told.type_table; children = children; dictionary = None; extension = None }
