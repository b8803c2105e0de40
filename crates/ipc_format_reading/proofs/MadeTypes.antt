-- The column that is made of parts has the type that was asked for.
use Rattle.std.proofs.Common.{◌≡◌, ◌∙◌, ℕ, ◌*◌, Bool, true, false, List, length, refl, sym, ap, ◌==◌}
use Rattle.std.specs.Prelude.{Option, Some, None, if◌then◌else◌}
use Rattle.std.specs.List.{list_all}
use Rattle.ipc_format_array_reading.specs.columnar_memory.declared.DataType.{DataType}
use Rattle.ipc_format_array_reading.specs.columnar_memory.declared.DataType.TheOpen as layer
use Rattle.ipc_format_array_reading.specs.columns.SoundColumns.{is_sound}
use Rattle.ipc_format_array_reading.specs.columns.StoredColumns.{Column, column_len, column_type, fixed_lists, in_columns, lists, records, type_layer, unions}
use Rattle.ipc_format_array_reading.proofs.Cuts.{column_type-cut}
use Rattle.ipc_format_array_reading.proofs.TypeLayers.{Layer}
use Rattle.ipc_format_array_reading.specs.flatbuffers.Reading.{◌>>=◌}
use Rattle.ipc_format_array_reading.specs.grammar.Columns.{last_of, taken_of}
use Rattle.ipc_format_array_reading.specs.Parts.{Parts, choices, cut_under, if_long, joined_column, made_column, marked_column, marks, single}
use Rattle.ipc_format_array_reading.specs.Parts.{sound_column, spans}

-- a column that there may be has a type
abbrev HasType : DataType → Option Column → Type 0
HasType t made = (c : Column) → made ≡ Some c → column_type c ≡ t

none_typed : (t : DataType) → HasType t None
none_typed t c is = absurd cc

this_typed : (t : DataType) (whole : Column) → column_type whole ≡ t → HasType t (Some whole)
this_typed t whole typed c is = let same : whole ≡ c = cc in ap column_type (sym same) ∙ typed

long_typed : (t : DataType) (long : Bool) (whole : Column) → column_type whole ≡ t → HasType t (if_long long whole)
long_typed t true whole typed = this_typed t whole typed
long_typed t false whole typed = none_typed t

single_typed : (t : DataType) (only : Option Column) (f : Column → Option Column) → ((items : Column) → HasType t (f items))
    → HasType t (only >>= f)
single_typed t None f each = none_typed t
single_typed t (Some items) f each = each items

marked_typed : (x : Layer) (t : DataType) (taken : ℕ) (mask : Option (List Bool)) (cs : List Column) → HasType t (marked_column x t taken mask cs)
marked_typed (layer.FixedSizeList item size) t taken mask cs =
    single_typed t (single cs) (λ items. if_long (column_len items == taken * size) (fixed_lists t mask size items))
    (λ items. long_typed t (column_len items == taken * size) (fixed_lists t mask size items) refl)
marked_typed (layer.Struct us) t taken mask cs =
    long_typed t (list_all (λ column. column_len column == taken) cs) (records t mask taken (in_columns cs)) refl
marked_typed _ t taken mask cs = none_typed t

joined_typed : (x : Layer) (t : DataType) (parts : Parts) (cs : List Column) → HasType t (joined_column x t parts cs)
joined_typed x t (marks taken mask) cs = marked_typed x t taken mask cs
joined_typed x t (spans taken mask offsets) cs =
    single_typed t (single cs) (λ items. if_long (column_len items == last_of offsets) (lists t mask offsets items))
    (λ items. long_typed t (column_len items == last_of offsets) (lists t mask offsets items) refl)
joined_typed x t (choices ids places) cs = this_typed t (unions t ids places (in_columns cs)) refl

cut_typed : (t : DataType) (limit : Option ℕ) (parts : Parts) (c : Column) → column_type c ≡ t → column_type (cut_under limit parts c) ≡ t
cut_typed t limit (marks taken mask) c typed = typed
cut_typed t limit (spans taken mask offsets) c typed = typed
cut_typed t limit (choices ids places) c typed = column_type-cut c 0 (taken_of limit (length ids)) ∙ typed

sound_typed : (t : DataType) (limit : Option ℕ) (parts : Parts) (c : Column) → column_type c ≡ t → (sound : Bool)
    → HasType t (if sound then Some (cut_under limit parts c) else None)
sound_typed t limit parts c typed true = this_typed t (cut_under limit parts c) (cut_typed t limit parts c typed)
sound_typed t limit parts c typed false = none_typed t

from_joined : (t : DataType) (limit : Option ℕ) (parts : Parts) (joined : Option Column) → HasType t joined
    → HasType t (joined >>= sound_column limit parts)
from_joined t limit parts None typed = none_typed t
from_joined t limit parts (Some c) typed = sound_typed t limit parts c (typed c refl) (is_sound c)

-- the type of what is made
pub made_type : (t : DataType) (limit : Option ℕ) (parts : Parts) (cs : List Column) (c : Column) → made_column t limit parts cs ≡ Some c
    → column_type c ≡ t
made_type t limit parts cs c is =
    from_joined t limit parts (joined_column (type_layer t) t parts cs) (joined_typed (type_layer t) t parts cs) c is
