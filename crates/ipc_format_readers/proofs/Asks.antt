-- What is kept of the columns that are asked for.
use Rattle.std.proofs.Common.{◌≡◌, ◌∙◌, ℕ, List, length, sym, ap, subst}
use Rattle.std.specs.Prelude.{Option, Some}
use Rattle.std.specs.BTreeMap.{BTreeMap}
use Rattle.std.specs.List.{All, Contains}
use Rattle.std.specs.declared.alloc.Global.{Global}
use Rattle.std.specs.declared.vec.Vec.{Vec}
use Rattle.ipc_format_chunk_writing.specs.Projections.{IsPrepared, fits_map}
use Rattle.ipc_format_chunk_writing.specs.columnar_memory.declared.Field.{Field}
use Rattle.ipc_format_chunk_writing.specs.columnar_memory.declared.Schema.{Schema}
use Rattle.ipc_format_chunk_writing.proofs.PutBack.{length_back}
use Rattle.ipc_format_readers.specs.Asking.{IsAskedOf, given_columns}

prepared_columns : (schema made : Schema) (columns rising : Vec ℕ Global) (places : BTreeMap ℕ ℕ) (fields : Vec Field Global)
    → IsPrepared schema.fields columns.items (rising, places, fields) → made ≡ record schema { fields = fields.items }
    → IsAskedOf schema (Some columns.items) (Some (record { rising = rising; places = places }), made)
prepared_columns schema made columns rising places fields prepared is =
    let long : length rising.items ≡ length columns.items = sym (length_back rising.items places.entries) ∙ ap length prepared.back in
    record {
      ready = record {
        rise = prepared.rise;
        wanted = subst (λ (asked : List ℕ). All (Contains asked) rising.items) (sym prepared.back) prepared.wanted;
        fit = ap (λ (width : ℕ). fits_map width places.entries) long ∙ prepared.fit;
      };
      same = ap Some prepared.back;
      schema = is ∙ ap (λ (chosen : List Field). record schema { fields = chosen }) prepared.asked;
    }

-- some columns, as they were prepared
pub asks_some : (schema made : Schema) (projection : Option (Vec ℕ Global)) (columns rising : Vec ℕ Global) (places : BTreeMap ℕ ℕ)
    (fields : Vec Field Global) (seen : List Field) → projection ≡ Some columns → seen ≡ schema.fields
    → IsPrepared seen columns.items (rising, places, fields) → made ≡ record schema { fields = fields.items }
    → IsAskedOf schema (given_columns projection) (Some (record { rising = rising; places = places }), made)
asks_some schema made projection columns rising places fields seen some seen_is prepared is =
    subst (λ (it : Option (Vec ℕ Global)). IsAskedOf schema (given_columns it) (Some (record { rising = rising; places = places }), made)) (sym some)
    (prepared_columns schema made columns rising places fields
    (subst (λ (it : List Field). IsPrepared it columns.items (rising, places, fields)) seen_is prepared) is)
