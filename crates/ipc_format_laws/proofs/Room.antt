-- What belongs to a schema has room in messages: its counts, and its dictionaries' ids.
use Rattle.std.proofs.Common.{◌≡◌, ℕ, zero, suc, ◌<◌, ◌≤◌, ◌^◌, ℤ, pos, negsuc, true, Bool, ◌&&◌, List, [], ◌∷◌, length, arith}
use Rattle.std.specs.Prelude.{Option, Some, None, nat_lt, FitsSigned}
use Rattle.std.specs.Int.{w64}
use Rattle.std.specs.List.{All, list_all}
use Rattle.std.proofs.lemmas.Bool.{ltb-true}
use Rattle.std.proofs.lemmas.List.Elements.{All-head, All-tail, All-nil, All-cons}
use Rattle.ipc_format_grammar.specs.columns.Kinds.{is_signed}
use Rattle.ipc_format_grammar.specs.Limits.{length_limit, most_dictionaries}
use Rattle.ipc_format_grammar.specs.Schemas.{Ids, IdsList, ids, no_ids, ids_then}
use Rattle.ipc_format_grammar.specs.Encoding.{joined_columns}
use Rattle.ipc_format_grammar.specs.Ids.{is_id, are_ids, all_are_ids}
use Rattle.ipc_format_grammar.specs.GivenDictionaries.{Given}
use Rattle.ipc_format_grammar.specs.WrittenStreams.{Batch, is_node, has_nodes_in_room, is_in_room}
use Rattle.ipc_format_laws.specs.BatchMessages.{AreSigned}
use Rattle.ipc_format_laws.specs.Schemas.{FitsId, FitIds, FitIdsList}
use Rattle.ipc_format_laws.proofs.SchemaParts.{both}

-- ---- ids

pub fits_signed : (z : ℤ) → is_signed 64 z ≡ true → FitsSigned w64 z
fits_signed (pos n) e = record { sfits = ltb-true n (2 ^ 63) e }
fits_signed (negsuc n) e = record { sfits = ltb-true n (2 ^ 63) e }

fits_id : (id : Option ℤ) → is_id id ≡ true → FitsId id
fits_id None e = tt
fits_id (Some id) e = fits_signed id e

mutual
  fit_ids : (here : Ids) → are_ids here ≡ true → FitIds here
  fit_ids (ids id below) e = let tests = both (is_id id) (all_are_ids below) e in (fits_id id tests.0, fit_ids_list below tests.1)

  pub fit_ids_list : (below : IdsList) → all_are_ids below ≡ true → FitIdsList below
  fit_ids_list no_ids e = tt
  fit_ids_list (ids_then first others) e =
      let tests = both (are_ids first) (all_are_ids others) e in (fit_ids first tests.0, fit_ids_list others tests.1)

-- ---- counts

are_signed : (nodes : List (ℕ × ℕ)) → list_all is_node nodes ≡ true → AreSigned nodes
are_signed [] e k d inside = absurd (omega arith)
are_signed (node ∷ nodes) e zero d inside =
    let here = both (is_node node) (list_all is_node nodes) e in
    let tests = both (nat_lt node.0 length_limit) (nat_lt node.1 length_limit) here.0 in
    (ltb-true node.0 length_limit tests.0, ltb-true node.1 length_limit tests.1)
are_signed (node ∷ nodes) e (suc k) d inside =
    are_signed nodes (both (is_node node) (list_all is_node nodes) e).1 k d (omega arith)

-- a dictionary's id is a signed number of eight bytes, and its counts have room
pub record HasRoomForValues (given : Given) : Type 0 where
  pub id : FitsSigned w64 given.id
  pub rows : length given.slots < 2 ^ 64
  pub nodes : AreSigned given.column.nodes

-- A batch's counts have room: the number of its rows in eight bytes, those of its nodes in signed numbers of eight bytes. The dictionaries
-- that it brings have room too, and are no more than may stand in a row.
pub record HasRoomForColumns (batch : Batch) : Type 0 where
  pub rows : batch.rows < 2 ^ 64
  pub nodes : AreSigned (joined_columns batch.columns).nodes
  pub given : All HasRoomForValues batch.given
  pub few : length batch.given ≤ most_dictionaries

abbrev has_room_for : Given → Bool
has_room_for given = has_nodes_in_room given.column && nat_lt (length given.slots) length_limit

-- a dictionary whose id is a signed number
abbrev pub HasId : Given → Type 0
HasId given = FitsSigned w64 given.id

rooms : (given : List Given) → list_all has_room_for given ≡ true → All HasId given → All HasRoomForValues given
rooms [] e its_ids = All-nil HasRoomForValues
rooms (next ∷ given) e its_ids =
    let here = both (has_room_for next) (list_all has_room_for given) e in
    let tests = both (has_nodes_in_room next.column) (nat_lt (length next.slots) length_limit) here.0 in
    All-cons HasRoomForValues next given (record {
      id = All-head HasId next given its_ids;
      rows = omega (arith, ltb-true (length next.slots) length_limit tests.1);
      nodes = are_signed next.column.nodes tests.0;
    }) (rooms given here.1 (All-tail HasId next given its_ids))

pub has_room_for_columns : (batch : Batch) → is_in_room batch ≡ true → All HasId batch.given → length batch.given ≤ most_dictionaries
    → HasRoomForColumns batch
has_room_for_columns batch e its_ids few =
    let first = both (nat_lt batch.rows length_limit && has_nodes_in_room (joined_columns batch.columns)) (list_all has_room_for batch.given) e in
    let tests = both (nat_lt batch.rows length_limit) (has_nodes_in_room (joined_columns batch.columns)) first.0 in
    record {
      rows = omega (arith, ltb-true batch.rows length_limit tests.0);
      nodes = are_signed (joined_columns batch.columns).nodes tests.1;
      given = rooms batch.given first.1 its_ids;
      few = few;
    }
