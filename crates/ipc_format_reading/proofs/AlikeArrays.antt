-- The arrays of columns are read the same at places that stand alike: below a column and behind one, at the fronts of what is left of the
-- queues.
use Rattle.std.proofs.Common.{◌≡◌, ◌∙◌, ℕ, zero, suc, ◌+◌, Bool, List, [], ◌∷◌, map, drop, refl, sym, ap, inl, inr, zero-add, arith}
use Rattle.std.specs.Prelude.{Option, slice_get}
use Rattle.std.proofs.lemmas.List.{drop-map}
use Rattle.ipc_format_array_reading.specs.flatbuffers.Reading.{guard}
use Rattle.ipc_format_array_reading.specs.columnar_memory.declared.DataType.{DataType}
use Rattle.ipc_format_array_reading.specs.columnar_memory.declared.Field.{Field}
use Rattle.ipc_format_array_reading.specs.columns.Slots.{Slot}
use Rattle.ipc_format_array_reading.specs.grammar.Columns.{Place, Dictionary, slots_in, first_below, behind_column}
use Rattle.ipc_format_array_reading.specs.grammar.Layouts.{node_count, buffer_count}
use Rattle.ipc_format_array_reading.specs.grammar.Messages.{FieldNode, Buffer, Version}
use Rattle.ipc_format_array_reading.specs.grammar.Schemas.{Ids, IdsList, ids_then, no_ids}
use Rattle.ipc_format_array_reading.specs.ArrayReads.{array_slots, is_readable}
use Rattle.ipc_format_reading.specs.Below.{arrays_below}
use Rattle.ipc_format_array_reading.specs.Limits.{AlikeLimits}
use Rattle.ipc_format_reading.proofs.AlikePlaces.{Spot, put, spot_further, LimitsAgree, StandsAlike, Agrees, both_same}
use Rattle.ipc_format_reading.proofs.AlikeColumns.{alike_behind}
use Rattle.ipc_format_reading.proofs.AlikeTypes.{types_agree}

-- Two places stand alike: from each on the same nodes and buffers stand, all else is the same, and limits take the same of each column.
pub record Alike (at bt : Place) : Type 0 where
  pub nodes : (k : ℕ) → slice_get at.source.nodes (at.node + k) ≡ slice_get bt.source.nodes (bt.node + k)
  pub buffers : (k : ℕ) → slice_get at.source.buffers (at.buffer + k) ≡ slice_get bt.source.buffers (bt.buffer + k)
  pub limits : LimitsAgree at.source.nodes at.node at.limit bt.limit
  pub version : at.source.version ≡ bt.source.version
  pub is_little_endian : at.source.is_little_endian ≡ bt.source.is_little_endian
  pub room : at.source.room ≡ bt.source.room
  pub origin : at.source.origin ≡ bt.source.origin
  pub standing : at.standing ≡ bt.standing
  pub ids : at.ids ≡ bt.ids

abbrev pub spot_of : Place → Spot
spot_of bt = record { nodes = bt.source.nodes; buffers = bt.source.buffers; node = bt.node; buffer = bt.buffer; limit = bt.limit }

pub alike_spot : (at bt : Place) → Alike at bt → StandsAlike at (spot_of bt)
alike_spot at bt alike = record { nodes = alike.nodes; buffers = alike.buffers; limits = alike.limits }

pub put_there : (at bt : Place) → Alike at bt → put (spot_of bt) at ≡ bt
put_there at bt alike = λ j. record {
  source = record {
    nodes = bt.source.nodes;
    buffers = bt.source.buffers;
    version = alike.version j;
    is_little_endian = alike.is_little_endian j;
    room = alike.room j;
    origin = alike.origin j;
  };
  standing = alike.standing j;
  limit = bt.limit;
  node = bt.node;
  buffer = bt.buffer;
  ids = alike.ids j;
}

-- what agrees at each spot is found at each place that stands alike
pub agrees_there : {A : Type 0} (found : Place → A) → Agrees found → (at bt : Place) → Alike at bt → found at ≡ found bt
agrees_there found agrees at bt alike = agrees at (spot_of bt) (alike_spot at bt alike) ∙ ap found (put_there at bt alike)

-- ---- slots and arrays

pub slots_alike : (t : DataType) (at bt : Place) → Alike at bt → slots_in t at ≡ slots_in t bt
slots_alike t = agrees_there (slots_in t) (types_agree t)

arrays_agree : (t : DataType) → Agrees (array_slots t)
arrays_agree t at spot alike = both_same (guard (is_readable t at.ids)) _ _ _ refl (λ (passed : Bool). types_agree t at spot alike)

pub arrays_alike : (t : DataType) (at bt : Place) → Alike at bt → array_slots t at ≡ array_slots t bt
arrays_alike t = agrees_there (array_slots t) (arrays_agree t)

-- ---- arrays one after another, by ids of their own

below_agree : (fields : List Field) (below : IdsList) → Agrees (λ at. arrays_below fields at below)
below_agree [] below at spot alike = refl
below_agree (field ∷ fields) no_ids at spot alike = refl
below_agree (field ∷ fields) (ids_then first others) at spot alike =
    both_same _ _ _ _ (arrays_agree field.data_type (record at { ids = first }) spot
    (record { nodes = alike.nodes; buffers = alike.buffers; limits = alike.limits })) (λ (column : List Slot).
    both_same _ _ _ _ (below_agree fields others (behind_column at field.data_type)
    (spot_further spot (node_count field.data_type) (buffer_count at.source.version field.data_type) spot.limit)
    (alike_behind at spot field.data_type alike)) (λ (columns : List (List Slot)). refl))

pub below_alike : (fields : List Field) (below : IdsList) (at bt : Place) → Alike at bt → arrays_below fields at below ≡ arrays_below fields bt below
below_alike fields below = agrees_there (λ at. arrays_below fields at below) (below_agree fields below)

-- the ids at a place say nothing of them
pub own_ids_only : (fields : List Field) (below : IdsList) (at : Place) (here : Ids)
    → arrays_below fields at below ≡ arrays_below fields (record at { ids = here }) below
own_ids_only [] below at here = refl
own_ids_only (field ∷ fields) no_ids at here = refl
own_ids_only (field ∷ fields) (ids_then first others) at here =
    both_same _ _ _ _ refl (λ (column : List Slot).
    both_same _ _ _ _ (own_ids_only fields others (behind_column at field.data_type) here) (λ (columns : List (List Slot)). refl))

-- ---- at the fronts of queues

get_drop : {A : Type 0} (n k : ℕ) (xs : List A) → slice_get xs (n + k) ≡ slice_get (drop n xs) k
get_drop zero k xs = ap (slice_get xs) (zero-add k) ∙ ap (λ ys. slice_get ys k) (drop_none xs)
  where
    drop_none : {A : Type 0} (xs : List A) → xs ≡ drop 0 xs
    drop_none [] = refl
    drop_none (x ∷ xs) = refl
get_drop (suc n) k [] = refl
get_drop (suc n) k (x ∷ xs) =
    let next : suc n + k ≡ suc (n + k) = omega arith in
    ap (slice_get (x ∷ xs)) next ∙ get_drop n k xs

get_mapped : {X Y : Type 0} (f : X → Y) (n m k : ℕ) (xs : List X) → m ≡ n → slice_get (map f xs) (m + k) ≡ slice_get (map f (drop n xs)) (0 + k)
get_mapped f n m k xs is =
    ap (λ j. slice_get (map f xs) (j + k)) is ∙ get_drop n k (map f xs)
    ∙ ap (λ ys. slice_get ys k) (drop-map f n xs) ∙ ap (slice_get (map f (drop n xs))) (sym (zero-add k))

abbrev pub front_at : {X Y : Type 0} → (X → FieldNode) → (Y → Buffer) → List X → List Y → Version → Bool → List Dictionary → Option ℕ → ℕ → Ids
    → List ℕ → Place
front_at node_of buffer_of nodes buffers version little standing limit origin here room = record {
  source = record {
    nodes = map node_of nodes;
    buffers = map buffer_of buffers;
    version = version;
    is_little_endian = little;
    room = room;
    origin = origin;
  };
  standing = standing;
  limit = limit;
  node = 0;
  buffer = 0;
  ids = here;
}

limits_dropped : {X : Type 0} (f : X → FieldNode) (n m : ℕ) (xs : List X) (old new : Option ℕ) → m ≡ n → AlikeLimits (map f (drop n xs)) old new
    → LimitsAgree (map f xs) m old new
limits_dropped f n m xs old new is (inl same) = inl same
limits_dropped f n m xs old new is (inr both) =
    inr (
      (λ k node count found counted. both.0 k node count
          (ap (slice_get (map f (drop n xs))) (sym (zero-add k)) ∙ sym (get_mapped f n m k xs is) ∙ found) counted),
      both.1,
      both.2,
    )

pub below_at_front : {X Y : Type 0} (f : X → FieldNode) (g : Y → Buffer) (fields : List Field) (nodes : List X) (buffers : List Y)
    (version : Version) (little : Bool) (standing : List Dictionary) (limit l m : Option ℕ) (origin own : ℕ) (here there : Ids) (room : List ℕ)
    (below : IdsList) → AlikeLimits (map f (drop 1 nodes)) l m
    → arrays_below fields (first_below (front_at f g nodes buffers version little standing limit origin here room) own l) below
    ≡ arrays_below fields (front_at f g (drop 1 nodes) (drop own buffers) version little standing m origin there room) below
below_at_front f g fields nodes buffers version little standing limit l m origin own here there room below agree =
    own_ids_only fields below (first_below (front_at f g nodes buffers version little standing limit origin here room) own l) there
    ∙ below_alike fields below
    (record (first_below (front_at f g nodes buffers version little standing limit origin here room) own l) { ids = there })
    (front_at f g (drop 1 nodes) (drop own buffers) version little standing m origin there room)
    (record {
      nodes = λ k. get_mapped f 1 1 k nodes refl;
      buffers = λ k. get_mapped g own (0 + own) k buffers (zero-add own);
      limits = limits_dropped f 1 1 nodes l m refl agree;
      version = refl;
      is_little_endian = refl;
      room = refl;
      origin = refl;
      standing = refl;
      ids = refl;
    })

pub behind_at_front : {X Y : Type 0} (f : X → FieldNode) (g : Y → Buffer) (fields : List Field) (nodes : List X) (buffers : List Y)
    (version : Version) (little : Bool) (standing : List Dictionary) (limit : Option ℕ) (origin : ℕ) (here there : Ids) (room : List ℕ)
    (below : IdsList) (t : DataType)
    → arrays_below fields (behind_column (front_at f g nodes buffers version little standing limit origin here room) t) below
    ≡ arrays_below fields (front_at f g (drop (node_count t) nodes) (drop (buffer_count version t) buffers) version little standing limit origin
    there room) below
behind_at_front f g fields nodes buffers version little standing limit origin here there room below t =
    own_ids_only fields below (behind_column (front_at f g nodes buffers version little standing limit origin here room) t) there
    ∙ below_alike fields below
    (record (behind_column (front_at f g nodes buffers version little standing limit origin here room) t) { ids = there })
    (front_at f g (drop (node_count t) nodes) (drop (buffer_count version t) buffers) version little standing limit origin there room)
    (record {
      nodes = λ k. get_mapped f (node_count t) (0 + node_count t) k nodes (zero-add (node_count t));
      buffers = λ k. get_mapped g (buffer_count version t) (0 + buffer_count version t) k buffers (zero-add (buffer_count version t));
      limits = inl refl;
      version = refl;
      is_little_endian = refl;
      room = refl;
      origin = refl;
      standing = refl;
      ids = refl;
    })
