-- Columns that are asked for in any order: they are read in the order in which they stand, and then put where they were asked for.
use Rattle.std.specs.Prelude.{◌≡◌, ℕ, Bool, true, not, ◌&&◌, List, [], ◌∷◌, length, map, nat_eq, nat_le, nat_lt, slice_get, Option, Some, None}
use Rattle.std.specs.Prelude.{◌+◌, ◌-◌, if◌then◌else◌}
use Rattle.std.specs.BTreeMap.{BTreeMap}
use Rattle.std.specs.List.{All, Contains, filter, fold, list_all, list_any, slice_set}
use Rattle.std.specs.Option.{option_map}
use Rattle.std.specs.declared.alloc.Global.{Global}
use Rattle.std.specs.declared.vec.Vec.{Vec}
use Rattle.ipc_format_reading.specs.columnar_memory.declared.Field.{Field}
use Rattle.ipc_format_reading.specs.columns.Tables.{chosen}
use Rattle.ipc_format_reading.specs.flatbuffers.FlatBuffers.{TablePlace}
use Rattle.ipc_format_reading.specs.grammar.Columns.{Dictionary}
use Rattle.ipc_format_reading.specs.grammar.Dictionaries.{Entry, Layout}
use Rattle.ipc_format_batch_reading.specs.BatchReads.{chosen_record_arrays, rise_below}
use Rattle.ipc_format_batch_reading.specs.declared.projection.ProjectionResult.{ProjectionResult}
use Rattle.ipc_format_batch_reading.specs.declared.projection.ProjectionResult.TheVariants.{NotSelected, Selected}

-- ---- which columns may be asked for

-- no number stands at two places
abbrev pub are_distinct : List ℕ → Bool
are_distinct [] = true
are_distinct (k ∷ ks) = not (list_any (λ other. nat_eq other k) ks) && are_distinct ks

-- each number is a place below a width
abbrev pub are_below : ℕ → List ℕ → Bool
are_below width ks = list_all (λ k. nat_lt k width) ks

-- places of columns among as many as a width, each at most once, in any order
abbrev pub is_choice : ℕ → List ℕ → Bool
is_choice width columns = are_distinct columns && are_below width columns

-- ---- what was read in one order, put into another

-- a list with an item, where there is one, at a place of it
abbrev pub put : {A : Type 0} → List A → ℕ → Option A → List A
put made place None = made
put made place (Some item) = slice_set made place item

-- a list in which the item that stands at `entry.0` of some items now stands at `entry.1`
abbrev pub put_one : {A : Type 0} → List A → List A → ℕ × ℕ → List A
put_one items made entry = put made entry.1 (slice_get items entry.0)

-- Items, where for each entry (old, new), one after another, the item at `old` now stands at `new`: what is out of range changes nothing.
abbrev pub put_back : {A : Type 0} → List (ℕ × ℕ) → List A → List A
put_back entries items = fold (put_one items) items entries

-- each place of a map's entries is one of so many columns
abbrev pub fits_map : ℕ → List (ℕ × ℕ) → Bool
fits_map width entries = list_all (λ entry. nat_lt entry.0 width && nat_lt entry.1 width) entries

-- The columns in the order in which they stand, each of them asked for; for each place among them the place at which it was asked for; and the
-- fields in the asked order.
pub record IsPrepared (fields : List Field) (columns : List ℕ) (prepared : Vec ℕ Global × BTreeMap ℕ ℕ × Vec Field Global) : Type 0 where
  pub rise : rise_below (length fields) prepared.0.items ≡ true
  pub wanted : All (Contains columns) prepared.0.items
  pub back : put_back prepared.1.entries prepared.0.items ≡ columns
  pub fit : fits_map (length columns) prepared.1.entries ≡ true
  pub asked : prepared.2.items ≡ chosen columns fields

-- ---- items by their places

-- numbers that rise, the first of them no less than a place
abbrev pub rise_from : ℕ → List ℕ → Bool
rise_from place [] = true
rise_from place (k ∷ ks) = nat_le place k && rise_from (k + 1) ks

-- how many items stand before each of some places, from one of the items on
abbrev pub counted_from : ℕ → List ℕ → List ℕ
counted_from place ks = map (λ k. k - place) ks

-- The places that are left behind the next item: the item's own is not among them, and it no longer stands before them.
abbrev pub behind_one : List ℕ → List ℕ
behind_one ks = map (λ k. k - 1) (filter (λ k. nat_lt 0 k) ks)

-- Places that rise, from one of the items on, and from the next one on: whether it was selected, the places that are left, and the next place.
pub record IsBehind (place : ℕ) (before : List ℕ) (selected : Bool) (after : List ℕ) (next : ℕ) : Type 0 where
  pub rise : rise_from next after ≡ true
  pub left : counted_from next after ≡ behind_one (counted_from place before)
  pub is : list_any (nat_eq 0) (counted_from place before) ≡ selected

-- an item by whether its place is among those that are asked for
abbrev pub by_place : {A : Type 0} → List ℕ → A → ProjectionResult A
by_place ks item = if list_any (nat_eq 0) ks then Selected item else NotSelected item

-- the places that are left after what an iterator gave
abbrev pub left_after : {A : Type 0} → Option A → List ℕ → List ℕ
left_after None ks = ks
left_after (Some item) ks = behind_one ks

-- a step of an iterator gives its item by its place
pub record SelectsNext {A I : Type 0} (gives : I → Option A → I → Type 0) (before : List ℕ × I) (result : Option (ProjectionResult A))
    (after : List ℕ × I) : Type 0 where
  pub item : Option A
  pub steps : gives before.1 item after.1
  pub is : result ≡ option_map (by_place before.0) item
  pub left : after.0 ≡ left_after item before.0

-- ---- the law

-- Where columns that are asked for are put back from the rising ones, all of them asked for, what is read of the rising ones and then put back is
-- what is read of those that are asked for, and where nothing is read of the one, nothing is of the other.
abbrev pub ChoicesArePutBack : Type 0
ChoicesArePutBack = (layout : Layout) (standing : List Dictionary) (limit : Option ℕ) (entry : Entry) (table : TablePlace) (columns rising : List ℕ)
    (entries : List (ℕ × ℕ)) → put_back entries rising ≡ columns → All (Contains columns) rising
    → chosen_record_arrays layout standing limit columns entry table
    ≡ option_map (put_back entries) (chosen_record_arrays layout standing limit rising entry table)
