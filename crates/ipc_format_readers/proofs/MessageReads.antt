-- What is read of the messages at blocks, one after another.
use Rattle.std.proofs.Common.{◌≡◌, ◌∙◌, ℕ, ℤ, suc, ◌+◌, ◌≤◌, List, [], ◌∷◌, length, drop, refl, sym, ap, arith}
use Rattle.std.proofs.lemmas.List.{drop_all}
use Rattle.std.specs.BTreeMap.{BTreeMap}
use Rattle.std.specs.Ordering.{int_eq}
use Rattle.std.specs.Prelude.{Option, Some, None, slice_get, if◌then◌else◌}
use Rattle.ipc_format_chunk_writing.specs.ReadArrays.{standing_in}
use Rattle.ipc_format_chunk_writing.specs.Standing.{ByLookUps, StandAlike}
use Rattle.ipc_format_chunk_writing.specs.columnar_memory.declared.Error.{Error}
use Rattle.ipc_format_chunk_writing.specs.columnar_memory.declared.Error.TheVariants as errors
use Rattle.ipc_format_chunk_writing.specs.columns.StoredColumns.{Column}
use Rattle.ipc_format_chunk_writing.specs.flatbuffers.Reading.{◌>>=◌}
use Rattle.ipc_format_chunk_writing.specs.grammar.Columns.{Dictionary}
use Rattle.ipc_format_chunk_writing.specs.grammar.Dictionaries.{Entry, Layout}
use Rattle.ipc_format_chunk_writing.specs.grammar.Files.{Block, entry_at, is_dictionary}
use Rattle.ipc_format_chunk_writing.specs.grammar.Messages.{Header, schema, dictionary_batch, record_batch}
use Rattle.ipc_format_chunk_writing.specs.metadata.Reading.{Refuses}
use Rattle.ipc_format_readers.proofs.Binding.{bind_same}
use Rattle.ipc_format_readers.specs.BlockMessages.{dictionary_at, dictionary_by, standing_after}
use Rattle.ipc_format_readers.proofs.Lists.{drop_next, some_of}
use Rattle.ipc_format_readers.proofs.RoomReads.{StandsBefore}

-- where one thing is refused, so is another that is nothing without it
pub refused_too : {A B : Type 0} (Unread Unread_too : Type 0) (error : Error) (given : Option A) (given_too : Option B)
    → (given ≡ None → given_too ≡ None) → (Unread → Unread_too) → Refuses Unread error given → Refuses Unread_too error given_too
refused_too Unread Unread_too errors.OutOfMemory given given_too none unread refused = tt
refused_too Unread Unread_too (errors.OutOfSpec what) given given_too none unread refused = none refused
refused_too Unread Unread_too (errors.NotYetImplemented what) given given_too none unread refused = (none refused.0, unread refused.1)
refused_too Unread Unread_too (errors.External from what) given given_too none unread refused = absurd refused
refused_too Unread Unread_too (errors.Io what) given given_too none unread refused = absurd refused
refused_too Unread Unread_too (errors.InvalidArgumentError what) given given_too none unread refused = absurd refused
refused_too Unread Unread_too (errors.ExternalFormat what) given given_too none unread refused = absurd refused
refused_too Unread Unread_too errors.Overflow given given_too none unread refused = absurd refused

-- ---- dictionaries that stand alike

dictionary_by_alike : ByLookUps → (layout : Layout) (old new : List Dictionary) (entry : Entry) (header : Header) → StandAlike old new
    → dictionary_by layout old entry header ≡ dictionary_by layout new entry header
dictionary_by_alike enough layout old new entry (schema table) alike = refl
dictionary_by_alike enough layout old new entry (dictionary_batch table) alike = enough.dictionaries layout old new entry table alike
dictionary_by_alike enough layout old new entry (record_batch table) alike = refl

dictionary_alike : ByLookUps → (layout : Layout) (bytes : List ℕ) (old new : List Dictionary) (block : Block) → StandAlike old new
    → dictionary_at layout bytes old block ≡ dictionary_at layout bytes new block
dictionary_alike enough layout bytes old new block alike =
    bind_same (entry_at is_dictionary bytes block) (λ (e : Entry). dictionary_by layout old e e.header)
    (λ (e : Entry). dictionary_by layout new e e.header) (λ (e : Entry). dictionary_by_alike enough layout old new e e.header alike)

-- one more dictionary over both
more_alike : (dictionary : Dictionary) (old new : List Dictionary) → StandAlike old new → StandAlike (dictionary ∷ old) (dictionary ∷ new)
more_alike dictionary old new alike id =
    ap (λ (rest : Option Dictionary). if int_eq id dictionary.id then Some dictionary else rest) (alike id)

-- ---- dictionaries one after another

-- the dictionaries of the first k blocks stand
pub record AreTaken (layout : Layout) (bytes : List ℕ) (blocks : List Block) (k : ℕ) (dictionaries : BTreeMap ℤ Column) : Type 0 where
  pub standing : List Dictionary
  pub left : standing_after layout bytes [] blocks ≡ standing_after layout bytes standing (drop k blocks)
  pub alike : StandAlike (standing_in dictionaries) standing

pub one_taken : (layout : Layout) (bytes : List ℕ) (blocks : List Block) (k : ℕ) (block : Block) (old new : BTreeMap ℤ Column) → ByLookUps
    → slice_get blocks k ≡ Some block → AreTaken layout bytes blocks k old
    → StandsBefore (standing_in old) (standing_in new) (dictionary_at layout bytes (standing_in old) block)
    → AreTaken layout bytes blocks (k + 1) new
one_taken layout bytes blocks k block old new enough here taken stands =
    let next : suc k ≡ k + 1 = omega arith in
    let takes = some_of (dictionary_at layout bytes (standing_in old) block)
    (λ dictionary. StandAlike (standing_in new) (dictionary ∷ standing_in old)) stands in
    let dictionary = takes.0 in
    let found : dictionary_at layout bytes taken.standing block ≡ Some dictionary =
    sym (dictionary_alike enough layout bytes (standing_in old) taken.standing block taken.alike) ∙ takes.1 in
    record {
      standing = dictionary ∷ taken.standing;
      left = taken.left ∙ ap (standing_after layout bytes taken.standing) (drop_next blocks k block here)
          ∙ ap (λ (given : Option Dictionary). given >>= (λ d. standing_after layout bytes (d ∷ taken.standing) (drop (suc k) blocks))) found
          ∙ ap (λ n. standing_after layout bytes (dictionary ∷ taken.standing) (drop n blocks)) next;
      alike = λ id. takes.2 id ∙ more_alike dictionary (standing_in old) taken.standing taken.alike id;
    }

-- where one isn't there, none are
pub none_after : (layout : Layout) (bytes : List ℕ) (blocks : List Block) (k : ℕ) (block : Block) (old : BTreeMap ℤ Column) → ByLookUps
    → slice_get blocks k ≡ Some block → AreTaken layout bytes blocks k old → dictionary_at layout bytes (standing_in old) block ≡ None
    → standing_after layout bytes [] blocks ≡ None
none_after layout bytes blocks k block old enough here taken none =
    taken.left ∙ ap (standing_after layout bytes taken.standing) (drop_next blocks k block here)
    ∙ ap (λ (given : Option Dictionary). given >>= (λ d. standing_after layout bytes (d ∷ taken.standing) (drop (suc k) blocks)))
    (sym (dictionary_alike enough layout bytes (standing_in old) taken.standing block taken.alike) ∙ none)

pub all_taken : (layout : Layout) (bytes : List ℕ) (blocks : List Block) (k : ℕ) (dictionaries : BTreeMap ℤ Column) → length blocks ≤ k
    → (taken : AreTaken layout bytes blocks k dictionaries) → standing_after layout bytes [] blocks ≡ Some taken.standing
all_taken layout bytes blocks k dictionaries past taken =
    taken.left ∙ ap (standing_after layout bytes taken.standing) (drop_all k blocks past)
