-- Which tables are sealed, what a seal that is read is sealed as, and the seals of chosen columns.
use Rattle.std.proofs.Common.{◌≡◌, ◌∙◌, ℕ, true, List, [], refl, sym, ap, subst}
use Rattle.std.specs.Prelude.{is_none, Option, Some, None, Result, Ok, Err}
use Rattle.std.specs.Option.{option_map}
use Rattle.std.specs.Result.{IfErr}
use Rattle.std.specs.declared.alloc.Global.{Global}
use Rattle.std.specs.declared.vec.Vec.{Vec}
use Rattle.std.proofs.lemmas.List.{append-nil}
use mathlib.Core.Bool.{true≢false}
use Rattle.tables_chunks.specs.declared.fault.Fault.{Fault}
use Rattle.tables_chunks.specs.declared.fault.Fault.TheVariants as faults
use Rattle.tables_chunks.specs.declared.fault.SealBar.{SealBar}
use Rattle.tables_chunks.specs.ipc_format.columnar_memory.declared.Error.TheVariants as errors
use Rattle.tables_chunks.specs.ipc_format.columns.Sealing.{Bar}
use Rattle.tables_chunks.specs.ipc_format.columns.Tables.{Table}
use Rattle.tables_chunks.specs.ipc_format.grammar.Tables.{stream, table_of}
use Rattle.tables_chunks.specs.ipc_format.reading_laws.SealLaws.{IsTableOfTexts, SealsReadBack}
use Rattle.tables_chunks.specs.ipc_format.reading_laws.laws.Choices.{ChoicesAreOfTheWhole}
use Rattle.tables_chunks.specs.ipc_format.Seals.{SealableWith, sealed}
use Rattle.tables_rows.specs.Bars.{bar_of, name_of}
use Rattle.tables_rows.specs.SealLaws.{SealableTablesAreSealed, SealsAreSealedAgain, SealsOfChoicesAreOfTheWhole}
use Rattle.tables_rows.specs.Seals.{Seals}

-- where nothing stands in the way, nothing has a name
no_bar : (found : Option Bar) (bar : SealBar) → is_none found ≡ true → option_map name_of found ≡ Some bar → ⊥
no_bar None bar none e = absurd cc
no_bar (Some x) bar none e = absurd cc

pub sealable_are_sealed : SealableTablesAreSealed
sealable_are_sealed table n (Ok bytes) its is = tt
sealable_are_sealed table n (Err faults.Memory) its is = refl
sealable_are_sealed table n (Err (faults.NotSealable bar)) its is = absurd (no_bar _ bar its.sealable is)
sealable_are_sealed table n (Err (faults.Lower errors.Overflow)) its is = absurd (true≢false (sym its.groups ∙ is.1))
sealable_are_sealed table n (Err (faults.Lower (errors.NotYetImplemented what))) its is = absurd is
sealable_are_sealed table n (Err (faults.Lower (errors.InvalidArgumentError what))) its is = absurd is
sealable_are_sealed table n (Err (faults.Lower (errors.ExternalFormat what))) its is = absurd is
sealable_are_sealed table n (Err (faults.Lower (errors.OutOfSpec what))) its is = absurd is
sealable_are_sealed table n (Err (faults.Lower (errors.External from what))) its is = absurd is
sealable_are_sealed table n (Err (faults.Lower (errors.Io what))) its is = absurd is
sealable_are_sealed table n (Err (faults.Lower errors.OutOfMemory)) its is = absurd is
sealable_are_sealed table n (Err (faults.Ipc errors.Overflow)) its is = absurd (true≢false (sym its.messages ∙ is.2))
sealable_are_sealed table n (Err (faults.Ipc (errors.NotYetImplemented what))) its is = absurd is
sealable_are_sealed table n (Err (faults.Ipc (errors.InvalidArgumentError what))) its is = absurd is
sealable_are_sealed table n (Err (faults.Ipc (errors.ExternalFormat what))) its is = absurd is
sealable_are_sealed table n (Err (faults.Ipc (errors.OutOfSpec what))) its is = absurd is
sealable_are_sealed table n (Err (faults.Ipc (errors.External from what))) its is = absurd is
sealable_are_sealed table n (Err (faults.Ipc (errors.Io what))) its is = absurd is
sealable_are_sealed table n (Err (faults.Ipc errors.OutOfMemory)) its is = absurd is
sealable_are_sealed table n (Err faults.Unfinished) its is = absurd is
sealable_are_sealed table n (Err faults.RowWidth) its is = absurd is
sealable_are_sealed table n (Err faults.NoColumns) its is = absurd is
sealable_are_sealed table n (Err faults.TooManyRows) its is = absurd is
sealable_are_sealed table n (Err faults.NoSuchColumn) its is = absurd is

-- ---- read and sealed again

abbrev or_else : Table → Option Table → Table
or_else other None = other
or_else other (Some x) = x

pub sealed_again : SealsReadBack → SealsAreSealedAgain
sealed_again law table again n bytes its is reads =
    let whole : table_of stream bytes ≡ Some table = subst (λ (b : List ℕ). table_of stream b ≡ Some table) (append-nil bytes)
    (law table n bytes [] its is).as_table in
    let same : table ≡ again = ap (or_else table) (sym whole ∙ reads) in
    subst (λ (t : Table). sealed t.schema t.rows n ≡ Some bytes) same is

-- ---- the seals of chosen columns

pub choices_sealed : ChoicesAreOfTheWhole → SealsOfChoicesAreOfTheWhole
choices_sealed law form bytes columns limit whole chosen n reads below is =
    ap (λ (t : Table). sealed t.schema t.rows n) (ap (or_else chosen) (sym is ∙ law form bytes columns limit whole reads below))
