-- Batches that are to be written, whether their parts are owned or borrowed.
use Rattle.std.specs.Prelude.{Bool, List, Option}
use Rattle.std.proofs.Common.{refl}
use Rattle.std.specs.Cmp.{IsEquivalence, IsPartialEquivalence, and_equiv, on_equiv, partial_equiv_from_equiv}
use Rattle.std.specs.Cmp.Lexicographic.{pointwise, lists_equiv, options_equiv}
use Rattle.std.specs.Coded.{Coded, code_by, coded×, coded_list, coded_option}
use Rattle.std.specs.Option.{option_eq}
use Rattle.std.specs.Ordering.{eq_of_both, on}
use Rattle.ipc_format_batch_reading.specs.columns.ColumnCodes.{column_code}
use Rattle.ipc_format_batch_reading.specs.columns.StoredColumns.{Column}
use Rattle.ipc_format_batch_reading.specs.metadata.Sameness.{same_ids, same_ids-equivalence}
use Rattle.ipc_format_batch_reading.specs.metadata.contracts.ipc_schema.IpcField as ids
use Rattle.ipc_format_batch_reading.specs.metadata.declared.ipc_schema.IpcField.{IpcField}
use Rattle.ipc_format_batch_reading.specs.nested_arrays.flat.SameArrays.{same_column, same_column-equivalence}

-- the columns of a batch, and the ids beside them, if these are given
pub record GivenBatch : Type 0 where
  pub columns : List Column
  pub fields : Option (List IpcField)

abbrev pub given_batch : List Column → Option (List IpcField) → GivenBatch
given_batch columns fields = record { columns = columns; fields = fields }

abbrev pub given_batch_code : Coded GivenBatch
given_batch_code = code_by (List Column × Option (List IpcField)) (coded× (coded_list column_code) (coded_option (coded_list ids.the_row.coded)))
    (λ g. (g.columns, g.fields)) (λ p. given_batch p.0 p.1) (λ _. refl)

-- as many columns, each the same as the other, and the same ids
abbrev pub same_given_batch : GivenBatch → GivenBatch → Bool
same_given_batch = eq_of_both (on (λ g. g.columns) (pointwise same_column)) (on (λ g. g.fields) (option_eq (pointwise same_ids)))

pub same_given_batch-equivalence : IsEquivalence same_given_batch
same_given_batch-equivalence =
    and_equiv (on_equiv (λ g. g.columns) (lists_equiv same_column-equivalence))
    (on_equiv (λ g. g.fields) (options_equiv (lists_equiv same_ids-equivalence)))

pub same_given_batch-per : IsPartialEquivalence same_given_batch
same_given_batch-per = partial_equiv_from_equiv same_given_batch-equivalence
