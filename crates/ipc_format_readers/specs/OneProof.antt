-- That there are arrays of the types of a layout has one proof at most, so metadata may keep it.
use Rattle.std.specs.Prelude.{List, Option, None}
use Rattle.std.specs.Coded.{Coded-set, coded_list, coded_option}
use Rattle.ipc_format_readers.specs.ReadingCodes.{dictionary_code}
use Rattle.ipc_format_chunk_writing.specs.BatchReads.{chosen_record_arrays, record_arrays}
use Rattle.ipc_format_chunk_writing.specs.DictionaryReads.{dictionary_array}
use Rattle.ipc_format_chunk_writing.specs.Readable.{HasArrays, all_of}
use Rattle.ipc_format_chunk_writing.specs.columns.SlotCodes.{slot_code}
use Rattle.ipc_format_chunk_writing.specs.columns.Slots.{Slot}
use Rattle.ipc_format_chunk_writing.specs.grammar.Columns.{Dictionary}
use Rattle.ipc_format_chunk_writing.specs.grammar.Dictionaries.{Layout, dictionary_in}
use Rattle.ipc_format_chunk_writing.specs.grammar.Tables.{batch_in, chosen_batch_in}

columns-set : IsSet (Option (List (List Slot)))
columns-set = Coded-set (coded_option (coded_list (coded_list slot_code)))

dictionary-set : IsSet (Option Dictionary)
dictionary-set = Coded-set (coded_option dictionary_code)

pub HasArrays-prop : {layout : Layout} → IsProp (HasArrays layout)
HasArrays-prop {layout} first second = λ i. record {
  batches = λ standing entry table.
      columns-set (record_arrays layout standing None entry table) (batch_in layout standing entry table) (first.batches standing entry table)
      (second.batches standing entry table) i;
  limited = λ standing limit entry table.
      columns-set (record_arrays layout standing limit entry table) (chosen_batch_in layout standing entry limit (all_of layout.fields) table)
      (first.limited standing limit entry table) (second.limited standing limit entry table) i;
  choices = λ standing limit columns entry table.
      columns-set (chosen_record_arrays layout standing limit columns entry table) (chosen_batch_in layout standing entry limit columns table)
      (first.choices standing limit columns entry table) (second.choices standing limit columns entry table) i;
  dictionaries = λ standing entry table.
      dictionary-set (dictionary_array layout standing entry table) (dictionary_in layout standing entry table)
      (first.dictionaries standing entry table) (second.dictionaries standing entry table) i;
}
