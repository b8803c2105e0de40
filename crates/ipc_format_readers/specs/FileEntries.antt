-- The messages of a file as the definitions have them (Arrow IPC, "IPC File Format").
use Rattle.std.specs.Prelude.{List, map}
use Rattle.std.specs.declared.alloc.Global.{Global}
use Rattle.std.specs.declared.vec.Vec.{Vec}
use Rattle.ipc_format_chunk_writing.specs.grammar.Dictionaries as format
use Rattle.ipc_format_chunk_writing.specs.messages.MessageViews.{header_view, kind_view, version_view}
use Rattle.ipc_format_readers.specs.declared.entries.Entry.{Entry}

abbrev pub entry_view : Entry → format.Entry
entry_view entry = record {
  metadata = (header_view entry.header).bytes;
  header = kind_view entry.header;
  version = version_view entry.version;
  room = entry.room.now;
  origin = entry.origin;
}

abbrev pub entries_of : List Entry → List format.Entry
entries_of entries = map entry_view entries

abbrev pub entries_view : Vec Entry Global → List format.Entry
entries_view entries = entries_of entries.items
