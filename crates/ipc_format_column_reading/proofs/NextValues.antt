-- What the next buffer gives, by what its bytes are.
use Rattle.std.proofs.Common.{◌≡◌, ◌∙◌, ◌*◌, ℕ, List, Bool, length, map, sym, ap}
use Rattle.std.specs.Prelude.{Option, Some}
use Rattle.std.proofs.lemmas.List.{length-map}
use Rattle.ipc_format_column_bytes.specs.streams.columnar_memory.Numbers.{Numbers, kind_size, numbers_in}
use Rattle.ipc_format_column_bytes.specs.streams.columnar_memory.declared.PrimitiveType.{PrimitiveType}
use Rattle.ipc_format_column_bytes.specs.streams.flatbuffers.Reading.{◌>>=◌}
use Rattle.ipc_format_column_bytes.specs.streams.grammar.Values.{element_bytes}
use Rattle.ipc_format_column_bytes.specs.streams.messages.declared.values.Buffer.{Buffer}
use Rattle.ipc_format_column_bytes.proofs.streams_lemmas.columnar_memory_lemmas.bitmap_lemmas.Lists.{length-window}
use Rattle.ipc_format_column_reading.specs.Buffers.{next_values, next_window, values_in}

-- the values of the bytes that are given
pub values_given : (kind : PrimitiveType) (little : Bool) (buffers : List Buffer) (origin count size needed : ℕ) (room : List ℕ)
    (given : Option (List ℕ)) → size ≡ kind_size kind → needed ≡ count * size → next_window buffers origin needed room ≡ given
    → next_values kind little buffers origin count room ≡ (given >>= (λ bytes. Some (values_in kind little count bytes)))
values_given kind little buffers origin count size needed room given sized enough is =
    ap (λ (n : ℕ). next_window buffers origin n room >>= (λ bytes. Some (values_in kind little count bytes)))
    (sym (enough ∙ ap (λ (n : ℕ). count * n) sized))
    ∙ ap (λ (bytes : Option (List ℕ)). bytes >>= (λ bytes. Some (values_in kind little count bytes))) is

-- there are as many values as bytes spell
pub values_count : {T : Type 0} (numbers : T → Numbers) (kind : PrimitiveType) (little : Bool) (count : ℕ) (bytes : List ℕ) (values : List T)
    → map numbers values ≡ values_in kind little count bytes → length values ≡ count
values_count numbers kind little count bytes values is =
    sym (length-map values numbers) ∙ ap length is
    ∙ length-window (λ i. numbers_in kind little (element_bytes (kind_size kind) bytes i)) 0 count
