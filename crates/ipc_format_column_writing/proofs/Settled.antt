-- What is left once a body is given back.
use Rattle.std.proofs.Common.{◌≡◌, ℕ, List, length, subst, arith}
use Rattle.std.specs.Prelude.{ℤ, pos, negsuc, ◌≤ℤ◌, Result}
use Rattle.std.proofs.lemmas.Int.{ints}
use Rattle.ipc_format_column_reading.specs.column_bytes.Bodies.{Parts, Adds, GivesBack, Settles, parts}
use Rattle.ipc_format_column_reading.specs.column_bytes.columnar_memory.declared.Error.{Error}
use Rattle.ipc_format_column_reading.specs.column_bytes.declared.body.Lengths.{Lengths}
use Rattle.ipc_format_column_reading.specs.column_bytes.grammar.Encoding.{Encoded}
use Rattle.ipc_format_column_reading.specs.column_bytes.messages.declared.Buffer.{Buffer}
use Rattle.ipc_format_column_reading.specs.column_bytes.messages.declared.FieldNode.{FieldNode}
use Rattle.ipc_format_column_reading.proofs.bytes_lemmas.Bodies.{settled}

-- under an offset that is not negative
pub settled_at : (answer result : Result (Unit {0}) Error) (nodes : List FieldNode) (buffers : List Buffer) (bytes : List ℕ) (o : ℤ)
    (before now after : Parts) (begun : Lengths) (column : Encoded) → pos 0 ≤ℤ o → before ≡ parts nodes buffers bytes o
    → Adds answer before now column
    → begun.nodes ≡ length nodes → begun.buffers ≡ length buffers → begun.bytes ≡ length bytes
    → GivesBack answer now begun o result after → Settles result (parts nodes buffers bytes o) after column
settled_at answer result nodes buffers bytes (pos n) before now after begun column low same added is_nodes is_buffers is_bytes back =
    settled answer result nodes buffers bytes n now after begun column (subst (λ (p : Parts). Adds answer p now column) same added) is_nodes
    is_buffers is_bytes back
settled_at answer result nodes buffers bytes (negsuc n) before now after begun column low same added is_nodes is_buffers is_bytes back =
    absurd (omega (arith, ints, low))
