use Rattle.std.proofs.Common.{◌+◌, ◌-◌, ◌*◌, ◌++◌, length, map, refl, sym, ap, ◌∙◌, arith}
use Rattle.std.specs.List.{flat_map}
use Rattle.std.specs.Int.{next_multiple_of}
use Rattle.std.proofs.lemmas.List.{length-map}
use Rattle.ipc_format_flatbuffers.specs.Laying.{Piece}
use Rattle.ipc_format_flatbuffers.specs.Views.{piece_view}
use Rattle.ipc_format_flatbuffers.proofs.References.{length-references_piece, references_laid}
use Rattle.ipc_format_flatbuffers.proofs.laying.lay_references.Goals as goal

pub returns-then-pieces : goal.returns-then-pieces
returns-then-pieces c =
    let pieces = map piece_view c.args.pieces.now in
    let count = length-map c.args.pieces.now piece_view in
    let own_len = 8 + 4 * length pieces in
    omega (
      arith,
      count,
      length-references_piece pieces own_len (next_multiple_of own_len 8)
          (length (flat_map (λ (piece : Piece). piece.bytes) pieces)) refl refl refl,
    )

pub returns-then-len-gt-MOST_BYTES : goal.returns-then-len-gt-MOST_BYTES
returns-then-len-gt-MOST_BYTES c =
    let own_is = ap (λ n. 8 + 4 * n) (sym (length-map c.args.pieces.now piece_view)) in
    omega (
      arith,
      length-references_piece (map piece_view c.args.pieces.now)
          (8 + 4 * length c.args.pieces.now) c.next_multiple_of-first_child.result c.pieces_len.result own_is
          c.next_multiple_of-first_child.ensures.value c.pieces_len.ensures.value,
    )

pub invariant_of-result : goal.invariant_of-result
invariant_of-result c =
    let pieces = map piece_view c.args.pieces.now in
    let own_len = 8 + 4 * length c.args.pieces.now in
    let first_child = c.next_multiple_of-first_child.result in
    let own_is = ap (λ n. 8 + 4 * n) (sym (length-map c.args.pieces.now piece_view)) in
    let count = c.in_ok-extend_from_slice.ensures.items ∙ ap (λ bytes. c.put_zeros.new.out.items ++ bytes) c.to_le_bytes.ensures in
    let made = references_laid pieces (length c.args.pieces.now) own_len first_child
    (first_child - own_len) c.in_ok-bytes.bytes.items c.put_zeros.new.out.items c.extend_from_slice.new.self.items c.put_references.new.out.items
    c.put_zeros-2.new.out.items c.put_pieces.new.out.items
    (sym (length-map c.args.pieces.now piece_view)) own_is c.next_multiple_of-first_child.ensures.value refl c.in_ok-bytes.ensures.items
    c.in_ok-put_zeros.ensures count c.in_ok-put_references.ensures c.in_ok-put_zeros-2.ensures c.in_ok-put_pieces.ensures in
    let size = ap (λ (piece : Piece). length piece.bytes) made
    ∙ length-references_piece pieces own_len first_child c.pieces_len.result own_is c.next_multiple_of-first_child.ensures.value
    c.pieces_len.ensures.value in
    record { bytes_in_reach = omega (arith, size); entry_in_bytes = omega (arith, size) }

pub returns : goal.returns
returns c =
    let own_len = 8 + 4 * length c.args.pieces.now in
    let first_child = c.next_multiple_of-first_child.result in
    let own_is = ap (λ n. 8 + 4 * n) (sym (length-map c.args.pieces.now piece_view)) in
    let count = c.in_ok-extend_from_slice.ensures.items ∙ ap (λ bytes. c.put_zeros.new.out.items ++ bytes) c.to_le_bytes.ensures in
    references_laid (map piece_view c.args.pieces.now) (length c.args.pieces.now) own_len first_child
    (first_child - own_len) c.in_ok-bytes.bytes.items c.put_zeros.new.out.items c.extend_from_slice.new.self.items c.put_references.new.out.items
    c.put_zeros-2.new.out.items c.put_pieces.new.out.items
    (sym (length-map c.args.pieces.now piece_view)) own_is c.next_multiple_of-first_child.ensures.value refl c.in_ok-bytes.ensures.items
    c.in_ok-put_zeros.ensures count c.in_ok-put_references.ensures c.in_ok-put_zeros-2.ensures c.in_ok-put_pieces.ensures
