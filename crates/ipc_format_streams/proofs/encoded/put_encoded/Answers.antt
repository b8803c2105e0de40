-- Prefix, metadata and body behind one another.
use Rattle.std.proofs.Common.{rules, ◌∙◌, ◌-◌, ap, length}
use Rattle.ipc_format_streams.proofs.Padding.{padded_size, prefix_refused, metadata_refused, body_put}
use Rattle.ipc_format_streams.proofs.encoded.put_encoded.Goals as goal

pub returns-in_err-put_prefix : goal.returns-in_err-put_prefix
returns-in_err-put_prefix g c =
    let whole = c.next_multiple_of-size.ensures.value ∙ padded_size c.args.metadata.now (search rules) in
    let gap = ap (λ n. n - length c.args.metadata.now) c.next_multiple_of-size.ensures.value in
    let rest = ap (λ n. n - length c.args.body.now) c.next_multiple_of-room.ensures.value in
    let refused = prefix_refused c.in_err-put_prefix.field-0.0 _ _ c.args.metadata.now c.args.body.now c.next_multiple_of-size.result
    (c.next_multiple_of-size.result - length c.args.metadata.now) (c.next_multiple_of-room.result - length c.args.body.now) whole gap rest
    c.in_err-put_prefix.ensures in
    search (rules, refused)

pub returns-in_err-put_padded : goal.returns-in_err-put_padded
returns-in_err-put_padded g c =
    let whole = c.next_multiple_of-size.ensures.value ∙ padded_size c.args.metadata.now (search rules) in
    let gap = ap (λ n. n - length c.args.metadata.now) c.next_multiple_of-size.ensures.value in
    let rest = ap (λ n. n - length c.args.body.now) c.next_multiple_of-room.ensures.value in
    let refused = metadata_refused c.in_err-put_padded.field-0.0 _ _ _ c.args.metadata.now c.args.body.now c.next_multiple_of-size.result
    (c.next_multiple_of-size.result - length c.args.metadata.now) (c.next_multiple_of-room.result - length c.args.body.now) whole gap rest
    c.in_ok-put_prefix.ensures c.in_err-put_padded.ensures in
    search (rules, refused)

pub returns : goal.returns
returns g c =
    let whole = c.next_multiple_of-size.ensures.value ∙ padded_size c.args.metadata.now (search rules) in
    let gap = ap (λ n. n - length c.args.metadata.now) c.next_multiple_of-size.ensures.value in
    let rest = ap (λ n. n - length c.args.body.now) c.next_multiple_of-room.ensures.value in
    body_put c.put_padded-2.result _ _ _ _ c.args.metadata.now c.args.body.now c.next_multiple_of-size.result
    (c.next_multiple_of-size.result - length c.args.metadata.now) (c.next_multiple_of-room.result - length c.args.body.now) whole gap rest
    c.in_ok-put_prefix.ensures c.in_ok-put_padded.ensures c.put_padded-2.ensures
