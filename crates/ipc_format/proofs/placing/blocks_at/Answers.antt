-- One block more.
use Rattle.std.proofs.Common.{rules, ◌≡◌, ◌∙◌, ◌<◌, ◌≤◌, ◌++◌, ◌∷◌, [], refl, length, get_or, map, ap}
use Rattle.std.proofs.lemmas.List.{map-append}
use Rattle.ipc_format_readers.specs.chunk_writing.EncodedChunks.{message_in}
use Rattle.ipc_format_readers.specs.chunk_writing.grammar.Limits.{file_limit}
use Rattle.ipc_format_readers.specs.chunk_writing.grammar.WrittenFiles.{place_after}
use Rattle.ipc_format_readers.specs.streams.owned.writing.FooterWriting.{block_view}
use Rattle.ipc_format_readers.proofs.chunk_lemmas.PutMessages.{message_fits, prefix_fits}
use Rattle.ipc_format.proofs.FilePlaced.{block_more, past_all}
use Rattle.ipc_format.proofs.placing.blocks_at.Goals as goal

pub block_at-requires : goal.block_at-requires
block_at-requires c =
    let messages = c.args.messages.now in
    let message = c.message-item.result in
    let here : get_or messages c.loop-message.message-index message ≡ message = search rules in
    let inside : c.loop-message.message-index < length messages = search rules in
    prefix_fits (message_in message) message.ipc_message.items refl
    (message_fits message_in messages c.loop-message.message-index message inside here c.requires)

pub returns-in_default : goal.returns-in_default
returns-in_default c =
    let messages = c.args.messages.now in
    let message = c.message-item.result in
    let here : get_or messages c.loop-message.message-index message ≡ message = search rules in
    let inside : c.loop-message.message-index < length messages = search rules in
    let past : file_limit ≤ place_after c.loop-message.here (message_in message) = search rules in
    past_all message_in file_limit c.args.place c.loop-message.here messages c.loop-message.message-index message inside here
    c.loop-message.invariant.1 past

pub loop-message-preserved : goal.loop-message-preserved
loop-message-preserved c =
    let messages = c.args.messages.now in
    let message = c.message-item.result in
    let here : get_or messages c.loop-message.message-index message ≡ message = search rules in
    let inside : c.loop-message.message-index < length messages = search rules in
    let items : c.push.new.self.items ≡ c.loop-message.blocks.items ++ c.in-Some.block ∷ [] = search rules in
    let more = block_more message_in c.args.place c.loop-message.here c.in-Some.behind messages c.loop-message.message-index message
    (map block_view c.loop-message.blocks.items) (block_view c.in-Some.block) inside here c.loop-message.invariant.0 c.loop-message.invariant.1
    c.in-Some.ensures.0 c.in-Some.ensures.1 in
    (ap (map block_view) items ∙ map-append block_view c.loop-message.blocks.items (c.in-Some.block ∷ []) ∙ more.0, more.1)
