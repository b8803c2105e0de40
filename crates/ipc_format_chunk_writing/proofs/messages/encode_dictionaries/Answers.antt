use Rattle.std.proofs.Common.{◌∙◌, ℤ, arith, ap, map, refl, rules, subst, sym, w64}
use Rattle.std.specs.Prelude.{Ok}
use Rattle.std.proofs.lemmas.Int.{to_z-of_z}
use Rattle.std.specs.List.{list_all}
use Rattle.std.proofs.lemmas.List.{take_all}
use Rattle.ipc_format_batch_reading.specs.grammar.WrittenMessages.{dictionary_message}
use Rattle.ipc_format_batch_reading.specs.Placing.{IsNotEncoded}
use Rattle.ipc_format_chunk_writing.specs.EncodedChunks.{EncodesDictionary, is_given_within}
use Rattle.ipc_format_chunk_writing.specs.Found.{given_in}
use Rattle.ipc_format_chunk_writing.specs.Tracking.{given_of}
use Rattle.ipc_format_chunk_writing.proofs.Encoding.{found_encoded, found_not, found_within}
use Rattle.ipc_format_chunk_writing.proofs.messages.encode_dictionaries.Goals as goal

pub returns-in_err-encode_dictionary : goal.returns-in_err-encode_dictionary
returns-in_err-encode_dictionary c =
    let error = c.in_err-encode_dictionary.field-0.0 in
    let next = c.dictionary-item.result in
    let past = subst (λ (id : ℤ). IsNotEncoded error (is_given_within (given_of id next.values.now))) (to_z-of_z w64 next.id (search rules))
    c.in_err-encode_dictionary.ensures in
    let whole = found_not error c.args.found.now c.loop-dictionary.dictionary-index next c.loop-dictionary-test.true c.dictionary-item.is past in
    search (rules, whole)

pub loop-dictionary-preserved : goal.loop-dictionary-preserved
loop-dictionary-preserved c =
    let next = c.dictionary-item.result in
    let message = c.in_ok-encode_dictionary.field-0 in
    let here = subst (λ (id : ℤ). EncodesDictionary (Ok message) (given_of id next.values.now)) (to_z-of_z w64 next.id (search rules))
    c.in_ok-encode_dictionary.ensures in
    record {
      encoded = found_encoded c.args.found.now c.loop-dictionary.dictionary-index next _ message _ c.loop-dictionary-test.true
          c.dictionary-item.is c.loop-dictionary.invariant.encoded c.in_ok-push.ensures.items here.0;
      within = found_within c.args.found.now c.loop-dictionary.dictionary-index next c.loop-dictionary-test.true c.dictionary-item.is
          c.loop-dictionary.invariant.within here.1;
    }

pub returns : goal.returns
returns c =
    let all = ap (map given_in) (take_all c.loop-dictionary.dictionary-index c.args.found.now (omega arith)) in (
      c.loop-dictionary.invariant.encoded ∙ ap (map dictionary_message) all,
      ap (list_all is_given_within) (sym all) ∙ c.loop-dictionary.invariant.within,
    )
